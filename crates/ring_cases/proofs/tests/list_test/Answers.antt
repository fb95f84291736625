-- `ring_cases::tests::list_test` meets its contract. Assumes nothing.
use Rattle.std.proofs.Common.{arith}
use borrow.Author.Tests.{ne_eqb}
use Rattle.ring_cases.specs.Results.{list_test}
use Rattle.ring_cases.proofs.tests.list_test.Goals as goal

pub returns-in-13 : goal.returns-in-13
unfolding list_test
returns-in-13 c = rw c.in-13.is c.are_coefficients.ensures

pub returns-in-14 : goal.returns-in-14
unfolding list_test
returns-in-14 c = rw c.in-14.is c.are_projection_entries.ensures

pub returns-in_default : goal.returns-in_default
unfolding list_test
returns-in_default c =
    let op = c.args.operation in
    rw (ne_eqb op 13 (omega arith), ne_eqb op 14 (omega arith)) c.is_challenge.ensures
