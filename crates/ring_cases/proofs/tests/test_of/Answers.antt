-- `ring_cases::tests::test_of` meets its contract. Assumes nothing.
use Rattle.std.proofs.Common.{arith}
use borrow.Author.Tests.{ne_eqb}
use Rattle.ring_cases.specs.Results.{test_of}
use Rattle.ring_cases.proofs.tests.test_of.Goals as goal

pub returns-in-16 : goal.returns-in-16
unfolding test_of
returns-in-16 c = rw c.in-16.is c.norm.ensures

pub returns-in-17 : goal.returns-in-17
unfolding test_of
returns-in-17 c = rw c.in-17.is c.two_norms.ensures

pub returns-in_default : goal.returns-in_default
unfolding test_of
returns-in_default c =
    let op = c.args.operation in
    rw (
      ne_eqb op 16 (omega arith),
      ne_eqb op 17 (omega arith),
      ← c.size.ensures,
      ← c.part.ensures,
    )
    c.list_test.ensures
