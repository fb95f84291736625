-- `ring_cases::elements::of_one` meets its contract. Assumes nothing.
use Rattle.std.proofs.Common.{arith}
use borrow.Author.Tests.{ne_eqb}
use Rattle.ring_cases.specs.Results.{of_one}
use Rattle.ring_cases.proofs.elements.of_one.Goals as goal

pub returns-in-4 : goal.returns-in-4
unfolding of_one
returns-in-4 c = rw c.in-4.is c.negation.ensures

pub returns-in-6 : goal.returns-in-6
unfolding of_one
returns-in-6 c = rw c.in-6.is c.conjugate.ensures

pub returns-in_default : goal.returns-in_default
unfolding of_one
returns-in_default c =
    let op = c.args.operation in
    rw (ne_eqb op 4 (omega arith), ne_eqb op 6 (omega arith)) c.half.ensures
