-- `ring_cases::elements::of_two` meets its contract. Assumes nothing.
use Rattle.std.proofs.Common.{arith}
use borrow.Author.Tests.{ne_eqb}
use Rattle.ring_cases.specs.Results.{of_two}
use Rattle.ring_cases.proofs.elements.of_two.Goals as goal

pub returns-in-2 : goal.returns-in-2
unfolding of_two
returns-in-2 c = rw c.in-2.is c.sum.ensures

pub returns-in-3 : goal.returns-in-3
unfolding of_two
returns-in-3 c = rw c.in-3.is c.difference.ensures

pub returns-in_default : goal.returns-in_default
unfolding of_two
returns-in_default c =
    let op = c.args.operation in
    rw (ne_eqb op 2 (omega arith), ne_eqb op 3 (omega arith)) c.product.ensures
