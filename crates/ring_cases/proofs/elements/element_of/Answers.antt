-- `ring_cases::elements::element_of` meets its contract. Assumes nothing.
use Rattle.std.proofs.Common.{arith}
use mathlib.Core.Path.{sym, ◌∙◌}
use borrow.Author.Tests.{ne_eqb}
use Rattle.ring_cases.specs.Results.{element_of}
use Rattle.ring_cases.proofs.elements.element_of.Goals as goal

pub returns-in-7 : goal.returns-in-7
unfolding element_of
returns-in-7 c = rw c.in-7.is c.scaled.ensures

pub returns-in-12 : goal.returns-in-12
unfolding element_of
returns-in-12 c = rw c.in-12.is c.inner.ensures

pub returns-in_default : goal.returns-in_default
unfolding element_of
returns-in_default c =
    let op = c.args.operation in
    rw (
      ne_eqb op 7 (omega arith),
      ne_eqb op 12 (omega arith),
      sym c.is_two.ensures ∙ c.if-is_two.true,
    )
    c.two.ensures

pub returns-in_default-2 : goal.returns-in_default-2
unfolding element_of
returns-in_default-2 c =
    let op = c.args.operation in
    rw (
      ne_eqb op 7 (omega arith),
      ne_eqb op 12 (omega arith),
      sym c.is_two.ensures ∙ c.if-is_two.false,
    )
    c.one.ensures
