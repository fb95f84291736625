-- `fields::field::minus_due` meets its contract.
use mathlib.Core.Path.{refl}
use borrow.Author.Tests.{lt-ltb, le-ltb}
use Rattle.fields.specs.Field.{minus_due}
use Rattle.fields.proofs.field.minus_due.Goals as goal

pub returns-then-m-gt0 : goal.returns-then-m-gt0
unfolding minus_due
returns-then-m-gt0 c = rw (lt-ltb 0 c.args.m c.if-m-gt0.true) refl

pub returns-else-m-gt0 : goal.returns-else-m-gt0
unfolding minus_due
returns-else-m-gt0 c = rw (le-ltb 0 c.args.m c.if-m-gt0.false) refl
