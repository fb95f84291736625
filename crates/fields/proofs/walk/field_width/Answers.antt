-- `fields::walk::field_width` meets its contract.
use mathlib.Core.Path.{refl}
use Rattle.fields.specs.Place.{field_width}
use Rattle.fields.proofs.walk.field_width.Goals as goal

pub returns-then-last : goal.returns-then-last
unfolding field_width
returns-then-last c = rw c.if-last.true refl

pub returns-else-last : goal.returns-else-last
unfolding field_width
returns-else-last c = rw c.if-last.false refl
