-- `fields::walk::number_at` meets its contract.
use Rattle.std.proofs.Common.{ap, ◌∙◌, ℤ, pos, Option, to_z-of_z}
use Rattle.std.specs.Int.{w64}
use Rattle.std.specs.Option.{unwrap_or}
use Rattle.fields.specs.Place.{number_at}
use Rattle.fields.proofs.walk.number_at.Goals as goal

pub returns : goal.returns
unfolding number_at
returns c =
    to_z-of_z {w = w64} (record { sfits = c.unwrap_or.type_inv }) ∙ c.unwrap_or.ensures
    ∙ ap (λ (f : Option ℤ). unwrap_or f (pos 0)) c.read_field.ensures
