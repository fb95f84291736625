-- `ring_cases::elements::scaled` meets its contract. Assumes nothing.
use mathlib.Core.Path.{refl, ◌∙◌}
use native.Mathlib.Omega.{arith}
use mir.Syntax.{w32}
use mir.Facts.{to_z-of_z}
use Rattle.ring.specs.Laws.ElementLaws.{lift-array}
use Rattle.ring_cases.specs.Results.{scaled_at}
use Rattle.ring_cases.specs.Laws.ResultLaws.{rest-length}
use Rattle.ring_cases.proofs.elements.scaled.Goals as goal

pub from_slice-a-requires : goal.from_slice-a-requires
from_slice-a-requires c =
    record { degree = c.requires.degree; d_in_bounds = omega (arith, c.requires.degree.small, rest-length c.args.xs.now 3 c.requires.xs_len c.past_numbers.ensures) }

pub returns : goal.returns
unfolding scaled_at
returns c =
    let is = to_z-of_z {w = w32} (record { sfits = c.number_at.type_inv }) ∙ c.number_at.ensures in
    c.scale.ensures
    ∙ rw (is, c.from_slice-a.ensures, lift-array c.args.d _ c.requires.degree.small, c.past_numbers.ensures) refl
