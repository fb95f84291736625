-- `ring_cases::values::constant` meets its contract. Assumes nothing.
use mathlib.Core.Path.{refl, ◌∙◌}
use native.Mathlib.Omega.{arith}
use mir.Facts.{to_z-of_z}
use Rattle.ring_cases.specs.Results.{constant_at}
use Rattle.ring_cases.specs.Laws.ResultLaws.{degree-fits, rest-length}
use mir.Syntax.{w32}
use Rattle.ring_cases.proofs.values.constant.Goals as goal

pub from_slice-requires : goal.from_slice-requires
from_slice-requires c =
    let degree = degree-fits c.args.xs.now c.degree_at-d.ensures in record { degree = degree; d_in_bounds = omega (arith, degree.small, rest-length c.args.xs.now 2 c.requires c.past_numbers.ensures) }

pub returns : goal.returns
unfolding constant_at
returns c =
    to_z-of_z {w = w32} (record { sfits = c.constant_term.type_inv }) ∙ c.constant_term.ensures
    ∙ rw (c.from_slice.ensures, c.past_numbers.ensures, c.degree_at-d.ensures) refl
