-- `ring_cases::values::recomposed` meets its contract. Assumes nothing.
use mathlib.Core.Path.{refl, ◌∙◌}
use native.Mathlib.Omega.{arith}
use mir.Facts.{to_z-of_z}
use Rattle.ring_cases.specs.Results.{recomposed_at}
use Rattle.ring_cases.specs.Laws.ResultLaws.{base-fits, count_fits}
use mir.Syntax.{w32}
use Rattle.ring_cases.proofs.values.recomposed.Goals as goal

pub recompose_number-requires : goal.recompose_number-requires
recompose_number-requires c =
    let count = count_fits c.args.xs.now 2 c.count_at-count.ensures in record { base = base-fits c.args.xs.now 1 c.base_at-base.ensures; count_nonzero = (omega (arith, count.0), omega (arith, count.0, count.1, c.requires)) }

pub returns : goal.returns
unfolding recomposed_at
returns c =
    to_z-of_z {w = w32} (record { sfits = c.recompose_number.type_inv }) ∙ c.recompose_number.ensures
    ∙ rw (c.count_at-count.ensures, c.base_at-base.ensures) refl
