-- `residues::range::are_coefficients` meets its contract: coefficients is `all_within` at its bound.
use mathlib.Core.Path.{◌∙◌}
use Rattle.residues.specs.Range.{coefficients}
use Rattle.residues.proofs.Laws.RangeLaws.{between-bound}
use Rattle.residues.proofs.range.are_coefficients.Goals as goal

pub returns : goal.returns
unfolding coefficients
returns c = c.all_between.ensures ∙ between-bound _ _
