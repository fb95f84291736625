-- `residues::range::are_projection_entries` meets its contract: projections is `all_within` at its bound.
use mathlib.Core.Path.{◌∙◌}
use Rattle.residues.specs.Range.{projection_entries}
use Rattle.residues.proofs.Laws.RangeLaws.{between-bound}
use Rattle.residues.proofs.range.are_projection_entries.Goals as goal

pub returns : goal.returns
unfolding projection_entries
returns c = c.all_between.ensures ∙ between-bound _ _
