-- `refusals::ranges::projections_in_range` meets its contract: row 9 gives row 8, and else the rows are looked at. Assumes nothing.
use mathlib.Core.Path.{sym, ◌∙◌}
use Rattle.refusals.specs.Laws.ListLaws.{projection-entries-coefficients}
use Rattle.refusals.proofs.ranges.projections_in_range.Goals as goal

pub returns-then-entries : goal.returns-then-entries
returns-then-entries c = sym (projection-entries-coefficients _ (sym c.requires ∙ c.if-entries.true))

pub returns : goal.returns
returns c = c.are_coefficients.ensures
