-- `refusals::ranges::constraint_ranges` meets its contract: each list in turn. Assumes nothing.
use mathlib.Core.Path.{refl}
use Rattle.limits.specs.Laws.RowLaws.{end, ◌&◌}
use Rattle.limits.specs.Laws.StageLaws.{joined-tests}
use Rattle.refusals.proofs.ranges.constraint_ranges.Goals as goal

pub projections_in_range-requires : goal.projections_in_range-requires
projections_in_range-requires c = c.requires

pub returns : goal.returns
returns c =
    joined-tests
    (c.are_coefficients.ensures
    & c.are_coefficients-2.ensures
    & c.projections_in_range.ensures
    & c.are_coefficients-3.ensures
    & c.are_coefficients-4.ensures
    & c.are_coefficients-5.ensures
    & c.are_coefficients-6.ensures
    & end)
    refl
