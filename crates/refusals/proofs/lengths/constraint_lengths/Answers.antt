-- `refusals::lengths::constraint_lengths` meets its contract: each list of the constraints. Assumes nothing.
use mathlib.Core.Path.{refl}
use native.Mathlib.Omega.{arith}
use Rattle.limits.specs.Laws.RowLaws.{end, ◌&◌}
use Rattle.limits.specs.Laws.StageLaws.{joined-tests}
use Rattle.refusals.proofs.lengths.constraint_lengths.Goals as goal

pub whole_fits-requires : goal.whole_fits-requires
whole_fits-requires c = let l = c.requires in (l.shaped, l.K-small)

pub constant_terms_fit-requires : goal.constant_terms_fit-requires
constant_terms_fit-requires c = let l = c.requires in (l.shaped, l.L-small)

pub projections_fit-requires : goal.projections_fit-requires
projections_fit-requires c = let l = c.requires in (l.shaped, l.w-small)

pub five_fit-requires : goal.five_fit-requires
five_fit-requires c = let l = c.requires in omega (arith, l.L-small)

pub five_fit-requires-2 : goal.five_fit-requires-2
five_fit-requires-2 c = let l = c.requires in omega (arith, l.w-small)

pub list_fits-requires : goal.list_fits-requires
list_fits-requires c = let l = c.requires in (omega (arith, l.K-small), l.shaped.degree.small)

pub five_fit-requires-3 : goal.five_fit-requires-3
five_fit-requires-3 c = let l = c.requires in omega (arith, l.shaped.degree.small)

pub returns : goal.returns
returns c =
    joined-tests
    (c.whole_fits.ensures & c.constant_terms_fit.ensures & c.projections_fit.ensures & c.five_fit.ensures
    & c.five_fit-2.ensures & c.list_fits.ensures & c.five_fit-3.ensures & end) refl
