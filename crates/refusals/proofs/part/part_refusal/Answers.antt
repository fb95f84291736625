-- `refusals::part::part_refusal` meets its contract: the sizes, then the length of the opening.
use Rattle.std.proofs.Common.{refl, arith}
use Rattle.fold.specs.declared.answers.Refusal.TheVariants.{SliceLength}
use Rattle.fold.specs.Rows.{row_of}
use Rattle.fold.specs.Refusals.{part_tests}
use Rattle.fold.specs.NextCall.{part_refusal}
use Rattle.fold.specs.Laws.ResultLaws.{stopped, gone_on, handed_on, last_row}
use Rattle.limits.specs.Bounds.{part_bounds_of}
use Rattle.limits.specs.Known.StageLimits.{part-sized}
use Rattle.refusals.proofs.part.part_refusal.Goals as goal

pub part_bounds-requires : goal.part_bounds-requires
part_bounds-requires c = c.requires

pub returns-in_err-part_bounds : goal.returns-in_err-part_bounds
unfolding part_refusal part_tests
returns-in_err-part_bounds c =
    let a = c.args in handed_on row_of _ _ c.from_residual.ensures.1 (stopped (part_bounds_of a.tz a.sizes a.part) _ _ c.in_err-part_bounds.ensures)

pub opening_fits-fits-requires : goal.opening_fits-fits-requires
opening_fits-fits-requires c =
    let a = c.args in
    let l = part-sized a.tz a.sizes a.part c.in_ok-part_bounds.ensures refl in
    let x = l.shaped in
    (omega (arith, c.requires), x.degree.small, x.rank-small, x.parts-small, l.κ-small, l.t₁-most, l.t₂-most)

pub returns : goal.returns
unfolding part_refusal part_tests
returns c =
    let a = c.args in
    gone_on (part_bounds_of a.tz a.sizes a.part) _ refl c.in_ok-part_bounds.ensures (last_row row_of SliceLength c.require.ensures.value c.opening_fits-fits.ensures)
