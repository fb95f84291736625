-- `refusals::next::out_fits` meets its contract: the sizes of the next instance, then its length. Assumes nothing.
use mathlib.Core.Path.{refl}
use native.Mathlib.Omega.{arith}
use Rattle.fold.specs.Sizes.{next_parts, next_count}
use Rattle.fold.specs.Known.CutSizes.{cut-sizes, next_rank-bound}
use Rattle.refusals.proofs.next.out_fits.Goals as goal

pub next_fits-requires : goal.next_fits-requires
next_fits-requires c =
    let l = c.requires.verify_sized in
    let x = l.shaped in
    let cut = c.requires.chunk_limits in
    let z = cut-sizes _ _ _ _ _ c.requires.tz_nonzero x.rank-small x.parts-small l.κ-small l.t₁-most l.t₂-most cut refl in (
      x.degree.small,
      omega (arith, c.requires.rank_value, next_rank-bound _ _ _ _ z),
      cut.parts-small,
      omega (arith, l.κ-small, l.κ₁-small, l.κ₂-small),
    )

pub returns : goal.returns
unfolding next_parts next_count
returns c = rw c.requires.rank_value at c.next_fits.ensures
