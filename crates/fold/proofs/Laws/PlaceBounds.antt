-- How large the blocks of an opening are, and where they start at most, for sizes that passed rows 1 to 6 and at most two digits
-- of z.
use Rattle.std.specs.Prelude.{ℕ, ◌≤◌}
use Rattle.std.proofs.Common.{arith}
use Rattle.fold.specs.declared.Sizes.{Sizes}
use Rattle.fold.specs.Sizes.{t_size, garbage_size}
use Rattle.fold.specs.Laws.SizeBounds.{product-bound, t_size-bound, garbage_size-bound}
use Rattle.fold.specs.Opening.{t_place, g_place, h_place}
use Rattle.fold.specs.Arguments.{VerifySized}

module _ (s : Sizes) (fits : VerifySized s) where
  pub t-size-bound : t_size s.shape.r s.kappa s.t1 ≤ 1024
  t-size-bound = t_size-bound _ _ _ fits.shaped.parts-small fits.κ-small fits.t₁-most

  pub g-size-bound : garbage_size s.shape.r s.t2 ≤ 1088
  g-size-bound = garbage_size-bound _ _ fits.shaped.parts-small fits.t₂-most

  pub h-size-bound : garbage_size s.shape.r s.t1 ≤ 1088
  h-size-bound = garbage_size-bound _ _ fits.shaped.parts-small fits.t₁-most

  pub t-place-bound : (tz : ℕ) → tz ≤ 2 → t_place tz s.shape.n ≤ 512
  unfolding t_place
  t-place-bound tz few = product-bound tz s.shape.n 2 256 few fits.shaped.rank-small

  pub g-place-bound : (tz : ℕ) → tz ≤ 2 → g_place tz s.shape.n s.shape.r s.kappa s.t1 ≤ 1536
  unfolding g_place
  g-place-bound tz few = omega (arith, t-place-bound tz few, t-size-bound)

  pub h-place-bound : (tz : ℕ) → tz ≤ 2 → h_place tz s.shape.n s.shape.r s.kappa s.t1 s.t2 ≤ 2624
  unfolding h_place
  h-place-bound tz few = omega (arith, g-place-bound tz few, g-size-bound)
