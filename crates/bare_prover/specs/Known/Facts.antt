-- A list of r parts of n elements.
use Rattle.std.specs.Prelude.{◌≡◌, List, ℕ, ◌+◌, ◌*◌, ◌≤◌, ◌<◌, length, ℤ}
use Rattle.std.proofs.Common.{mul-le-mul, arith}
use Rattle.ring.specs.Laws.ElementPlaces.{row_fits, block-before}
use Rattle.fold.specs.declared.Shape.{Shape}
use Rattle.fold.specs.Known.Facts.{Shaped}

module _ (shape : Shape) where
  open shape use {d, n, r}

  pub record Parts (xs : List ℤ) : Type 0 where
    pub shaped : Shaped d n r
    pub size : length xs ≡ r * n * d

  module _ {xs : List ℤ} (parts : Parts xs) {i : ℕ} (h : i < r) where
    -- part i lies within the list
    pub part-fits : (i * n + n) * d ≤ length xs
    part-fits = row_fits d n h (omega (arith, parts.size))

    -- and its place is small
    pub part_small : i * n ≤ 4096
    part_small = omega (arith, block-before n i r h, mul-le-mul parts.shaped.parts-small parts.shaped.rank-small)
