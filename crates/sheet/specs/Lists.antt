-- SPECIFICATION 10: the lists of a sheet, one after another in the numbers after the header.
--     list_lengths s        how many numbers each has
--     list_at lengths xs k    list k
use Rattle.std.specs.Prelude.{List, [], ◌∷◌, ℕ, zero, suc, ◌*◌, take, drop, ℤ}
use Rattle.fold.specs.Sizes.{five, z_count, t_size, garbage_size, opening_size}
use Rattle.fold.specs.Refusals.{whole_length, constant_terms_length, projection_length}
use Rattle.fold.specs.declared.Sizes.{Sizes}

module _ (s : Sizes) where
  open s use {shape, k, l, w, kappa, kappa1, kappa2, t1, t2}
  open shape use {d, n, r}

  -- "A, B, C, D by rows; each whole constraint ..; each constant-term one ..; u1; projection rows ..; p, ψ, ω ..; b''; α; δ; u2; c; the opening":
  -- how many numbers each has
  unfoldable pub list_lengths : List ℕ
  list_lengths =
      kappa * n * d
      ∷ kappa1 * t_size r kappa t1 * d
      ∷ kappa1 * garbage_size r t2 * d
      ∷ kappa2 * garbage_size r t1 * d
      ∷ whole_length d n r k
      ∷ constant_terms_length d n r l
      ∷ kappa1 * d
      ∷ projection_length d n r w
      ∷ w
      ∷ five * l
      ∷ five * w
      ∷ five * d
      ∷ k * d
      ∷ five * d
      ∷ kappa2 * d
      ∷ r * d
      ∷ opening_size z_count n r kappa t1 t2 * d
      ∷ []

-- list k, where lists of these lengths stand one after another
unfoldable pub list_at : List ℕ → List ℤ → ℕ → List ℤ
list_at [] xs k = []
list_at (m ∷ ms) xs zero = take m xs
list_at (m ∷ ms) xs (suc k) = list_at ms (drop m xs) k
