-- The difference of two bare openings: z - z', element by element, is the centred difference of the numbers of z, and short where both are.
--     elements-el             centred numbers are the coefficients of the elements that they hold
--     length-z_numbers, el-z_numbers     the numbers of z
--     t_same                  t_i is the same where the numbers of t are
--     z-difference-is         "Differences are taken modulo q and centred"
--     z-difference-short      its squared length
use Rattle.std.specs.Prelude.{◌≡◌, ℕ, ◌+◌, ◌*◌, ◌<◌, ◌≤◌, take, drop, ℤ, pos, nat_abs}
use Rattle.std.proofs.Math.Path.{sym, ap, ap₂}
use Rattle.std.proofs.Common.{◌∙◌, arith}
use mathlib.Core.List.{List}
use Rattle.std.proofs.Math.ListN.{length, get_or, length-drop}
use Rattle.std.proofs.Math.Seq.{length-take-le, get_or-take, get_or-drop}
use Rattle.integers.specs.Sums.{norm_sq}
use Rattle.integers.specs.Laws.ListLaws.{tab_unique}
use Rattle.integers.specs.Laws.FlatLaws.{flat_cong, flat-cut, block-fits}
use Rattle.algebra.specs.CommRing.{sub}
use Rattle.algebra.specs.Polynomial.{coeff}
use Rattle.residues.specs.Modulus.{Zq, cent}
use Rattle.residues.proofs.Laws.ModulusLaws.{cent-red, centred_fixed, centred-bound}
use Rattle.ring.specs.Element.{R, el, coeffs}
use Rattle.ring.specs.Laws.ElementPlaces.{block-before, coeff-el, el-take, el-part}
use Rattle.fold.specs.Messages.{elements}
use Rattle.fold.specs.Differences.{difference}
use Rattle.fold.proofs.Laws.DifferenceLaws.{length-difference, get_d_difference, el-difference, difference-short}
use Rattle.bare.specs.Opening.{z_place, bare_size, t_at, z_at, z_numbers}

-- ---- centred numbers

module _ (d n : ℕ) (xs : List ℤ) (sized : length xs ≡ n * d) (small : (i : ℕ) → i < length xs → nat_abs (get_or xs i (pos 0)) ≤ 2147483598) where
  coeffs-el : (k : ℕ) → k < n → coeffs d (el d xs k) ≡ take d (drop (k * d) xs)
  unfolding coeffs
  coeffs-el k h =
      let fits = block-before d k n h in
      sym (tab_unique (take d (drop (k * d) xs)) d (λ j. cent (coeff Zq (el d xs k) j)) (pos 0)
      (length-take-le d _ (rw length-drop (omega (arith, sized, fits)))) entry)
    where
      entry : (j : ℕ) → j < d → get_or (take d (drop (k * d) xs)) j (pos 0) ≡ cent (coeff Zq (el d xs k) j)
      entry j l =
          let inside : k * d + j < length xs = omega (arith, sized, block-fits n d k j h l) in
          get_or-take d (drop (k * d) xs) j (pos 0) l
          ∙ get_or-drop (k * d) xs j (pos 0)
          ∙ sym (ap cent (coeff-el d xs k j l) ∙ cent-red _ ∙ centred_fixed (small (k * d + j) inside))

  elements-el : elements d n (el d xs) ≡ xs
  unfolding elements
  elements-el = flat_cong n _ _ (λ k h. coeffs-el k h) ∙ flat-cut n d xs sized

-- ---- one opening

module _ (d n r κ : ℕ) (o : List ℤ) where
  el-z_numbers : (k : ℕ) → k < n → el d (z_numbers d n r κ o) k ≡ z_at d n r κ o k
  unfolding z_numbers z_at
  el-z_numbers k h = el-part d o (z_place r κ) n k h

  length-z_numbers : length o ≡ bare_size n r κ * d → length (z_numbers d n r κ o) ≡ n * d
  unfolding z_numbers bare_size z_place
  length-z_numbers e = length-take-le _ _ (rw length-drop (omega arith))

-- ---- two openings

module _ (d n r κ : ℕ) (o o' : List ℤ) where
  pub t_same : take (r * κ * d) o ≡ take (r * κ * d) o' → (i k : ℕ) → i < r → k < κ → t_at d n r κ o i k ≡ t_at d n r κ o' i k
  unfolding t_at
  t_same e i k h l =
      let inside = block-before d (i * κ + k) (r * κ) (block-fits r κ i k h l) in
      sym (el-take d o (r * κ * d) (i * κ + k) inside)
      ∙ ap (λ (xs : List ℤ). el d xs (i * κ + k)) e
      ∙ el-take d o' (r * κ * d) (i * κ + k) inside

  module _ (sized : length o ≡ bare_size n r κ * d) (sized' : length o' ≡ bare_size n r κ * d) where
    abbrev zs : List ℤ
    zs = z_numbers d n r κ o

    abbrev zs' : List ℤ
    zs' = z_numbers d n r κ o'

    pub z-difference-is : elements d n (λ y. sub (R d) (z_at d n r κ o y) (z_at d n r κ o' y)) ≡ difference zs zs'
    unfolding elements
    z-difference-is =
        flat_cong n _ _ (λ y h. ap (coeffs d) (sym (apart y h)))
        ∙ elements-el d n (difference zs zs') (length-difference zs zs' ∙ length-z_numbers d n r κ o sized) small
      where
        apart : (y : ℕ) → y < n → el d (difference zs zs') y ≡ sub (R d) (z_at d n r κ o y) (z_at d n r κ o' y)
        apart y h =
            el-difference d zs zs' y (rw (length-z_numbers d n r κ o sized) (block-before d y n h))
            ∙ ap₂ (sub (R d)) (el-z_numbers d n r κ o y h) (el-z_numbers d n r κ o' y h)

        small : (i : ℕ) → i < length (difference zs zs') → nat_abs (get_or (difference zs zs') i (pos 0)) ≤ 2147483598
        small i h = rw (get_d_difference zs zs' i (rw length-difference at h)) (centred-bound _)

    pub z-difference-short : norm_sq (elements d n (λ y. sub (R d) (z_at d n r κ o y) (z_at d n r κ o' y))) ≤ 2 * norm_sq zs + 2 * norm_sq zs'
    z-difference-short =
        rw z-difference-is (difference-short zs zs' (length-z_numbers d n r κ o sized ∙ sym (length-z_numbers d n r κ o' sized')))
