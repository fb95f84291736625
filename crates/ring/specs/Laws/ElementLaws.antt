-- Laws of ring elements and of the numbers that hold them.
--     coeff-lift, element-ext       an element by its coefficients
--     lift-coeffs, lift-array       an element to numbers and back
--     coeffs-small                  every number is a coefficient
-- ElementArrays: the numbers of each operation's result. ElementPlaces: elements of a list. ElementEquality: the test `same`.
use Rattle.std.specs.Prelude.{◌≡◌, ℕ, ◌<◌, ◌≤◌, List, length, take, ℤ, pos, slice_index_or, unsigned_abs}
use Rattle.std.proofs.Common.{sym, ap, ◌∙◌, arith}
use Rattle.integers.specs.Laws.ListLaws.{length-tab, get_d_tab, take-tab}
use Rattle.algebra.specs.Laws.VecLaws.{at-build, at-past, ext}
use Rattle.algebra.specs.Polynomial.{coeff}
use Rattle.residues.specs.Modulus.{Zq, red, cent}
use Rattle.residues.proofs.Laws.ModulusLaws.{red-cent, cent-bound}
use Rattle.ring.specs.Element.{R, lift, coeffs, array}

module _ (d : ℕ) where
  -- ---- an element by its coefficients

  pub element-ext : (u v : (R d).Carrier) → ((k : ℕ) → k < d → coeff Zq u k ≡ coeff Zq v k) → u ≡ v
  element-ext u v h = ext Zq.zero u v h

  pub coeff-past : (u : (R d).Carrier) (k : ℕ) → d ≤ k → coeff Zq u k ≡ Zq.zero
  coeff-past u k h = at-past Zq.zero u h

  pub coeff-lift : (xs : List ℤ) (k : ℕ) → k < d → coeff Zq (lift d xs) k ≡ red (slice_index_or xs k (pos 0))
  unfolding lift
  coeff-lift xs k h = at-build Zq.zero d (λ j. red (slice_index_or xs j (pos 0))) h

  -- the first d numbers make the element
  pub lift_cong : (xs ys : List ℤ) → ((k : ℕ) → k < d → slice_index_or xs k (pos 0) ≡ slice_index_or ys k (pos 0)) → lift d xs ≡ lift d ys
  lift_cong xs ys h = element-ext (lift d xs) (lift d ys) (λ k l. coeff-lift xs k l ∙ ap red (h k l) ∙ sym (coeff-lift ys k l))

  -- ---- an element to numbers and back

  pub length-coeffs : (u : (R d).Carrier) → length (coeffs d u) ≡ d
  unfolding coeffs
  length-coeffs u = length-tab d _

  pub get_d_coeffs : (u : (R d).Carrier) (k : ℕ) → k < d → slice_index_or (coeffs d u) k (pos 0) ≡ cent (coeff Zq u k)
  unfolding coeffs
  get_d_coeffs u k h = get_d_tab d _ k (pos 0) h

  pub get_d_array : (u : (R d).Carrier) (k : ℕ) → k < 64 → slice_index_or (array d u) k (pos 0) ≡ cent (coeff Zq u k)
  unfolding array
  get_d_array u k h = get_d_tab 64 _ k (pos 0) h

  -- every number is a coefficient
  pub coeffs-small : (u : (R d).Carrier) (k : ℕ) → k < d → unsigned_abs (slice_index_or (coeffs d u) k (pos 0)) ≤ 2147483598
  coeffs-small u k h = rw (get_d_coeffs u k h) (cent-bound (coeff Zq u k))

  pub lift-coeffs : (u : (R d).Carrier) → lift d (coeffs d u) ≡ u
  lift-coeffs u = element-ext _ u (λ k l. coeff-lift (coeffs d u) k l ∙ ap red (get_d_coeffs u k l) ∙ red-cent (coeff Zq u k))

  pub lift-array : (u : (R d).Carrier) → d ≤ 64 → lift d (array d u) ≡ u
  lift-array u h = element-ext _ u (λ k l. coeff-lift (array d u) k l ∙ ap red (get_d_array u k (omega arith)) ∙ red-cent (coeff Zq u k))

  pub take-array : (u : (R d).Carrier) → d ≤ 64 → take d (array d u) ≡ coeffs d u
  unfolding array coeffs
  take-array u h = take-tab d 64 _ h
