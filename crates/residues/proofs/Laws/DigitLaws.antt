-- Laws of the digits of integers, to any base from 2 on. Of these only the two under 'the digit rule' use DigitRule.
--     rest-low, low-bound                   the digit rule
--     rests-bound, digit-bound, digit-small how long digits are
--     recompose                             the digits' value is the number
--     length-split, get_d_split              the digits of a list
use Rattle.std.specs.Prelude.{◌≡◌, length, get_or, ℤ, pos, nat_abs, ◌+ℤ◌, ◌-ℤ◌, ◌*ℤ◌}
use Rattle.std.proofs.Math.Path.{refl}
use Rattle.std.proofs.Common.{ap, ◌∙◌, mul-le-mul_right, mul-le-mul_left, pow-suc, lt-suc_self, lt-ltb, le-ltb}
use mathlib.Core.List.{List, [], ◌∷◌, map}
use Prim.Native.Nat.{ℕ, zero, suc, ◌+◌, ◌*◌, ◌/◌, ◌^◌, ◌≤◌, ◌<◌, max}
use Rattle.std.proofs.Math.Decide.{dec_le}
use Rattle.std.proofs.Math.Nat.{mul-zero, pow-zero, pow-succ', le_step}
use native.Mathlib.Omega.{arith}
use Rattle.std.proofs.lemmas.List.{length-map}
use Rattle.std.proofs.Math.IntN.{+ℤ_idl, +ℤ_idr}
use Rattle.integers.specs.Laws.Bridge.{pn_min, nat_abs_pn, add_pn, abs_mul, zarith}
use Rattle.integers.specs.Laws.FlatLaws.{length-flat, get_d_flat}
use Rattle.integers.specs.Remainder.{ediv}
use Rattle.integers.specs.Laws.Identities.{*ℤ_idl, ring_order}
use Rattle.residues.specs.Digits.{low, rest, rests, digit, split, value}
use Rattle.residues.proofs.Laws.DigitRule.{quotient_exact, congruent_quotient, low-is}

regroup : (v l r p b : ℤ) → v +ℤ p *ℤ l +ℤ p *ℤ b *ℤ r ≡ v +ℤ p *ℤ (r *ℤ b +ℤ l)
regroup v l r p b = simp ring_order

horner : (a b v p x : ℤ) → a +ℤ b *ℤ v +ℤ b *ℤ p *ℤ x ≡ a +ℤ b *ℤ (v +ℤ p *ℤ x)
horner a b v p x = simp ring_order

module _ (b : ℕ) where
  pub value_cong : (t : ℕ) (f g : ℕ → ℤ) → ((e : ℕ) → e < t → f e ≡ g e) → value b t f ≡ value b t g
  unfolding value
  value_cong zero f g h = refl
  value_cong (suc t) f g h = rw (value_cong t f g (λ e l. h e (le_step l)), h t (lt-suc_self t))

  -- Horner's rule
  pub value-first : (t : ℕ) (f : ℕ → ℤ) → value b (suc t) f ≡ f 0 +ℤ pos b *ℤ value b t (λ e. f (suc e))
  unfolding value
  value-first zero f = rw (pow-zero b, *ℤ_idl (f 0), +ℤ_idl (f 0), mul-zero b, +ℤ_idr (f 0))
  value-first (suc t) f =
      rw (value-first t f, pow-succ' b t) (horner (f 0) (pos b) (value b t (λ e. f (suc e))) (pos (b ^ t)) (f (suc t)))

module _ (b : ℕ) (b>1 : 2 ≤ b) where
  -- ---- the digit rule

  pub low-bound : (z : ℤ) → nat_abs (low b z) * 2 ≤ b
  low-bound z = (low-is b b>1 z).narrow

  pub rest-low : (z : ℤ) → z ≡ rest b z *ℤ pos b +ℤ low b z
  unfolding rest
  rest-low z =
      let whole = congruent_quotient b b>1 z (low b z) (low-is b b>1 z).congruent in
      rw (quotient_exact b b>1 z (ediv z b -ℤ ediv (low b z) b) (low b z) whole) whole

  -- ---- what is left

  pub rest-size : (z : ℤ) → nat_abs (rest b z) * b ≤ nat_abs z + nat_abs (low b z)
  rest-size z =
      let k = rest b z in
      omega (
        zarith,
        rest-low z,
        add_pn (k *ℤ pos b) (low b z),
        abs_mul k (pos b),
        pn_min (k *ℤ pos b),
        nat_abs_pn z,
        nat_abs_pn (low b z),
        ap (λ (t : ℕ). t * b) (nat_abs_pn k),
      )

  rest-bound : (z : ℤ) → nat_abs (rest b z) ≤ nat_abs z
  rest-bound z = cases (dec_le (nat_abs (rest b z)) (nat_abs z))
    where
      cases : Dec (nat_abs (rest b z) ≤ nat_abs z) → nat_abs (rest b z) ≤ nat_abs z
      cases (yes h) = h
      cases (no h) =
          let more : suc (nat_abs z) ≤ nat_abs (rest b z) = omega arith in
          let no : ⊥ = omega (arith, rest-size z, low-bound z, mul-le-mul_right b more, mul-le-mul_left (nat_abs z) b>1) in
          absurd no

  rests-bound : (e : ℕ) (z : ℤ) → nat_abs (rests b e z) ≤ nat_abs z
  unfolding rests
  rests-bound zero z = omega arith
  rests-bound (suc e) z = omega (arith, rest-bound (rests b e z), rests-bound e z)

  -- ---- the digits

  pub digit_low : (t e : ℕ) (z : ℤ) → e + 1 < t → digit b t e z ≡ low b (rests b e z)
  unfolding digit
  digit_low t e z h = rw (lt-ltb (suc e) t (omega arith))

  pub digit-last : (t e : ℕ) (z : ℤ) → t ≤ e + 1 → digit b t e z ≡ rests b e z
  unfolding digit
  digit-last t e z h = rw (le-ltb (suc e) t (omega arith))

  pub digit-low-bound : (t e : ℕ) (z : ℤ) → e + 1 < t → nat_abs (digit b t e z) * 2 ≤ b
  digit-low-bound t e z h = rw (digit_low t e z h) (low-bound (rests b e z))

  pub digit-bound : (t e : ℕ) (z : ℤ) → nat_abs (digit b t e z) ≤ max (b / 2) (nat_abs z)
  digit-bound t e z = cases (dec_le t (e + 1))
    where
      cases : Dec (t ≤ e + 1) → nat_abs (digit b t e z) ≤ max (b / 2) (nat_abs z)
      cases (yes h) = rw (digit-last t e z h) (omega (arith, rests-bound e z))
      cases (no h) = omega (arith, digit-low-bound t e z (omega arith))

  -- a digit of a coefficient is a coefficient
  pub digit-small : (t e : ℕ) (z : ℤ) → b ≤ 65536 → nat_abs z ≤ 2147483598 → nat_abs (digit b t e z) ≤ 2147483598
  digit-small t e z h k = omega (arith, digit-bound t e z)

  -- ---- recomposition

  lows-value : (e : ℕ) (z : ℤ) → value b e (λ i. low b (rests b i z)) +ℤ pos (b ^ e) *ℤ rests b e z ≡ z
  unfolding value rests
  lows-value zero z = rw (pow-zero b, *ℤ_idl z, +ℤ_idl z)
  lows-value (suc e) z =
      let s = rests b e z in
      rw (pow-suc b e) (regroup (value b e (λ i. low b (rests b i z))) (low b s) (rest b s) (pos (b ^ e)) (pos b)
      ∙ rw (← (rest-low s)) (lows-value e z))

  pub recompose : (t : ℕ) (z : ℤ) → 0 < t → value b t (λ e. digit b t e z) ≡ z
  unfolding value
  recompose zero z h = let no : ⊥ = omega arith in absurd no
  recompose (suc t) z h =
      rw (
        value_cong b t (λ e. digit b (suc t) e z) (λ e. low b (rests b e z)) (λ e l. digit_low (suc t) e z (omega arith)),
        digit-last (suc t) t z (omega arith),
      )
      (lows-value t z)

-- ---- the digits of a list

get_d_map : (f : ℤ → ℤ) (xs : List ℤ) (i : ℕ) → i < length xs → get_or (map f xs) i (pos 0) ≡ f (get_or xs i (pos 0))
get_d_map f [] i h = let no : ⊥ = omega arith in absurd no
get_d_map f (x ∷ xs) zero h = refl
get_d_map f (x ∷ xs) (suc i) h = get_d_map f xs i (omega arith)

module _ (b t : ℕ) (xs : List ℤ) where
  width : (e : ℕ) → e < t → length (map (digit b t e) xs) ≡ length xs
  width e h = length-map xs (digit b t e)

  pub length-split : length (split b t xs) ≡ t * length xs
  unfolding split
  length-split = length-flat t (length xs) (λ e. map (digit b t e) xs) width

  get_d_digits : (e i : ℕ) → i < length xs → get_or (map (digit b t e) xs) i (pos 0) ≡ digit b t e (get_or xs i (pos 0))
  get_d_digits e i h = get_d_map (digit b t e) xs i h

  pub get_d_split : (e i : ℕ) → e < t → i < length xs → get_or (split b t xs) (e * length xs + i) (pos 0) ≡ digit b t e (get_or xs i (pos 0))
  unfolding split
  get_d_split e i h k = get_d_flat t (length xs) (λ e. map (digit b t e) xs) width e i (pos 0) h k ∙ get_d_digits e i k
