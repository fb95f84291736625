-- The low digit has the property LowDigit, and no other number has it. No other law opens `low`.
--     quotient_exact        where z = k·b + e, the quotient of z - e by b is k
--     congruent_quotient    where z and e are congruent, z = k·b + e for a k
--     leaves_even_lem           where z = k·b + e, e leaves an even quotient exactly if k is even
--     centre-is             where z does not lie halfway, its centred remainder has the property
--     low-is, low_only      the low digit has the property, and it alone
use Rattle.std.specs.Prelude.{◌≡◌, Bool, cond, ℕ, ◌+◌, ◌*◌, ◌/◌, ◌%◌, ◌≤◌, ◌<◌, ℤ, negsuc, neg_ℤ, nat_abs, ◌+ℤ◌, ◌-ℤ◌, ◌*ℤ◌}
use Rattle.std.proofs.Math.Path.{refl, sym, ap}
use Rattle.std.proofs.Common.{◌∙◌}
use Rattle.std.proofs.Math.Bool.{true, false}
use Rattle.std.proofs.Math.Decide.{dec_lt}
use Rattle.std.proofs.Math.Nat.{mod-eq_of_lt}
use native.Mathlib.Omega.{arith}
use Rattle.std.proofs.Math.Dec.{eqb}
use Rattle.std.proofs.Math.IntN.{pos}
use Rattle.std.specs.Int.Signed.{quot_z}
use borrow.Author.Tests.{eq-eqb, eqb-true, eqb-false}
use Rattle.integers.specs.Laws.Bridge.{P, N, pn_min, nat_abs_pn, add_pn, neg_pn, sub_pn, mul_pn, zarith}
use Rattle.integers.specs.Remainder.{emod, ediv, centre}
use Rattle.integers.specs.Laws.RemainderLaws.{emod-eq, division_pn}
use Rattle.integers.specs.Laws.CentreLaws.{centre_range, centre-emod}
use Rattle.integers.specs.Laws.MachineDivision.{quot_z_exact}
use Rattle.residues.specs.Digits.{halfway, leaves_even, even_half, low, LowDigit}
use Rattle.residues.proofs.Laws.CentreSize.{centre-narrow}

module _ (b : ℕ) (b>1 : 2 ≤ b) where
  above : 0 < b
  above = omega arith

  -- ---- exact quotients

  pub quotient_exact : (z k e : ℤ) → z ≡ k *ℤ pos b +ℤ e → quot_z (z -ℤ e) (pos b) ≡ k
  quotient_exact z k e h =
      let d : z -ℤ e ≡ k *ℤ pos b = omega (zarith, h, add_pn (k *ℤ pos b) e, sub_pn z e) in
      ap (λ (t : ℤ). quot_z t (pos b)) d ∙ quot_z_exact b above k

  -- numbers with equal remainders differ by a multiple of b
  pub congruent_quotient : (z e : ℤ) → emod e b ≡ emod z b → z ≡ (ediv z b -ℤ ediv e b) *ℤ pos b +ℤ e
  congruent_quotient z e h =
      let k = ediv z b -ℤ ediv e b in
      omega (
        zarith,
        division_pn b above z,
        division_pn b above e,
        add_pn (k *ℤ pos b) e,
        mul_pn k (pos b),
        ap (λ t. t * b) (sub_pn (ediv z b) (ediv e b)),
      )

  -- ---- remainders of narrow numbers

  narrow-remainder : (e : ℤ) → nat_abs e * 2 ≤ b → (N e ≡ 0 → emod e b ≡ P e) × (0 < N e → emod e b + N e ≡ b)
  unfolding emod
  narrow-remainder (pos n) h = (λ z. mod-eq_of_lt (omega arith), λ l. let no : ⊥ = omega arith in absurd no)
  narrow-remainder (negsuc n) h = (λ z. let no : ⊥ = omega arith in absurd no, λ l. let small : n % b ≡ n = mod-eq_of_lt (omega arith) in omega arith)

  -- ---- even quotients

  pub leaves_even_lem : (z k e : ℤ) → z ≡ k *ℤ pos b +ℤ e → leaves_even b z e ≡ eqb (nat_abs k % 2) 0
  unfolding leaves_even
  leaves_even_lem z k e h = ap (λ (t : ℤ). eqb (nat_abs t % 2) 0) (quotient_exact z k e h)

  -- of two neighbours one is even and one is odd
  neighbours : (k : ℤ) → nat_abs k % 2 + nat_abs (k +ℤ pos 1) % 2 ≡ 1
  neighbours k = omega (arith, nat_abs_pn k, pn_min k, nat_abs_pn (k +ℤ pos 1), pn_min (k +ℤ pos 1), add_pn k (pos 1))

  next-even : (k : ℤ) → eqb (nat_abs k % 2) 0 ≡ false → eqb (nat_abs (k +ℤ pos 1) % 2) 0 ≡ true
  next-even k h = eq-eqb (nat_abs (k +ℤ pos 1) % 2) 0 (omega (arith, neighbours k, eqb-false (nat_abs k % 2) 0 h))

  next_odd : (k : ℤ) → eqb (nat_abs k % 2) 0 ≡ true → eqb (nat_abs (k +ℤ pos 1) % 2) 0 ≡ true → ⊥
  next_odd k h l = omega (arith, neighbours k, eqb-true (nat_abs k % 2) 0 h, eqb-true (nat_abs (k +ℤ pos 1) % 2) 0 l)

  -- k·b + b/2 is also (k+1)·b - b/2
  other_half : (z k : ℤ) (n : ℕ) → n * 2 ≡ b → z ≡ k *ℤ pos b +ℤ pos n → z ≡ (k +ℤ pos 1) *ℤ pos b +ℤ neg_ℤ (pos n)
  other_half z k n h e =
      omega (
        zarith,
        add_pn (k *ℤ pos b) (pos n),
        add_pn ((k +ℤ pos 1) *ℤ pos b) (neg_ℤ (pos n)),
        mul_pn k (pos b),
        mul_pn (k +ℤ pos 1) (pos b),
        ap (λ t. t * b) (add_pn k (pos 1)),
        neg_pn (pos n),
      )

  module _ (z : ℤ) where
    -- ---- the low digit has the property

    half-congruent : emod z b * 2 ≡ b → emod (pos (b / 2)) b ≡ emod z b
    unfolding emod
    half-congruent h = let small : b / 2 % b ≡ b / 2 = mod-eq_of_lt (omega arith) in omega arith

    opposite-congruent : emod z b * 2 ≡ b → emod (neg_ℤ (pos (b / 2))) b ≡ emod z b
    opposite-congruent h =
        emod-eq b above (neg_ℤ (pos (b / 2))) (pos (b / 2)) (neg_ℤ (pos 1))
        (omega (zarith, neg_pn (pos (b / 2)), add_pn (pos (b / 2)) (neg_ℤ (pos 1) *ℤ pos b), mul_pn (neg_ℤ (pos 1)) (pos b)))
        ∙ half-congruent h

    half_is : emod z b * 2 ≡ b → (t : Bool) → leaves_even b z (pos (b / 2)) ≡ t → LowDigit b z (cond t (pos (b / 2)) (neg_ℤ (pos (b / 2))))
    half_is h true e = record { congruent = half-congruent h; narrow = omega arith; even = λ t. e }
    half_is h false e =
        let k = ediv z b -ℤ ediv (pos (b / 2)) b in
        let whole = congruent_quotient z (pos (b / 2)) (half-congruent h) in
        record {
          congruent = opposite-congruent h;
          narrow = omega (arith, nat_abs_pn (neg_ℤ (pos (b / 2))), neg_pn (pos (b / 2)));
          even = λ t.
              leaves_even_lem z (k +ℤ pos 1) (neg_ℤ (pos (b / 2))) (other_half z k (b / 2) (omega arith) whole)
              ∙ next-even k (sym (leaves_even_lem z k (pos (b / 2)) whole) ∙ e);
        }

    pub centre-is : (emod z b * 2 ≡ b → ⊥) → LowDigit b z (centre b z)
    centre-is h =
        let c = centre b z in
        let range = centre_range b above z in
        let remainder = narrow-remainder c (centre-narrow b b>1 z) in
        record {
          congruent = centre-emod b above z;
          narrow = centre-narrow b b>1 z;
          even = λ t. absurd (h (omega (arith, t, range.high, centre-emod b above z, remainder.1 (omega (arith, t, range.high, nat_abs_pn c, pn_min c)), nat_abs_pn c, pn_min c)));
        }

    pub low-is : LowDigit b z (low b z)
    unfolding low halfway even_half
    low-is = cases (halfway b z) refl
      where
        cases : (t : Bool) → halfway b z ≡ t → LowDigit b z (cond t (even_half b z) (centre b z))
        cases true e = half_is (eqb-true (emod z b * 2) b e) (leaves_even b z (pos (b / 2))) refl
        cases false e = centre-is (eqb-false (emod z b * 2) b e)

    -- ---- no other number has it

    opposites : {e l : ℤ} → LowDigit b z e → LowDigit b z l → N e ≡ 0 → 0 < N l → ⊥
    opposites {e} {l} x y h k =
        let low_end = (narrow-remainder e x.narrow).0 h in
        let high_end = (narrow-remainder l y.narrow).1 k in
        let sum : P e + N l ≡ b = omega (arith, low_end, high_end, x.congruent, y.congruent) in
        let half : P e * 2 ≡ b = omega (arith, x.narrow, y.narrow, nat_abs_pn e, pn_min e, nat_abs_pn l, pn_min l) in
        let is-half : e ≡ pos (P e) = omega (zarith, h) in
        let is-other : l ≡ neg_ℤ (pos (P e)) = omega (zarith, neg_pn (pos (P e)), pn_min l) in
        let j = ediv z b -ℤ ediv e b in
        let whole = congruent_quotient z e x.congruent in
        let first = sym (leaves_even_lem z j e whole) ∙ x.even (omega (arith, nat_abs_pn e, pn_min e)) in
        let below : z ≡ (j +ℤ pos 1) *ℤ pos b +ℤ l = rw is-other (other_half z j (P e) half (whole ∙ ap (λ (t : ℤ). j *ℤ pos b +ℤ t) is-half)) in
        let second = sym (leaves_even_lem z (j +ℤ pos 1) l below) ∙ y.even (omega (arith, nat_abs_pn l, pn_min l)) in
        next_odd j first second

    pub low_only : {e l : ℤ} → LowDigit b z e → LowDigit b z l → e ≡ l
    low_only {e} {l} x y = cases (dec_lt 0 (N e)) (dec_lt 0 (N l))
      where
        cases : Dec (0 < N e) → Dec (0 < N l) → e ≡ l
        cases (yes h) (yes k) = omega (
          zarith,
          (narrow-remainder e x.narrow).1 h,
          (narrow-remainder l y.narrow).1 k,
          x.congruent,
          y.congruent,
          pn_min e,
          pn_min l,
        )
        cases (no h) (no k) = omega (
          zarith,
          (narrow-remainder e x.narrow).0 (omega arith),
          (narrow-remainder l y.narrow).0 (omega arith),
          x.congruent,
          y.congruent,
        )
        cases (no h) (yes k) = absurd (opposites x y (omega arith) k)
        cases (yes h) (no k) = absurd (opposites y x (omega arith) h)
