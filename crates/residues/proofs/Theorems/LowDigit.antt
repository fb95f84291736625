-- SPECIFICATION 2.8, the low digit: what a reader may believe of it without reading `low`, and what the rule gives.
--     low-exactly    e is the low digit of z exactly if e is congruent to z modulo B, 2|e| ≤ B, and where 2|e| = B the quotient is even
--     odd_base       for odd B there are no halves: the low digit is the centred remainder
--     opposite       the low digit of -z is the opposite of that of z
--     base_2         "For B = 2 no two low digits side by side are both other than 0."
use Rattle.std.specs.Prelude.{◌≡◌, ◌↔◌, ◌⊎◌, ℕ, ◌+◌, ◌-◌, ◌*◌, ◌%◌, ◌≤◌, ◌<◌, ℤ, pos, negsuc, neg_ℤ, nat_abs, ◌+ℤ◌, ◌-ℤ◌, ◌*ℤ◌}
use Rattle.std.proofs.Common.{sym, ap, ◌∙◌, inl, inr, add-one, arith, eq-eqb, eqb-true}
use Rattle.std.proofs.Math.Decide.{dec_lt}
use Rattle.integers.specs.Laws.Bridge.{nat_abs_pn, add_pn, neg_pn, mul_pn, zarith}
use Rattle.integers.specs.Remainder.{ediv, emod, centre}
use Rattle.integers.specs.Laws.RemainderLaws.{emod-neg}
use Rattle.residues.specs.Digits.{leaves_even, low, LowDigit, rest, rests, digit}
use Rattle.residues.proofs.Laws.DigitRule.{congruent_quotient, leaves_even_lem, centre-is, low-is, low_only}
use Rattle.residues.proofs.Laws.DigitLaws.{digit_low}

module _ (b : ℕ) (b>1 : 2 ≤ b) where
  pub low-exactly : (z e : ℤ) → (e ≡ low b z) ↔ LowDigit b z e
  low-exactly z e = (λ h. rw h (low-is b b>1 z), λ d. low_only b b>1 z d (low-is b b>1 z))

  pub odd_base : b % 2 ≡ 1 → (z : ℤ) → low b z ≡ centre b z
  odd_base odd z = low_only b b>1 z (low-is b b>1 z) (centre-is b b>1 z (λ half. let no : ⊥ = omega arith in no))

  pub opposite : (z : ℤ) → low b (neg_ℤ z) ≡ neg_ℤ (low b z)
  opposite z =
      let e = low b z in
      let d = low-is b b>1 z in
      let k = ediv z b -ℤ ediv e b in
      let whole = congruent_quotient b b>1 z e d.congruent in
      let mirrored : neg_ℤ z ≡ neg_ℤ k *ℤ pos b +ℤ neg_ℤ e = omega (
        zarith,
        whole,
        add_pn (k *ℤ pos b) e,
        mul_pn k (pos b),
        neg_pn z,
        neg_pn e,
        add_pn (neg_ℤ k *ℤ pos b) (neg_ℤ e),
        mul_pn (neg_ℤ k) (pos b),
        ap (λ (t : ℕ). t * b) (neg_pn k).0,
        ap (λ (t : ℕ). t * b) (neg_pn k).1,
      ) in
      sym ((low-exactly (neg_ℤ z) (neg_ℤ e)).1 (record {
        congruent = emod-neg b (omega arith) e ∙ ap (λ (t : ℕ). (b - t) % b) d.congruent ∙ sym (emod-neg b (omega arith) z);
        narrow = omega (arith, d.narrow, nat_abs_pn e, nat_abs_pn (neg_ℤ e), neg_pn e);
        even = λ half. leaves_even_lem b b>1 (neg_ℤ z) (neg_ℤ k) (neg_ℤ e) mirrored ∙ eq-eqb (nat_abs (neg_ℤ k) % 2) 0 (omega (
          arith,
          eqb-true (nat_abs k % 2) 0 (sym (leaves_even_lem b b>1 z k e whole) ∙ d.even (omega (arith, half, nat_abs_pn e, nat_abs_pn (neg_ℤ e), neg_pn e))),
          nat_abs_pn k,
          nat_abs_pn (neg_ℤ k),
          neg_pn k,
        ));
      }))

-- ---- base 2

even-remainder : (k : ℤ) → nat_abs k % 2 ≡ 0 → emod k 2 ≡ 0
unfolding emod
even-remainder (pos n) h = h
even-remainder (negsuc n) h = omega arith

one-is-zero : (z : ℤ) → (low 2 z ≡ pos 0) ⊎ (low 2 (rest 2 z) ≡ pos 0)
unfolding leaves_even rest
one-is-zero z = cases (dec_lt 0 (nat_abs (low 2 z)))
  where
    d : LowDigit 2 z (low 2 z)
    d = low-is 2 (omega arith) z

    zero-remainder : emod (pos 0) 2 ≡ 0
    zero-remainder = even-remainder (pos 0) (omega arith)

    cases : Dec (0 < nat_abs (low 2 z)) → (low 2 z ≡ pos 0) ⊎ (low 2 (rest 2 z) ≡ pos 0)
    cases (no h) = inl (omega (zarith, nat_abs_pn (low 2 z)))
    cases (yes h) =
        let even = eqb-true (nat_abs (rest 2 z) % 2) 0 (d.even (omega (arith, d.narrow))) in
        inr (sym ((low-exactly 2 (omega arith) (rest 2 z) (pos 0)).1 (record {
          congruent = zero-remainder ∙ sym (even-remainder (rest 2 z) even);
          narrow = omega arith;
          even = λ half. let no : ⊥ = omega arith in absurd no;
        })))

pub base_2 : (t e : ℕ) (z : ℤ) → e + 2 < t → (digit 2 t e z ≡ pos 0) ⊎ (digit 2 t (e + 1) z ≡ pos 0)
unfolding rests
base_2 t e z h = rw (digit_low 2 (omega arith) t e z (omega arith), digit_low 2 (omega arith) t (e + 1) z (omega arith), add-one e) (one-is-zero (rests 2 e z))
