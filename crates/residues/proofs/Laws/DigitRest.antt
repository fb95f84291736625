-- What is left beside the low digit.
--     rest_from             what is left is k, where z = k·b + e, e is narrow, and k is even if e is a half
use Rattle.std.specs.Prelude.{◌≡◌, ℕ, ◌*◌, ◌%◌, ◌≤◌, ◌<◌, ℤ, pos, nat_abs, ◌+ℤ◌, ◌-ℤ◌, ◌*ℤ◌}
use Rattle.std.proofs.Math.Path.{sym, ap}
use Rattle.std.proofs.Common.{◌∙◌}
use native.Mathlib.Omega.{arith}
use Rattle.std.specs.Int.Signed.{quot_z}
use borrow.Author.Tests.{eq-eqb}
use Rattle.integers.specs.Laws.Bridge.{add_pn, zarith}
use Rattle.integers.specs.Laws.RemainderLaws.{emod-eq}
use Rattle.residues.specs.Digits.{LowDigit, rest}
use Rattle.residues.proofs.Laws.DigitRule.{quotient_exact, leaves_even_lem, low-is, low_only}

module _ (b : ℕ) (b>1 : 2 ≤ b) (z : ℤ) where
  above : 0 < b
  above = omega arith

  pub rest_from : (k e : ℤ) → z ≡ k *ℤ pos b +ℤ e → nat_abs e * 2 ≤ b → (nat_abs e * 2 ≡ b → nat_abs k % 2 ≡ 0) → rest b z ≡ k
  unfolding rest
  rest_from k e whole narrow even =
      let is : LowDigit b z e =
      record {
        congruent = sym (emod-eq b above z e k (omega (zarith, whole, add_pn (k *ℤ pos b) e, add_pn e (k *ℤ pos b))));
        narrow = narrow;
        even = λ h. leaves_even_lem b b>1 z k e whole ∙ eq-eqb (nat_abs k % 2) 0 (even h);
      } in
      ap (λ (t : ℤ). quot_z (z -ℤ t) (pos b)) (low_only b b>1 z (low-is b b>1 z) is) ∙ quotient_exact b b>1 z k e whole
