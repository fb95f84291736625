-- Recomposition by Horner's rule, from the last digit down: `tail b t f k` is f k + b · f (k+1) + .. + b^(t-1-k) · f (t-1).
use Rattle.std.specs.Prelude.{◌≡◌, ℤ, ◌+ℤ◌, ◌*ℤ◌}
use Rattle.std.proofs.Common.{sym, ◌∙◌, zero-add, mul-le-mul_right, SFits, to_z, of_z, to_z-of_z}
use Rattle.std.proofs.Math.Path.{ap}
use Prim.Native.Nat.{ℕ, suc, ◌+◌, ◌-◌, ◌*◌, ◌≤◌, ◌<◌}
use Rattle.std.proofs.Math.Nat.{sub_self, sub-zero, add-zero}
use native.Mathlib.Omega.{arith}
use Rattle.std.proofs.Math.IntN.{pos, +ℤ_comm, *ℤ_comm}
use Rattle.std.specs.Int.{w32}
use Rattle.residues.specs.Modulus.{Zq, red, centred}
use Rattle.residues.proofs.Laws.ModulusLaws.{red-add, red-mul, red-centred, centred-eq, centred_fixed, centred-fits}
use Rattle.residues.specs.Digits.{value}
use Rattle.residues.proofs.Laws.DigitLaws.{value_cong, value-first}

unfoldable pub tail : (b t : ℕ) → (ℕ → ℤ) → ℕ → ℤ
tail b t f k = value b (t - k) (λ e. f (k + e))

module _ (b t : ℕ) (f : ℕ → ℤ) where
  pub tail-start : centred (tail b t f t) ≡ pos 0
  unfolding tail value
  tail-start = rw sub_self (centred_fixed (omega arith))

  tail_step : (k : ℕ) → k < t → tail b t f k ≡ tail b t f (k + 1) *ℤ pos b +ℤ f k
  unfolding tail
  tail_step k h =
      let more : t - k ≡ suc (t - (k + 1)) = omega arith in
      let place : (e : ℕ) → k + suc e ≡ k + 1 + e = λ e. omega arith in
      let next = value b (t - (k + 1)) (λ e. f (k + suc e)) in
      let same : next ≡ value b (t - (k + 1)) (λ e. f (k + 1 + e)) =
      value_cong b (t - (k + 1)) (λ e. f (k + suc e)) (λ e. f (k + 1 + e)) (λ e l. ap f (place e)) in
      rw (more, value-first b (t - (k + 1)) (λ e. f (k + e)), add-zero k)
      (+ℤ_comm (f k) (pos b *ℤ next) ∙ ap (λ (z : ℤ). z +ℤ f k) (*ℤ_comm (pos b) next ∙ ap (λ (z : ℤ). z *ℤ pos b) same))

  -- one step modulo q
  tail-centred : (k : ℕ) → k < t → centred (centred (tail b t f (k + 1)) *ℤ pos b +ℤ f k) ≡ centred (tail b t f k)
  tail-centred k h =
      let z = tail b t f (k + 1) in
      centred-eq (centred z *ℤ pos b +ℤ f k) (tail b t f k)
      (red-add (centred z *ℤ pos b) (f k)
      ∙ ap (λ (r : Zq.Carrier). Zq.add r (red (f k))) (red-mul (centred z) (pos b)
      ∙ ap (λ (r : Zq.Carrier). Zq.mul r (red (pos b))) (red-centred z) ∙ sym (red-mul z (pos b)))
      ∙ sym (red-add (z *ℤ pos b) (f k))
      ∙ ap red (sym (tail_step k h)))

  tail-end : tail b t f 0 ≡ value b t f
  unfolding tail
  tail-end = rw (sub-zero t) (value_cong b t (λ e. f (0 + e)) f (λ e h. ap f (zero-add e)))

-- the digits' places
pub place-fits : (t w k : ℕ) → k < t → k * w ≤ (t - 1) * w
place-fits t w k h = let l : k ≤ t - 1 = omega arith in mul-le-mul_right w l

-- ---- the loop

module _ (b t : ℕ) (f : ℕ → ℤ) where
  pub value_step : (left : ℕ) (acc r : ℤ) → 0 < left → left ≤ t → acc ≡ centred (tail b t f left) → SFits w32 (f (left - 1))
      → r ≡ centred (acc *ℤ pos b +ℤ to_z w32 (of_z w32 (f (left - 1)))) → r ≡ centred (tail b t f (left - 1))
  value_step left acc r h k inv fits e =
      let back : left ≡ left - 1 + 1 = omega arith in
      rw (inv, to_z-of_z fits) at e
      ∙ ap (λ (n : ℕ). centred (centred (tail b t f n) *ℤ pos b +ℤ f (left - 1))) back
      ∙ tail-centred b t f (left - 1) (omega arith)

  pub value_end : (left : ℕ) (acc : ℤ) → left ≤ 0 → acc ≡ centred (tail b t f left) → acc ≡ centred (value b t f)
  value_end left acc h inv =
      let none : left ≡ 0 = omega arith in
      inv ∙ ap (λ (n : ℕ). centred (tail b t f n)) none ∙ ap centred (tail-end b t f)

  -- the same with the bits of the accumulator
  pub sum-start : 0 ≡ of_z w32 (centred (tail b t f t))
  sum-start = rw (tail-start b t f)

  pub sum_step : (left acc : ℕ) (r : ℤ) → 0 < left → left ≤ t → acc ≡ of_z w32 (centred (tail b t f left)) → SFits w32 (f (left - 1))
      → r ≡ centred (to_z w32 acc *ℤ pos b +ℤ to_z w32 (of_z w32 (f (left - 1)))) → of_z w32 r ≡ of_z w32 (centred (tail b t f (left - 1)))
  sum_step left acc r h k inv fits e =
      ap (of_z w32) (value_step left (to_z w32 acc) r h k (ap (to_z w32) inv ∙ to_z-of_z (centred-fits (tail b t f left))) fits e)

  pub sum-end : (left acc : ℕ) → left ≤ 0 → acc ≡ of_z w32 (centred (tail b t f left)) → to_z w32 acc ≡ centred (value b t f)
  sum-end left acc h inv = value_end left (to_z w32 acc) h (ap (to_z w32) inv ∙ to_z-of_z (centred-fits (tail b t f left)))
