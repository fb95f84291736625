-- The power b^e modulo q as a loop forms it, and the entries of the blocks of z and of digits, which are products with it.
use Rattle.std.specs.Prelude.{◌≡◌, Bool, cond, List, ℕ, ◌+◌, ◌*◌, ◌^◌, ◌≤◌, ℤ, pos, ◌+ℤ◌, ◌*ℤ◌}
use Rattle.std.proofs.Math.Path.{sym, ap}
use Rattle.std.proofs.Common.{ap₂, ◌∙◌, pow-suc, add-one, arith, eq-eqb, ne_eqb, to_z, of_z, to_z-of_z}
use Rattle.std.proofs.Math.Nat.{pow-zero}
use Rattle.std.specs.Int.{w32}
use Rattle.integers.specs.Laws.Bridge.{add_pn, zarith}
use Rattle.algebra.specs.Polynomial.{constant}
use Rattle.residues.specs.Modulus.{Zq, red, centred}
use Rattle.residues.proofs.Laws.ModulusLaws.{red-mul, red-centred, centred-eq, centred_fixed, centred-fits}
use Rattle.integers.specs.Lists.{tab}
use Rattle.integers.specs.Laws.FlatLaws.{flat_cong}
use Rattle.ring.specs.Element.{R, lift, el, coeffs, array, number}
use Rattle.ring.specs.Laws.ElementLaws.{lift-array}
use Rattle.fold.specs.NextInstance.{power}
use Rattle.fold.specs.Messages.{elements}
use Rattle.next_constraints.specs.declared.blocks.Digits.{Digits}
use Rattle.next_constraints.specs.Blocks.{numbers, digit_row}
use Rattle.next_constraints.specs.Laws.BlockLaws.{numbers-tab}

-- ---- the loop, with the bits of its local

module _ (b : ℕ) where
  pub power-start : 1 ≡ of_z w32 (centred (pos (b ^ 0)))
  power-start = rw (pow-zero b, centred_fixed {z = pos 1} (omega arith))

  next : (i : ℕ) → centred (centred (pos (b ^ i)) *ℤ pos b +ℤ pos 0) ≡ centred (pos (b ^ (i + 1)))
  next i =
      let z = pos (b ^ i) in
      let more : b ^ (i + 1) ≡ b ^ i * b = ap (λ k. b ^ k) (add-one i) ∙ pow-suc b i in
      ap centred (none (centred z *ℤ pos b))
      ∙ centred-eq (centred z *ℤ pos b) (pos (b ^ (i + 1)))
      (red-mul (centred z) (pos b)
      ∙ ap (λ (r : Zq.Carrier). Zq.mul r (red (pos b))) (red-centred z)
      ∙ sym (red-mul z (pos b))
      ∙ ap (λ k. red (pos k)) (sym more))
    where
      none : (x : ℤ) → x +ℤ pos 0 ≡ x
      none x = omega (zarith, add_pn x (pos 0))

  pub power-turn : (i acc : ℕ) (r : ℤ) → acc ≡ of_z w32 (centred (pos (b ^ i)))
      → r ≡ centred (to_z w32 acc *ℤ pos b +ℤ pos 0) → of_z w32 r ≡ of_z w32 (centred (pos (b ^ (i + 1))))
  power-turn i acc r inv e =
      let value : to_z w32 acc ≡ centred (pos (b ^ i)) = ap (to_z w32) inv ∙ to_z-of_z (centred-fits (pos (b ^ i))) in
      ap (of_z w32) (rw value at e ∙ next i)

  pub power-end : (i e acc : ℕ) → i ≡ e → acc ≡ of_z w32 (centred (pos (b ^ i))) → to_z w32 acc ≡ centred (pos (b ^ e))
  power-end i e acc same inv =
      ap (to_z w32) inv ∙ to_z-of_z (centred-fits (pos (b ^ i))) ∙ ap (λ k. centred (pos (b ^ k))) same

-- ---- weights

module _ (d : ℕ) where
  pub number-centred : (z : ℤ) → number d (centred z) ≡ number d z
  unfolding number
  number-centred z = ap (λ x. constant Zq d x) (red-centred z)

  pub weight_is : (b e : ℕ) (r : ℤ) → r ≡ centred (pos (b ^ e)) → number d (to_z w32 (of_z w32 r)) ≡ power d b e
  weight_is b e r h =
      ap (λ x. number d (to_z w32 (of_z w32 x))) h
      ∙ ap (number d) (to_z-of_z (centred-fits (pos (b ^ e))))
      ∙ number-centred (pos (b ^ e))

  -- b^e times u
  pub weighted : (b e : ℕ) (r : ℤ) (u : (R d).Carrier) (xs out : List ℤ) → d ≤ 64 → r ≡ centred (pos (b ^ e)) → xs ≡ array d u
      → out ≡ array d ((R d).mul (number d (to_z w32 (of_z w32 r))) (lift d xs)) → out ≡ array d ((R d).mul (power d b e) u)
  weighted b e r u xs out small h l o =
      o ∙ ap (array d) (ap₂ (R d).mul (weight_is b e r h) (ap (lift d) l ∙ lift-array d u small))

  -- a row of elements times b^e, as the digits of z want it
  pub weighted-row : (n b e : ℕ) (r : ℤ) (x : ℕ → (R d).Carrier) → r ≡ centred (pos (b ^ e))
      → elements d n (λ k. (R d).mul (number d (to_z w32 (of_z w32 r))) (x k)) ≡ numbers d (tab n (λ k. (R d).mul (power d b e) (x k)))
  unfolding elements
  weighted-row n b e r x h =
      flat_cong n _ _ (λ k _. ap (λ u. coeffs d ((R d).mul u (x k))) (weight_is b e r h))
      ∙ sym (numbers-tab d n (λ k. (R d).mul (power d b e) (x k)))

  -- row j of digit e of element i, where it is the digits' row, and where it is another
  module _ (digits : Digits) (ys : List ℤ) (i e j : ℕ) where
    pub digit-here : (r : ℤ) (xs out : List ℤ) → d ≤ 64 → j ≡ digits.row → r ≡ centred (pos (digits.base ^ e)) → xs ≡ array d (el d ys i)
        → out ≡ array d ((R d).mul (number d (to_z w32 (of_z w32 r))) (lift d xs)) → out ≡ array d (digit_row d digits ys i e j)
    unfolding digit_row
    digit-here r xs out small same h l o =
        weighted digits.base e r (el d ys i) xs out small h l o
        ∙ ap (array d) ((R d).mul_comm (power d digits.base e) (el d ys i))
        ∙ ap (λ (t : Bool). array d (cond t ((R d).mul (el d ys i) (power d digits.base e)) (R d).zero)) (sym (eq-eqb j digits.row same))

    pub digit_elsewhere : (out : List ℤ) → (j ≡ digits.row → ⊥) → out ≡ array d (R d).zero → out ≡ array d (digit_row d digits ys i e j)
    unfolding digit_row
    digit_elsewhere out other o =
        o ∙ ap (λ (t : Bool). array d (cond t ((R d).mul (el d ys i) (power d digits.base e)) (R d).zero)) (sym (ne_eqb j digits.row other))
