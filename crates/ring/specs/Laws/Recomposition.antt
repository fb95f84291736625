-- Laws of recomposition from digits, `joined`, and Horner's rule from the top digit down, as a loop runs it: when digits t - 1 down to e
-- are taken in, the sum is `joined d b (t - e) (λ i. f (e + i))`.
use Rattle.std.specs.Prelude.{◌≡◌, ℕ, suc, ◌+◌, ◌-◌, ◌^◌, ◌<◌, ◌≤◌, List, ℤ, pos, ◌*ℤ◌}
use Rattle.std.proofs.Math.Path.{sym, ap, ap₂}
use Rattle.std.proofs.Common.{◌∙◌, zero-add as nat-zero-add, arith}
use Rattle.std.proofs.Math.Nat.{pow-zero, pow-succ'}
use Rattle.algebra.specs.Laws.RingLaws.{one-mul, zero-add}
use Rattle.algebra.specs.Sum.{sum}
use Rattle.algebra.specs.Laws.SumLaws.{sum_cong, sum_first, sum-mul}
use Rattle.ring.specs.Element.{R, lift, array, number}
use Rattle.ring.specs.Laws.ElementLaws.{lift-array}
use Rattle.ring.specs.Laws.Numbers.{number-one, number-mul}
use Rattle.ring.specs.Joined.{joined}
use Rattle.ring.specs.Laws.DigitElements.{joined_cong}

module _ (d b : ℕ) where
  lowest : (u : (R d).Carrier) → (R d).mul (number d (pos (b ^ 0))) u ≡ u
  lowest u = ap (λ c. (R d).mul c u) (ap (λ n. number d (pos n)) (pow-zero b) ∙ number-one d) ∙ one-mul (R d) u

  -- the lowest digit apart
  pub joined-first : (n : ℕ) (f : ℕ → (R d).Carrier)
      → joined d b (suc n) f ≡ (R d).add (f 0) ((R d).mul (number d (pos b)) (joined d b n (λ e. f (suc e))))
  unfolding joined
  joined-first n f =
      sum_first (R d) n (λ e. (R d).mul (number d (pos (b ^ e))) (f e))
      ∙ ap₂ (R d).add (lowest (f 0)) (sum_cong (R d) n _ _ (λ e _. high e) ∙ sym (sum-mul (R d) n (number d (pos b)) summand))
    where
      summand : ℕ → (R d).Carrier
      summand e = (R d).mul (number d (pos (b ^ e))) (f (suc e))

      power : (e : ℕ) → pos (b ^ suc e) ≡ pos b *ℤ pos (b ^ e)
      power e = ap pos (pow-succ' b e)

      high : (e : ℕ) → (R d).mul (number d (pos (b ^ suc e))) (f (suc e)) ≡ (R d).mul (number d (pos b)) (summand e)
      high e =
          ap (λ c. (R d).mul c (f (suc e))) (ap (number d) (power e) ∙ number-mul d (pos b) (pos (b ^ e)))
          ∙ (R d).mul_assoc (number d (pos b)) (number d (pos (b ^ e))) (f (suc e))

  pub joined-one : (f : ℕ → (R d).Carrier) → joined d b 1 f ≡ f 0
  unfolding joined sum
  joined-one f = ap ((R d).add (R d).zero) (lowest (f 0)) ∙ zero-add (R d) (f 0)

  -- ---- Horner's rule

  pub horner-start : (t : ℕ) (f : ℕ → (R d).Carrier) → 0 < t → joined d b (t - (t - 1)) (λ i. f (t - 1 + i)) ≡ f (t - 1)
  horner-start t f h =
      let one : t - (t - 1) ≡ 1 = omega arith in
      let top : t - 1 + 0 ≡ t - 1 = omega arith in
      rw one (joined-one (λ i. f (t - 1 + i)) ∙ ap f top)

  pub horner-step : (t e : ℕ) (f : ℕ → (R d).Carrier) → 0 < e → e < t
      → joined d b (t - (e - 1)) (λ i. f (e - 1 + i))
      ≡ (R d).add ((R d).mul (number d (pos b)) (joined d b (t - e) (λ i. f (e + i)))) (f (e - 1))
  horner-step t e f h l =
      let n : t - (e - 1) ≡ suc (t - e) = omega arith in
      let low : e - 1 + 0 ≡ e - 1 = omega arith in
      let high : (i : ℕ) → e - 1 + suc i ≡ e + i = λ i. omega arith in
      rw n (
      joined-first (t - e) (λ i. f (e - 1 + i))
      ∙ (R d).add_comm (f (e - 1 + 0)) _
      ∙ ap₂ (R d).add (ap ((R d).mul (number d (pos b))) (joined_cong d b (t - e) _ _ (λ i _. ap f (high i)))) (ap f low)
      )

  pub horner-end : (t : ℕ) (f : ℕ → (R d).Carrier) → joined d b (t - 0) (λ i. f (0 + i)) ≡ joined d b t f
  horner-end t f = let n : t - 0 ≡ t = omega arith in rw n (joined_cong d b t _ _ (λ i _. ap f (nat-zero-add i)))

  -- one turn of the loop, on the numbers
  pub horner-turn : (t e : ℕ) (f : ℕ → (R d).Carrier) (sum high digit next : List ℤ) → d ≤ 64 → 0 < e → e < t
      → sum ≡ array d (joined d b (t - e) (λ i. f (e + i)))
      → digit ≡ array d (f (e - 1))
      → high ≡ array d ((R d).mul (number d (pos b)) (lift d sum))
      → next ≡ array d ((R d).add (lift d high) (lift d digit))
      → next ≡ array d (joined d b (t - (e - 1)) (λ i. f (e - 1 + i)))
  horner-turn t e f sum high digit next small h l es ed eh en =
      en
      ∙ ap (array d) (
      ap₂ (R d).add
      (ap (lift d) eh ∙ lift-array d _ small ∙ ap ((R d).mul (number d (pos b))) (ap (lift d) es ∙ lift-array d _ small))
      (ap (lift d) ed ∙ lift-array d _ small)
      ∙ sym (horner-step t e f h l)
      )
