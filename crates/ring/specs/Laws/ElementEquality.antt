-- The test that two elements are equal: `same d u v` is true exactly when u ≡ v. Below it, the laws of `every`.
use Rattle.std.specs.Prelude.{◌≡◌, ℕ, suc, ◌+◌, ◌<◌, Bool, true, false, cond, ◌&&◌, ◌↔◌, List, ℤ, pos, ◌==◌, nat_eq, slice_index_or, refl}
use Rattle.std.proofs.Common.{sym, ◌∙◌, add-one, arith}
use Rattle.std.proofs.Math.Path.{ap, ap₂}
use borrow.Author.Tests.{eq-eqb, eqb-true}
use Rattle.integers.specs.Remainder.{emod}
use Rattle.integers.specs.Lists.{tab, all}
use Rattle.integers.specs.Laws.ListLaws.{length-tab, get_d_tab, tab_cong, tab-suc}
use Rattle.integers.specs.Laws.AllLaws.{all-at, all_of, all_false, all-last}
use Rattle.algebra.specs.Laws.ResidueLaws.{residue_eq}
use Rattle.algebra.specs.Polynomial.{coeff}
use Rattle.residues.specs.Modulus.{q, Zq}
use Rattle.residues.proofs.Laws.ModulusLaws.{red_residue}
use Rattle.ring.specs.Element.{R, lift, every, same}
use Rattle.ring.specs.Laws.ElementLaws.{element-ext, coeff-lift}

-- ---- a test at every k below n

pub every_true : (n : ℕ) (p : ℕ → Bool) → every n p ≡ true → (k : ℕ) → k < n → p k ≡ true
unfolding every
every_true n p e k h = sym (get_d_tab n p k true h) ∙ all-at (λ t. t) (tab n p) true refl e k

pub true-every : (n : ℕ) (p : ℕ → Bool) → ((k : ℕ) → k < n → p k ≡ true) → every n p ≡ true
unfolding every
true-every n p h =
    all_of (λ t. t) (tab n p) true (λ k l. let below : k < n = omega (arith, l, length-tab n p) in get_d_tab n p k true below ∙ h k below)

pub record FailsBelow (n : ℕ) (p : ℕ → Bool) : Type 0 where
  pub place : ℕ
  pub below : place < n
  pub fails : p place ≡ false

pub every_false : (n : ℕ) (p : ℕ → Bool) → every n p ≡ false → FailsBelow n p
unfolding every
every_false n p e =
    let one = all_false (λ t. t) (tab n p) true e in
    let below : one.place < n = omega (arith, one.inside, length-tab n p) in
    record { place = one.place; below = below; fails = sym (get_d_tab n p one.place true below) ∙ one.fails }

pub every-zero : (p : ℕ → Bool) → every 0 p ≡ true
unfolding every tab all
every-zero p = refl

pub every-suc : (n : ℕ) (p : ℕ → Bool) → every (suc n) p ≡ cond (every n p) (p n) false
unfolding every
every-suc n p = ap (all (λ t. t)) (tab-suc n p) ∙ all-last (λ t. t) (tab n p) (p n)

pub every-add-one : (n : ℕ) (p : ℕ → Bool) → every (n + 1) p ≡ cond (every n p) (p n) false
every-add-one n p = rw add-one (every-suc n p)

-- one more test, as a loop that counts up adds it
pub every-next : (n : ℕ) (p : ℕ → Bool) (all t : Bool) → all ≡ every n p → t ≡ p n → (all && t) ≡ every (n + 1) p
every-next n p true t e q = rw (every-add-one n p, ← e) q
every-next n p false t e q = rw (every-add-one n p, ← e) refl

pub every_cong : (n : ℕ) (p r : ℕ → Bool) → ((k : ℕ) → k < n → p k ≡ r k) → every n p ≡ every n r
unfolding every
every_cong n p r h = ap (all (λ t. t)) (tab_cong n p r h)

-- ---- equal elements

module _ (d : ℕ) where
  pub same_true : (u v : (R d).Carrier) → same d u v ≡ true → u ≡ v
  unfolding same
  same_true u v e = element-ext d u v (λ k l. residue_eq (eqb-true _ _ (every_true d _ e k l)))

  pub same_refl : (u : (R d).Carrier) → same d u u ≡ true
  unfolding same
  same_refl u = true-every d _ (λ k _. eq-eqb (coeff Zq u k).val (coeff Zq u k).val refl)

  pub same_iff : (u v : (R d).Carrier) → (same d u v ≡ true) ↔ (u ≡ v)
  same_iff u v = (same_true u v, λ e. rw e (same_refl v))

  -- the test on the numbers that hold two elements
  pub same-lift : (xs ys : List ℤ)
      → same d (lift d xs) (lift d ys) ≡ every d (λ k. nat_eq (emod (slice_index_or xs k (pos 0)) q) (emod (slice_index_or ys k (pos 0)) q))
  unfolding same
  same-lift xs ys = every_cong d _ _ entry
    where
      entry : (k : ℕ) → k < d
          → ((coeff Zq (lift d xs) k).val == (coeff Zq (lift d ys) k).val) ≡ (emod (slice_index_or xs k (pos 0)) q == emod (slice_index_or ys k (pos 0)) q)
      entry k l = ap₂ nat_eq (number_at xs k l) (number_at ys k l)
        where
          number_at : (zs : List ℤ) (j : ℕ) → j < d → (coeff Zq (lift d zs) j).val ≡ emod (slice_index_or zs j (pos 0)) q
          number_at zs j l = ap (λ x. x.val) (coeff-lift d zs j l) ∙ red_residue (slice_index_or zs j (pos 0))
