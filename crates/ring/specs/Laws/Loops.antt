-- The invariants of loops `while k < n`, each with its start, its step and its end.
--     Counted     any statement at k
--     Tested      a test holds at every index so far
--     Summed      an element by value is the sum of the terms so far
--     Filling     the first k places of an array by value are filled, the others hold z
-- Writers.antt has those of loops that write a list.
use Rattle.std.specs.Prelude.{◌≡◌, ℕ, ◌+◌, ◌<◌, ◌≤◌, Bool, true, ◌&&◌, List, replicate, ℤ, pos, slice_set}
use Rattle.std.proofs.Common.{sym, ap, ap₂, ◌∙◌, arith}
use Rattle.integers.specs.Lists.{tab, upto}
use Rattle.integers.specs.Laws.ListLaws.{fill_start, fill_step, fill_end}
use Rattle.algebra.specs.Sum.{sum}
use Rattle.algebra.specs.Laws.SumLaws.{sum-one-more}
use Rattle.residues.specs.Modulus.{Zq, cent}
use Rattle.algebra.specs.Polynomial.{coeff}
use Rattle.ring.specs.Element.{R, Degree, lift, array, every}
use Rattle.ring.specs.Laws.ElementLaws.{lift-array}
use Rattle.ring.specs.Laws.ElementArrays.{array-fill}
use Rattle.ring.specs.Laws.ElementEquality.{every-zero, every-next}

-- ---- any statement at k

pub record Counted (n : ℕ) (P : ℕ → Type 0) (k : ℕ) : Type 0 where
  pub within : k ≤ n
  pub held : P k

module _ {n : ℕ} {P : ℕ → Type 0} where
  pub counted_start : P 0 → Counted n P 0
  counted_start e = record { within = omega arith; held = e }

  pub counted_step : {k : ℕ} → k < n → P (k + 1) → Counted n P (k + 1)
  counted_step h e = record { within = omega arith; held = e }

  pub counted-end : {k : ℕ} → Counted n P k → n ≤ k → P n
  counted-end {k} before h = let end : k ≡ n = omega (arith, before.within) in rw end at before.held

-- ---- a test at every index

pub record Tested (n : ℕ) (p : ℕ → Bool) (k : ℕ) (all : Bool) : Type 0 where
  pub within : k ≤ n
  pub so_far : all ≡ every k p

module _ {n : ℕ} {p : ℕ → Bool} where
  pub tested-start : Tested n p 0 true
  tested-start = record { within = omega arith; so_far = sym (every-zero p) }

  module _ {k : ℕ} {all : Bool} (before : Tested n p k all) where
    pub tested-step : {t : Bool} → k < n → t ≡ p k → Tested n p (k + 1) (all && t)
    tested-step {t} h e = record { within = omega arith; so_far = every-next k p all t before.so_far e }

    pub tested-end : n ≤ k → all ≡ every n p
    tested-end h = let end : k ≡ n = omega (arith, before.within) in before.so_far ∙ ap (λ (i : ℕ). every i p) end

-- ---- a sum of elements by value

-- what an element's sixty-four numbers stand for
pub held : {d : ℕ} {u : (R d).Carrier} {xs : List ℤ} → d ≤ 64 → xs ≡ array d u → lift d xs ≡ u
held {d} {u} small e = rw e (lift-array d u small)

-- a sum, a product, from the numbers of its operands
module _ {d : ℕ} (u v : (R d).Carrier) {x y r : List ℤ} (small : d ≤ 64) (left : x ≡ array d u) (right : y ≡ array d v) where
  pub held-sum : r ≡ array d ((R d).add (lift d x) (lift d y)) → r ≡ array d ((R d).add u v)
  held-sum e = e ∙ ap (array d) (ap₂ (R d).add (held small left) (held small right))

  pub held-product : r ≡ array d ((R d).mul (lift d x) (lift d y)) → r ≡ array d ((R d).mul u v)
  held-product e = e ∙ ap (array d) (ap₂ (R d).mul (held small left) (held small right))

pub record Summed (d n : ℕ) (f : ℕ → (R d).Carrier) (k : ℕ) (acc : List ℤ) : Type 0 where
  pub within : k ≤ n
  pub so_far : acc ≡ array d (sum (R d) k f)

module _ {d n : ℕ} {f : ℕ → (R d).Carrier} where
  pub summed_start : {acc : List ℤ} → acc ≡ array d (R d).zero → Summed d n f 0 acc
  unfolding sum
  summed_start e = record { within = omega arith; so_far = e }

  module _ {k : ℕ} {acc : List ℤ} (before : Summed d n f k acc) where
    pub summed_step : {x next : List ℤ} → Degree d → k < n → x ≡ array d (f k)
        → next ≡ array d ((R d).add (lift d acc) (lift d x)) → Summed d n f (k + 1) next
    summed_step degree h e sums =
        record { within = omega arith; so_far = held-sum _ _ degree.small before.so_far e sums ∙ ap (array d) (sym (sum-one-more (R d) k f)) }

    pub summed_end : n ≤ k → acc ≡ array d (sum (R d) n f)
    summed_end h =
        let end : k ≡ n = omega (arith, before.within) in
        before.so_far ∙ ap (λ (i : ℕ). array d (sum (R d) i f)) end

-- ---- an array by value of `size` places

pub record Filling {A : Type 0} (size n : ℕ) (f : ℕ → A) (z : A) (k : ℕ) (out : List A) : Type 0 where
  pub within : k ≤ n
  pub so_far : out ≡ tab size (upto k f z)

module _ {A : Type 0} {size n : ℕ} {f : ℕ → A} {z : A} where
  pub filling_start : Filling size n f z 0 (replicate size z)
  filling_start = record { within = omega arith; so_far = fill_start size f z }

  module _ {k : ℕ} {out : List A} (before : Filling size n f z k out) where
    pub filling_step : {v : A} → n ≤ size → k < n → v ≡ f k → Filling size n f z (k + 1) (slice_set out k v)
    filling_step {v} room h e = record { within = omega arith; so_far = fill_step size k f z v out before.so_far (omega arith) e }

    pub filling_end : n ≤ k → out ≡ tab size (upto n f z)
    filling_end h = let end : k ≡ n = omega (arith, before.within) in rw end at before.so_far

-- all places are filled
pub filling_all : {A : Type 0} {n : ℕ} {f : ℕ → A} {z : A} {k : ℕ} {out : List A} → Filling n n f z k out → n ≤ k → out ≡ tab n f
filling_all {n = n} {f} {z} before h = filling_end before h ∙ fill_end n f z

-- the sixty-four numbers of an element, filled coefficient by coefficient
pub filling_element : {d : ℕ} {f : ℕ → ℤ} {k : ℕ} {out : List ℤ} (u : (R d).Carrier) → Filling 64 d f (pos 0) k out → d ≤ k
    → ((i : ℕ) → i < d → cent (coeff Zq u i) ≡ f i) → out ≡ array d u
filling_element {d} {f} u before h e = filling_end before h ∙ sym (array-fill d u f e)
