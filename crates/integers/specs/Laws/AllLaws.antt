-- A test computed over a whole list, and its rule at each index.
--     both_left, both_right, both_true, both_and    a conjunction of two tests
--     all-at, all_of                                the test over the list gives the rule at each index, and the other way round
--     all_false                                     where it does not hold, an index at which it fails
--     all_append, all_join, all-part, all-last      joined lists, a part of one, one element more
use Rattle.std.specs.Prelude.{◌≡◌, Bool, ◌&&◌, length, get_or, take, drop}
use Rattle.std.proofs.Math.Path.{refl, ap}
use Rattle.std.proofs.Common.{sym, subst, ◌∙◌, arith, take-append-drop}
use Rattle.std.proofs.Math.Bool.{true, false, cond}
use mathlib.Core.List.{List, [], ◌∷◌, ◌++◌}
use Prim.Native.Nat.{ℕ, zero, suc, ◌<◌}
use Rattle.std.proofs.Math.Dec.{T}
use Rattle.integers.specs.Lists.{all}

-- ---- a conjunction of two tests

pub both_left : (s t : Bool) → cond s t false ≡ true → s ≡ true
both_left true t e = refl
both_left false t e = e

pub both_right : (s t : Bool) → cond s t false ≡ true → t ≡ true
both_right true t e = e
both_right false t e = absurd (subst T (sym e) tt)

pub both_true : (s t : Bool) → s ≡ true → t ≡ true → cond s t false ≡ true
both_true s t e h = rw e h

pub both_and : (s t : Bool) → s && t ≡ cond s t false
both_and true t = refl
both_and false t = refl

both_assoc : (s t u : Bool) → cond s (cond t u false) false ≡ cond (cond s t false) u false
both_assoc true t u = refl
both_assoc false t u = refl

both_one : (t : Bool) → cond t true false ≡ t
both_one true = refl
both_one false = refl

-- ---- the test by index

module _ {A : Type 0} (test : A → Bool) where
  -- where the default passes too, the index need not be below the length
  pub all-at : (xs : List A) (z : A) → test z ≡ true → all test xs ≡ true → (i : ℕ) → test (get_or xs i z) ≡ true
  unfolding all
  all-at [] z d e i = d
  all-at (x ∷ xs) z d e zero = both_left (test x) (all test xs) e
  all-at (x ∷ xs) z d e (suc i) = all-at xs z d (both_right (test x) (all test xs) e) i

  pub all_of : (xs : List A) (z : A) → ((i : ℕ) → i < length xs → test (get_or xs i z) ≡ true) → all test xs ≡ true
  unfolding all
  all_of [] z h = refl
  all_of (x ∷ xs) z h = both_true (test x) (all test xs) (h 0 (omega arith)) (all_of xs z (λ i l. h (suc i) (omega arith)))

  pub record FailsAt (xs : List A) (z : A) : Type 0 where
    pub place : ℕ
    pub inside : place < length xs
    pub fails : test (get_or xs place z) ≡ false

  pub all_false : (xs : List A) (z : A) → all test xs ≡ false → FailsAt xs z
  unfolding all
  all_false [] z e = absurd (subst T e tt)
  all_false (x ∷ xs) z e = step (all_false xs z) (test x) refl e
    where
      step : (all test xs ≡ false → FailsAt xs z) → (t : Bool) → test x ≡ t → cond t (all test xs) false ≡ false → FailsAt (x ∷ xs) z
      step later true q f = let one = later f in record { place = suc one.place; inside = omega (arith, one.inside); fails = one.fails }
      step later false q f = record { place = 0; inside = omega arith; fails = q }

  pub all_append : (xs ys : List A) → all test (xs ++ ys) ≡ cond (all test xs) (all test ys) false
  unfolding all
  all_append [] ys = refl
  all_append (x ∷ xs) ys = rw (all_append xs ys) (both_assoc (test x) (all test xs) (all test ys))

  pub all_join : (xs ys : List A) → all test xs ≡ true → all test ys ≡ true → all test (xs ++ ys) ≡ true
  all_join xs ys e f = rw (all_append xs ys, e) f

  -- a part `&xs[m..m + n]`
  pub all-part : (m n : ℕ) (xs : List A) → all test xs ≡ true → all test (take n (drop m xs)) ≡ true
  all-part m n xs e = front n (drop m xs) (both_right (all test (take m xs)) (all test (drop m xs)) (cut m xs ∙ e))
    where
      cut : (k : ℕ) (ys : List A) → cond (all test (take k ys)) (all test (drop k ys)) false ≡ all test ys
      cut k ys = sym (all_append (take k ys) (drop k ys)) ∙ ap (all test) (take-append-drop k ys)

      front : (k : ℕ) (ys : List A) → all test ys ≡ true → all test (take k ys) ≡ true
      front k ys f = both_left (all test (take k ys)) (all test (drop k ys)) (cut k ys ∙ f)

  -- one element more, as a loop that counts up adds it
  pub all-last : (xs : List A) (x : A) → all test (xs ++ (x ∷ [])) ≡ cond (all test xs) (test x) false
  unfolding all
  all-last xs x = all_append xs (x ∷ []) ∙ ap (λ (t : Bool). cond (all test xs) t false) (both_one (test x))
