-- Laws of vectors of a fixed length.
use Rattle.std.specs.Prelude.{◌≡◌}
use Rattle.std.proofs.Math.Path.{refl, ap₂}
use Rattle.std.proofs.Common.{ap, arith}
use mathlib.Core.HLevel.{prop→set, Σ_set}
use Prim.Native.Nat.{ℕ, zero, suc, ◌≤◌, ◌<◌}
use Rattle.algebra.specs.Vec.{Vec, nil, cons, build, at, map, zip_with}

-- a type that maps into a set and back is a set
retract_set : {B C : Type 0} (f : B → C) (g : C → B) → ((x : B) → g (f x) ≡ x) → IsSet C → IsSet B
retract_set f g r s x y p q = λ j i.
    hcom 0 1 (g (s (f x) (f y) (ap f p) (ap f q) j i)) [
      | i = 0 ↦ k. r x k
      | i = 1 ↦ k. r y k
      | j = 0 ↦ k. r (p i) k
      | j = 1 ↦ k. r (q i) k
    ]

module _ {A : Type 0} where
  pub at-build : (z : A) (n : ℕ) (f : ℕ → A) {k : ℕ} → k < n → at z (build n f) k ≡ f k
  unfolding at build
  at-build z zero f h = absurd (omega arith)
  at-build z (suc n) f {k = zero} h = refl
  at-build z (suc n) f {k = suc k} h = at-build z n (λ j. f (suc j)) (omega arith)

  pub at-past : (z : A) {n : ℕ} (u : Vec A n) {k : ℕ} → n ≤ k → at z u k ≡ z
  unfolding at
  at-past z nil h = refl
  at-past z (cons a u) {k = zero} h = absurd (omega arith)
  at-past z (cons a u) {k = suc k} h = at-past z u (omega arith)

  -- vectors with the same entries are equal
  pub ext : (z : A) {n : ℕ} (u v : Vec A n) → ((k : ℕ) → k < n → at z u k ≡ at z v k) → u ≡ v
  unfolding at
  ext z nil nil h = refl
  ext z (cons a u) (cons b v) h = ap₂ {C = Vec A _} cons (h zero (omega arith)) (ext z u v (λ k l. h (suc k) (omega arith)))

  -- vectors over a set form a set: a vector is its head and its tail
  split : {n : ℕ} → Vec A (suc n) → A × Vec A n
  split (cons a u) = (a, u)

  join : {n : ℕ} → A × Vec A n → Vec A (suc n)
  join p = cons p.0 p.1

  join-split : {n : ℕ} (u : Vec A (suc n)) → join (split u) ≡ u
  unfolding join split
  join-split (cons a u) = refl

  nil_prop : IsProp (Vec A zero)
  nil_prop nil nil = refl

  pub Vec-set : {n : ℕ} → IsSet A → IsSet (Vec A n)
  Vec-set {n = zero} s = prop→set nil_prop
  Vec-set {n = suc n} s = retract_set split join join-split (Σ_set s (λ _. Vec-set {n = n} s))

module _ {A B : Type 0} where
  pub at_map : (f : A → B) (z : A) {n : ℕ} (u : Vec A n) (k : ℕ) → at (f z) (map f u) k ≡ f (at z u k)
  unfolding at map
  at_map f z nil k = refl
  at_map f z (cons a u) zero = refl
  at_map f z (cons a u) (suc k) = at_map f z u k

module _ {A B C : Type 0} where
  pub at_zip_with : (f : A → B → C) (y : A) (z : B) {n : ℕ} (u : Vec A n) (v : Vec B n) (k : ℕ)
      → at (f y z) (zip_with f u v) k ≡ f (at y u k) (at z v k)
  unfolding at zip_with
  at_zip_with f y z nil nil k = refl
  at_zip_with f y z (cons a u) (cons b v) zero = refl
  at_zip_with f y z (cons a u) (cons b v) (suc k) = at_zip_with f y z u v k
