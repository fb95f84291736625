-- Vectors of a fixed length over any type. They are read by index, with a default past the end, so that no index carries a proof.
use Rattle.std.specs.Prelude.{ℕ, zero, suc}

pub data Vec (A : Type 0) : ℕ → Type 0 where
  nil : Vec A zero
  cons : {n : ℕ} → A → Vec A n → Vec A (suc n)

module _ {A : Type 0} where
  -- f 0, .., f (n-1)
  unfoldable pub build : (n : ℕ) → (ℕ → A) → Vec A n
  build zero f = nil
  build (suc n) f = cons (f zero) (build n (λ k. f (suc k)))

  -- entry k, and z past the end
  unfoldable pub at : {n : ℕ} → A → Vec A n → ℕ → A
  at z nil k = z
  at z (cons a u) zero = a
  at z (cons a u) (suc k) = at z u k

module _ {A B : Type 0} where
  unfoldable pub map : (A → B) → {n : ℕ} → Vec A n → Vec B n
  map f nil = nil
  map f (cons a u) = cons (f a) (map f u)

module _ {A B C : Type 0} where
  unfoldable pub zip_with : (A → B → C) → {n : ℕ} → Vec A n → Vec B n → Vec C n
  zip_with f nil nil = nil
  zip_with f (cons a u) (cons b v) = cons (f a b) (zip_with f u v)
