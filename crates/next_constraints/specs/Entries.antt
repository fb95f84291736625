-- What every call of a function does, by its `post`, where it is called for each entry of a table.
--     Gives           at k it returns element k of a table
--     GivesPairs      at i ≤ j it returns the element of that pair
--     WritesBlocks    at k it writes block k, of w elements, from a place on that is counted in elements
use Rattle.std.specs.Prelude.{◌≡◌, ℕ, ◌+◌, ◌*◌, ◌<◌, ◌≤◌, List, length, ℤ}
use denote.Ref.{MutBor}
use Rattle.integers.specs.Over.{over}
use Rattle.ring.specs.Element.{R, array}
use Rattle.ring.specs.declared.element.Element.{Element}

pub record Gives (d n : ℕ) (post : ℕ → Element → Type 0) (x : ℕ → (R d).Carrier) : Type 0 where
  pub given : (k : ℕ) → k < n → (e : Element) → post k e → e.coefficients ≡ array d (x k)

pub record GivesPairs (d r : ℕ) (post : ℕ → ℕ → Element → Type 0) (x : ℕ → ℕ → (R d).Carrier) : Type 0 where
  pub given : (i j : ℕ) → i ≤ j → j < r → (e : Element) → post i j e → e.coefficients ≡ array d (x i j)

pub record WritesBlocks (d n w : ℕ) (post : ℕ → ℕ → MutBor (List ℤ) → Unit {0} → MutBor (List ℤ) → Type 0) (block : ℕ → List ℤ) : Type 0 where
  pub length_is : (k : ℕ) → length (block k) ≡ w * d
  pub written : (k place : ℕ) (out : MutBor (List ℤ)) (r : Unit {0}) (after : MutBor (List ℤ)) → k < n → (place + w) * d ≤ length out.now
      → post k place out r after → after.now ≡ over out.now (place * d) (block k)
