-- Laws of the messages of a fold: lists filled before a call, messages read and kept.
use Rattle.std.specs.Prelude.{◌≡◌, Bool, true, false, List, ℕ, zero, suc, ◌+◌, ◌-◌, ◌≤◌, min, ltb, ℤ, pos, length, drop, get_or, replicate}
use Rattle.std.proofs.Math.Path.{refl, ap}
use Rattle.std.proofs.Common.{sym, ◌∙◌, add-one, take_at, take_all, length-take-le, ltb-true, ltb-false}
use Rattle.std.proofs.Math.Nat.{sub-zero}
use native.Mathlib.Omega.{arith}
use Rattle.std.proofs.Math.ListN.{take}
use Rattle.std.proofs.lemmas.List.{length-replicate, replicate-append-replicate}
use Rattle.std.proofs.Math.Seq.{take-length}
use Rattle.integers.specs.Laws.ListLaws.{tab_get_d, take-tab}
use Rattle.integers.specs.Over.{over}
use Rattle.cases.specs.Numbers.{padded, size_at}
use Rattle.cases.specs.Laws.NumberLaws.{size-bound}
use Rattle.next_cases.specs.Messages.{filled, start_of, message_of, opening_of, kept}

-- ---- a list to write is the front of a filled array, of any length, so that none is written out

pub front-filled : (room n : ℕ) → n ≤ room → take n (replicate room (pos 77)) ≡ filled n
unfolding filled
front-filled room n h =
    let e : room ≡ n + (room - n) = omega arith in
    ap (λ (k : ℕ). take n (replicate k (pos 77))) e
    ∙ ap (λ (l : List ℤ). take n l) (sym (replicate-append-replicate n (room - n) (pos 77)))
    ∙ take_at (replicate n (pos 77)) (replicate (room - n) (pos 77)) n (length-replicate n (pos 77))

pub array_long : (n : ℕ) → n ≡ length (replicate n (pos 77))
array_long n = sym (length-replicate n (pos 77))

pub length-filled : (n : ℕ) → length (filled n) ≡ n
unfolding filled
length-filled n = length-replicate n (pos 77)

pub front_fits : (room n : ℕ) → n ≤ room → n ≡ length (take n (replicate room (pos 77)))
front_fits room n h = sym (length-take-le n (replicate room (pos 77)) (rw (length-replicate room (pos 77)) h))

-- the same for the length that a case gives
module _ (room : ℕ) (lengths : List ℤ) (k : ℕ) {n : ℕ} (e : n ≡ size_at room lengths k) where
  pub blank-inside : n ≤ room
  blank-inside = omega (arith, e, size-bound room lengths k)

  pub blank-fits : n ≡ length (take n (replicate room (pos 77)))
  blank-fits = front_fits room n blank-inside

  pub blank-is : take n (replicate room (pos 77)) ≡ filled (size_at room lengths k)
  blank-is = front-filled room n blank-inside ∙ ap filled e

-- ---- where the messages stand

pub start-inside : (room : ℕ) (lengths : List ℤ) (k : ℕ) → start_of room lengths k ≤ room
unfolding start_of
start-inside room lengths zero = omega arith
start-inside room lengths (suc k) =
    omega (arith, start-inside room lengths k, size-bound (room - start_of room lengths k) lengths k)

pub start_fits : (room : ℕ) (lengths : List ℤ) (k : ℕ) {at : ℕ} → at ≡ start_of room lengths k → at ≤ room
start_fits room lengths k e = omega (arith, e, start-inside room lengths k)

pub start_none : (room : ℕ) (lengths : List ℤ) → 0 ≡ start_of room lengths 0
unfolding start_of
start_none room lengths = refl

pub start-next : (room : ℕ) (lengths : List ℤ) (i : ℕ) {sum size : ℕ} → sum ≡ start_of room lengths i → size ≡ size_at (room - sum) lengths i
    → sum + size ≡ start_of room lengths (i + 1)
unfolding start_of
start-next room lengths i {sum} e f = rw (add-one i, ← e) (ap (λ (n : ℕ). sum + n) f)

module _ (messages lengths : List ℤ) where
  pub opening-is : {end : ℕ} → end ≡ start_of (length messages) lengths 4 → take (end - 0) messages ≡ opening_of messages lengths
  unfolding opening_of
  opening-is {end} e = ap (λ (n : ℕ). take n messages) (sub-zero end ∙ e)

  module _ (k : ℕ) {start : ℕ} (e : start ≡ start_of (length messages) lengths k) where
    pub message-inside : {size : ℕ} → size ≡ size_at (length messages - start) lengths k → start + size ≤ length messages
    message-inside f =
        omega (arith, e, f, start-inside (length messages) lengths k, size-bound (length messages - start) lengths k)

    pub message-is : {size : ℕ} → size ≡ size_at (length messages - start) lengths k
        → take (start + size - start) (drop start messages) ≡ message_of messages lengths k
    unfolding message_of
    message-is {size} f =
        let count : start + size - start ≡ size = omega arith in
        rw (count, f, e) refl

-- ---- a message kept

pub take_min : (k : ℕ) (xs : List ℤ) → take (min (length xs) k) xs ≡ take k xs
take_min k xs = either (ltb k (length xs)) refl
  where
    either : (t : Bool) → ltb k (length xs) ≡ t → take (min (length xs) k) xs ≡ take k xs
    either true e =
        let q : min (length xs) k ≡ k = omega (arith, ltb-true k (length xs) e) in
        ap (λ (n : ℕ). take n xs) q
    either false e =
        let h : length xs ≤ k = ltb-false k (length xs) e in
        let q : min (length xs) k ≡ length xs = omega arith in
        ap (λ (n : ℕ). take n xs) q ∙ take-length xs ∙ sym (take_all k xs h)

pub padded-front : (k : ℕ) (xs : List ℤ) → padded (min (length xs) k) xs ≡ take k xs
unfolding padded
padded-front k xs =
    let h : min (length xs) k ≤ length xs = omega arith in
    sym (take-tab (min (length xs) k) (length xs) (λ i. get_or xs i (pos 0)) h)
    ∙ ap (λ (l : List ℤ). take (min (length xs) k) l) (tab_get_d xs (pos 0)) ∙ take_min k xs

pub kept-is : (m lengths : List ℤ) (k : ℕ) (xs : List ℤ) {at : ℕ} {m' : List ℤ} → at ≡ start_of (length m) lengths k
    → m' ≡ over m at (padded (min (length xs) (length m - at)) xs) → m' ≡ kept m lengths k xs
unfolding kept
kept-is m lengths k xs {at} e f = f ∙ ap (λ (l : List ℤ). over m at l) (padded-front (length m - at) xs) ∙ rw e refl

-- one more is kept
pub kept_again : (lengths : List ℤ) (k : ℕ) (xs : List ℤ) {m m₁ m₂ : List ℤ} → m₁ ≡ m → m₂ ≡ kept m₁ lengths k xs → m₂ ≡ kept m lengths k xs
kept_again lengths k xs e f = f ∙ ap (λ (l : List ℤ). kept l lengths k xs) e
