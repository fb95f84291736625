-- Laws of a list written at a place of another. A loop that fills a slice, one element or one part at a time, has the invariant
-- `now ≡ over out a (what is written)`:
--     over-nil         nothing is written yet
--     over-step        one more element, by `set`
--     over-over        one more part, by a callee
--     over_slice       what comes back from a callee that was lent `&mut out[a..e]`
use Rattle.std.specs.Prelude.{◌≡◌, get_or, set}
use Rattle.std.proofs.Math.Path.{refl, sym, ap}
use Rattle.std.proofs.Common.{◌∙◌, zero-add, add-one, length-drop, take-append-drop, length-take-le, take_at, drop_at, get_or-append-add, drop-drop}
use mathlib.Core.List.{List, [], ◌∷◌, ◌++◌, append_assoc, append-nil}
use Prim.Native.Nat.{ℕ, suc, ◌+◌, ◌≤◌, ◌<◌}
use Rattle.std.proofs.Math.Nat.{add-zero, add_assoc}
use native.Mathlib.Omega.{arith}
use Rattle.std.proofs.Math.ListN.{length, take, drop, length-append, length-take, get_or-append, drop_of_length-le}
use Rattle.std.proofs.Math.Seq.{drop-cons, set_at}
use Rattle.integers.specs.Lists.{tab}
use Rattle.integers.specs.Laws.ListLaws.{tab-suc, length-tab}
use Rattle.integers.specs.Over.{over}

module _ {ℓ} {A : Type ℓ} where
  pub over-is : (out : List A) (a : ℕ) (l : List A) → over out a l ≡ take a out ++ (l ++ drop (a + length l) out)
  unfolding over
  over-is out a l = refl

  -- what is written, with all that stands before it
  front : List A → ℕ → List A → List A
  front out a l = take a out ++ l

  length_front : (out : List A) (a : ℕ) (l : List A) → a ≤ length out → length (front out a l) ≡ a + length l
  unfolding front
  length_front out a l h = length-append (take a out) l ∙ ap (λ (n : ℕ). n + length l) (length-take-le a out h)

  over-front : (out : List A) (a : ℕ) (l : List A) → over out a l ≡ front out a l ++ drop (a + length l) out
  unfolding over front
  over-front out a l = sym (append_assoc (take a out) l (drop (a + length l) out))

  -- ---- the three parts, and the length

  pub length_over : (out : List A) (a : ℕ) (l : List A) → a + length l ≤ length out → length (over out a l) ≡ length out
  unfolding over
  length_over out a l h = simp (length-append, length-take, length-drop) (omega arith)

  pub drop-over : (out : List A) (a : ℕ) (l : List A) → a ≤ length out → drop (a + length l) (over out a l) ≡ drop (a + length l) out
  drop-over out a l h = rw (over-front out a l) (drop_at (front out a l) (drop (a + length l) out) (a + length l) (length_front out a l h))

  pub drop-over-add : (out : List A) (a : ℕ) (l : List A) (k : ℕ) → a ≤ length out
      → drop (a + length l + k) (over out a l) ≡ drop (a + length l + k) out
  drop-over-add out a l k h = cc (drop-drop k (a + length l) (over out a l), drop-drop k (a + length l) out, drop-over out a l h)

  pub part-over : (out : List A) (a : ℕ) (l : List A) (n : ℕ) → a ≤ length out → length l ≡ n → take n (drop a (over out a l)) ≡ l
  unfolding over
  part-over out a l n h e =
      rw (drop_at (take a out) (l ++ drop (a + length l) out) a (length-take-le a out h)) (take_at l (drop (a + length l) out) n e)

  -- ---- one more element, one more part

  pub over-nil : (out : List A) (a : ℕ) → over out a [] ≡ out
  unfolding over
  over-nil out a = rw add-zero (take-append-drop a out)

  -- all of a list replaced
  pub over-all : (out l : List A) → length l ≡ length out → over out 0 l ≡ l
  unfolding over
  over-all out l e = let h : length out ≤ length l = omega arith in rw (zero-add (length l), drop_of_length-le out h) (append-nil l)

  pub over-over : (out : List A) (a : ℕ) (l m : List A) → a ≤ length out → over (over out a l) (a + length l) m ≡ over out a (l ++ m)
  unfolding front
  over-over out a l m h =
      let n = a + length l in
      let rest = drop (n + length m) out in
      let before : take n (over out a l) ≡ take a out ++ l =
      rw (over-front out a l) (take_at (front out a l) (drop n out) n (length_front out a l h)) in
      cc (
        over-is (over out a l) n m,
        before,
        drop-over-add out a l (length m) h,
        over-is out a (l ++ m),
        length-append l m,
        add_assoc a (length l) (length m),
        append_assoc (take a out) l (m ++ rest),
        append_assoc l m rest,
      )

  pub over-step : (out : List A) (a : ℕ) (l : List A) (x : A) → a + length l < length out
      → set (over out a l) (a + length l) x ≡ over out a (l ++ (x ∷ []))
  unfolding front
  over-step out a l x h =
      let n = a + length l in
      let rest = drop (suc n) out in
      let next : a + length (l ++ (x ∷ [])) ≡ suc n = omega (arith, length-append l (x ∷ [])) in
      let fits : a ≤ length out = omega arith in
      cc (
        over-front out a l,
        drop-cons out n x h,
        set_at (front out a l) (get_or out n x) rest x n (length_front out a l fits),
        over-is out a (l ++ (x ∷ [])),
        next,
        append_assoc (take a out) l (x ∷ rest),
        append_assoc l (x ∷ []) rest,
      )

  -- the same where l is the list of f 0, .., f (k - 1)
  pub over-tab : (out : List A) (a k : ℕ) (f : ℕ → A) (v : A) → a + k < length out → v ≡ f k
      → set (over out a (tab k f)) (a + k) v ≡ over out a (tab (k + 1) f)
  over-tab out a k f v h e =
      let fits : a + length (tab k f) < length out = omega (arith, length-tab k f) in
      cc (over-step out a (tab k f) v fits, length-tab k f, tab-suc k f, add-one k, e)

  -- ---- a part that was lent

  -- the form in which a part that was lent comes back
  pub over_slice : (out : List A) (a k : ℕ) (l : List A) → length l ≡ k → take a out ++ (l ++ drop k (drop a out)) ≡ over out a l
  unfolding over
  over_slice out a k l q = rw (drop-drop, q)

  -- ---- elements

  pub get_d_over : (out : List A) (a : ℕ) (l : List A) (i : ℕ) (z : A) → a ≤ length out → i < length l
      → get_or (over out a l) (a + i) z ≡ get_or l i z
  get_d_over out a l i z h b =
      let rest = drop (a + length l) out in
      cc (over-is out a l, length-take-le a out h, get_or-append-add (take a out) (l ++ rest) i z, get_or-append l rest z i b)
