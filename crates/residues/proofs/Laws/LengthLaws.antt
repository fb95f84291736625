-- Laws of the comparison of a squared length with a bound.
--     remaining-within, remaining-above    the two answers
--     lessened-within, lessened-above      one more length, by the margin's variant
--     lessened-remaining    one bound for two lengths: lessening by each is comparing the sum
--     holds-remaining       the answer as a test
--     Compared              the invariant of the loop of `compare`, with its start, its step and its two ends
use Rattle.std.specs.Prelude.{◌≡◌, refl, Bool, true, false, List, ℕ, suc, ◌+◌, ◌-◌, ◌≤◌, ◌<◌, leb, length, get_or, take, ℤ, pos, Option, Some, None}
use Rattle.std.proofs.Common.{sym, ap, ◌∙◌, add-one, arith, take_all, le-leb, leb-true, leb-false}
use Rattle.std.proofs.lemmas.Bool.{lt-leb}
use Rattle.integers.specs.Sums.{norm_sq, sq}
use Rattle.integers.specs.Laws.SumLaws.{norm_sq-take-suc, norm_sq-take-le}
use Rattle.residues.specs.Length.{margin_if, remaining, lessened, holds}

-- ---- the two answers

pub remaining-within : (b n : ℕ) → n ≤ b → remaining b n ≡ Some (b - n)
unfolding remaining
remaining-within b n h = ap (λ (t : Bool). margin_if t (Some (b - n))) (le-leb n b h)

pub remaining-above : (b n : ℕ) → b < n → remaining b n ≡ None
unfolding remaining
remaining-above b n h = ap (λ (t : Bool). margin_if t (Some (b - n))) (lt-leb n b h)

pub holds-remaining : (b n : ℕ) → holds (remaining b n) ≡ leb n b
unfolding remaining
holds-remaining b n = holds-margin_if (leb n b)
  where
    holds-margin_if : (t : Bool) → holds (margin_if t (Some (b - n))) ≡ t
    holds-margin_if true = refl
    holds-margin_if false = refl

pub lessened-within : (n : ℕ) {margin : Option ℕ} {rest : ℕ} → margin ≡ Some rest → remaining rest n ≡ lessened margin n
unfolding lessened
lessened-within n e = rw e refl

pub lessened-above : (n : ℕ) {margin : Option ℕ} → margin ≡ None → None ≡ lessened margin n
unfolding lessened
lessened-above n e = rw e refl

-- ---- several lengths against one bound

-- what is left after m, against n
left_over : (b m n : ℕ) → m ≤ b → (t : Bool) → leb n (b - m) ≡ t → remaining (b - m) n ≡ remaining b (m + n)
left_over b m n h true e =
    let k : n ≤ b - m = leb-true n (b - m) e in
    let s : b - m - n ≡ b - (m + n) = omega arith in
    remaining-within (b - m) n k ∙ ap Some s ∙ sym (remaining-within b (m + n) (omega arith))
left_over b m n h false e =
    let k : b - m < n = leb-false n (b - m) e in
    remaining-above (b - m) n k ∙ sym (remaining-above b (m + n) (omega arith))

lessened_if : (b m n : ℕ) (t : Bool) → leb m b ≡ t → lessened (remaining b m) n ≡ remaining b (m + n)
unfolding lessened
lessened_if b m n true e = let h : m ≤ b = leb-true m b e in rw (remaining-within b m h) (left_over b m n h (leb n (b - m)) refl)
lessened_if b m n false e =
    let h : b < m = leb-false m b e in
    rw (remaining-above b m h) (sym (remaining-above b (m + n) (omega arith)))

pub lessened-remaining : (b m n : ℕ) → lessened (remaining b m) n ≡ remaining b (m + n)
lessened-remaining b m n = lessened_if b m n (leb m b) refl

-- ---- the loop of `compare`: the first i numbers are paid for, and rest is left of the bound

pub record Compared (bound : ℕ) (xs : List ℤ) (rest i : ℕ) : Type 0 where
  pub below : i ≤ length xs
  pub paid : rest + norm_sq (take i xs) ≡ bound

pub compared_start : (bound : ℕ) (xs : List ℤ) → Compared bound xs bound 0
unfolding norm_sq
compared_start bound xs = record { below = omega arith; paid = omega arith }

module _ (bound : ℕ) (xs : List ℤ) (rest i s : ℕ) (inv : Compared bound xs rest i) where
  -- the next square fits into what is left
  pub compared_step : i < length xs → s ≡ sq (get_or xs i (pos 0)) → s ≤ rest → Compared bound xs (rest - s) (i + 1)
  compared_step h e k =
      record { below = omega arith; paid = rw add-one (omega (arith, inv.paid, norm_sq-take-suc xs i h)) }

  -- it does not: the whole is above the bound
  pub compared_above : i < length xs → s ≡ sq (get_or xs i (pos 0)) → rest < s → None ≡ remaining bound (norm_sq xs)
  compared_above h e k =
      sym (remaining-above bound (norm_sq xs) (omega (arith, inv.paid, norm_sq-take-suc xs i h, norm_sq-take-le xs (suc i))))

-- all numbers are paid for
pub compared_end : (bound : ℕ) (xs : List ℤ) (rest i : ℕ) → Compared bound xs rest i → length xs ≤ i
    → Some rest ≡ remaining bound (norm_sq xs)
compared_end bound xs rest i inv h =
    let e : rest + norm_sq xs ≡ bound = rw (take_all i xs) at inv.paid in
    let s : rest ≡ bound - norm_sq xs = omega arith in
    ap Some s ∙ sym (remaining-within bound (norm_sq xs) (omega arith))
