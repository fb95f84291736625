-- Laws of what DigitBlocks.antt defines.
use Rattle.std.specs.Prelude.{◌≡◌, List, ℕ, ◌+◌, ◌-◌, ◌*◌, ◌/◌, ◌%◌, ◌≤◌, ◌<◌, ℤ, pos, length, get_or, drop, set}
use Rattle.std.proofs.Math.Path.{refl, sym, ap}
use Rattle.std.proofs.Common.{◌∙◌, mul-le-mul_right, mod-lt, div-lt_iff_lt-mul, add-one}
use Rattle.std.proofs.Math.Decide.{dec_lt}
use Rattle.std.proofs.Math.Nat.{div-add-mod'}
use native.Mathlib.Omega.{arith}
use Rattle.std.proofs.Math.ListN.{length-set, length-drop}
use Rattle.std.proofs.Math.Seq.{get_or-set_same, get_or-set_other, get_or-drop, ext_get_or}
use Rattle.residues.specs.Digits.{low, rest, rests, digit, split}
use Rattle.residues.proofs.Laws.DigitLaws.{digit_low, digit-last, length-split, get_d_split}
use Rattle.residues.specs.DigitBlocks.{Peeled}

pub record Splitting (b t w k : ℕ) (old new : List ℤ) : Type 0 where
  pub same : length new ≡ t * w
  pub lows : (e i : ℕ) → e < k → i < w → get_or new (e * w + i) (pos 0) ≡ low b (rests b e (get_or old ((t - 1) * w + i) (pos 0)))
  pub left : (i : ℕ) → i < w → get_or new ((t - 1) * w + i) (pos 0) ≡ rests b k (get_or old ((t - 1) * w + i) (pos 0))

module _ (b to from : ℕ) (old : List ℤ) where
  pub peel_start : Peeled b to from 0 old old
  peel_start =
      record {
        same = refl;
        lows = λ i h. let no : ⊥ = omega arith in absurd no;
        left = λ i h. let no : ⊥ = omega arith in absurd no;
        before = λ p h. refl;
        after = λ p h. refl;
      }

  module _ (n w : ℕ) (new : List ℤ) (l r : ℤ) (apart : to + w ≤ from) (fits : from + w ≤ length old) (inside : n < w)
      (sofar : Peeled b to from n old new) (is-low : l ≡ low b (get_or new (from + n) (pos 0)))
      (is-rest : r ≡ rest b (get_or new (from + n) (pos 0))) where
    next : List ℤ
    next = set (set new (to + n) l) (from + n) r

    other : (p : ℕ) → (p ≡ to + n → ⊥) → (p ≡ from + n → ⊥) → get_or next p (pos 0) ≡ get_or new p (pos 0)
    unfolding next
    other p h k = get_or-set_other (set new (to + n) l) (from + n) p r (pos 0) k ∙ get_or-set_other new (to + n) p l (pos 0) h

    at_low : get_or next (to + n) (pos 0) ≡ low b (get_or old (from + n) (pos 0))
    unfolding next
    at_low =
        get_or-set_other (set new (to + n) l) (from + n) (to + n) r (pos 0) (λ e. let no : ⊥ = omega arith in no)
        ∙ get_or-set_same new (to + n) l (pos 0) (omega (arith, sofar.same))
        ∙ is-low ∙ ap (low b) (sofar.after (from + n) (omega arith))

    at_rest : get_or next (from + n) (pos 0) ≡ rest b (get_or old (from + n) (pos 0))
    unfolding next
    at_rest =
        get_or-set_same (set new (to + n) l) (from + n) r (pos 0) (omega (arith, sofar.same, length-set new (to + n) l))
        ∙ is-rest ∙ ap (rest b) (sofar.after (from + n) (omega arith))

    low_of : (i : ℕ) → i < n + 1 → Dec (i < n) → get_or next (to + i) (pos 0) ≡ low b (get_or old (from + i) (pos 0))
    low_of i h (yes k) = other (to + i) (λ e. let no : ⊥ = omega arith in no) (λ e. let no : ⊥ = omega arith in no) ∙ sofar.lows i k
    low_of i h (no k) = let e : i ≡ n = omega arith in rw e at_low

    rest_of : (i : ℕ) → i < n + 1 → Dec (i < n) → get_or next (from + i) (pos 0) ≡ rest b (get_or old (from + i) (pos 0))
    rest_of i h (yes k) = other (from + i) (λ e. let no : ⊥ = omega arith in no) (λ e. let no : ⊥ = omega arith in no) ∙ sofar.left i k
    rest_of i h (no k) = let e : i ≡ n = omega arith in rw e at_rest

    pub peel_step : Peeled b to from (n + 1) old (set (set new (to + n) l) (from + n) r)
    unfolding next
    peel_step =
        record {
          same = length-set (set new (to + n) l) (from + n) r ∙ length-set new (to + n) l ∙ sofar.same;
          lows = λ i h. low_of i h (dec_lt i n);
          left = λ i h. rest_of i h (dec_lt i n);
          before = λ p h. other p (λ e. let no : ⊥ = omega arith in no) (λ e. let no : ⊥ = omega arith in no) ∙ sofar.before p h;
          after = λ p h. other p (λ e. let no : ⊥ = omega arith in no) (λ e. let no : ⊥ = omega arith in no) ∙ sofar.after p (omega arith);
        }

-- part k ends before the last begins
pub digit-block-fits : (t w k : ℕ) → k + 1 < t → k * w + w ≤ (t - 1) * w
digit-block-fits t w k h = let l : k + 1 ≤ t - 1 = omega arith in omega (arith, mul-le-mul_right w l)

pub last_fits : (t w : ℕ) → 0 < t → (t - 1) * w + w ≡ t * w
last_fits t w h = let e : t - 1 + 1 ≡ t = omega arith in omega (arith, ap (λ (s : ℕ). s * w) e)

module _ (b t w : ℕ) (old : List ℤ) where
  pub split-start : length old ≡ t * w → Splitting b t w 0 old old
  unfolding rests
  split-start e = record { same = e; lows = λ e i h k. let no : ⊥ = omega arith in absurd no; left = λ i h. refl }

  module _ (k : ℕ) (new next : List ℤ) (inside : k + 1 < t) (sofar : Splitting b t w k old new)
      (peeled : Peeled b (k * w) ((t - 1) * w) w new next) where
    low_of_digit : (e i : ℕ) → e < k + 1 → i < w → Dec (e < k)
        → get_or next (e * w + i) (pos 0) ≡ low b (rests b e (get_or old ((t - 1) * w + i) (pos 0)))
    low_of_digit e i h l (yes m) = peeled.before (e * w + i) (omega (arith, mul-le-mul_right w m)) ∙ sofar.lows e i m l
    low_of_digit e i h l (no m) =
        let q : e ≡ k = omega arith in rw q (peeled.lows i l ∙ ap (low b) (sofar.left i l))

    pub split_step : Splitting b t w (k + 1) old next
    unfolding rests
    split_step =
        record {
          same = peeled.same ∙ sofar.same;
          lows = λ e i h l. low_of_digit e i h l (dec_lt e k);
          left = λ i h. rw (add-one k) (peeled.left i h ∙ ap (rest b) (sofar.left i h));
        }

  module _ (k : ℕ) (new : List ℤ) (b>1 : 2 ≤ b) (t>0 : 0 < t) (all : t ≤ k + 1) (inside : k < t) (whole : length old ≡ t * w)
      (done : Splitting b t w k old new) where
    last : t - 1 ≡ k
    last = omega arith

    numbers : List ℤ
    numbers = drop ((t - 1) * w) old

    wide : length numbers ≡ w
    unfolding numbers
    wide =
        let size : t ≡ k + 1 = omega arith in
        omega (arith, length-drop ((t - 1) * w) old, ap (λ (s : ℕ). s * w) last, ap (λ (s : ℕ). s * w) size)

    number_at : (i : ℕ) → get_or numbers i (pos 0) ≡ get_or old ((t - 1) * w + i) (pos 0)
    unfolding numbers
    number_at i = get_or-drop ((t - 1) * w) old i (pos 0)

    entry : (e i : ℕ) → e < t → i < w → Dec (e < k) → get_or new (e * w + i) (pos 0) ≡ digit b t e (get_or old ((t - 1) * w + i) (pos 0))
    entry e i h l (yes m) = done.lows e i m l ∙ sym (digit_low b b>1 t e _ (omega arith))
    entry e i h l (no m) =
        let q : e ≡ t - 1 = omega arith in
        let r : e ≡ k = omega arith in
        ap (λ (s : ℕ). get_or new (s * w + i) (pos 0)) q
        ∙ done.left i l
        ∙ ap (λ (s : ℕ). rests b s (get_or old ((t - 1) * w + i) (pos 0))) (sym r)
        ∙ sym (digit-last b b>1 t e _ (omega arith))

    same-entry : (e i : ℕ) → e < t → i < w → get_or new (e * w + i) (pos 0) ≡ get_or (split b t numbers) (e * w + i) (pos 0)
    same-entry e i h l =
        entry e i h l (dec_lt e k)
        ∙ ap (digit b t e) (sym (number_at i))
        ∙ sym (rw wide at (get_d_split b t numbers e i h (omega (arith, wide))))

    positive : (p : ℕ) → p < t * w → 0 < w
    positive p h = cases (dec_lt 0 w)
      where
        cases : Dec (0 < w) → 0 < w
        cases (yes l) = l
        cases (no l) =
            let z : w ≡ 0 = omega arith in
            let no : ⊥ = omega (arith, ap (λ (s : ℕ). t * s) z) in
            absurd no

    pub split-end : new ≡ split b t (drop ((t - 1) * w) old)
    unfolding numbers
    split-end =
        ext_get_or (pos 0) new (split b t numbers)
        (done.same ∙ sym (length-split b t numbers ∙ ap (λ (s : ℕ). t * s) wide))
        (λ p h.
        let below : p < t * w = omega (arith, done.same) in
        let some = positive p below in
        rw (← div-add-mod' p w) (same-entry (p / w) (p % w) ((div-lt_iff_lt-mul some).1 below) (mod-lt p some)))
