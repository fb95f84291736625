-- Laws of texts: numbers read byte by byte, and lines found.
use Rattle.std.specs.Prelude.{◌≡◌, Bool, ◌||◌, List, [], ◌∷◌, map, eqb, leb, ℤ, pos, neg_ℤ, length, take, drop, replicate, set}
use Rattle.std.proofs.Math.Path.{refl, sym}
use Rattle.std.proofs.Common.{ap, ◌∙◌, add-one, add-zero, length-drop, drop_of_length-le, drop-cons, drop-drop, get_or-drop, take_all}
use Rattle.std.proofs.Math.Bool.{true, false, cond}
use Prim.Native.Nat.{ℕ, suc, ◌+◌, ◌*◌, ◌-◌, ◌≤◌, ◌<◌, min}
use native.Mathlib.Omega.{arith}
use Rattle.std.proofs.Math.Dec.{ltb}
use Rattle.std.proofs.Math.ListN.{get_or, get_or-eq_default}
use Rattle.std.proofs.lemmas.List.{length-replicate, length-map}
use borrow.Author.Tests.{ltb-true, ltb-false, lt-ltb, le-ltb, le-leb, lt-leb, eq-eqb, ne_eqb}
use Rattle.integers.specs.Lists.{tab, upto}
use Rattle.integers.specs.Laws.ListLaws.{length-tab, tab_cong, upto-below, upto-above, fill_start, fill_step}
use Rattle.cases.specs.Numbers.{padded, word}
use Rattle.cases.specs.Text.{with_digit, with_sign, numbers_from, line_numbers, line_length, past_line, past_lines}

-- ---- one more digit

abbrev limit : ℕ
limit = 9223372036854775808

module _ (m byte : ℕ) where
  pub digit-below : byte < 48 → m ≡ with_digit m byte
  unfolding with_digit
  digit-below h = rw (lt-leb 48 byte h) refl

  pub digit-above : 57 < byte → m ≡ with_digit m byte
  unfolding with_digit
  digit-above h = neither (leb 48 byte)
    where
      neither : (t : Bool) → m ≡ cond (cond t (leb byte 57) false) (min limit (m * 10 + (byte - 48))) m
      neither true = rw (lt-leb byte 57 h) refl
      neither false = refl

  digit-is : 48 ≤ byte → byte ≤ 57 → with_digit m byte ≡ min limit (m * 10 + (byte - 48))
  unfolding with_digit
  digit-is h k = rw (le-leb 48 byte h, le-leb byte 57 k) refl

  pub digit_far : 48 ≤ byte → byte ≤ 57 → 922337203685477580 < m → 9223372036854775808 ≡ with_digit m byte
  digit_far h k large = omega (arith, digit-is h k)

  pub digit_large : 48 ≤ byte → byte ≤ 57 → 9223372036854775808 < m * 10 + (byte - 48) → 9223372036854775808 ≡ with_digit m byte
  digit_large h k large = omega (arith, digit-is h k)

  pub digit-small : 48 ≤ byte → byte ≤ 57 → m * 10 + (byte - 48) ≤ 9223372036854775808 → m * 10 + (byte - 48) ≡ with_digit m byte
  digit-small h k small = omega (arith, digit-is h k)

  digit-bound : m ≤ limit → with_digit m byte ≤ limit
  unfolding with_digit
  digit-bound h = step (cond (leb 48 byte) (leb byte 57) false)
    where
      step : (t : Bool) → cond t (min limit (m * 10 + (byte - 48))) m ≤ limit
      step true = omega arith
      step false = h

-- ---- the sign

pub sign-least : (m : ℕ) → m ≤ 9223372036854775808 → 9223372036854775807 < m → neg_ℤ (pos 9223372036854775808) ≡ with_sign true m
unfolding with_sign
sign-least m h k = let e : 9223372036854775808 ≡ min 9223372036854775808 m = omega arith in ap (λ (n : ℕ). neg_ℤ (pos n)) e

pub sign-largest : (m : ℕ) → 9223372036854775807 < m → pos 9223372036854775807 ≡ with_sign false m
unfolding with_sign
sign-largest m k = let e : 9223372036854775807 ≡ min 9223372036854775807 m = omega arith in ap (λ (n : ℕ). pos n) e

pub sign-minus : (m : ℕ) → m ≤ 9223372036854775807 → neg_ℤ (pos m) ≡ with_sign true m
unfolding with_sign
sign-minus m h = let e : m ≡ min 9223372036854775808 m = omega arith in ap (λ (n : ℕ). neg_ℤ (pos n)) e

pub sign_plain : (m : ℕ) → m ≤ 9223372036854775807 → pos m ≡ with_sign false m
unfolding with_sign
sign_plain m h = let e : m ≡ min 9223372036854775807 m = omega arith in ap (λ (n : ℕ). pos n) e

-- ---- numbers byte by byte: `count` are written into n zeros, and the first i bytes are read

pub record Scanning (line : List ℕ) (n : ℕ) (numbers : List ℤ) (minus : Bool) (m count i : ℕ) : Type 0 where
  pub filled : numbers ≡ tab n (upto count (λ k. get_or (line_numbers line) k (pos 0)) (pos 0))
  pub rest : drop count (line_numbers line) ≡ numbers_from minus m (drop i line)
  pub inside : i ≤ length line
  pub small : m ≤ 9223372036854775808

pub scan_start : (line : List ℕ) (n : ℕ) (numbers : List ℤ) → numbers ≡ replicate n (pos 0) → Scanning line n numbers false 0 0 0
unfolding line_numbers
scan_start line n numbers e = record {
  filled = e ∙ fill_start n (λ k. get_or (line_numbers line) k (pos 0)) (pos 0);
  rest = refl;
  inside = omega arith;
  small = omega arith;
}

none : (minus : Bool) (m : ℕ) → numbers_from minus m [] ≡ []
unfolding numbers_from
none minus m = refl

module _ {line : List ℕ} {n : ℕ} {numbers : List ℤ} {minus : Bool} {m count i : ℕ} (s : Scanning line n numbers minus m count i) where
  next : (h : i < length line) → drop i line ≡ get_or line i 0 ∷ drop (i + 1) line
  next h = rw (add-one i) (drop-cons line i 0 h)

  pub scan_digit : i < length line → 32 < get_or line i 0
      → Scanning line n numbers (minus || eqb (get_or line i 0) 45) (with_digit m (get_or line i 0)) count (i + 1)
  unfolding numbers_from
  scan_digit h k = record {
    filled = s.filled;
    rest = s.rest ∙ rw (next h, lt-ltb 32 (get_or line i 0) k) refl;
    inside = omega arith;
    small = digit-bound m (get_or line i 0) s.small;
  }

  ended : i < length line → get_or line i 0 ≤ 32 → drop count (line_numbers line) ≡ with_sign minus m ∷ numbers_from false 0 (drop (i + 1) line)
  unfolding numbers_from
  ended h k = s.rest ∙ rw (next h, le-ltb 32 (get_or line i 0) k) refl

  pub scan_blank : i < length line → get_or line i 0 ≤ 32 → count < n → {v : ℤ} → v ≡ with_sign minus m
      → Scanning line n (set numbers count v) false 0 (count + 1) (i + 1)
  scan_blank h k room {v} e =
      let numbers_of = line_numbers line in
      let first : with_sign minus m ≡ get_or numbers_of count (pos 0) =
      sym (ap (λ (l : List ℤ). get_or l 0 (pos 0)) (ended h k)) ∙ get_or-drop count numbers_of 0 (pos 0)
      ∙ ap (λ (j : ℕ). get_or numbers_of j (pos 0)) (add-zero count) in
      record {
        filled = fill_step n count (λ k. get_or numbers_of k (pos 0)) (pos 0) v numbers s.filled room (e ∙ first);
        rest = sym (drop-drop 1 count numbers_of) ∙ ap (λ (l : List ℤ). drop 1 l) (ended h k);
        inside = omega arith;
        small = omega arith;
      }

  all-written : ((k : ℕ) → k < n → count ≤ k → get_or (line_numbers line) k (pos 0) ≡ pos 0) → numbers ≡ padded n (line_numbers line)
  unfolding padded
  all-written zeros = s.filled ∙ tab_cong n _ _ (λ k h. either k h (ltb k count) refl)
    where
      either : (k : ℕ) → k < n → (t : Bool) → ltb k count ≡ t
          → upto count (λ j. get_or (line_numbers line) j (pos 0)) (pos 0) k ≡ get_or (line_numbers line) k (pos 0)
      either k h true e = upto-below count _ _ k (ltb-true k count e)
      either k h false e = upto-above count _ _ k (ltb-false k count e) ∙ sym (zeros k h (ltb-false k count e))

  pub scan_full : n ≤ count → numbers ≡ padded n (line_numbers line)
  scan_full h = all-written (λ k below above. let no : ⊥ = omega arith in absurd no)

  pub scan_end : length line ≤ i → numbers ≡ padded n (line_numbers line)
  scan_end h = all-written (λ k below above. get_or-eq_default (line_numbers line) (pos 0) (omega (arith, short)))
    where
      short : length (line_numbers line) ≤ count
      short = omega (
        arith,
        length-drop count (line_numbers line),
        ap (λ (l : List ℤ). length l) (s.rest ∙ ap (λ (l : List ℕ). numbers_from minus m l) (drop_of_length-le line h) ∙ none minus m),
      )

-- ---- lines

module _ (text : List ℕ) (i : ℕ) (e : line_length text ≡ i + line_length (drop i text)) where
  pub line_other : i < length text → (get_or text i 0 ≡ 10 → ⊥) → line_length text ≡ (i + 1) + line_length (drop (i + 1) text)
  unfolding line_length
  line_other h other =
      let s : line_length (drop i text) ≡ suc (line_length (drop (suc i) text)) =
      rw (drop-cons text i 0 h, ne_eqb (get_or text i 0) 10 other) refl in
      rw (add-one i) (omega (arith, e, s))

  pub line-feed : i < length text → get_or text i 0 ≡ 10 → i + 1 ≡ line_length text
  unfolding line_length
  line-feed h feed =
      let s : line_length (drop i text) ≡ 1 = rw (drop-cons text i 0 h, eq-eqb (get_or text i 0) 10 feed) refl in
      omega (arith, e, s)

  pub line-all : length text ≤ i → i ≡ line_length text
  unfolding line_length
  line-all h = let s : line_length (drop i text) ≡ 0 = rw (drop_of_length-le text h) refl in omega (arith, e, s)

pub line-start : (text : List ℕ) → line_length text ≡ 0 + line_length (drop 0 text)
line-start text = omega arith

pub line-inside : (text : List ℕ) → line_length text ≤ length text
unfolding line_length
line-inside [] = omega arith
line-inside (byte ∷ bytes) = step (eqb byte 10) (line-inside bytes)
  where
    step : (t : Bool) → line_length bytes ≤ length bytes → cond t 1 (suc (line_length bytes)) ≤ suc (length bytes)
    step true h = omega arith
    step false h = omega arith

pub line-some : (text : List ℕ) → 0 < length text → 0 < line_length text
unfolding line_length
line-some [] h = h
line-some (byte ∷ bytes) h = step (eqb byte 10)
  where
    step : (t : Bool) → 0 < cond t 1 (suc (line_length bytes))
    step true = omega arith
    step false = omega arith

-- `at` is the place after `count` lines
pub record LinesPast (text : List ℕ) (at count : ℕ) : Type 0 where
  pub counted : count ≤ at
  pub inside : at ≤ length text
  pub is : drop at text ≡ past_lines count text

pub lines_start : {text : List ℕ} → LinesPast text 0 0
unfolding past_lines
lines_start = record { counted = omega arith; inside = omega arith; is = refl }

-- one line more, of which the slice from `at` on tells the length
module _ {text : List ℕ} {at count : ℕ} (p : LinesPast text at count) {k : ℕ} (e : k ≡ line_length (take (length text - at) (drop at text))) where
  line-is : k ≡ line_length (drop at text)
  line-is = e ∙ ap line_length (take_all (length text - at) (drop at text) (omega (arith, length-drop at text)))

  pub line-fits : at + k ≤ length text
  line-fits = omega (arith, p.inside, line-is, line-inside (drop at text), length-drop at text)

  pub line_ahead : at < length text → length text - (at + k) < length text - at
  line_ahead h = omega (arith, line-fits, line-is, line-some (drop at text) (omega (arith, length-drop at text)))

  pub lines_next : at < length text → LinesPast text (at + k) (count + 1)
  unfolding past_lines past_line
  lines_next h = record {
    counted = omega (arith, p.counted, line_ahead h);
    inside = line-fits;
    is = rw (add-one count, ← p.is, line-is) (sym (drop-drop (line_length (drop at text)) at text));
  }

pub lines_end : {text : List ℕ} {at count : ℕ} → LinesPast text at count → length text ≤ at → past_lines count text ≡ []
lines_end {text} p h = sym p.is ∙ drop_of_length-le text h

-- ---- a line's numbers in arrays of zeros, whose length is any n, so that they are not written out

pub zeros : (n : ℕ) → replicate n (pos 0) ≡ replicate (length (replicate n (pos 0))) (pos 0)
zeros n = ap (λ (k : ℕ). replicate k (pos 0)) (sym (length-replicate n (pos 0)))

-- the type is given too, for the same reason
pub filled : (A : Type 0) (n : ℕ) (x : A) → n ≡ length (replicate n x)
filled A n x = sym (length-replicate n x)

pub read_length : (n : ℕ) (xs wides : List ℤ) → wides ≡ padded (length (replicate n (pos 0))) xs → length wides ≡ n
unfolding padded
read_length n xs wides e =
    ap (λ (l : List ℤ). length l) e ∙ length-tab (length (replicate n (pos 0))) (λ i. get_or xs i (pos 0)) ∙ length-replicate n (pos 0)

pub words-length : (n : ℕ) (wides words : List ℤ) → length wides ≡ n → words ≡ map word wides → length words ≡ n
words-length n wides words e f = ap (λ (l : List ℤ). length l) f ∙ length-map wides word ∙ e
