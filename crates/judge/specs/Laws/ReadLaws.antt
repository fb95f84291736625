-- What the judge makes of the reader's answer and the numbers that it wrote.
--     text-judged      with a slice of `lent_count` numbers it is the answer to the text
use Rattle.std.specs.Prelude.{◌≡◌, Result, Ok, Err, IsErrAnd, List, length, ℤ}
use Rattle.std.proofs.Math.Path.{refl, ap, ap₂}
use Rattle.std.proofs.Common.{◌∙◌, le-leb}
use Prim.Native.Nat.{ℕ, zero, suc, ◌≤◌, ◌<◌}
use Rattle.std.proofs.lemmas.Bool.{lt-leb}
use Rattle.fold.specs.Answers.{Answer}
use Rattle.fold.specs.Answers as answer
use Rattle.fold.specs.declared.answers.Refusal.{Refusal}
use Rattle.fold.specs.declared.answers.Check.{Check}
use Rattle.fold.specs.Rows.{row_of, check_number}
use Rattle.fold.specs.Answers.{written, judgement_of}
use Rattle.sheet.specs.SheetAnswer.{SheetAnswer}
use Rattle.sheet.specs.Reading.{header_numbers, sheet_sizes_of, sheet_if, reading, reading_refusal, SheetRead}
use Rattle.sheet.specs.Laws.AnswerLaws.{reading-passed, read_is}
use Rattle.sheet.specs.Laws.HeaderLaws.{header-bounded}
use Rattle.judge.specs.Judging.{judged_by, judged, judged_text}
use Rattle.judge.specs.Room.{lent_count}
use Rattle.judge.specs.Laws.RoomLaws.{same-reading}
use Rattle.judge.specs.Known.Read.{ReadBounded, Into}

module _ (text : List ℕ) (before : List ℤ) {read : SheetAnswer} {after : List ℤ} (p : SheetRead text before read after) where
  bounded_if : (n : ℕ) → reading_refusal text before ≡ n → ReadBounded (sheet_if n (sheet_sizes_of (header_numbers text)))
  bounded_if zero e = header-bounded (header_numbers text) (reading-passed (length before) text e).sizes
  bounded_if (suc n) e = tt

  pub read-bounded : ReadBounded read
  unfolding reading
  read-bounded = rw (read_is text before p) (bounded_if (reading_refusal text before) refl)

  -- on a refusal no number counts
  judged_if : (n : ℕ) (numbers : List ℤ)
      → judged_by (sheet_if n (sheet_sizes_of (header_numbers text))) (written n numbers before) ≡ judged_by (sheet_if n (sheet_sizes_of (header_numbers text))) numbers
  unfolding written
  judged_if zero numbers = refl
  judged_if (suc n) numbers = refl

  pub read-judged : {r : Answer} → r ≡ judged_by read after → Into text before r after
  unfolding reading
  read-judged e = record {
    answer-is = e ∙ ap₂ judged_by (read_is text before p) p.numbers_are ∙ judged_if (reading_refusal text before) _;
    numbers_are = p.numbers_are;
  }

-- a text that is longer
pub longer : (text : List ℕ) → 65536 < length text → answer.Refused 12 ≡ judged_text text
unfolding judged_text
longer text h = rw (lt-leb (length text) 65536 h) refl

pub text-judged : (text : List ℕ) → length text ≤ 65536 → (before : List ℤ) → length before ≡ lent_count text → {r : Answer} {after : List ℤ}
    → Into text before r after → r ≡ judged_text text
unfolding judged_text judged
text-judged text fits before e p = p.answer-is ∙ rw (e, le-leb (length text) 65536 fits, same-reading text fits) refl

-- a result that hands a refusal on
pub refused_judging : (r : Result (Result ℕ Check) Refusal) (e : Refusal) → IsErrAnd r (λ x. x ≡ e)
    → judgement_of check_number r ≡ answer.Refused (row_of e)
refused_judging (Ok verdict) e told = absurd told
refused_judging (Err x) e told = ap (λ y. answer.Refused (row_of y)) told
