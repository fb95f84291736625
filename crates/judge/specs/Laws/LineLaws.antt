-- The line of an answer: the field of its kind, and after it that of its number with the line feed.
use Rattle.std.specs.Prelude.{◌≡◌, true, false, List, [], ◌∷◌, ◌++◌, ℕ, ◌+◌, length}
use Rattle.std.proofs.Common.{sym, ◌∙◌, append_assoc, append-nil, arith, length-append}
use Rattle.integers.specs.Flat.{flat}
use Rattle.integers.specs.Over.{over}
use Rattle.integers.specs.Laws.OverLaws.{over-all, over-over}
use Rattle.fold.specs.Answers.{Answer}
use Rattle.fold.specs.Answers.{kind_of, number_of}
use Rattle.fields.specs.Field.{signed_text, field_text}
use Rattle.fields.specs.Place.{field_width, feed}
use Rattle.fields.specs.Laws.WriteLaws.{length-laid}
use Rattle.sheet.specs.Layout.{line_text}
use Rattle.judge.specs.Judging.{verdict_line}

-- the two fields, written one after the other over a line of 33 bytes
pub line-written : (a : Answer) (blank : List ℕ) → length blank ≡ 33 → {k n : ℕ} {once twice : List ℕ} → k ≡ kind_of a → n ≡ number_of a
    → once ≡ over blank 0 (signed_text false k ++ feed false) → twice ≡ over once 16 (signed_text false n ++ feed true) → twice ≡ verdict_line a
unfolding verdict_line line_text flat field_text feed field_width
line-written a blank room {k} {n} e f first second =
    let kind = signed_text false k ++ feed false in
    let number = signed_text false n ++ feed true in
    let end : 16 ≡ 0 + length kind = omega (arith, length-laid false k false) in
    let wide : length (kind ++ number) ≡ length blank = omega (arith, length-append kind number, length-laid false k false, length-laid false n true, room) in
    second
    ∙ rw (first, end) (over-over blank 0 kind number (omega arith))
    ∙ over-all blank (kind ++ number) wide
    ∙ rw (← e, ← f, append-nil (signed_text false k)) (sym (append_assoc (signed_text false k) (signed_text false n) (10 ∷ [])))
