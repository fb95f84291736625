-- The slice for the numbers of a text: a text of at most 65536 bytes that is laid out has at most 4096 numbers after its header, since each has 16
-- columns. Where the header asks for more, the other lines are broken, which is 12, before 7. So a slice of 4096 numbers at most, else as many as
-- the header gives, is answered as one of the length that the sizes give.
--     few-numbers      at most 4096 numbers
--     same-reading     the reader's answer with it
use Rattle.std.specs.Prelude.{◌≡◌, Bool, List, [], ◌∷◌, ◌++◌, eqb, length}
use Rattle.std.proofs.Math.Path.{refl, sym, ap}
use Rattle.std.proofs.Common.{◌∙◌, arith}
use Rattle.std.proofs.Math.Bool.{true, false, cond}
use Prim.Native.Nat.{ℕ, zero, suc, ◌+◌, ◌*◌, ◌≤◌, ◌<◌}
use borrow.Author.Tests.{eq-eqb}
use Rattle.fold.specs.Answers.{first_failing}
use Rattle.fold.specs.declared.Sizes.{Sizes}
use Rattle.fields.specs.Sections.{sections_of, total, ends_line}
use Rattle.fields.specs.Place.{place}
use Rattle.fields.specs.Laws.PlaceLaws.{width-least}
use Rattle.sheet.specs.Reading.{header_numbers, sizes_of, sheet_sizes_of, body_laid, body_numbers, number_tests, body_tests, reading_tests}
use Rattle.sheet.specs.Reading.{front_tests, number_count, sheet_if, reading}
use Rattle.sheet.specs.Laws.ReadingLaws.{body-within}
use Rattle.sheet.specs.Laws.AnswerLaws.{refusal_first}
use Rattle.judge.specs.Room.{lent_count}
use Rattle.fields.specs.Field.{header_bytes}

-- i numbers have at least 16·i bytes
place-least : (ends : ℕ → Bool) (at i : ℕ) → at + 16 * i ≤ place ends at i
unfolding place
place-least ends at zero = omega arith
place-least ends at (suc i) = omega (arith, place-least ends at i, width-least ends at (ends i))

pub few-numbers : (s : Sizes) (text : List ℕ) → length text ≤ 65536 → body_laid s text ≡ true → total s ≤ 4096
few-numbers s text h e = omega (arith, body-within s text e, place-least (ends_line (sections_of s)) header_bytes (total s))

-- tests after others count by their own refusal
later_same : (xs ys zs : List (ℕ × Bool)) → first_failing ys ≡ first_failing zs → first_failing (xs ++ ys) ≡ first_failing (xs ++ zs)
unfolding first_failing
later_same [] ys zs e = e
later_same (x ∷ xs) ys zs e = ap (λ (n : ℕ). cond x.1 n x.0) (later_same xs ys zs e)

module _ (text : List ℕ) (h : length text ≤ 65536) where
  sizes : Sizes
  sizes = sizes_of (header_numbers text)

  body_same : number_count text ≡ total sizes
      → first_failing (body_tests (lent_count text) sizes text) ≡ first_failing (body_tests (total sizes) sizes text)
  unfolding first_failing body_tests
  body_same c = step (body_laid sizes text) refl
    where
      step : (t : Bool) → body_laid sizes text ≡ t
          → cond t (cond (eqb (lent_count text) (total sizes)) (first_failing (number_tests sizes (body_numbers sizes text))) 7) 12
          ≡ cond t (cond (eqb (total sizes) (total sizes)) (first_failing (number_tests sizes (body_numbers sizes text))) 7) 12
      step true e =
          let few = few-numbers sizes text h e in
          let same : lent_count text ≡ total sizes = omega (arith, few, c) in
          rw (same, eq-eqb (total sizes) (total sizes) refl) refl
      step false e = refl

  good_count : first_failing (front_tests text) ≡ 0 → number_count text ≡ total sizes
  unfolding number_count sizes
  good_count e = rw (eq-eqb (first_failing (front_tests text)) 0 e) refl

  pub same_refusal : first_failing (reading_tests (lent_count text) text)
      ≡ first_failing (reading_tests (total (sizes_of (header_numbers text))) text)
  unfolding reading_tests sizes
  same_refusal = step (first_failing (front_tests text)) refl
    where
      step : (n : ℕ) → first_failing (front_tests text) ≡ n
          → first_failing (front_tests text ++ body_tests (lent_count text) sizes text)
          ≡ first_failing (front_tests text ++ body_tests (total sizes) sizes text)
      step zero e = later_same (front_tests text) (body_tests (lent_count text) sizes text) (body_tests (total sizes) sizes text) (body_same (good_count e))
      step (suc n) e =
          let some : 0 < first_failing (front_tests text) = omega (arith, e) in
          sym (refusal_first (front_tests text) (body_tests (lent_count text) sizes text) some)
          ∙ refusal_first (front_tests text) (body_tests (total sizes) sizes text) some

  pub same-reading : reading (lent_count text) text ≡ reading (total (sizes_of (header_numbers text))) text
  unfolding reading
  same-reading = ap (λ (n : ℕ). sheet_if n (sheet_sizes_of (header_numbers text))) same_refusal
