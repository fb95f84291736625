-- Laws of the answers.
use Rattle.std.specs.Prelude.{◌≡◌, List, map, ℕ, ℤ, pos, length, replicate}
use Rattle.std.proofs.Math.Path.{refl}
use Rattle.std.proofs.Common.{ap, ◌∙◌}
use Rattle.std.proofs.lemmas.List.{length-replicate}
use borrow.Author.Tests.{ne_eqb}
use Rattle.capi.specs.declared.sizes.CSizes.{CSizes}
use Rattle.cases.specs.Numbers.{padded, word}
use Rattle.cases.specs.Text.{line_numbers}
use Rattle.fold_cases.specs.Answers.{commit_answer, project_answer, aggregate_answer, garbage_answer, amortize_answer, verify_answer}
use Rattle.fold_cases.specs.Answers.{call_answer, case_answer, line_answer}

-- ---- a call by its number

module _ (call : ℕ) (sizes : CSizes) (xs : List ℤ) where
  pub call_1 : call ≡ 1 → call_answer call sizes xs ≡ commit_answer sizes xs
  unfolding call_answer
  call_1 e = rw e refl

  pub call_2 : call ≡ 2 → call_answer call sizes xs ≡ project_answer sizes xs
  unfolding call_answer
  call_2 e = rw e refl

  pub call_3 : call ≡ 3 → call_answer call sizes xs ≡ aggregate_answer sizes xs
  unfolding call_answer
  call_3 e = rw e refl

  pub call_4 : call ≡ 4 → call_answer call sizes xs ≡ garbage_answer sizes xs
  unfolding call_answer
  call_4 e = rw e refl

  pub call_5 : call ≡ 5 → call_answer call sizes xs ≡ amortize_answer sizes xs
  unfolding call_answer
  call_5 e = rw e refl

  pub call_6 : (call ≡ 1 → ⊥) → (call ≡ 2 → ⊥) → (call ≡ 3 → ⊥) → (call ≡ 4 → ⊥) → (call ≡ 5 → ⊥)
      → call_answer call sizes xs ≡ verify_answer sizes xs
  unfolding call_answer
  call_6 a b c d e = rw (ne_eqb call 1 a, ne_eqb call 2 b, ne_eqb call 3 c, ne_eqb call 4 d, ne_eqb call 5 e) refl

-- ---- the case of a line, over arrays of zeros whose length stands for 16384

pub line-answer : (n : ℕ) → n ≡ 16384 → (line : List ℕ) (wides words : List ℤ)
    → wides ≡ padded (length (replicate n (pos 0))) (line_numbers line) → words ≡ map word wides → case_answer wides words ≡ line_answer line
unfolding line_answer
line-answer n size line wides words e f =
    let numbers : wides ≡ padded 16384 (line_numbers line) =
    e ∙ ap (λ (k : ℕ). padded k (line_numbers line)) (length-replicate n (pos 0) ∙ size) in
    rw (f, numbers)
