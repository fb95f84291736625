-- Laws of the answers.
use Rattle.std.specs.Prelude.{◌≡◌, List, map, ℕ, ℤ, pos, length, replicate}
use Rattle.std.proofs.Math.Path.{refl}
use Rattle.std.proofs.Common.{ap, ◌∙◌}
use Rattle.std.proofs.lemmas.List.{length-replicate}
use borrow.Author.Tests.{ne_eqb}
use Rattle.capi.specs.declared.sizes.CBareSizes.{CBareSizes}
use Rattle.cases.specs.Numbers.{padded, word}
use Rattle.cases.specs.Text.{line_numbers}
use Rattle.bare_cases.specs.Answers.{commit_answer, phi_answer, turn_answer, verify_answer, call_answer, case_answer, line_answer}

-- ---- a call by its number

module _ (call : ℕ) (sizes : CBareSizes) (turn : ℕ) (xs : List ℤ) where
  pub call_1 : call ≡ 1 → call_answer call sizes turn xs ≡ commit_answer sizes xs
  unfolding call_answer
  call_1 e = rw e refl

  pub call_2 : call ≡ 2 → call_answer call sizes turn xs ≡ phi_answer sizes xs
  unfolding call_answer
  call_2 e = rw e refl

  pub call_3 : call ≡ 3 → call_answer call sizes turn xs ≡ turn_answer sizes turn xs
  unfolding call_answer
  call_3 e = rw e refl

  pub call_4 : (call ≡ 1 → ⊥) → (call ≡ 2 → ⊥) → (call ≡ 3 → ⊥) → call_answer call sizes turn xs ≡ verify_answer sizes xs
  unfolding call_answer
  call_4 a b c = rw (ne_eqb call 1 a, ne_eqb call 2 b, ne_eqb call 3 c) refl

-- ---- the case of a line, over arrays of zeros whose length stands for 16384

pub line-answer : (n : ℕ) → n ≡ 16384 → (line : List ℕ) (wides words : List ℤ)
    → wides ≡ padded (length (replicate n (pos 0))) (line_numbers line) → words ≡ map word wides → case_answer wides words ≡ line_answer line
unfolding line_answer
line-answer n size line wides words e f =
    let numbers : wides ≡ padded 16384 (line_numbers line) =
    e ∙ ap (λ (k : ℕ). padded k (line_numbers line)) (length-replicate n (pos 0) ∙ size) in
    rw (f, numbers)
