-- Laws of what Stages.antt defines.
use Rattle.std.specs.Prelude.{◌≡◌, List, ℕ, ◌*◌, take, drop, ℤ}
use Rattle.std.proofs.Math.Path.{refl}
use Rattle.std.proofs.Common.{◌∙◌}
use Rattle.fold.specs.declared.Sizes.{Sizes}
use Rattle.fold.specs.Answers.{Answer}
use Rattle.fold.specs.Sizes.{z_count, t_size, garbage_size, opening_size}
use Rattle.fold.specs.Refusals.{whole_length, constant_terms_length, projection_length}
use Rattle.fold.specs.Arguments.{statement_with, draws_of, transcript_of}
use Rattle.fold.specs.Verification.{verification}
use Rattle.sheet.specs.Lists.{list_lengths, list_at}
use Rattle.judge.specs.Judging.{judged_numbers}
use Rattle.judge.specs.Stages.{last_stage, number_stage, constraint_stage}

module _ (s : Sizes) where
  open s use {shape, kappa, kappa1, kappa2, t1, t2}
  open shape use {d, n, r}

  unfoldable pub matrix_stage : List ℤ → Answer
  matrix_stage xs =
      let A = kappa * n * d in
      let B = kappa1 * t_size r kappa t1 * d in
      let C = kappa1 * garbage_size r t2 * d in
      let D = kappa2 * garbage_size r t1 * d in
      constraint_stage s (take A xs) (take B (drop A xs)) (take C (drop B (drop A xs))) (take D (drop C (drop B (drop A xs))))
      (drop D (drop C (drop B (drop A xs))))

  pub stages : (xs : List ℤ) → matrix_stage xs ≡ judged_numbers s xs
  unfolding matrix_stage constraint_stage number_stage last_stage judged_numbers list_at list_lengths
  stages xs = refl

-- the first m of the numbers, and those after them
pub record Cut (m : ℕ) (xs l after : List ℤ) : Type 0 where
  pub first : l ≡ take m xs
  pub left : after ≡ drop m xs

pub cut : {k m : ℕ} {xs l after : List ℤ} → k ≡ m → l ≡ take k xs → after ≡ drop k xs → Cut m xs l after
cut e f g = record { first = rw (← e) f; left = rw (← e) g }

pub cut-last : {k m : ℕ} (xs : List ℤ) {l : List ℤ} → k ≡ m → l ≡ take k xs → l ≡ take m xs
cut-last xs e f = rw (← e) f

module _ (s : Sizes) where
  open s use {shape, k, l, w, kappa, kappa1, kappa2, t1, t2}
  open shape use {d, n, r}

  module _ {answer : Answer} (A B C D : List ℤ) where
    module _ (whole constant_terms u₁ projections : List ℤ) where
      pub last_stage_lem : (p ψ ω b'' : List ℤ) {xs α δ u₂ c o y₁ y₂ y₃ y₄ : List ℤ}
          → Cut (k * d) xs α y₁ → Cut (5 * d) y₁ δ y₂ → Cut (kappa2 * d) y₂ u₂ y₃ → Cut (r * d) y₃ c y₄
          → o ≡ take (opening_size z_count n r kappa t1 t2 * d) y₄
          → answer ≡ verification (statement_with z_count s A B C D whole constant_terms) (draws_of projections ψ ω α δ c) (transcript_of u₁ p b'' u₂) o
          → answer ≡ last_stage s A B C D whole constant_terms u₁ projections p ψ ω b'' xs
      unfolding last_stage
      last_stage_lem p ψ ω b'' c₁ c₂ c₃ c₄ c₅ e =
          e ∙ rw (c₅, c₄.first, c₄.left, c₃.first, c₃.left, c₂.first, c₂.left, c₁.first, c₁.left) refl

      pub number_stage_lem : {xs p ψ ω b'' y₁ y₂ y₃ y₄ : List ℤ}
          → Cut w xs p y₁ → Cut (5 * l) y₁ ψ y₂ → Cut (5 * w) y₂ ω y₃ → Cut (5 * d) y₃ b'' y₄
          → answer ≡ last_stage s A B C D whole constant_terms u₁ projections p ψ ω b'' y₄ → answer ≡ number_stage s A B C D whole constant_terms u₁ projections xs
      unfolding number_stage
      number_stage_lem c₁ c₂ c₃ c₄ e =
          e ∙ rw (c₄.first, c₄.left, c₃.first, c₃.left, c₂.first, c₂.left, c₁.first, c₁.left) refl

    pub constraint_stage_lem : {xs whole constant_terms u₁ projections y₁ y₂ y₃ y₄ : List ℤ}
        → Cut (whole_length d n r k) xs whole y₁ → Cut (constant_terms_length d n r l) y₁ constant_terms y₂
        → Cut (kappa1 * d) y₂ u₁ y₃ → Cut (projection_length d n r w) y₃ projections y₄
        → answer ≡ number_stage s A B C D whole constant_terms u₁ projections y₄ → answer ≡ constraint_stage s A B C D xs
    unfolding constraint_stage
    constraint_stage_lem c₁ c₂ c₃ c₄ e =
        e ∙ rw (c₄.first, c₄.left, c₃.first, c₃.left, c₂.first, c₂.left, c₁.first, c₁.left) refl

    pub matrix_stage_lem : {xs y₁ y₂ y₃ y₄ : List ℤ}
        → Cut (kappa * n * d) xs A y₁ → Cut (kappa1 * t_size r kappa t1 * d) y₁ B y₂
        → Cut (kappa1 * garbage_size r t2 * d) y₂ C y₃ → Cut (kappa2 * garbage_size r t1 * d) y₃ D y₄
        → answer ≡ constraint_stage s A B C D y₄ → answer ≡ judged_numbers s xs
    unfolding matrix_stage
    matrix_stage_lem {xs} c₁ c₂ c₃ c₄ e =
        e
        ∙ rw (c₄.first, c₄.left, c₃.first, c₃.left, c₂.first, c₂.left, c₁.first, c₁.left) refl
        ∙ stages s xs
