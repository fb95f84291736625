-- The lists of a sheet cut in four stages, as the code cuts them: each stage takes the lists cut so far and the numbers that are left.
--     last_stage        α, δ, u2, c, the opening
--     number_stage      p, ψ, ω, b'', and then the last stage
--     constraint_stage  the constraints, u1 and the projection rows, and then the others
--     matrix_stage      A, B, C, D, and then the others: the answer to all numbers
--     Cut              a list cut from the front of the numbers, and what is left
use Rattle.std.specs.Prelude.{List, ◌*◌, take, drop, ℤ}
use Rattle.fold.specs.Answers.{Answer}
use Rattle.fold.specs.Sizes.{five, z_count, opening_size}
use Rattle.fold.specs.Refusals.{whole_length, constant_terms_length, projection_length}
use Rattle.fold.specs.Arguments.{statement_with, draws_of, transcript_of}
use Rattle.fold.specs.Verification.{verification}
use Rattle.fold.specs.declared.Sizes.{Sizes}

module _ (s : Sizes) where
  open s use {shape, k, l, w, kappa, kappa1, kappa2, t1, t2}
  open shape use {d, n, r}

  unfoldable pub last_stage : (A B C D whole constant_terms u₁ projections p ψ ω b'' xs : List ℤ) → Answer
  last_stage A B C D whole constant_terms u₁ projections p ψ ω b'' xs =
      let α = k * d in
      let δ = five * d in
      let u₂ = kappa2 * d in
      let c = r * d in
      let o = opening_size z_count n r kappa t1 t2 * d in
      verification (statement_with z_count s A B C D whole constant_terms)
      (draws_of projections ψ ω (take α xs) (take δ (drop α xs)) (take c (drop u₂ (drop δ (drop α xs)))))
      (transcript_of u₁ p b'' (take u₂ (drop δ (drop α xs)))) (take o (drop c (drop u₂ (drop δ (drop α xs)))))

  unfoldable pub number_stage : (A B C D whole constant_terms u₁ projections xs : List ℤ) → Answer
  number_stage A B C D whole constant_terms u₁ projections xs =
      let p = w in
      let ψ = five * l in
      let ω = five * w in
      let b'' = five * d in
      last_stage A B C D whole constant_terms u₁ projections (take p xs) (take ψ (drop p xs)) (take ω (drop ψ (drop p xs)))
      (take b'' (drop ω (drop ψ (drop p xs)))) (drop b'' (drop ω (drop ψ (drop p xs))))

  unfoldable pub constraint_stage : (A B C D xs : List ℤ) → Answer
  constraint_stage A B C D xs =
      let whole = whole_length d n r k in
      let constant_terms = constant_terms_length d n r l in
      let u₁ = kappa1 * d in
      let projections = projection_length d n r w in
      number_stage A B C D (take whole xs) (take constant_terms (drop whole xs)) (take u₁ (drop constant_terms (drop whole xs)))
      (take projections (drop u₁ (drop constant_terms (drop whole xs)))) (drop projections (drop u₁ (drop constant_terms (drop whole xs))))
