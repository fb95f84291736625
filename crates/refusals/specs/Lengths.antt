-- Row 7 of fold's Refusals for sizes that stand in a struct, as the functions here ask for it.
use Rattle.std.specs.Prelude.{Bool, List, [], ◌∷◌, ◌++◌, ℕ, ◌*◌, ℤ}
use Rattle.fold.specs.declared.CommitSizes.{CommitSizes}
use Rattle.fold.specs.declared.ConstraintSizes.{ConstraintSizes}
use Rattle.fold.specs.declared.GarbageSizes.{GarbageSizes}
use Rattle.fold.specs.declared.Sizes.{Sizes}
use Rattle.fold.specs.Sizes.{next_parts, next_count}
use Rattle.fold.specs.Refusals.{sized, whole_length, commit_lengths, aggregate_lengths, constraint_lengths, garbage_lengths, matrix_lengths, message_lengths}
use Rattle.limits.specs.Bounds.{rank_of}

abbrev pub commit_lengths_of : CommitSizes → (A B C s ts gs u₁ : List ℤ) → List Bool
commit_lengths_of m A B C s ts gs u₁ = commit_lengths m.shape.d m.shape.n m.shape.r m.kappa m.kappa1 m.t1 m.t2 A B C s ts gs u₁

abbrev pub garbage_lengths_of : GarbageSizes → (D s hs u₂ : List ℤ) → List Bool
garbage_lengths_of m D s hs u₂ = garbage_lengths m.shape.d m.shape.n m.shape.r m.kappa2 m.t1 D s hs u₂

abbrev pub message_lengths_of : Sizes → (u₁ p b'' u₂ : List ℤ) → List Bool
message_lengths_of m u₁ p b'' u₂ = message_lengths m.shape.d m.w m.kappa1 m.kappa2 u₁ p b'' u₂

abbrev pub matrix_lengths_of : Sizes → (A B C D : List ℤ) → List Bool
matrix_lengths_of m A B C D = matrix_lengths m.shape.d m.shape.n m.shape.r m.kappa m.kappa1 m.kappa2 m.t1 m.t2 A B C D

-- constant-term constraints and projection rows, for message 3
abbrev pub aggregate_lengths_of : ConstraintSizes → (constant_terms projections ψ ω s b'' : List ℤ) → List Bool
aggregate_lengths_of m constant_terms projections ψ ω s b'' = aggregate_lengths m.shape.d m.shape.n m.shape.r m.l m.w constant_terms projections ψ ω s b''

-- both kinds of constraints
abbrev pub constraint_lengths_of : ConstraintSizes → (whole constant_terms projections ψ ω α δ : List ℤ) → List Bool
constraint_lengths_of m whole constant_terms projections ψ ω α δ =
    constraint_lengths m.shape.d m.shape.n m.shape.r m.k m.l m.w whole constant_terms projections ψ ω α δ

-- both kinds of constraints and all draws
abbrev pub draw_lengths_of : Sizes → (whole constant_terms projections ψ ω α δ c : List ℤ) → List Bool
draw_lengths_of m whole constant_terms projections ψ ω α δ c =
    constraint_lengths m.shape.d m.shape.n m.shape.r m.k m.l m.w whole constant_terms projections ψ ω α δ ++ (sized c (m.shape.r * m.shape.d) ∷ [])

-- the constraints of the next instance
abbrev pub out_length_of : (tz : ℕ) → Sizes → (ν μ : ℕ) → ℕ
out_length_of tz m ν μ = whole_length m.shape.d (rank_of m ν μ) (next_parts tz ν μ) (next_count m.kappa m.kappa1 m.kappa2)
