-- The bare verdict's checks in parts, for the sizes of a struct; lists that no check of a part takes are empty.
use Rattle.std.specs.Prelude.{Bool, List, [], ℕ, ℤ}
use Rattle.fold.specs.Arguments.{draws_of}
use Rattle.bare.specs.declared.BareSizes.{BareSizes}
use Rattle.bare.specs.Arguments.{bare_statement_of, bare_transcript_of}
use Rattle.bare.specs.Opening.{z_numbers}
use Rattle.bare.specs.Verdict.{bare_message_checks, folded_checks, aggregate_checks, z_margin}

abbrev pub message_checks_of : BareSizes → (constant_terms p ψ ω b'' : List ℤ) → List (ℕ × Bool)
message_checks_of m constant_terms p ψ ω b'' =
    bare_message_checks (bare_statement_of m [] [] constant_terms) (draws_of [] ψ ω [] [] []) (bare_transcript_of p b'') []

-- checks 3 and 4; 5, 6 and 7
abbrev pub folded_checks_of : BareSizes → (A c o : List ℤ) → List (ℕ × Bool)
folded_checks_of m A c o = folded_checks (bare_statement_of m A [] []) (draws_of [] [] [] [] [] c) (bare_transcript_of [] []) o

abbrev pub aggregate_checks_of : BareSizes → (whole constant_terms projections ψ ω b'' α δ c o : List ℤ) → List (ℕ × Bool)
aggregate_checks_of m whole constant_terms projections ψ ω b'' α δ c o =
    aggregate_checks (bare_statement_of m [] whole constant_terms) (draws_of projections ψ ω α δ c) (bare_transcript_of [] b'') o

-- the margin
abbrev pub margin_of : BareSizes → (o : List ℤ) → ℕ
margin_of m o = z_margin m.z_bound (z_numbers m.shape.d m.shape.n m.shape.r m.kappa o)
