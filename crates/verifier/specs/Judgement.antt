-- The verdict's checks in parts, for the sizes of a struct; lists that no check of a part takes are empty, and checks 1 and 2 take no z digit.
use Rattle.std.specs.Prelude.{◌≡◌, Bool, List, [], ℕ, ◌*◌, ◌≤◌, ◌<◌, ℤ, length}
use Rattle.ring.specs.Element.{el}
use Rattle.fold.specs.declared.Sizes.{Sizes}
use Rattle.fold.specs.Verdict.{message_checks, outer_checks, amortized_checks, last_checks, opening_checks, margin₉}
use Rattle.fold.specs.Arguments.{statement_with, draws_of, transcript_of}
use Rattle.checks.specs.Known.Facts.{z_value}

abbrev pub message_checks_of : Sizes → (constant_terms p ψ ω b'' : List ℤ) → List (ℕ × Bool)
message_checks_of s constant_terms p ψ ω b'' =
    message_checks (statement_with 0 s [] [] [] [] [] constant_terms) (draws_of [] ψ ω [] [] []) (transcript_of [] p b'' [])

-- the others depend on the number tz of z digits
abbrev pub outer_checks_of : (tz : ℕ) → Sizes → (B C D u₁ u₂ o : List ℤ) → List (ℕ × Bool)
outer_checks_of tz s B C D u₁ u₂ o = outer_checks (statement_with tz s [] B C D [] []) (draws_of [] [] [] [] [] []) (transcript_of u₁ [] [] u₂) o

abbrev pub opening_checks_of : (tz : ℕ) → Sizes → (A whole constant_terms projections ψ ω b'' α δ c o : List ℤ) → List (ℕ × Bool)
opening_checks_of tz s A whole constant_terms projections ψ ω b'' α δ c o =
    opening_checks (statement_with tz s A [] [] [] whole constant_terms) (draws_of projections ψ ω α δ c) (transcript_of [] [] b'' []) o

-- checks 5 and 6; 8 and 9
abbrev pub amortized_checks_of : (tz : ℕ) → Sizes → (A c o : List ℤ) → List (ℕ × Bool)
amortized_checks_of tz s A c o = amortized_checks (statement_with tz s A [] [] [] [] []) (draws_of [] [] [] [] [] c) (transcript_of [] [] [] []) o

abbrev pub last_checks_of : (tz : ℕ) → Sizes → (whole constant_terms projections ψ ω b'' α δ o : List ℤ) → List (ℕ × Bool)
last_checks_of tz s whole constant_terms projections ψ ω b'' α δ o =
    last_checks (statement_with tz s [] [] [] [] whole constant_terms) (draws_of projections ψ ω α δ []) (transcript_of [] [] b'' []) o

-- the margin
abbrev pub margin_of : (tz : ℕ) → Sizes → (o : List ℤ) → ℕ
margin_of tz s o = margin₉ s.shape.d s.shape.n s.shape.r tz s.kappa s.t1 s.t2 s.target o

-- z stands at the start of a list
pub record Recomposed (tz : ℕ) (s : Sizes) (o z : List ℤ) : Type 0 where
  pub room : s.shape.n * s.shape.d ≤ length z
  pub agree : (i : ℕ) → i < s.shape.n → el s.shape.d z i ≡ z_value tz s o i
