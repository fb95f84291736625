-- SPECIFICATION 7 for the bare level: row 14, and for each call the list of its tests with their numbers.
use Rattle.std.specs.Prelude.{Bool, List, [], ◌∷◌, ◌++◌, ℕ, suc, ◌+◌, ◌*◌, ◌-◌, ℤ, pos}
use Rattle.algebra.specs.Triangle.{pair}
use Rattle.residues.specs.Range.{coefficients, projection_entries}
use Rattle.ring.specs.Element.{R, el, every, same}
use Rattle.fold.specs.Sizes.{five}
use Rattle.fold.specs.Statement.{Draws, whole_at, term_at}
use Rattle.fold.specs.Refusals.{all_of, between, degree, shape, counts, commitment_rank, bound_rows, sized, in_range, constraint_lengths, challenges}
use Rattle.bare.specs.Statement.{BareStatement, BareTranscript}
use Rattle.bare.specs.Messages.{four}
use Rattle.bare.specs.Opening.{bare_size}

-- no a_ij with i < j of the constraint that starts where the list does is other than zero
unfoldable pub unmixed : (d r : ℕ) (xs : List ℤ) → Bool
unmixed d r xs = every r (λ i. every (r - suc i) (λ k. same d (el d xs (pair r i (suc i + k))) (R d).zero))

-- row 14: "some constraint has a nonzero a_ij with i < j", of either kind; true where none has
unfoldable pub all_unmixed : (d n r K L : ℕ) (whole constant_terms : List ℤ) → Bool
all_unmixed d n r K L whole constant_terms =
    all_of
    (every K (λ k. unmixed d r (whole_at d n r whole k))
    ∷ every L (λ l. unmixed d r (term_at d n r constant_terms l))
    ∷ [])

-- ---- rows 1, 2, 3 and 6: the sizes

abbrev pub bare_commit_bounds : (d n r κ : ℕ) → List (ℕ × Bool)
bare_commit_bounds d n r κ = (1, degree (pos d)) ∷ (2, all_of (shape (pos n) (pos r))) ∷ (3, commitment_rank (pos κ)) ∷ []

abbrev pub bare_phi_bounds : (d n r K L w : ℕ) → List (ℕ × Bool)
bare_phi_bounds d n r K L w = (1, degree (pos d)) ∷ (2, all_of (shape (pos n) (pos r) ++ counts (pos K) (pos L) (pos w))) ∷ []

-- "a .. turn number outside its range": turn i, from 1 to r
abbrev pub bare_turn_bounds : (d n r i : ℕ) → List (ℕ × Bool)
bare_turn_bounds d n r i = (1, degree (pos d)) ∷ (2, all_of (shape (pos n) (pos r) ++ (between 1 r (pos i) ∷ []))) ∷ []

abbrev pub bare_size_rows : (d n r K L w κ : ℕ) → List (ℕ × Bool)
bare_size_rows d n r K L w κ =
    (1, degree (pos d)) ∷ (2, all_of (shape (pos n) (pos r) ++ counts (pos K) (pos L) (pos w))) ∷ (3, commitment_rank (pos κ)) ∷ []

-- ---- the tests of each call

-- A, the witness s; out: t
unfoldable pub bare_commit_tests : (d n r κ : ℕ) (A s ts : List ℤ) → List (ℕ × Bool)
bare_commit_tests d n r κ A s ts =
    bare_commit_bounds d n r κ
    ++ ((7, all_of (sized A (κ * n * d) ∷ sized s (r * n * d) ∷ sized ts (r * κ * d) ∷ []))
    ∷ (8, all_of (in_range (A ∷ s ∷ [])))
    ∷ [])

-- both kinds of constraints, projection rows, ψ, ω, α, δ; out: φ
unfoldable pub bare_phi_tests : (d n r K L w : ℕ) (whole constant_terms projections ψ ω α δ phi : List ℤ) → List (ℕ × Bool)
bare_phi_tests d n r K L w whole constant_terms projections ψ ω α δ phi =
    bare_phi_bounds d n r K L w
    ++ ((7, all_of (sized phi (r * n * d) ∷ constraint_lengths d n r K L w whole constant_terms projections ψ ω α δ))
    ∷ (8, all_of (in_range (whole ∷ constant_terms ∷ projections ∷ ψ ∷ ω ∷ α ∷ δ ∷ [])))
    ∷ (9, projection_entries projections)
    ∷ (14, all_unmixed d n r K L whole constant_terms)
    ∷ [])

-- turn i, from 1 to r: φ, the challenges before the turn, "in exactly this number", the witness; out: its four elements
unfoldable pub bare_turn_tests : (d n r i : ℕ) (phi c s out : List ℤ) → List (ℕ × Bool)
bare_turn_tests d n r i phi c s out =
    bare_turn_bounds d n r i
    ++ ((7, all_of (sized phi (r * n * d) ∷ sized c ((i - 1) * d) ∷ sized s (r * n * d) ∷ sized out (four * d) ∷ []))
    ∷ (8, all_of (in_range (phi ∷ c ∷ s ∷ [])))
    ∷ (10, challenges d (i - 1) c)
    ∷ [])

-- what is lent beside the messages: the statement and the draws
module _ (𝓢 : BareStatement) (𝓓 : Draws) where
  open 𝓢 use {relation, w, κ, z_bound, A}
  open relation use {d, n, r, K, L, bound, whole, constant_terms}
  open 𝓓 use {projections, ψ, ω, α, δ, c}

  abbrev pub bare_size_tests : List (ℕ × Bool)
  bare_size_tests = bare_size_rows d n r K L w κ

  -- row 6: β² and the bound on z
  abbrev pub bare_bound_tests : List (ℕ × Bool)
  bare_bound_tests = bound_rows (pos bound) (pos z_bound)

  abbrev pub bare_given_lengths : List Bool
  bare_given_lengths =
      sized A (κ * n * d) ∷ sized c (r * d) ∷ constraint_lengths d n r K L w whole constant_terms projections ψ ω α δ

  abbrev pub bare_given_ranges : List Bool
  bare_given_ranges = in_range (A ∷ c ∷ whole ∷ constant_terms ∷ projections ∷ ψ ∷ ω ∷ α ∷ δ ∷ [])

  -- rows 9, 10 and 14
  abbrev pub bare_draw_tests : List (ℕ × Bool)
  bare_draw_tests =
      (9, projection_entries projections) ∷ (10, challenges d r c) ∷ (14, all_unmixed d n r K L whole constant_terms) ∷ []

  -- the statement, the draws and a witness: what the messages are made from
  unfoldable pub bare_prover_tests : (s : List ℤ) → List (ℕ × Bool)
  bare_prover_tests s =
      bare_size_tests
      ++ (bare_bound_tests
      ++ ((7, all_of (sized s (r * n * d) ∷ bare_given_lengths))
      ∷ (8, all_of (coefficients s ∷ bare_given_ranges))
      ∷ bare_draw_tests))

  -- the verifier, with the messages and the bare opening o
  unfoldable pub bare_verify_tests : BareTranscript → (o : List ℤ) → List (ℕ × Bool)
  bare_verify_tests 𝓣 o =
      bare_size_tests
      ++ (bare_bound_tests
      ++ ((7, all_of (sized o (bare_size n r κ * d) ∷ sized 𝓣.p w ∷ sized 𝓣.b'' (five * d) ∷ bare_given_lengths))
      ∷ (8, all_of (coefficients o ∷ coefficients 𝓣.p ∷ coefficients 𝓣.b'' ∷ bare_given_ranges))
      ∷ bare_draw_tests))
