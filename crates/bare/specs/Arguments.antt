-- The bare level's calls: their arguments as the definitions take them, the number of each refusal, and the verifier's answer.
use Rattle.std.specs.Prelude.{List, ℕ, ℤ}
use Rattle.fold.specs.Answers.{Answer}
use Rattle.fold.specs.Answers.{Judged}
use Rattle.fold.specs.declared.Shape.{Shape}
use Rattle.fold.specs.declared.ConstraintSizes.{ConstraintSizes}
use Rattle.fold.specs.Answers.{first_failing, answered}
use Rattle.fold.specs.Statement.{Draws}
use Rattle.bare.specs.declared.BareSizes.{BareSizes}
use Rattle.bare.specs.Statement.{BareStatement, BareTranscript}
use Rattle.bare.specs.Verdict.{bare_verdict}
use Rattle.bare.specs.Refusals.{bare_commit_tests, bare_phi_tests, bare_turn_tests, bare_verify_tests}

abbrev pub bare_statement_of : BareSizes → (A whole constant_terms : List ℤ) → BareStatement
bare_statement_of m A whole constant_terms =
    record {
      relation = record { d = m.shape.d; n = m.shape.n; r = m.shape.r; K = m.k; L = m.l; bound = m.bound; whole = whole; constant_terms = constant_terms };
      w = m.w;
      κ = m.kappa;
      z_bound = m.z_bound;
      A = A;
    }

abbrev pub bare_transcript_of : (p b'' : List ℤ) → BareTranscript
bare_transcript_of p b'' = record { p = p; b'' = b'' }

-- the sizes of the constraints, from those of the verifier
abbrev pub constraint_sizes_of : BareSizes → ConstraintSizes
constraint_sizes_of m = record { shape = m.shape; k = m.k; l = m.l; w = m.w }

abbrev pub bare_commit_refusal : Shape → (κ : ℕ) (A s ts : List ℤ) → ℕ
bare_commit_refusal m κ A s ts = first_failing (bare_commit_tests m.d m.n m.r κ A s ts)

abbrev pub bare_phi_refusal : ConstraintSizes → (whole constant_terms projections ψ ω α δ phi : List ℤ) → ℕ
bare_phi_refusal m whole constant_terms projections ψ ω α δ phi =
    first_failing (bare_phi_tests m.shape.d m.shape.n m.shape.r m.k m.l m.w whole constant_terms projections ψ ω α δ phi)

abbrev pub bare_turn_refusal : Shape → (i : ℕ) (phi c s out : List ℤ) → ℕ
bare_turn_refusal m i phi c s out = first_failing (bare_turn_tests m.d m.n m.r i phi c s out)

abbrev pub bare_verify_refusal : BareStatement → Draws → BareTranscript → (o : List ℤ) → ℕ
bare_verify_refusal 𝓢 𝓓 𝓣 o = first_failing (bare_verify_tests 𝓢 𝓓 𝓣 o)

-- "The verifier's answer is either a refusal with its number or a judgement"
abbrev pub bare_verification : BareStatement → Draws → BareTranscript → (o : List ℤ) → Answer
bare_verification 𝓢 𝓓 𝓣 o = answered (bare_verify_refusal 𝓢 𝓓 𝓣 o) (Judged (bare_verdict 𝓢 𝓓 𝓣 o))
