-- SPECIFICATION 12.4: the whole case, computed. "Its witness is 1+2X." Every field of WholeCase is closed, and holds by computation
-- alone, so this file pins the definitions to numbers that stand in the specification, the wide digits to numbers of its own. What SPECIFICATION 12.1 says of it stands in WorkedValues.
use Rattle.std.specs.Prelude.{◌≡◌, refl, true, false, List, [], ◌∷◌, ℕ, zero, suc, ◌<◌, ◌≤◌, ℤ}
use Rattle.std.proofs.Common.{arith}
use Rattle.integers.specs.Literals.{+◌, -◌, ◌zeros∷◌}
use Rattle.integers.specs.Sums.{norm_sq}
use Rattle.algebra.specs.DotProduct.{value}
use Rattle.ring.specs.Element.{R}
use Rattle.fold.specs.Answers.{Accepted}
use Rattle.fold.specs.Answers.{first_failing}
use Rattle.fold.specs.Statement.{Solves, part, function, whole_at, whole_constant}
use Rattle.fold.specs.Statement.{Statement, Draws, Transcript}
use Rattle.fold.specs.Verdict.{verdict}
use Rattle.fold.specs.Honest.{honest_transcript, honest_opening}
use Rattle.fold.specs.Refusals.{narrow, verify_tests, prover_tests}
use Rattle.fold_values.specs.Cases.Computing.{fold_computes}

abbrev pub whole : List ℤ
whole = + 1 ∷ + 0 ∷ + 0 ∷ + 0 ∷ - 3 ∷ + 4 ∷ []

-- the statement, with the target bound β'² lent
abbrev pub case : (target : ℕ) → Statement
case target =
    record {
      relation = record { d = 2; n = 1; r = 1; K = 1; L = 0; bound = 5; whole = whole; constant_terms = [] };
      w = 0;
      tz = 2;
      κ = 1;
      κ₁ = 1;
      κ₂ = 1;
      b = 4;
      b₁ = 8;
      b₂ = 4;
      t₁ = 2;
      t₂ = 2;
      target = target;
      A = + 1 ∷ + 0 ∷ [];
      B = + 1 ∷ + 0 ∷ + 0 ∷ + 0 ∷ [];
      C = + 1 ∷ + 0 ∷ + 0 ∷ + 0 ∷ [];
      D = + 1 ∷ + 0 ∷ + 1 ∷ + 0 ∷ [];
    }

abbrev pub witness : List ℤ
witness = + 1 ∷ + 2 ∷ []

abbrev pub draws : Draws
draws = record { projections = []; ψ = []; ω = []; α = + 1 ∷ + 0 ∷ []; δ = 10 zeros∷ []; c = + 0 ∷ + 1 ∷ [] }

abbrev pub transcript : Transcript
transcript = record { u₁ = + 2 ∷ + 2 ∷ []; p = []; b'' = 10 zeros∷ []; u₂ = + 0 ∷ + 0 ∷ [] }

-- z low, z high, t, g, h: an element a line. The first number of z is low + 4·high
abbrev pub digits_with : (low high : ℤ) → List ℤ
digits_with low high =
    low ∷ + 1
    ∷ high ∷ + 0
    ∷ + 1 ∷ + 2
    ∷ + 0 ∷ + 0
    ∷ + 1 ∷ + 0
    ∷ - 1 ∷ + 1
    ∷ + 0 ∷ + 0
    ∷ + 0 ∷ + 0
    ∷ []

abbrev pub digits : List ℤ
digits = digits_with (- 2) (+ 0)

-- "Its witness is 1+2X": it solves the statement
wholly-met
    : (k : ℕ) → k < 1 → value (R 2) 1 1 (function 2 1 1 (whole_at 2 1 1 whole k)) (part 2 1 witness) ≡ whole_constant 2 1 1 whole k
unfolding fold_computes
wholly-met zero h = refl
wholly-met (suc k) h = absurd (omega arith)

short : norm_sq witness ≤ 5
unfolding fold_computes
short = omega arith

pub solves : Solves (case 13).relation witness
solves = record { meets = record { wholly = wholly-met; in_constant_term = λ l h. absurd (omega arith) }; short = short }

pub record WholeCase : Type 0 where
  -- the honest messages and opening of the witness are those of the sheet
  pub transcript_honest : honest_transcript (case 13) draws witness ≡ transcript
  pub opening_honest : honest_opening (case 13) draws witness ≡ digits
  -- "The program of verdicts prints 0 0 in its two fields; with 20 in place of 13 it prints 0 7."
  pub accepted : verdict (case 13) draws transcript digits ≡ Accepted 0
  pub accepted_20 : verdict (case 20) draws transcript digits ≡ Accepted 7
  -- its low digits are narrow; with the same z as -6 + 4·1 one is wide, though its verdict is the same but for the margin
  pub digits-narrow : narrow (case 13) digits ≡ true
  pub digits-wide : narrow (case 13) (digits_with (- 6) (+ 1)) ≡ false
  pub wide-verdict : verdict (case 46) draws transcript (digits_with (- 6) (+ 1)) ≡ Accepted 0
  pub wide_refusal : first_failing (verify_tests (case 46) draws transcript (digits_with (- 6) (+ 1))) ≡ 15
  -- neither the verifier nor the prover is refused
  pub verifier_not_refused : first_failing (verify_tests (case 13) draws transcript digits) ≡ 0
  pub prover_not_refused : first_failing (prover_tests (case 13) draws witness) ≡ 0

pub whole-case : WholeCase
unfolding fold_computes
whole-case =
    record {
      transcript_honest = refl;
      opening_honest = refl;
      accepted = refl;
      accepted_20 = refl;
      digits-narrow = refl;
      digits-wide = refl;
      wide-verdict = refl;
      wide_refusal = refl;
      verifier_not_refused = refl;
      prover_not_refused = refl;
    }
