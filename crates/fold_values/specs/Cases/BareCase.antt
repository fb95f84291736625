-- SPECIFICATION 12.5: the bare case, computed. Every field of BareCase is closed, and holds by computation alone, so this file pins the definitions of the
-- bare level to numbers that were worked out with a pencil.
use Rattle.std.specs.Prelude.{◌≡◌, refl, List, [], ◌∷◌, ℕ, ℤ}
use Rattle.integers.specs.Literals.{+◌, -◌, ◌zeros∷◌}
use Rattle.fold.specs.Answers.{Verdict}
use Rattle.fold.specs.Answers.{Accepted, Failed}
use Rattle.fold.specs.Answers.{Refused, Judged}
use Rattle.fold.specs.Answers.{first_failing, answered}
use Rattle.fold.specs.Statement.{part, Draws}
use Rattle.bare.specs.declared.BareSizes.{BareSizes}
use Rattle.bare.specs.Statement.{BareStatement, BareTranscript, bare_aggregate}
use Rattle.bare.specs.Messages.{bare_t, bare_phi, mixedΦ, ownΦ, earlier_z, mixed_z, own_z, turn_element, turn, bare_opening}
use Rattle.bare.specs.Opening.{z_place, turns_place, bare_size, t_at, z_at, turn_at, z_numbers}
use Rattle.bare.specs.Honest.{honest_transcript, honest_opening}
use Rattle.bare.specs.Verdict.{in_turn, garbage_of_z, garbage_ofΦ, aggregate_holds, z_short, z_margin, bare_verdict}
use Rattle.bare.specs.Refusals.{unmixed, all_unmixed, bare_commit_tests, bare_phi_tests, bare_turn_tests, bare_prover_tests, bare_verify_tests}
use Rattle.bare.specs.Arguments.{bare_statement_of, constraint_sizes_of, bare_verification, bare_turn_refusal}
use Rattle.fold_values.specs.Cases.Computing.{fold_computes}

-- all definitions of the bare level, for the `unfolding` line of a closed case
unfoldable pub bare_computes : Unit {0}
unfolding fold_computes bare_t bare_phi mixedΦ ownΦ earlier_z mixed_z own_z turn_element turn bare_opening z_place turns_place bare_size t_at z_at turn_at z_numbers in_turn garbage_of_z garbage_ofΦ aggregate_holds z_short z_margin bare_verdict unmixed all_unmixed bare_commit_tests bare_phi_tests bare_turn_tests bare_prover_tests bare_verify_tests answered
bare_computes = tt

-- a_11, a_12, a_22, φ_1, φ_2, b
abbrev pub constraint : (mixed : ℤ) → List ℤ
constraint mixed =
    + 1 ∷ + 0
    ∷ + 0 ∷ mixed
    ∷ + 2 ∷ + 0
    ∷ + 0 ∷ + 1
    ∷ + 1 ∷ + 1
    ∷ + 15 ∷ - 5
    ∷ []

abbrev pub case : (mixed : ℤ) (z_bound : ℕ) → BareStatement
case mixed z_bound =
    record {
      relation = record { d = 2; n = 1; r = 2; K = 1; L = 0; bound = 25; whole = constraint mixed; constant_terms = [] };
      w = 0;
      κ = 2;
      z_bound = z_bound;
      A = + 1 ∷ + 1 ∷ + 2 ∷ + 0 ∷ [];
    }

abbrev pub witness : List ℤ
witness = + 1 ∷ + 2 ∷ + 3 ∷ - 1 ∷ []

abbrev pub draws : Draws
draws = record { projections = []; ψ = []; ω = []; α = + 0 ∷ + 1 ∷ []; δ = 10 zeros∷ []; c = + 0 ∷ + 1 ∷ + 1 ∷ - 1 ∷ [] }

abbrev pub transcript : BareTranscript
transcript = record { p = []; b'' = 10 zeros∷ [] }

abbrev pub phi : List ℤ
phi = - 1 ∷ + 0 ∷ - 1 ∷ + 1 ∷ []

-- t_1, t_2, two rows each, z, then the four of each turn: an element a line
abbrev pub opening_with : (t z mixedΦ ownΦ mixed_z own_z : ℤ) → List ℤ
opening_with t z mixedΦ ownΦ mixed_z own_z =
    - 1 ∷ + 3
    ∷ + 2 ∷ + 4
    ∷ t ∷ + 2
    ∷ + 6 ∷ - 2
    ∷ + 0 ∷ z
    ∷ + 0 ∷ + 0
    ∷ - 1 ∷ - 2
    ∷ + 0 ∷ + 0
    ∷ - 3 ∷ + 4
    ∷ + 0 ∷ mixedΦ
    ∷ ownΦ ∷ + 4
    ∷ mixed_z ∷ + 10
    ∷ own_z ∷ - 6
    ∷ []

abbrev pub opening : List ℤ
opening = opening_with (+ 4) (- 3) (- 6) (- 2) (- 10) (+ 8)

-- the verdict with a bound on z of 9, on another opening
abbrev verdict_on : List ℤ → Verdict
verdict_on o = bare_verdict (case (+ 0) 9) draws transcript o

-- a number of its own in every size
abbrev sizes : BareSizes
sizes = record { shape = record { d = 1; n = 2; r = 3 }; k = 4; l = 5; w = 6; kappa = 7; bound = 8; z_bound = 9 }

pub record BareCase : Type 0 where
  pub formed : bare_phi 2 1 2 (bare_aggregate (case (+ 0) 9) draws).φ ≡ phi
  pub first-turn : turn 2 1 (part 2 1 phi) [] witness 0 ≡ + 0 ∷ + 0 ∷ - 1 ∷ - 2 ∷ + 0 ∷ + 0 ∷ - 3 ∷ + 4 ∷ []
  pub second-turn : turn 2 1 (part 2 1 phi) (+ 0 ∷ + 1 ∷ []) witness 1 ≡ + 0 ∷ - 6 ∷ - 2 ∷ + 4 ∷ - 10 ∷ + 10 ∷ + 8 ∷ - 6 ∷ []
  pub messages : honest_transcript (case (+ 0) 9) draws witness ≡ transcript
  pub opened : honest_opening (case (+ 0) 9) draws witness ≡ opening
  pub taken : first_failing (bare_prover_tests (case (+ 0) 9) draws witness) ≡ 0
  -- |z|² is 9
  pub accepted : bare_verification (case (+ 0) 9) draws transcript opening ≡ Judged (Accepted 0)
  pub accepted_20 : bare_verification (case (+ 0) 20) draws transcript opening ≡ Judged (Accepted 11)
  pub too_long : bare_verification (case (+ 0) 8) draws transcript opening ≡ Judged (Failed 7)
  -- a number moved in each block
  pub another_t : verdict_on (opening_with (+ 5) (- 3) (- 6) (- 2) (- 10) (+ 8)) ≡ Failed 3
  pub another_z : verdict_on (opening_with (+ 4) (- 2) (- 6) (- 2) (- 10) (+ 8)) ≡ Failed 3
  pub another_mixed_φ : verdict_on (opening_with (+ 4) (- 3) (- 5) (- 2) (- 10) (+ 8)) ≡ Failed 5
  pub another_own_φ : verdict_on (opening_with (+ 4) (- 3) (- 6) (- 1) (- 10) (+ 8)) ≡ Failed 5
  pub another_mixed_z : verdict_on (opening_with (+ 4) (- 3) (- 6) (- 2) (- 9) (+ 8)) ≡ Failed 4
  pub another_own_z : verdict_on (opening_with (+ 4) (- 3) (- 6) (- 2) (- 10) (+ 9)) ≡ Failed 4
  -- a_12 = X
  pub mixed : bare_verification (case (+ 1) 9) draws transcript opening ≡ Refused 14
  -- turns 0 and 3 of two; the second with two challenges
  pub turn_0 : bare_turn_refusal (record { d = 2; n = 1; r = 2 }) 0 phi [] witness (8 zeros∷ []) ≡ 2
  pub turn_3 : bare_turn_refusal (record { d = 2; n = 1; r = 2 }) 3 phi draws.c witness (8 zeros∷ []) ≡ 2
  pub turn_2 : bare_turn_refusal (record { d = 2; n = 1; r = 2 }) 2 phi draws.c witness (8 zeros∷ []) ≡ 7
  -- sizes by their names
  pub statement_of_lem : bare_statement_of sizes (+ 1 ∷ []) (+ 2 ∷ []) (+ 3 ∷ [])
      ≡ record {
        relation = record { d = 1; n = 2; r = 3; K = 4; L = 5; bound = 8; whole = + 2 ∷ []; constant_terms = + 3 ∷ [] };
        w = 6;
        κ = 7;
        z_bound = 9;
        A = + 1 ∷ [];
      }
  pub constraint-sizes : constraint_sizes_of sizes ≡ record { shape = record { d = 1; n = 2; r = 3 }; k = 4; l = 5; w = 6 }

pub bare_case : BareCase
unfolding bare_computes
bare_case =
    record {
      formed = refl;
      first-turn = refl;
      second-turn = refl;
      messages = refl;
      opened = refl;
      taken = refl;
      accepted = refl;
      accepted_20 = refl;
      too_long = refl;
      another_t = refl;
      another_z = refl;
      another_mixed_φ = refl;
      another_own_φ = refl;
      another_mixed_z = refl;
      another_own_z = refl;
      mixed = refl;
      turn_0 = refl;
      turn_3 = refl;
      turn_2 = refl;
      statement_of_lem = refl;
      constraint-sizes = refl;
    }
