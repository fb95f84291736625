-- A second closed case, whose numbers the second implementation computed: three parts of five elements, both kinds of constraints,
-- projection rows, coefficients of every size. Every field of SecondCase holds by computation alone: the definitions and the second
-- implementation agree on the messages, on the opening, on a verdict of each kind and on the next instance.
use Rattle.std.specs.Prelude.{◌≡◌, refl, List, ◌++◌, ℕ, zero, suc, ◌+◌, ◌-◌, ◌<◌, ℤ}
use Rattle.std.proofs.Common.{arith}
use Rattle.integers.specs.Sums.{norm_sq}
use Rattle.algebra.specs.Conjugation.{ct}
use Rattle.algebra.specs.DotProduct.{value}
use Rattle.residues.specs.Modulus.{Zq, red}
use Rattle.ring.specs.Element.{R}
use Rattle.fold.specs.Answers.{Verdict}
use Rattle.fold.specs.Answers.{Accepted, Failed}
use Rattle.fold.specs.Answers.{first_failing}
use Rattle.fold.specs.Statement.{Meets, part, function, whole_at, whole_constant, term_at, term_constant}
use Rattle.fold.specs.Statement.{Statement, Transcript}
use Rattle.fold.specs.Verdict.{verdict}
use Rattle.fold.specs.Honest.{honest_transcript, honest_opening}
use Rattle.fold.specs.Refusals.{verify_tests, prover_tests, next_tests}
use Rattle.fold.specs.Chunks.{padded, unpadded}
use Rattle.fold.specs.NextInstance.{next_whole}
use Rattle.fold_values.specs.Cases.SecondCaseNumbers.{whole, constant_terms, statement, witness, draws}
use Rattle.fold_values.specs.Cases.SecondCaseNumbers.{u₁, p, b'', u₂, opening, least-bound, squared_length}
use Rattle.fold_values.specs.Cases.SecondCaseNumbers.{z_changed, t_changed, g_changed, h_changed, b''_changed_0, b''_changed_1}
use Rattle.fold_values.specs.Cases.SecondCaseNumbers.{u₁_of_g_changed, u₂_of_h_changed, next-witness}
use Rattle.fold_values.specs.Cases.SecondCaseNumbers.{next_5_1, next_5_2, next_6, next_7, next_8, next_3_1, next_3_2, next_3_3, next_4_1, next_4_2}
use Rattle.fold_values.specs.Cases.Computing.{fold_computes}

abbrev pub transcript : (u₁ b'' u₂ : List ℤ) → Transcript
transcript u₁ b'' u₂ = record { u₁ = u₁; p = p; b'' = b''; u₂ = u₂ }

-- the statement with the least bounds, the honest messages
abbrev pub 𝓢 : Statement
𝓢 = statement least-bound squared_length

abbrev pub 𝓣 : Transcript
𝓣 = transcript u₁ b'' u₂

-- the verdict on other messages and another opening
abbrev pub verdict_on_lem : (u₁ b'' u₂ opening : List ℤ) → Verdict
verdict_on_lem u₁ b'' u₂ o = verdict (statement least-bound 999999999999999) draws (transcript u₁ b'' u₂) o

-- the next instance for ν = 4, μ = 3: checks 5 (κ), 6, 7, 8, 3 (κ1), 4 (κ2)
abbrev pub next-numbers : List ℤ
next-numbers =
    next_5_1 ++ next_5_2
    ++ next_6 ++ next_7 ++ next_8
    ++ next_3_1 ++ next_3_2 ++ next_3_3
    ++ next_4_1 ++ next_4_2

-- the two whole constraints and the three others hold at the witness
wholly-met
    : (k : ℕ) → k < 2 → value (R 2) 3 5 (function 2 5 3 (whole_at 2 5 3 whole k)) (part 2 5 witness) ≡ whole_constant 2 5 3 whole k
unfolding fold_computes
wholly-met zero h = refl
wholly-met (suc zero) h = refl
wholly-met (suc (suc k)) h = absurd (omega arith)

met-in-constant-term
    : (l : ℕ) → l < 3 → ct Zq (value (R 2) 3 5 (function 2 5 3 (term_at 2 5 3 constant_terms l)) (part 2 5 witness)) ≡ red (term_constant 2 5 3 constant_terms l)
unfolding fold_computes
met-in-constant-term zero h = refl
met-in-constant-term (suc zero) h = refl
met-in-constant-term (suc (suc zero)) h = refl
met-in-constant-term (suc (suc (suc l))) h = absurd (omega arith)

pub meets : Meets 𝓢.relation witness
meets = record { wholly = wholly-met; in_constant_term = met-in-constant-term }

pub record SecondCase : Type 0 where
  -- the honest messages and opening
  pub transcript_honest : honest_transcript 𝓢 draws witness ≡ 𝓣
  pub opening_honest : honest_opening 𝓢 draws witness ≡ opening
  pub length_of_opening : norm_sq opening ≡ squared_length
  pub prover_not_refused : first_failing (prover_tests 𝓢 draws witness) ≡ 0
  pub verifier_not_refused : first_failing (verify_tests 𝓢 draws 𝓣 opening) ≡ 0
  -- accepted with the least bounds, and what larger ones leave; each check fails where a bound is less or a number is another
  pub accepted : verdict 𝓢 draws 𝓣 opening ≡ Accepted 0
  pub accepted-one-more : verdict (statement least-bound (squared_length + 1)) draws 𝓣 opening ≡ Accepted 1
  pub accepted-most : verdict_on_lem u₁ b'' u₂ opening ≡ Accepted (999999999999999 - squared_length)
  pub failed_1 : verdict (statement (least-bound - 1) squared_length) draws 𝓣 opening ≡ Failed 1
  pub failed_2 : verdict_on_lem u₁ b''_changed_0 u₂ opening ≡ Failed 2
  pub failed_3_t : verdict_on_lem u₁ b'' u₂ t_changed ≡ Failed 3
  pub failed_3_g : verdict_on_lem u₁ b'' u₂ g_changed ≡ Failed 3
  pub failed_4 : verdict_on_lem u₁ b'' u₂ h_changed ≡ Failed 4
  pub failed_5 : verdict_on_lem u₁ b'' u₂ z_changed ≡ Failed 5
  pub failed_6 : verdict_on_lem u₁_of_g_changed b'' u₂ g_changed ≡ Failed 6
  pub failed_7 : verdict_on_lem u₁ b'' u₂_of_h_changed h_changed ≡ Failed 7
  pub failed_8 : verdict_on_lem u₁ b''_changed_1 u₂ opening ≡ Failed 8
  pub failed_9 : verdict (statement least-bound (squared_length - 1)) draws 𝓣 opening ≡ Failed 9
  -- the next instance, and the padded opening
  pub next : next_whole 𝓢 draws 𝓣 4 3 ≡ next-numbers
  pub next-padded : padded 2 2 5 4 42 3 opening ≡ next-witness
  pub next-unpadded : unpadded 2 2 5 4 42 3 next-witness ≡ opening
  pub next_not_refused : first_failing (next_tests 𝓢 draws 𝓣 4 3 next-numbers) ≡ 0

pub second-case : SecondCase
unfolding fold_computes
second-case =
    record {
      transcript_honest = refl;
      opening_honest = refl;
      length_of_opening = refl;
      prover_not_refused = refl;
      verifier_not_refused = refl;
      accepted = refl;
      accepted-one-more = refl;
      accepted-most = refl;
      failed_1 = refl;
      failed_2 = refl;
      failed_3_t = refl;
      failed_3_g = refl;
      failed_4 = refl;
      failed_5 = refl;
      failed_6 = refl;
      failed_7 = refl;
      failed_8 = refl;
      failed_9 = refl;
      next = refl;
      next-padded = refl;
      next-unpadded = refl;
      next_not_refused = refl;
    }
