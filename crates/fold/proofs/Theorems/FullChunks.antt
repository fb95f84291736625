-- SPECIFICATION 8.9: "Where the z chunks are full, ν·n' = n, the same holds of every solution, whatever its padding: z then has none, and that
-- of the other chunks enters no constraint." For any number tz of z digits.
--     any_solution              its verdict, whatever the digits' width
--     any_solution_accepted     the verifier's answer, where the low digits are narrow
use Rattle.std.specs.Prelude.{◌≡◌, true, List, ℕ, ◌*◌, length, ℤ}
use Rattle.fold.specs.Answers.{Judged}
use Rattle.fold.specs.Answers.{kind_of, first_failing}
use Rattle.fold.specs.Statement.{Solves, Statement, Draws, Transcript}
use Rattle.fold.specs.Verdict.{verdict}
use Rattle.fold.specs.Verification.{verification}
use Rattle.fold.specs.Refusals.{narrow, next_tests}
use Rattle.fold.specs.NextInstance.{n', r', next_witness, cut_off, next_relation}
use Rattle.fold.proofs.Laws.NextSolves.{FirstChecks}
use Rattle.fold.proofs.Laws.FullChunks.{full_solves}
use Rattle.fold.proofs.Theorems.NextInstanceTheorem.{some-ν, some-μ, length-s, length-cut_off, next-instance, next-instance-judged}

-- the next instance is not refused and checks 1 and 2 pass; s is a list of r' parts of n' elements
module _ (𝓢 : Statement) (𝓓 : Draws) (𝓣 : Transcript) (ν μ : ℕ) (out : List ℤ) (unrefused : first_failing (next_tests 𝓢 𝓓 𝓣 ν μ out) ≡ 0)
    (pass : FirstChecks 𝓢 𝓓 𝓣) (s : List ℤ) (sized : length s ≡ r' 𝓢 𝓓 𝓣 ν μ * n' 𝓢 𝓓 𝓣 ν μ * 𝓢.relation.d)
    (full : ν * n' 𝓢 𝓓 𝓣 ν μ ≡ 𝓢.relation.n) where
  padded_again : Solves (next_relation 𝓢 𝓓 𝓣 ν μ) s → Solves (next_relation 𝓢 𝓓 𝓣 ν μ) (next_witness 𝓢 𝓓 𝓣 ν μ (cut_off 𝓢 𝓓 𝓣 ν μ s))
  padded_again =
      full_solves 𝓢 𝓓 𝓣 ν μ (some-ν 𝓢 𝓓 𝓣 ν μ out unrefused pass) (some-μ 𝓢 𝓓 𝓣 ν μ out unrefused pass) full s
      (length-s 𝓢 𝓓 𝓣 ν μ out unrefused pass s sized)

  pub any_solution : Solves (next_relation 𝓢 𝓓 𝓣 ν μ) s → kind_of (Judged (verdict 𝓢 𝓓 𝓣 (cut_off 𝓢 𝓓 𝓣 ν μ s))) ≡ 0
  any_solution h =
      (next-instance 𝓢 𝓓 𝓣 ν μ out unrefused pass (cut_off 𝓢 𝓓 𝓣 ν μ s) (length-cut_off 𝓢 𝓓 𝓣 ν μ out unrefused pass s sized)).1 (padded_again h)

  -- "if its digits are narrow too"
  pub any_solution_accepted : narrow 𝓢 (cut_off 𝓢 𝓓 𝓣 ν μ s) ≡ true → Solves (next_relation 𝓢 𝓓 𝓣 ν μ) s
      → kind_of (verification 𝓢 𝓓 𝓣 (cut_off 𝓢 𝓓 𝓣 ν μ s)) ≡ 0
  any_solution_accepted thin h =
      (next-instance-judged 𝓢 𝓓 𝓣 ν μ out unrefused pass (cut_off 𝓢 𝓓 𝓣 ν μ s) (length-cut_off 𝓢 𝓓 𝓣 ν μ out unrefused pass s sized) thin
      ).1 (padded_again h)
