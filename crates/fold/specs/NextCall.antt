-- SPECIFICATION 8: what the two calls answer, and what is lent or handed back. "If check 1 or 2 fails the answer is that
-- judgement and nothing is written; a refusal, 11 included, comes before it. Otherwise all K' are written and the answer is "written",
-- which is no judgement."
use Rattle.std.specs.Prelude.{List, [], ℕ, ◌-◌, ℤ}
use Rattle.fold.specs.Answers.{Answer}
use Rattle.fold.specs.Answers.{Written}
use Rattle.fold.specs.Answers.{first_failing, answered, checked, written}
use Rattle.fold.specs.Sizes.{rest_size}
use Rattle.fold.specs.Statement.{Statement, Draws, Transcript}
use Rattle.fold.specs.Verdict.{message_checks}
use Rattle.fold.specs.Refusals.{next_tests, part_tests}
use Rattle.fold.specs.Chunks.{width, cut}
use Rattle.fold.specs.NextInstance.{next_whole}

-- the first of checks 1 and 2 that fails
unfoldable pub first_checks : Statement → Draws → Transcript → ℕ
first_checks 𝓢 𝓓 𝓣 = first_failing (message_checks 𝓢 𝓓 𝓣)

-- the answer, and the numbers of `out` afterwards
module _ (𝓢 : Statement) (𝓓 : Draws) (𝓣 : Transcript) (ν μ : ℕ) (out : List ℤ) where
  unfoldable pub next_answer : Answer
  next_answer = answered (first_failing (next_tests 𝓢 𝓓 𝓣 ν μ out)) (checked (first_checks 𝓢 𝓓 𝓣) Written)

  unfoldable pub next_out : List ℤ
  next_out = written (first_failing (next_tests 𝓢 𝓓 𝓣 ν μ out)) (written (first_checks 𝓢 𝓓 𝓣) (next_whole 𝓢 𝓓 𝓣 ν μ) out) out

-- "Asked for one part of the next witness, the library hands back that chunk of the caller's own slice; where one of 1 to 7 applies
-- (2 for a part outside 1..r') the chunk is empty, and a question beside it answers that number, else 0."
module _ (d n r κ t₁ t₂ tz ν μ i : ℕ) (o : List ℤ) where
  unfoldable pub part_refusal : ℕ
  part_refusal = first_failing (part_tests d n r κ t₁ t₂ tz ν μ i o)

  unfoldable pub next_part : List ℤ
  next_part = written part_refusal (cut d (width tz n ν (rest_size r κ t₁ t₂) μ) o (i - 1)) []
