-- SPECIFICATION 6.a: "The verifier's answer is either a refusal with its number or a judgement."
use Rattle.std.specs.Prelude.{List, ℤ}
use Rattle.fold.specs.Answers.{Answer}
use Rattle.fold.specs.Answers.{Judged}
use Rattle.fold.specs.Answers.{first_failing, answered}
use Rattle.fold.specs.Statement.{Statement, Draws, Transcript}
use Rattle.fold.specs.Verdict.{verdict}
use Rattle.fold.specs.Refusals.{verify_tests}

abbrev pub verification : Statement → Draws → Transcript → (o : List ℤ) → Answer
verification 𝓢 𝓓 𝓣 o = answered (first_failing (verify_tests 𝓢 𝓓 𝓣 o)) (Judged (verdict 𝓢 𝓓 𝓣 o))
