-- What the call of the next instance promises: its answer, and every number of `out` afterwards.
use Rattle.std.specs.Prelude.{◌≡◌, List, ℕ, ℤ}
use Rattle.fold.specs.Answers.{Answer}
use Rattle.fold.specs.Statement.{Statement, Draws, Transcript}
use Rattle.fold.specs.NextCall.{next_answer, next_out}

-- out' stands for the numbers of `out` after the call
pub record NextCalled (𝓢 : Statement) (𝓓 : Draws) (𝓣 : Transcript) (ν μ : ℕ) (out : List ℤ) (answer : Answer) (out' : List ℤ) : Type 0 where
  pub answer-is : answer ≡ next_answer 𝓢 𝓓 𝓣 ν μ out
  pub out-is : out' ≡ next_out 𝓢 𝓓 𝓣 ν μ out
