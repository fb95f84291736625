-- What each call of the bare level promises: its answer, and every lent number afterwards. "Nothing lent is written" on a refusal. The verifier's answer is
-- `bare_verification` (Arguments.antt). A list is followed by a mark, as v', where it stands for the lent numbers after the call.
use Rattle.std.specs.Prelude.{◌≡◌, List, ℕ, ◌-◌, ℤ}
use Rattle.fold.specs.Answers.{Answer}
use Rattle.fold.specs.Answers.{Written}
use Rattle.fold.specs.declared.Shape.{Shape}
use Rattle.fold.specs.declared.ConstraintSizes.{ConstraintSizes}
use Rattle.fold.specs.Answers.{answered, written}
use Rattle.fold.specs.Statement.{part}
use Rattle.fold.specs.Messages.{aggregate}
use Rattle.bare.specs.Messages.{bare_t, bare_phi, turn}
use Rattle.bare.specs.Arguments.{bare_commit_refusal, bare_phi_refusal, bare_turn_refusal}

-- t
pub record BareCommitted (shape : Shape) (κ : ℕ) (A s v : List ℤ) (answer : Answer) (v' : List ℤ) : Type 0 where
  pub answer-is : answer ≡ answered (bare_commit_refusal shape κ A s v) Written
  pub t-is : v' ≡ written (bare_commit_refusal shape κ A s v) (bare_t shape.d shape.n shape.r κ A s) v

-- φ, of the aggregate for the sizes of a struct
abbrev pub phi_of : ConstraintSizes → (whole constant_terms projections ψ ω α δ : List ℤ) → List ℤ
phi_of m whole constant_terms projections ψ ω α δ =
    bare_phi m.shape.d m.shape.n m.shape.r
    (aggregate m.shape.d m.shape.n m.shape.r m.k m.l m.w whole constant_terms projections ψ ω α δ).φ

pub record BarePhiFormed (sizes : ConstraintSizes) (whole constant_terms projections ψ ω α δ v : List ℤ) (answer : Answer) (v' : List ℤ) : Type 0 where
  pub answer-is : answer ≡ answered (bare_phi_refusal sizes whole constant_terms projections ψ ω α δ v) Written
  pub phi-is : v' ≡ written (bare_phi_refusal sizes whole constant_terms projections ψ ω α δ v) (phi_of sizes whole constant_terms projections ψ ω α δ) v

-- turn i, from 1 to r, with the φ that is lent
pub record BareTurned (shape : Shape) (i : ℕ) (phi c s v : List ℤ) (answer : Answer) (v' : List ℤ) : Type 0 where
  pub answer-is : answer ≡ answered (bare_turn_refusal shape i phi c s v) Written
  pub turn_is : v' ≡ written (bare_turn_refusal shape i phi c s v) (turn shape.d shape.n (part shape.d shape.n phi) c s (i - 1)) v
