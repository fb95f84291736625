-- What a call of the next instance that is not refused knows of its arguments: what its work functions ask (WorkFacts), the cut and the length of
-- what it writes to.
use Rattle.std.specs.Prelude.{◌≡◌, List, ℕ, ◌≤◌, length, ℤ}
use Rattle.std.proofs.Math.Path.{refl}
use borrow.Author.Tests.{leb-true}
use Rattle.fold.specs.declared.Sizes.{Sizes}
use Rattle.fold.specs.Sizes.{rest_size, next_rank, next_parts, next_count}
use Rattle.fold.specs.Statement.{Statement, Draws, Transcript}
use Rattle.fold.specs.Answers.{first_failing}
use Rattle.fold.specs.Refusals.{whole_length, size_tests, next_tests}
use Rattle.fold.specs.Arguments.{statement_with, draws_of, transcript_of}
use Rattle.fold.specs.Laws.RefusalLaws.{all_of_all, tested}
use Rattle.fold.specs.Laws.TestLaws.{holds, early-holds}
use Rattle.fold.specs.Known.CallLimits.{ChunkLimits, verify-limits, chunk-limits}
use Rattle.fold.specs.Known.WorkFacts.{AggregateFacts, MessageFacts, EntryFacts, ConstantFacts}
use Rattle.fold.specs.Limits.{most_rank}

module _ (tz : ℕ) (sizes : Sizes) (A B C D whole constant_terms projections ψ ω α δ c u₁ p b'' u₂ : List ℤ) (ν μ : ℕ) (out : List ℤ) where
  open sizes use {shape, k, l, w, kappa, kappa1, kappa2, b, b1, b2, t1, t2, bound, target}
  open shape use {d, n, r}

  abbrev 𝓢 : Statement
  𝓢 = statement_with tz sizes A B C D whole constant_terms

  abbrev 𝓓 : Draws
  𝓓 = draws_of projections ψ ω α δ c

  abbrev 𝓣 : Transcript
  𝓣 = transcript_of u₁ p b'' u₂

  pub record NextFacts : Type 0 where
    pub message : MessageFacts sizes constant_terms ψ ω p b''
    pub aggregated : AggregateFacts d n r k l w whole constant_terms projections ψ ω α δ
    pub entries : EntryFacts sizes A B C D c
    pub constants : ConstantFacts sizes whole α δ b'' u₁ u₂
    pub cut : ChunkLimits tz ν μ
    pub rank-small : next_rank n ν (rest_size r kappa t1 t2) μ ≤ most_rank
    pub out-length : length out ≡ whole_length d (next_rank n ν (rest_size r kappa t1 t2) μ) (next_parts tz ν μ) (next_count kappa kappa1 kappa2)

  pub next-facts : first_failing (next_tests 𝓢 𝓓 𝓣 ν μ out) ≡ 0 → NextFacts
  unfolding next_tests
  next-facts e =
      let row = holds (next_tests 𝓢 𝓓 𝓣 ν μ out) refl e in
      let limits = verify-limits d n r k l w kappa kappa1 kappa2 b b1 b2 t1 t2 bound target (early-holds (size_tests 𝓢 𝓓) _ refl e) (row 6) in
      search (tested, chunk-limits, leb-true, limits, row 5, all_of_all _ (row 7), row 9, row 11)
