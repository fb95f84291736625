-- Demand 2 (SPECIFICATION 8.8): "When the checks on projection and constant terms pass and the next instance is not too large, an opening that gets
-- past row 15 is accepted exactly if, padded, it solves the next instance."
-- Where the call `next_instance` answered `Written`, so that nothing was refused, n' is at most 256 and checks 1 and 2 passed. Its promise is
-- `NextCalled`; that of `verify` is `answer ≡ verification ..`, accepted where its kind is 0. The next instance is the relation whose constraints are the numbers that the call
-- wrote: `relation_of out'`, with K' = κ+κ1+κ2+3, L' = 0 and the bound β'². `next_witness o` is the padded opening.
--     accepted-exactly        an opening that gets past row 15: its answer is not refused 15
--     narrow-accepted         an opening with narrow low digits: row 15 by index is `NarrowOpening`, crates/fold/proofs/Theorems/NarrowDigits.antt
--     solving_refused         an opening that, padded, solves the next instance and has a wide low digit is refused by 15
--     solution_accepts        a solution with zero padding, "if its digits are narrow too"
--     full_solution_accepts   the same of every solution, where the z chunks are full
--     part_of_witness         what `next_part` hands back for the sizes of a statement is, with zeros after it, that part of the padded opening
-- That an accepted opening has narrow low digits is `accepted-narrow`, NarrowDigits.antt.
use Rattle.std.specs.Prelude.{◌≡◌, ◌↔◌, List, ◌++◌, ℕ, ◌*◌, ◌-◌, length, take, drop, replicate, ℤ, pos}
use Rattle.std.proofs.Common.{sym, ap, ◌∙◌}
use Rattle.fold.specs.Answers.{Answer}
use Rattle.fold.specs.Answers.{Refused, Written}
use Rattle.fold.specs.declared.StatementSizes.{StatementSizes}
use Rattle.fold.specs.Answers.{kind_of}
use Rattle.fold.specs.Sizes.{opening_size}
use Rattle.fold.specs.Statement.{Solves, Statement, Draws, Transcript}
use Rattle.fold.specs.Verification.{verification}
use Rattle.fold.specs.Arguments.{statement_of, part_sizes_of, part_refusal_of, next_part_of}
use Rattle.fold.specs.Chunks.{width, ZeroPadding}
use Rattle.fold.specs.NextInstance.{m, n', r', next_witness, cut_off, relation_of}
use Rattle.fold.proofs.Laws.DigitCounts.{flag_says}
use Rattle.fold.proofs.Laws.NextCallLaws.{next-instance-written, past-written, wide-written, solution_written, full_written}
use Rattle.fold.proofs.Theorems.NarrowDigits.{NarrowOpening, narrow-exactly, WideOpening, wide-exactly}
use Rattle.next_instance.specs.Calls.{NextCalled}
use Rattle.next_instance.specs.Laws.PartLaws.{part_handed_back}

module _ (𝓢 : Statement) (𝓓 : Draws) (𝓣 : Transcript) (ν μ : ℕ) (out out' : List ℤ) (called : NextCalled 𝓢 𝓓 𝓣 ν μ out Written out') where
  open 𝓢 use {relation, tz, κ, t₁, t₂}
  open relation use {d, n, r}

  -- an opening has the length that the sizes give
  module _ (o : List ℤ) (size : length o ≡ opening_size tz n r κ t₁ t₂ * d) (answer : Answer) (is : answer ≡ verification 𝓢 𝓓 𝓣 o) where
    pub accepted-exactly : (answer ≡ Refused 15 → ⊥) → (kind_of answer ≡ 0) ↔ Solves (relation_of 𝓢 𝓓 𝓣 ν μ out') (next_witness 𝓢 𝓓 𝓣 ν μ o)
    accepted-exactly past =
        rw is (past-written 𝓢 𝓓 𝓣 ν μ out (sym called.answer-is) called.out-is o size (λ e. past (is ∙ e)))

    pub narrow-accepted : NarrowOpening 𝓢 o → (kind_of answer ≡ 0) ↔ Solves (relation_of 𝓢 𝓓 𝓣 ν μ out') (next_witness 𝓢 𝓓 𝓣 ν μ o)
    narrow-accepted digits =
        rw is (next-instance-written 𝓢 𝓓 𝓣 ν μ out (sym called.answer-is) called.out-is o size ((narrow-exactly 𝓢 o).1 digits))

    pub solving_refused : Solves (relation_of 𝓢 𝓓 𝓣 ν μ out') (next_witness 𝓢 𝓓 𝓣 ν μ o) → WideOpening 𝓢 o → answer ≡ Refused 15
    solving_refused solves wide =
        is ∙ wide-written 𝓢 𝓓 𝓣 ν μ out (sym called.answer-is) called.out-is o size solves ((wide-exactly 𝓢 o).1 wide)

  -- "A solution of the next instance whose padding is zero is, with the padding cut off, an accepted opening if its digits are narrow too": r' parts of
  -- n' elements
  pub solution_accepts : (s : List ℤ) → length s ≡ r' 𝓢 𝓓 𝓣 ν μ * n' 𝓢 𝓓 𝓣 ν μ * d → ZeroPadding d tz n ν (m 𝓢 𝓓 𝓣 ν μ) μ s
      → NarrowOpening 𝓢 (cut_off 𝓢 𝓓 𝓣 ν μ s) → Solves (relation_of 𝓢 𝓓 𝓣 ν μ out') s
      → (answer : Answer) → answer ≡ verification 𝓢 𝓓 𝓣 (cut_off 𝓢 𝓓 𝓣 ν μ s) → kind_of answer ≡ 0
  solution_accepts s sized zeros digits solves answer is =
      ap kind_of is
      ∙ solution_written 𝓢 𝓓 𝓣 ν μ out (sym called.answer-is) called.out-is s sized zeros ((narrow-exactly 𝓢 _).1 digits) solves

  -- "Where the z chunks are full, ν·n' = n, the same holds of every solution, whatever its padding"
  pub full_solution_accepts : (s : List ℤ) → length s ≡ r' 𝓢 𝓓 𝓣 ν μ * n' 𝓢 𝓓 𝓣 ν μ * d → ν * n' 𝓢 𝓓 𝓣 ν μ ≡ n
      → NarrowOpening 𝓢 (cut_off 𝓢 𝓓 𝓣 ν μ s) → Solves (relation_of 𝓢 𝓓 𝓣 ν μ out') s
      → (answer : Answer) → answer ≡ verification 𝓢 𝓓 𝓣 (cut_off 𝓢 𝓓 𝓣 ν μ s) → kind_of answer ≡ 0
  full_solution_accepts s sized full digits solves answer is =
      ap kind_of is
      ∙ full_written 𝓢 𝓓 𝓣 ν μ out (sym called.answer-is) called.out-is s sized full ((narrow-exactly 𝓢 _).1 digits) solves

-- "Asked for one part of the next witness, the library hands back that chunk of the caller's own slice": the question beside it answered 0
module _ (sizes : StatementSizes) (A B C D whole constant_terms : List ℤ) (𝓓 : Draws) (𝓣 : Transcript) (ν μ i : ℕ) (o : List ℤ) where
  abbrev pub 𝓢 : Statement
  𝓢 = statement_of sizes A B C D whole constant_terms

  open 𝓢 use {relation, tz}
  open relation use {d, n}

  pub part_of_witness : (number : ℕ) (part : List ℤ)
      → number ≡ part_refusal_of (part_sizes_of sizes ν μ) i o → part ≡ next_part_of (part_sizes_of sizes ν μ) i o → number ≡ 0
      → part ++ replicate ((n' 𝓢 𝓓 𝓣 ν μ - width tz n ν (m 𝓢 𝓓 𝓣 ν μ) μ (i - 1)) * d) (pos 0)
      ≡ take (n' 𝓢 𝓓 𝓣 ν μ * d) (drop ((i - 1) * (n' 𝓢 𝓓 𝓣 ν μ * d)) (next_witness 𝓢 𝓓 𝓣 ν μ o))
  part_of_witness number part is handed none =
      rw (flag_says sizes.z) at (part_handed_back (part_sizes_of sizes ν μ) i o number part is handed none)
