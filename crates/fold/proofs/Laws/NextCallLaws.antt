-- The calls of the next instance: when everything is written, and what the part that is handed back is.
use Rattle.std.specs.Prelude.{◌≡◌, true, false, ◌↔◌, List, ◌++◌, ℕ, zero, suc, ◌-◌, ◌*◌, length, take, drop, replicate, ℤ, pos}
use Rattle.std.proofs.Math.Path.{refl}
use Rattle.std.proofs.Common.{sym, ◌∙◌, arith}
use Rattle.fold.specs.Answers.{Written, Refused}
use Rattle.fold.specs.Answers.{kind_of, first_failing, answered, checked, written}
use Rattle.fold.specs.Sizes.{rest_size, opening_size, next_rank, next_parts, next_count}
use Rattle.fold.specs.Statement.{Statement, Draws, Transcript}
use Rattle.fold.specs.Verification.{verification}
use Rattle.fold.specs.Statement.{Solves}
use Rattle.fold.specs.Verdict.{message_checks}
use Rattle.fold.specs.Refusals.{narrow, next_tests, part_tests, whole_length}
use Rattle.fold.specs.Laws.RefusalLaws.{passes_refusal, all_of_all, between_iff, sized_iff}
use Rattle.fold.specs.Known.CallLimits.{chunk-limits}
use Rattle.fold.specs.Laws.TestLaws.{holds}
use Rattle.fold.specs.Chunks.{width, padded, ZeroPadding}
use Rattle.fold.proofs.Laws.PaddingLaws.{chunk-padded}
use Rattle.fold.specs.NextInstance.{next_whole, next_witness, cut_off, relation_of, m, n', r', constraint}
use Rattle.fold.proofs.Laws.NextSolves.{FirstChecks}
use Rattle.fold.proofs.Theorems.NextInstanceTheorem.{next-instance-judged, next-instance-past, solving_refused, solution_accepted}
use Rattle.fold.proofs.Theorems.FullChunks.{any_solution_accepted}
use Rattle.fold.specs.NextCall.{first_checks, next_answer, next_out, part_refusal, next_part}
use Rattle.fold.proofs.Laws.LaidOut.{length-written}

-- no refusal and no failed check
both-none : (k j : ℕ) → answered k (checked j Written) ≡ Written → (k ≡ 0) × (j ≡ 0)
unfolding answered checked
both-none zero zero e = (refl, refl)
both-none zero (suc j) e = let z : ◌≡◌ {A = ℕ} 0 1 = cc in absurd (omega arith)
both-none (suc k) j e = let z : ◌≡◌ {A = ℕ} 0 1 = cc in absurd (omega arith)

none_both : {k j : ℕ} → k ≡ 0 → j ≡ 0 → answered k (checked j Written) ≡ Written
unfolding answered checked
none_both e h = rw (e, h)

module _ (𝓢 : Statement) (𝓓 : Draws) (𝓣 : Transcript) (ν μ : ℕ) (out : List ℤ) where
  -- "Otherwise all K' are written": no refusal applies and checks 1 and 2 pass
  pub written_iff : (next_answer 𝓢 𝓓 𝓣 ν μ out ≡ Written) ↔ ((first_failing (next_tests 𝓢 𝓓 𝓣 ν μ out) ≡ 0) × FirstChecks 𝓢 𝓓 𝓣)
  unfolding next_answer first_checks
  written_iff = (
    λ e.
        let (none, pass) = both-none (first_failing (next_tests 𝓢 𝓓 𝓣 ν μ out)) (first_checks 𝓢 𝓓 𝓣) e in
        let check = holds (message_checks 𝓢 𝓓 𝓣) refl pass in
        (none, record { projection = check 1; constant-terms = check 2 }),
    λ h. none_both h.0 (passes_refusal (message_checks 𝓢 𝓓 𝓣) (h.1.projection, (h.1.constant-terms, tt))),
  )

  pub written_out : next_answer 𝓢 𝓓 𝓣 ν μ out ≡ Written → next_out 𝓢 𝓓 𝓣 ν μ out ≡ next_whole 𝓢 𝓓 𝓣 ν μ
  unfolding next_answer next_out written
  written_out e = let (none, pass) = both-none (first_failing (next_tests 𝓢 𝓓 𝓣 ν μ out)) (first_checks 𝓢 𝓓 𝓣) e in rw (none, pass)

  -- the list written is as long as the one lent must be
  pub length-next_whole : length (next_whole 𝓢 𝓓 𝓣 ν μ)
      ≡ whole_length 𝓢.relation.d (n' 𝓢 𝓓 𝓣 ν μ) (r' 𝓢 𝓓 𝓣 ν μ) (next_count 𝓢.κ 𝓢.κ₁ 𝓢.κ₂)
  unfolding next_whole whole_length
  length-next_whole = length-written _ _ _ _ _ (constraint 𝓢 𝓓 𝓣 ν μ)

  -- demand 2 over the answer of the call, and over the numbers out' that it left
  module _ {out' : List ℤ} (e : next_answer 𝓢 𝓓 𝓣 ν μ out ≡ Written) (is : out' ≡ next_out 𝓢 𝓓 𝓣 ν μ out) where
    numbers : out' ≡ next_whole 𝓢 𝓓 𝓣 ν μ
    numbers = is ∙ written_out e

    pub next-instance-written : (o : List ℤ)
        → length o ≡ opening_size 𝓢.tz 𝓢.relation.n 𝓢.relation.r 𝓢.κ 𝓢.t₁ 𝓢.t₂ * 𝓢.relation.d
        → narrow 𝓢 o ≡ true
        → (kind_of (verification 𝓢 𝓓 𝓣 o) ≡ 0) ↔ Solves (relation_of 𝓢 𝓓 𝓣 ν μ out') (next_witness 𝓢 𝓓 𝓣 ν μ o)
    next-instance-written = let (none, pass) = written_iff.0 e in rw numbers (next-instance-judged 𝓢 𝓓 𝓣 ν μ out none pass)

    pub past-written : (o : List ℤ)
        → length o ≡ opening_size 𝓢.tz 𝓢.relation.n 𝓢.relation.r 𝓢.κ 𝓢.t₁ 𝓢.t₂ * 𝓢.relation.d
        → (verification 𝓢 𝓓 𝓣 o ≡ Refused 15 → ⊥)
        → (kind_of (verification 𝓢 𝓓 𝓣 o) ≡ 0) ↔ Solves (relation_of 𝓢 𝓓 𝓣 ν μ out') (next_witness 𝓢 𝓓 𝓣 ν μ o)
    past-written = let (none, pass) = written_iff.0 e in rw numbers (next-instance-past 𝓢 𝓓 𝓣 ν μ out none pass)

    pub wide-written : (o : List ℤ)
        → length o ≡ opening_size 𝓢.tz 𝓢.relation.n 𝓢.relation.r 𝓢.κ 𝓢.t₁ 𝓢.t₂ * 𝓢.relation.d
        → Solves (relation_of 𝓢 𝓓 𝓣 ν μ out') (next_witness 𝓢 𝓓 𝓣 ν μ o) → narrow 𝓢 o ≡ false → verification 𝓢 𝓓 𝓣 o ≡ Refused 15
    wide-written = let (none, pass) = written_iff.0 e in rw numbers (solving_refused 𝓢 𝓓 𝓣 ν μ out none pass)

    pub solution_written : (s : List ℤ)
        → length s ≡ r' 𝓢 𝓓 𝓣 ν μ * n' 𝓢 𝓓 𝓣 ν μ * 𝓢.relation.d
        → ZeroPadding 𝓢.relation.d 𝓢.tz 𝓢.relation.n ν (m 𝓢 𝓓 𝓣 ν μ) μ s
        → narrow 𝓢 (cut_off 𝓢 𝓓 𝓣 ν μ s) ≡ true
        → Solves (relation_of 𝓢 𝓓 𝓣 ν μ out') s
        → kind_of (verification 𝓢 𝓓 𝓣 (cut_off 𝓢 𝓓 𝓣 ν μ s)) ≡ 0
    solution_written = let (none, pass) = written_iff.0 e in rw numbers (solution_accepted 𝓢 𝓓 𝓣 ν μ out none pass)

    pub full_written : (s : List ℤ)
        → length s ≡ r' 𝓢 𝓓 𝓣 ν μ * n' 𝓢 𝓓 𝓣 ν μ * 𝓢.relation.d
        → ν * n' 𝓢 𝓓 𝓣 ν μ ≡ 𝓢.relation.n
        → narrow 𝓢 (cut_off 𝓢 𝓓 𝓣 ν μ s) ≡ true
        → Solves (relation_of 𝓢 𝓓 𝓣 ν μ out') s
        → kind_of (verification 𝓢 𝓓 𝓣 (cut_off 𝓢 𝓓 𝓣 ν μ s)) ≡ 0
    full_written = let (none, pass) = written_iff.0 e in rw numbers (any_solution_accepted 𝓢 𝓓 𝓣 ν μ out none pass)

-- a part that is not refused, with zeros after it, is that part of the padded opening
pub part_of_padded : (d n r κ t₁ t₂ tz ν μ i : ℕ) (o : List ℤ) → part_refusal d n r κ t₁ t₂ tz ν μ i o ≡ 0
    → next_part d n r κ t₁ t₂ tz ν μ i o
    ++ replicate ((next_rank n ν (rest_size r κ t₁ t₂) μ - width tz n ν (rest_size r κ t₁ t₂) μ (i - 1)) * d) (pos 0)
    ≡ take (next_rank n ν (rest_size r κ t₁ t₂) μ * d)
    (drop ((i - 1) * (next_rank n ν (rest_size r κ t₁ t₂) μ * d)) (padded d tz n ν (rest_size r κ t₁ t₂) μ o))
unfolding part_refusal next_part part_tests opening_size written
part_of_padded d n r κ t₁ t₂ tz ν μ i o e =
    let row = holds (part_tests d n r κ t₁ t₂ tz ν μ i o) refl e in
    let inside = (between_iff 1 (next_parts tz ν μ) i).0 (search (all_of_all _ (row 2))) in
    let cut = chunk-limits tz ν μ (row 5) in
    let size = (sized_iff o _).0 (row 7) in
    rw e (sym (chunk-padded d tz n ν (rest_size r κ t₁ t₂) μ cut.ν-positive cut.μ-positive o size (i - 1) (omega (arith, inside))))
