-- Demand 1 (SPECIFICATION 7.h): "Refused, by the table's numbers and with lent memory untouched: sizes or bounds outside the limits, a slice of the
-- wrong length, a coefficient out of range, a projection entry other than -1, 0, 1, a challenge outside the rule, a next instance too large, a broken
-- sheet, a buffer shorter than the text, a mixed product at the bare level, a low digit of more than half its base. All else is answered; every call ends and does nothing undefined."
-- One theorem for each call, from its promise alone: it is refused by k exactly when the test of row k is the first of its tests that fails, and
-- then nothing lent has changed (`Refuses`, crates/fold/proofs/Theorems/FirstRefusal.antt). That a call ends and does nothing undefined is part of its proof.
use Rattle.std.specs.Prelude.{◌≡◌, refl, ◌↔◌, List, [], ℕ, suc, length, ℤ}
use Rattle.std.proofs.Common.{◌∙◌}
use Rattle.fold.specs.Answers.{Answer}
use Rattle.fold.specs.declared.CommitSizes.{CommitSizes}
use Rattle.fold.specs.declared.ConstraintSizes.{ConstraintSizes}
use Rattle.fold.specs.declared.GarbageSizes.{GarbageSizes}
use Rattle.fold.specs.declared.Shape.{Shape}
use Rattle.fold.specs.declared.ZDigits.{ZDigits}
use Rattle.fold.specs.Statement.{Statement, Draws, Transcript}
use Rattle.fold.specs.Refusals.{product_tests, commit_tests, project_tests, aggregate_tests, garbage_tests, amortize_tests, verify_tests, next_tests, part_tests}
use Rattle.fold.specs.Verification.{verification}
use Rattle.fold.specs.NextCall.{next_answer, next_out, part_refusal, next_part}
use Rattle.fold.specs.declared.PartSizes.{PartSizes}
use Rattle.fold.specs.Arguments.{count_of, base_of, part_refusal_of, next_part_of}
use Rattle.sheet.specs.SheetAnswer.{SheetAnswer}
use Rattle.sheet.specs.Reading.{header_tests, number_tests, body_tests, reading_tests, answer_of, SheetRead}
use Rattle.sheet.specs.declared.header.SheetSizes.{SheetSizes}
use Rattle.writer.specs.WriteAnswer.{WriteAnswer}
use Rattle.writer.specs.Writing.{writing_tests, SheetWritten}
use Rattle.writer.specs.Writing as writing
use Rattle.lizkarg.specs.Calls.{product_of, Committed, Projected, Aggregated, GarbageCommitted, Amortized}
use Rattle.next_instance.specs.Calls.{NextCalled}
use Rattle.bare.specs.Statement.{BareStatement, BareTranscript}
use Rattle.bare.specs.Refusals.{bare_commit_tests, bare_phi_tests, bare_turn_tests, bare_verify_tests}
use Rattle.bare.specs.Arguments.{bare_verification}
use Rattle.bare.specs.Calls.{BareCommitted, BarePhiFormed, BareTurned}
use Rattle.fold.proofs.Theorems.FirstRefusal.{FirstFails, Refuses, message-refuses, judgement_refuses, next_call_refuses, number-refuses}
use Rattle.fold.specs.Sizes.{count_if}

-- the ring product, which is lent nothing to write to
pub multiply_refuses : (d : ℕ) (x y : List ℤ) → Refuses (product_tests d x y) (product_of d x y).answer Unit
unfolding product_tests
multiply_refuses d x y = message-refuses _ refl {A = ℤ} refl (λ kept. tt)

-- messages 1 to 5
pub commit-refuses : {m : CommitSizes} {A B C s t g u t' g' u' : List ℤ} {answer : Answer} → Committed m A B C s t g u answer t' g' u'
    → Refuses (commit_tests m.shape.d m.shape.n m.shape.r m.kappa m.kappa1 m.b1 m.b2 m.t1 m.t2 A B C s t g u) answer
    ((t' ≡ t) × (g' ≡ g) × (u' ≡ u))
unfolding commit_tests
commit-refuses call =
    message-refuses _ refl call.answer-is (λ kept. (call.t-is ∙ kept _ _, call.g-is ∙ kept _ _, call.u-is ∙ kept _ _))

pub project-refuses : {m : Shape} {w : ℕ} {projections s p p' : List ℤ} {answer : Answer} → Projected m w projections s p answer p'
    → Refuses (project_tests m.d m.n m.r w projections s p) answer (p' ≡ p)
unfolding project_tests
project-refuses call = message-refuses _ refl call.answer-is (λ kept. call.p-is ∙ kept _ _)

pub aggregate-refuses : {m : Shape} {L w : ℕ} {constant_terms projections ψ ω s b b' : List ℤ} {answer : Answer} → Aggregated m L w constant_terms projections ψ ω s b answer b'
    → Refuses (aggregate_tests m.d m.n m.r L w constant_terms projections ψ ω s b) answer (b' ≡ b)
unfolding aggregate_tests
aggregate-refuses call = message-refuses _ refl call.answer-is (λ kept. call.b-is ∙ kept _ _)

pub garbage-refuses : {m : GarbageSizes} {whole constant_terms projections ψ ω α δ D s h u h' u' : List ℤ} {answer : Answer}
    → GarbageCommitted m whole constant_terms projections ψ ω α δ D s h u answer h' u'
    → Refuses (garbage_tests m.shape.d m.shape.n m.shape.r m.k m.l m.w m.kappa2 m.b1 m.t1 whole constant_terms projections ψ ω α δ D s h u) answer
    ((h' ≡ h) × (u' ≡ u))
unfolding garbage_tests
garbage-refuses call = message-refuses _ refl call.answer-is (λ kept. (call.h-is ∙ kept _ _, call.u-is ∙ kept _ _))

pub amortize-refuses : {m : Shape} {digits : ZDigits} {c s z z' : List ℤ} {answer : Answer} → Amortized m digits c s z answer z'
    → Refuses (amortize_tests m.d m.n m.r (count_of digits) (base_of digits) c s z) answer (z' ≡ z)
unfolding amortize_tests
amortize-refuses call = message-refuses _ refl call.answer-is (λ kept. call.z-is ∙ kept _ _)

-- the verifier, which is lent nothing to write to
pub verify-refuses : (𝓢 : Statement) (𝓓 : Draws) (𝓣 : Transcript) (o : List ℤ) (answer : Answer) → answer ≡ verification 𝓢 𝓓 𝓣 o
    → Refuses (verify_tests 𝓢 𝓓 𝓣 o) answer Unit
unfolding verify_tests
verify-refuses 𝓢 𝓓 𝓣 o answer is = judgement_refuses _ refl _ is

pub next-refuses : {𝓢 : Statement} {𝓓 : Draws} {𝓣 : Transcript} {ν μ : ℕ} {out out' : List ℤ} {answer : Answer}
    → NextCalled 𝓢 𝓓 𝓣 ν μ out answer out' → Refuses (next_tests 𝓢 𝓓 𝓣 ν μ out) answer (out' ≡ out)
unfolding next_tests next_answer next_out
next-refuses call = next_call_refuses _ refl _ call.answer-is (λ kept. call.out-is ∙ kept _ _)

-- a part of the next witness: "the chunk is empty, and a question beside it answers that number, else 0"; a number k + 1 is that of a row
pub part-refuses : (m : PartSizes) (i : ℕ) (o : List ℤ) (number : ℕ) (part : List ℤ) → number ≡ part_refusal_of m i o → part ≡ next_part_of m i o → (k : ℕ)
    → ((number ≡ suc k) ↔ FirstFails (suc k) (part_tests m.shape.d m.shape.n m.shape.r m.kappa m.t1 m.t2 (count_if m.one_digit) m.nu m.mu i o))
    × (number ≡ suc k → part ≡ [])
unfolding part_refusal next_part
part-refuses m i o number part is handed = number-refuses _ _ is handed

-- the bare level: t, φ, a turn, and the verifier
pub bare_commit_refuses : {m : Shape} {κ : ℕ} {A s v v' : List ℤ} {answer : Answer} → BareCommitted m κ A s v answer v'
    → Refuses (bare_commit_tests m.d m.n m.r κ A s v) answer (v' ≡ v)
unfolding bare_commit_tests
bare_commit_refuses call = message-refuses _ refl call.answer-is (λ kept. call.t-is ∙ kept _ _)

pub bare_phi-refuses : {m : ConstraintSizes} {whole constant_terms projections ψ ω α δ v v' : List ℤ} {answer : Answer}
    → BarePhiFormed m whole constant_terms projections ψ ω α δ v answer v'
    → Refuses (bare_phi_tests m.shape.d m.shape.n m.shape.r m.k m.l m.w whole constant_terms projections ψ ω α δ v) answer (v' ≡ v)
unfolding bare_phi_tests
bare_phi-refuses call = message-refuses _ refl call.answer-is (λ kept. call.phi-is ∙ kept _ _)

pub bare_turn_refuses : {m : Shape} {i : ℕ} {phi c s v v' : List ℤ} {answer : Answer} → BareTurned m i phi c s v answer v'
    → Refuses (bare_turn_tests m.d m.n m.r i phi c s v) answer (v' ≡ v)
unfolding bare_turn_tests
bare_turn_refuses call = message-refuses _ refl call.answer-is (λ kept. call.turn_is ∙ kept _ _)

pub bare_verify_refuses : (𝓢 : BareStatement) (𝓓 : Draws) (𝓣 : BareTranscript) (o : List ℤ) (answer : Answer) → answer ≡ bare_verification 𝓢 𝓓 𝓣 o
    → Refuses (bare_verify_tests 𝓢 𝓓 𝓣 o) answer Unit
unfolding bare_verify_tests
bare_verify_refuses 𝓢 𝓓 𝓣 o answer is = judgement_refuses _ refl _ is

-- the reader of a sheet
pub read-refuses : {text : List ℕ} {numbers numbers' : List ℤ} {read : SheetAnswer} → SheetRead text numbers read numbers'
    → Refuses (reading_tests (length numbers) text) (answer_of read) (numbers' ≡ numbers)
unfolding reading_tests header_tests body_tests number_tests
read-refuses call = message-refuses _ refl call.answer-is (λ kept. call.numbers_are ∙ kept _ _)

-- the writer of a sheet
pub write_refuses : {h : SheetSizes} {numbers : List ℤ} {text text' : List ℕ} {wrote : WriteAnswer} → SheetWritten h numbers text wrote text'
    → Refuses (writing_tests (length text) h numbers) (writing.answer_of wrote) (text' ≡ text)
unfolding writing_tests header_tests number_tests
write_refuses call = message-refuses _ refl call.answer-is (λ kept. call.bytes_are ∙ kept _ _)
