-- Each promise speaks of a call's result as an answer. The answer fixes the result: no two results are one answer.
--     row-fixes, check_fixes, bare_check_fixes     a refusal, a check, a check of the bare level, by its number
--     failure-fixes                                the result of a test, by the number of its failure, which is not 0
--     written-fixes                                a message's, by the answer that it is
--     verdict-fixes, judgement_fixes, next-fixes   a verdict, a verifier's result, the next instance's, for checks that their number fixes
--     judged-fixes, called-fixes, bare-judged-fixes     those of `verify`, `next_instance` and `bare_verify`
--     product-fixes, read-fixes, wrote_fixes       the ring product's, the reader's, the writer's
use Rattle.std.specs.Prelude.{◌≡◌, refl, Bool, cond, ℕ, zero, suc, eqb, Result, Ok, Err}
use Rattle.std.proofs.Common.{arith, sym, ap, ◌∙◌}
use Rattle.fold.specs.declared.answers.Refusal.{Refusal}
use Rattle.fold.specs.declared.answers.Refusal.TheVariants.{Degree, Size, CommitmentRank, Digits, Chunks, LengthBound, SliceLength, Coefficient, ProjectionEntry, Challenge, NextRank, Layout, Buffer, MixedProduct, LowDigit}
use Rattle.fold.specs.declared.answers.Check.{Check}
use Rattle.fold.specs.declared.answers.Check.TheVariants.{ProjectionLength, ConstantTerms, FirstOuter, SecondOuter, Amortized, SelfProduct, Linear, Relation, OpeningLength}
use Rattle.fold.specs.Rows.{row_of, check_number, failure}
use Rattle.fold.specs.Answers.{Verdict, Accepted, Failed, Answer, Refused, Judged, Written, kind_of, number_of, verdict_of, judgement_of, written_of, next_of}
use Rattle.fold.specs.Laws.ResultLaws.{row_nonzero}
use Rattle.bare.specs.declared.BareCheck.{BareCheck}
use Rattle.bare.specs.declared.BareCheck.TheVariants as bare
use Rattle.bare.specs.Checks.{bare_check_number}
use Rattle.ring.specs.declared.element.Element.{Element}
use Rattle.sheet.specs.declared.header.SheetSizes.{SheetSizes}
use Rattle.sheet.specs.SheetAnswer.{read_of}
use Rattle.sheet.specs.Reading as reading
use Rattle.writer.specs.WriteAnswer.{wrote_of}
use Rattle.writer.specs.Writing as writing
use Rattle.lizkarg.specs.Calls.{product_in}

-- ---- what has a number

abbrev refusal_at : ℕ → Refusal
refusal_at k =
    cond (eqb k 1) Degree (cond (eqb k 2) Size (cond (eqb k 3) CommitmentRank (cond (eqb k 4) Digits (cond (eqb k 5) Chunks
    (cond (eqb k 6) LengthBound (cond (eqb k 7) SliceLength (cond (eqb k 8) Coefficient (cond (eqb k 9) ProjectionEntry (cond (eqb k 10) Challenge
    (cond (eqb k 11) NextRank (cond (eqb k 12) Layout (cond (eqb k 13) Buffer (cond (eqb k 14) MixedProduct LowDigit)))))))))))))

at-row : (r : Refusal) → refusal_at (row_of r) ≡ r
at-row Degree = refl
at-row Size = refl
at-row CommitmentRank = refl
at-row Digits = refl
at-row Chunks = refl
at-row LengthBound = refl
at-row SliceLength = refl
at-row Coefficient = refl
at-row ProjectionEntry = refl
at-row Challenge = refl
at-row NextRank = refl
at-row Layout = refl
at-row Buffer = refl
at-row MixedProduct = refl
at-row LowDigit = refl

abbrev check_at : ℕ → Check
check_at k =
    cond (eqb k 1) ProjectionLength (cond (eqb k 2) ConstantTerms (cond (eqb k 3) FirstOuter (cond (eqb k 4) SecondOuter (cond (eqb k 5) Amortized
    (cond (eqb k 6) SelfProduct (cond (eqb k 7) Linear (cond (eqb k 8) Relation OpeningLength)))))))

at-check : (k : Check) → check_at (check_number k) ≡ k
at-check ProjectionLength = refl
at-check ConstantTerms = refl
at-check FirstOuter = refl
at-check SecondOuter = refl
at-check Amortized = refl
at-check SelfProduct = refl
at-check Linear = refl
at-check Relation = refl
at-check OpeningLength = refl

abbrev bare_check_at : ℕ → BareCheck
bare_check_at k =
    cond (eqb k 1) bare.ProjectionLength (cond (eqb k 2) bare.ConstantTerms (cond (eqb k 3) bare.Amortized (cond (eqb k 4) bare.GarbageOfZ
    (cond (eqb k 5) bare.GarbageOfPhi (cond (eqb k 6) bare.Aggregate bare.LengthOfZ)))))

at-bare_check : (k : BareCheck) → bare_check_at (bare_check_number k) ≡ k
at-bare_check bare.ProjectionLength = refl
at-bare_check bare.ConstantTerms = refl
at-bare_check bare.Amortized = refl
at-bare_check bare.GarbageOfZ = refl
at-bare_check bare.GarbageOfPhi = refl
at-bare_check bare.Aggregate = refl
at-bare_check bare.LengthOfZ = refl

pub row-fixes : (r s : Refusal) → row_of r ≡ row_of s → r ≡ s
row-fixes r s e = sym (at-row r) ∙ ap refusal_at e ∙ at-row s

pub check_fixes : (k l : Check) → check_number k ≡ check_number l → k ≡ l
check_fixes k l e = sym (at-check k) ∙ ap check_at e ∙ at-check l

pub bare_check_fixes : (k l : BareCheck) → bare_check_number k ≡ bare_check_number l → k ≡ l
bare_check_fixes k l e = sym (at-bare_check k) ∙ ap bare_check_at e ∙ at-bare_check l

-- ---- results

abbrev verdict_in : Answer → Verdict
verdict_in (Judged v) = v
verdict_in (Refused n) = Accepted n
verdict_in Written = Accepted 0

abbrev is_refused : Answer → ℕ
is_refused (Refused n) = 1
is_refused (Judged v) = 0
is_refused Written = 0

pub failure-fixes : (r s : Result Unit Refusal) → failure row_of r ≡ failure row_of s → r ≡ s
failure-fixes (Ok u) (Ok v) e = refl
failure-fixes (Ok u) (Err s) e = absurd (row_nonzero s (sym e))
failure-fixes (Err r) (Ok v) e = absurd (row_nonzero r e)
failure-fixes (Err r) (Err s) e = ap Err (row-fixes r s e)

pub written-fixes : (r s : Result Unit Refusal) → written_of r ≡ written_of s → r ≡ s
written-fixes (Ok u) (Ok v) e = refl
written-fixes (Ok u) (Err s) e = let f : ◌≡◌ {A = ℕ} 0 1 = ap is_refused e in absurd (omega arith)
written-fixes (Err r) (Ok v) e = let f : ◌≡◌ {A = ℕ} 1 0 = ap is_refused e in absurd (omega arith)
written-fixes (Err r) (Err s) e = ap Err (row-fixes r s (ap number_of e))

module _ {E : Type 0} (number : E → ℕ) (fixes : (k l : E) → number k ≡ number l → k ≡ l) where
  pub verdict-fixes : (u v : Result ℕ E) → verdict_of number u ≡ verdict_of number v → u ≡ v
  verdict-fixes (Ok m) (Ok n) e = ap Ok (ap (λ v. number_of (Judged v)) e)
  verdict-fixes (Ok m) (Err l) e = let f : ◌≡◌ {A = ℕ} 0 1 = ap (λ v. kind_of (Judged v)) e in absurd (omega arith)
  verdict-fixes (Err k) (Ok n) e = let f : ◌≡◌ {A = ℕ} 1 0 = ap (λ v. kind_of (Judged v)) e in absurd (omega arith)
  verdict-fixes (Err k) (Err l) e = ap Err (fixes k l (ap (λ v. number_of (Judged v)) e))

  pub judgement_fixes : (r s : Result (Result ℕ E) Refusal) → judgement_of number r ≡ judgement_of number s → r ≡ s
  judgement_fixes (Ok u) (Ok v) e = ap Ok (verdict-fixes u v (ap verdict_in e))
  judgement_fixes (Ok u) (Err s) e = let f : ◌≡◌ {A = ℕ} 0 1 = ap is_refused e in absurd (omega arith)
  judgement_fixes (Err r) (Ok v) e = let f : ◌≡◌ {A = ℕ} 1 0 = ap is_refused e in absurd (omega arith)
  judgement_fixes (Err r) (Err s) e = ap Err (row-fixes r s (ap number_of e))

  pub next-fixes : (r s : Result (Result Unit E) Refusal) → next_of number r ≡ next_of number s → r ≡ s
  next-fixes (Ok (Ok u)) (Ok (Ok v)) e = refl
  next-fixes (Ok (Ok u)) (Ok (Err l)) e = let f : ◌≡◌ {A = ℕ} 3 1 = ap kind_of e in absurd (omega arith)
  next-fixes (Ok (Ok u)) (Err s) e = let f : ◌≡◌ {A = ℕ} 3 2 = ap kind_of e in absurd (omega arith)
  next-fixes (Ok (Err k)) (Ok (Ok v)) e = let f : ◌≡◌ {A = ℕ} 1 3 = ap kind_of e in absurd (omega arith)
  next-fixes (Ok (Err k)) (Ok (Err l)) e = ap Ok (ap Err (fixes k l (ap number_of e)))
  next-fixes (Ok (Err k)) (Err s) e = let f : ◌≡◌ {A = ℕ} 1 2 = ap kind_of e in absurd (omega arith)
  next-fixes (Err r) (Ok (Ok v)) e = let f : ◌≡◌ {A = ℕ} 2 3 = ap kind_of e in absurd (omega arith)
  next-fixes (Err r) (Ok (Err l)) e = let f : ◌≡◌ {A = ℕ} 2 1 = ap kind_of e in absurd (omega arith)
  next-fixes (Err r) (Err s) e = ap Err (row-fixes r s (ap number_of e))

pub judged-fixes : (r s : Result (Result ℕ Check) Refusal) → judgement_of check_number r ≡ judgement_of check_number s → r ≡ s
judged-fixes = judgement_fixes check_number check_fixes

pub called-fixes : (r s : Result (Result Unit Check) Refusal) → next_of check_number r ≡ next_of check_number s → r ≡ s
called-fixes = next-fixes check_number check_fixes

pub bare-judged-fixes : (r s : Result (Result ℕ BareCheck) Refusal) → judgement_of bare_check_number r ≡ judgement_of bare_check_number s → r ≡ s
bare-judged-fixes = judgement_fixes bare_check_number bare_check_fixes

pub product-fixes : (r s : Result Element Refusal) → product_in r ≡ product_in s → r ≡ s
product-fixes (Ok x) (Ok y) e = ap Ok (ap (λ p. p.element) e)
product-fixes (Ok x) (Err s) e = let f : ◌≡◌ {A = ℕ} 0 1 = ap (λ p. is_refused p.answer) e in absurd (omega arith)
product-fixes (Err r) (Ok y) e = let f : ◌≡◌ {A = ℕ} 1 0 = ap (λ p. is_refused p.answer) e in absurd (omega arith)
product-fixes (Err r) (Err s) e = ap Err (row-fixes r s (ap (λ p. number_of p.answer) e))

pub read-fixes : (r s : Result SheetSizes Refusal) → read_of r ≡ read_of s → r ≡ s
read-fixes (Ok x) (Ok y) e = ap Ok (ap reading.header_of e)
read-fixes (Ok x) (Err s) e = let f : ◌≡◌ {A = ℕ} 0 1 = ap (λ a. is_refused (reading.answer_of a)) e in absurd (omega arith)
read-fixes (Err r) (Ok y) e = let f : ◌≡◌ {A = ℕ} 1 0 = ap (λ a. is_refused (reading.answer_of a)) e in absurd (omega arith)
read-fixes (Err r) (Err s) e = ap Err (row-fixes r s (ap (λ a. number_of (reading.answer_of a)) e))

pub wrote_fixes : (r s : Result ℕ Refusal) → wrote_of r ≡ wrote_of s → r ≡ s
wrote_fixes (Ok m) (Ok n) e = ap Ok (ap writing.length_of e)
wrote_fixes (Ok m) (Err s) e = let f : ◌≡◌ {A = ℕ} 0 1 = ap (λ a. is_refused (writing.answer_of a)) e in absurd (omega arith)
wrote_fixes (Err r) (Ok n) e = let f : ◌≡◌ {A = ℕ} 1 0 = ap (λ a. is_refused (writing.answer_of a)) e in absurd (omega arith)
wrote_fixes (Err r) (Err s) e = ap Err (row-fixes r s (ap (λ a. number_of (writing.answer_of a)) e))
