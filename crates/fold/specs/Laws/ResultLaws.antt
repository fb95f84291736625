-- Laws of a call's tests where its refusal is an error.
--     row_nonzero     no row has the number 0
--     stopped         what the first tests refuse the call refuses
--     gone_on         where they pass, the later ones say it
--     row_fails, row_holds     where they pass and the next row fails, or holds; code has computed its test
--     check_nonzero, failed-at    no check has the number 0, and a failed one is named
--     handed_on, required, last_row     the result: an error that `?` hands on, one of `require`, and a last `require`
--     failed_on, failed_check           a verdict's
--     refused_by, unrefused_by          the answer of a call that is refused, or not
--     refused_judgement, refused_writing     a refused call's
use Rattle.std.specs.Prelude.{◌≡◌, refl, Bool, true, false, if◌then◌else◌, Result, Ok, Err, IsErrAnd, List, [], ◌∷◌, ◌++◌, ℕ, zero, suc}
use Rattle.std.proofs.Common.{arith, sym, ap, ◌∙◌}
use Rattle.fold.specs.declared.answers.Refusal.{Refusal}
use Rattle.fold.specs.declared.answers.Refusal.TheVariants.{Degree, Size, CommitmentRank, Digits, Chunks, LengthBound, SliceLength, Coefficient, ProjectionEntry, Challenge, NextRank, Layout, Buffer, MixedProduct, LowDigit}
use Rattle.fold.specs.declared.answers.Check.{Check}
use Rattle.fold.specs.declared.answers.Check.TheVariants.{ProjectionLength, ConstantTerms, FirstOuter, SecondOuter, Amortized, SelfProduct, Linear, Relation, OpeningLength}
use Rattle.fold.specs.Rows.{row_of, check_number, failure}
use Rattle.fold.specs.Answers.{Answer, Refused, Failed, first_failing, judged, answered, verdict_of, judgement_of, written_of}
use Rattle.fold.specs.Laws.RefusalLaws.{numbered}
use Rattle.fold.specs.Laws.TestLaws.{stops, goes_on, failing, passing}

pub row_nonzero : (r : Refusal) → row_of r ≡ 0 → ⊥
row_nonzero Degree e = omega arith
row_nonzero Size e = omega arith
row_nonzero CommitmentRank e = omega arith
row_nonzero Digits e = omega arith
row_nonzero Chunks e = omega arith
row_nonzero LengthBound e = omega arith
row_nonzero SliceLength e = omega arith
row_nonzero Coefficient e = omega arith
row_nonzero ProjectionEntry e = omega arith
row_nonzero Challenge e = omega arith
row_nonzero NextRank e = omega arith
row_nonzero Layout e = omega arith
row_nonzero Buffer e = omega arith
row_nonzero MixedProduct e = omega arith
row_nonzero LowDigit e = omega arith

-- what fails is named
pub failed-at : (k m : ℕ) → (k ≡ 0 → ⊥) → Failed k ≡ judged k m
unfolding judged
failed-at zero m some = absurd (some refl)
failed-at (suc k) m some = refl

pub check_nonzero : (k : Check) → check_number k ≡ 0 → ⊥
check_nonzero ProjectionLength e = omega arith
check_nonzero ConstantTerms e = omega arith
check_nonzero FirstOuter e = omega arith
check_nonzero SecondOuter e = omega arith
check_nonzero Amortized e = omega arith
check_nonzero SelfProduct e = omega arith
check_nonzero Linear e = omega arith
check_nonzero Relation e = omega arith
check_nonzero OpeningLength e = omega arith

pub stopped : (early later : List (ℕ × Bool)) (r : Refusal) → row_of r ≡ first_failing early → row_of r ≡ first_failing (early ++ later)
stopped early later r e = stops early later e (row_nonzero r)

pub gone_on : (early later : List (ℕ × Bool)) → numbered early ≡ true → {x : ℕ} → 0 ≡ first_failing early → x ≡ first_failing later
    → x ≡ first_failing (early ++ later)
gone_on early later l e h = goes_on early later l e refl h

pub row_fails : (early : List (ℕ × Bool)) (k : ℕ) (later : List (ℕ × Bool)) → numbered early ≡ true → 0 ≡ first_failing early
    → {s t : Bool} → s ≡ t → s ≡ false → k ≡ first_failing (early ++ ((k, t) ∷ later))
row_fails early k later l e q f = gone_on early _ l e (failing k later (sym q ∙ f))

pub row_holds : (early : List (ℕ × Bool)) (k : ℕ) (later : List (ℕ × Bool)) → numbered early ≡ true → 0 ≡ first_failing early
    → {s t : Bool} → s ≡ t → s ≡ true → {x : ℕ} → x ≡ first_failing later → x ≡ first_failing (early ++ ((k, t) ∷ later))
row_holds early k later l e q f h = gone_on early _ l e (passing k later (sym q ∙ f) h)

-- ---- answers

-- a call that is refused, or not
pub refused_by : (k n : ℕ) (a : Answer) → k ≡ n → (k ≡ 0 → ⊥) → Refused k ≡ answered n a
unfolding answered
refused_by zero n a e some = absurd (some refl)
refused_by (suc k) zero a e some = absurd (some e)
refused_by (suc k) (suc n) a e some = ap Refused e

pub unrefused_by : (n : ℕ) {a b : Answer} → 0 ≡ n → a ≡ b → a ≡ answered n b
unfolding answered
unrefused_by zero e f = f
unrefused_by (suc n) e f = absurd (omega (arith, e))

-- ---- results

module _ {E : Type 0} (number : E → ℕ) where
  pub handed_on : (r : Result Unit E) (e : E) {n : ℕ} → IsErrAnd r (λ x. x ≡ e) → number e ≡ n → failure number r ≡ n
  handed_on (Ok u) e told q = absurd told
  handed_on (Err x) e told q = ap number told ∙ q

  pub required : (r : Result Unit E) {x e : E} {s : Bool} {n : ℕ} → IsErrAnd r (λ y. y ≡ x) → (s ≡ false) × (x ≡ e) → number e ≡ n
      → failure number r ≡ n
  required r told because q = handed_on r _ told (ap number because.1 ∙ q)

  pub last_row : (e : E) {r : Result Unit E} {s t : Bool} → r ≡ (if s then Ok tt else Err e) → s ≡ t
      → failure number r ≡ first_failing ((number e, t) ∷ [])
  unfolding first_failing
  last_row e {r = r} {s = true} is q = rw (is, sym q) refl
  last_row e {r = r} {s = false} is q = rw (is, sym q) refl

  -- a verdict's check
  pub failed_on : (r : Result ℕ E) (e : E) {n : ℕ} (m : ℕ) → IsErrAnd r (λ x. x ≡ e) → (number e ≡ 0 → ⊥) → number e ≡ n
      → verdict_of number r ≡ judged n m
  failed_on (Ok k) e m told some q = absurd told
  failed_on (Err x) e m told some q = ap (λ y. Failed (number y)) told ∙ failed-at (number e) m some ∙ ap (λ j. judged j m) q

  pub failed_check : (r : Result ℕ E) {x e : E} {s : Bool} {n : ℕ} (m : ℕ) → IsErrAnd r (λ y. y ≡ x) → (s ≡ false) × (x ≡ e) → (number e ≡ 0 → ⊥)
      → number e ≡ n → verdict_of number r ≡ judged n m
  failed_check r m told because some q =
      failed_on r _ m told (λ z. some (sym (ap number because.1) ∙ z)) (ap number because.1 ∙ q)

  -- a verifier's answer
  pub refused_judgement : (r : Result (Result ℕ E) Refusal) (e : Refusal) (n : ℕ) (a : Answer) → IsErrAnd r (λ x. x ≡ e) → row_of e ≡ n
      → judgement_of number r ≡ answered n a
  refused_judgement (Ok v) e n a told q = absurd told
  refused_judgement (Err x) e n a told q = ap (λ y. Refused (row_of y)) told ∙ refused_by (row_of e) n a q (row_nonzero e)

-- that of a call that writes
pub refused_writing : (r : Result Unit Refusal) (e : Refusal) (n : ℕ) (a : Answer) → IsErrAnd r (λ x. x ≡ e) → row_of e ≡ n
    → written_of r ≡ answered n a
refused_writing (Ok u) e n a told q = absurd told
refused_writing (Err x) e n a told q = ap (λ y. Refused (row_of y)) told ∙ refused_by (row_of e) n a q (row_nonzero e)
