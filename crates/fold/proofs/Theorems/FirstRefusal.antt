-- Demand 1, for any call whose answer is `answered` by the first of its tests that fails: it is refused by that test's number and by no other, and
-- what is `written` by it is then what was there. SPECIFICATION 7.
--     FirstFails, Refuses    what it is to be refused by the first test that fails
--     message-refuses, judgement_refuses, next_call_refuses, number-refuses    the calls, by what they answer where they do not refuse
use Rattle.std.specs.Prelude.{◌≡◌, ◌↔◌, ◌⊎◌, Bool, true, false, cond, List, [], ◌∷◌, T, ltb, ℤ}
use Rattle.std.proofs.Math.Path.{refl, ap, subst}
use Rattle.std.proofs.Common.{sym, ◌∙◌, inl, inr, ltb→lt, arith}
use Prim.Native.Nat.{ℕ, zero, suc, ◌<◌}
use Rattle.integers.specs.Laws.AllLaws.{both_left, both_right}
use Rattle.fold.specs.Answers.{Answer}
use Rattle.fold.specs.Answers.{Refused, Judged, Written}
use Rattle.fold.specs.Answers.{Verdict}
use Rattle.fold.specs.Answers.{Accepted, Failed}
use Rattle.fold.specs.Answers.{kind_of, number_of, first_failing, answered, checked, written}
use Rattle.fold.specs.Laws.RefusalLaws.{numbered}

-- the test of row k is the first that fails: those before it hold
abbrev pub FirstFails : ℕ → List (ℕ × Bool) → Type 0
FirstFails k [] = ⊥
FirstFails k (test ∷ tests) = ((test.1 ≡ false) × (test.0 ≡ k)) ⊎ ((test.1 ≡ true) × FirstFails k tests)

-- a call with these tests is refused by k exactly when row k is the first that fails, and then `same` holds of what was lent
pub record Refuses (tests : List (ℕ × Bool)) (answer : Answer) (same : Type 0) : Type 0 where
  pub exactly : (k : ℕ) → (answer ≡ Refused k) ↔ FirstFails k tests
  pub untouched : (k : ℕ) → answer ≡ Refused k → same

-- ---- the first test that fails

pub fails-first : (tests : List (ℕ × Bool)) (k : ℕ) → FirstFails k tests → first_failing tests ≡ k
unfolding first_failing
fails-first [] k h = elim h [ ]
fails-first (test ∷ tests) k (inl (f, n)) = rw f n
fails-first (test ∷ tests) k (inr (t, later)) = rw t (fails-first tests k later)

pub first-fails : (tests : List (ℕ × Bool)) (k : ℕ) → first_failing tests ≡ suc k → FirstFails (suc k) tests
unfolding first_failing
first-fails [] k e = absurd (omega arith)
first-fails (test ∷ tests) k e = step (first-fails tests k) test.1 refl e
  where
    step : (first_failing tests ≡ suc k → FirstFails (suc k) tests) → (t : Bool) → test.1 ≡ t
        → cond t (first_failing tests) test.0 ≡ suc k → FirstFails (suc k) (test ∷ tests)
    step later true q e = inr (q, later e)
    step later false q e = inl (q, e)

-- no row has the number 0
positive : (tests : List (ℕ × Bool)) (k : ℕ) → numbered tests ≡ true → FirstFails k tests → 0 < k
positive [] k l h = elim h [ ]
positive (test ∷ tests) k l (inl (f, n)) =
    subst (λ (j : ℕ). 0 < j) n (ltb→lt 0 test.0 (subst T (sym (both_left (ltb 0 test.0) (numbered tests) l)) tt))
positive (test ∷ tests) k l (inr (t, later)) = positive tests k (both_right (ltb 0 test.0) (numbered tests) l) later

-- ---- the answer

module _ (tests : List (ℕ × Bool)) (l : numbered tests ≡ true) (other : Answer) (no_refusal : kind_of other ≡ 2 → ⊥) where
  to : (k n : ℕ) → first_failing tests ≡ n → answered n other ≡ Refused k → FirstFails k tests
  unfolding answered
  to k zero q e = absurd (no_refusal (ap kind_of e))
  to k (suc n) q e = let same : suc n ≡ k = ap number_of e in subst (λ (j : ℕ). FirstFails j tests) same (first-fails tests n q)

  back : (k n : ℕ) → first_failing tests ≡ n → FirstFails k tests → answered n other ≡ Refused k
  unfolding answered
  back k zero q f = absurd (omega (arith, q, fails-first tests k f, positive tests k l f))
  back k (suc n) q f = ap Refused (sym q ∙ fails-first tests k f)

  kept : (k n : ℕ) → answered n other ≡ Refused k → {A : Type 0} (new old : List A) → written n new old ≡ old
  unfolding answered written
  kept k zero e new old = absurd (no_refusal (ap kind_of e))
  kept k (suc n) e new old = refl

  -- `same` follows where every list that was lent is as it was
  refuses : {answer : Answer} {A same : Type 0} → answer ≡ answered (first_failing tests) other
      → (((new old : List A) → written (first_failing tests) new old ≡ old) → same) → Refuses tests answer same
  refuses is unchanged =
      record {
        exactly = λ k. (λ e. to k (first_failing tests) refl (sym is ∙ e), λ f. is ∙ back k (first_failing tests) refl f);
        untouched = λ k e. unchanged (kept k (first_failing tests) (sym is ∙ e));
      }

judged-no_refusal : (v : Verdict) → kind_of (Judged v) ≡ 2 → ⊥
judged-no_refusal (Accepted m) e = omega arith
judged-no_refusal (Failed k) e = omega arith

checked-no_refusal : (k : ℕ) → kind_of (checked k Written) ≡ 2 → ⊥
unfolding checked
checked-no_refusal zero e = omega arith
checked-no_refusal (suc k) e = omega arith

module _ (tests : List (ℕ × Bool)) (l : numbered tests ≡ true) {answer : Answer} where
  -- a call that answers `Written`
  pub message-refuses : {A same : Type 0} → answer ≡ answered (first_failing tests) Written
      → (((new old : List A) → written (first_failing tests) new old ≡ old) → same) → Refuses tests answer same
  message-refuses is unchanged = refuses tests l Written (λ e. omega arith) is unchanged

  -- one that answers a judgement, and is lent nothing to write to
  pub judgement_refuses : (v : Verdict) → answer ≡ answered (first_failing tests) (Judged v) → Refuses tests answer Unit
  judgement_refuses v is = refuses tests l (Judged v) (judged-no_refusal v) is (λ (kept : (new old : List ℤ) → written (first_failing tests) new old ≡ old). tt)

  -- the next instance, whose check k may fail
  pub next_call_refuses : (k : ℕ) {A same : Type 0} → answer ≡ answered (first_failing tests) (checked k Written)
      → (((new old : List A) → written (first_failing tests) new old ≡ old) → same) → Refuses tests answer same
  next_call_refuses k is unchanged = refuses tests l (checked k Written) (checked-no_refusal k) is unchanged

-- a call that answers the number itself and hands back a list, empty where it is refused
pub number-refuses : (tests : List (ℕ × Bool)) (new : List ℤ) {number : ℕ} {part : List ℤ} → number ≡ first_failing tests
    → part ≡ written (first_failing tests) new [] → (k : ℕ)
    → ((number ≡ suc k) ↔ FirstFails (suc k) tests) × (number ≡ suc k → part ≡ [])
unfolding written
number-refuses tests new is handed k = (
  (λ e. first-fails tests k (sym is ∙ e), λ f. is ∙ fails-first tests (suc k) f),
  λ e. handed ∙ rw (sym is ∙ e) refl,
)
