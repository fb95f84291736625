-- Laws of a list of numbered tests: the refusals of a call, the checks of the verdict.
--     rising                    the numbers rise; computes on the lists that are written out
--     passing, failing          one test more; passes, fails: where code asks
--     Rows, passes-rows         each number's test holds
--     holds, early-holds, holds_iff     where none fails, each number's test holds
--     First, first_iff          k is the first exactly when its test fails and those of lower numbers hold
--     first-after               the same by place: those before it hold
--     stops, goes_on, after-passes     a list in two parts
--     accepted-none, failed-number, number-failed     the verdict by its number
use Rattle.std.specs.Prelude.{◌≡◌, refl, Bool, true, false, cond, not, ◌↔◌, List, [], ◌∷◌, ◌++◌, ℕ, zero, suc, ◌≤◌, ◌<◌, T, eqb, ltb}
use Rattle.std.proofs.Common.{sym, ap, subst, ◌∙◌, arith, ltb-true, ltb-false, lt-ltb, eqb-true, eq-eqb, ne_eqb}
use Rattle.std.proofs.lemmas.Bool.{eqb-false, not-true, not-false}
use Rattle.fold.specs.Answers.{Verdict}
use Rattle.fold.specs.Answers.{Failed}
use Rattle.fold.specs.Answers.{Judged}
use Rattle.fold.specs.Answers.{kind_of, first_failing, test_of, judged}
use Rattle.fold.specs.Laws.RefusalLaws.{both_left, both_right, Passes, numbered, refusal_passes, early-passes}

-- the numbers rise, from above k
abbrev pub rising : ℕ → List (ℕ × Bool) → Bool
rising k [] = true
rising k (test ∷ tests) = cond (ltb k test.0) (rising test.0 tests) false

pub rising-head : (k : ℕ) (test : ℕ × Bool) (tests : List (ℕ × Bool)) → rising k (test ∷ tests) ≡ true → k < test.0
rising-head k test tests e = ltb-true k test.0 (both_left _ (rising test.0 tests) e)

pub rising-tail : (k : ℕ) (test : ℕ × Bool) (tests : List (ℕ × Bool)) → rising k (test ∷ tests) ≡ true → rising test.0 tests ≡ true
rising-tail k test tests e = both_right (ltb k test.0) _ e

rising-numbered : (k : ℕ) (tests : List (ℕ × Bool)) → rising k tests ≡ true → numbered tests ≡ true
rising-numbered k [] e = refl
rising-numbered k (test ∷ tests) e =
    rw (lt-ltb 0 test.0 (omega (arith, rising-head k test tests e))) (rising-numbered test.0 tests (rising-tail k test tests e))

-- ---- the first test of a list

either : {P : Type 0} (t : Bool) → (t ≡ true → P) → (t ≡ false → P) → P
either true f g = f refl
either false f g = g refl

true_false : {P : Type 0} {t : Bool} → t ≡ true → t ≡ false → P
true_false e f = absurd (subst T (sym e ∙ f) tt)

module _ (test : ℕ × Bool) (tests : List (ℕ × Bool)) where
  pub passed : test.1 ≡ true → first_failing (test ∷ tests) ≡ first_failing tests
  unfolding first_failing
  passed e = rw e

  pub failed : test.1 ≡ false → first_failing (test ∷ tests) ≡ test.0
  unfolding first_failing
  failed e = rw e

  at-number : (k : ℕ) → test.0 ≡ k → test_of k (test ∷ tests) ≡ test.1
  at-number k e = rw (eq-eqb test.0 k e)

  past-number : (k : ℕ) → (test.0 ≡ k → ⊥) → test_of k (test ∷ tests) ≡ test_of k tests
  past-number k e = rw (ne_eqb test.0 k e)

-- one test more: x is the first of the list then
pub failing : (k : ℕ) (tests : List (ℕ × Bool)) {t : Bool} → t ≡ false → k ≡ first_failing ((k, t) ∷ tests)
failing k tests {t} e = sym (failed (k, t) tests e)

pub passing : (k : ℕ) (tests : List (ℕ × Bool)) {t : Bool} {x : ℕ} → t ≡ true → x ≡ first_failing tests → x ≡ first_failing ((k, t) ∷ tests)
passing k tests {t} e h = h ∙ sym (passed (k, t) tests e)

pub none-fails : 0 ≡ first_failing []
unfolding first_failing
none-fails = refl

-- the same where code has computed the test, as r, and asks whether it fails
pub fails : (k : ℕ) (tests : List (ℕ × Bool)) {r t : Bool} → r ≡ t → not r ≡ true → k ≡ first_failing ((k, t) ∷ tests)
fails k tests {r} e f = failing k tests (sym e ∙ not-true r f)

pub passes : (k : ℕ) (tests : List (ℕ × Bool)) {r t : Bool} {x : ℕ} → r ≡ t → not r ≡ false → x ≡ first_failing tests
    → x ≡ first_failing ((k, t) ∷ tests)
passes k tests {r} e f h = passing k tests (sym e ∙ not-false r f) h

-- ---- none fails

-- each number's test holds
abbrev pub Rows : List (ℕ × Bool) → Type 0
Rows tests = (k : ℕ) → test_of k tests ≡ true

pub passes-rows : (tests : List (ℕ × Bool)) → Passes tests → Rows tests
passes-rows [] p k = refl
passes-rows (test ∷ tests) p k = either (eqb test.0 k) (λ e. rw e p.0) (λ e. rw e (passes-rows tests p.1 k))

pub holds : (tests : List (ℕ × Bool)) → numbered tests ≡ true → first_failing tests ≡ 0 → Rows tests
holds tests l e = passes-rows tests (refusal_passes tests l e)

-- the first tests of a call that is not refused
pub early-holds : (early later : List (ℕ × Bool)) → numbered (early ++ later) ≡ true → first_failing (early ++ later) ≡ 0 → Rows early
early-holds early later l e = passes-rows early (early-passes early later l e)

-- numbers up to the first are not in a rising list
absent : (m : ℕ) (tests : List (ℕ × Bool)) → rising m tests ≡ true → (j : ℕ) → j ≤ m → test_of j tests ≡ true
absent m [] e j l = refl
absent m (test ∷ tests) e j l =
    let above = rising-head m test tests e in
    past-number test tests j (λ q. omega (arith, above))
    ∙ absent test.0 tests (rising-tail m test tests e) j (omega (arith, above))

-- the first that fails is above the numbers before it
first_above : (m : ℕ) (tests : List (ℕ × Bool)) → rising m tests ≡ true → 0 < first_failing tests → m < first_failing tests
unfolding first_failing
first_above m [] e l = absurd (omega (arith, l))
first_above m (test ∷ tests) e l =
    let above = rising-head m test tests e in
    either test.1
    (λ t. let later = passed test tests t in
    let next = first_above test.0 tests (rising-tail m test tests e) (omega (arith, l, later)) in omega (arith, above, later, next))
    (λ f. omega (arith, above, failed test tests f))

-- ---- one fails

pub record First (tests : List (ℕ × Bool)) (k : ℕ) : Type 0 where
  pub fails : test_of k tests ≡ false
  pub lower : (j : ℕ) → j < k → test_of j tests ≡ true

first-is : (m : ℕ) (tests : List (ℕ × Bool)) → rising m tests ≡ true → (k : ℕ) → 0 < k → first_failing tests ≡ k → First tests k
unfolding first_failing
first-is m [] e k some q = absurd (omega (arith, some, q))
first-is m (test ∷ tests) e k some q =
    let up = rising-tail m test tests e in
    either test.1
    (λ t.
    let later = sym (passed test tests t) ∙ q in
    let next = first-is test.0 tests up k some later in
    let above : test.0 < k = omega (arith, first_above test.0 tests up (omega (arith, some, later)), later) in
    record {
      fails = past-number test tests k (λ p. omega (arith, above)) ∙ next.fails;
      lower = λ j l.
          either (eqb test.0 j) (λ p. rw p t) (λ p. rw p (next.lower j l));
    })
    (λ f.
    let here : test.0 ≡ k = sym (failed test tests f) ∙ q in
    record {
      fails = at-number test tests k here ∙ f;
      lower = λ j l. past-number test tests j (λ p. omega (arith, here, l)) ∙ absent test.0 tests up j (omega (arith, here, l));
    })

is-first : (m : ℕ) (tests : List (ℕ × Bool)) → rising m tests ≡ true → (k : ℕ) → First tests k → first_failing tests ≡ k
is-first m [] e k h = true_false refl h.fails
is-first m (test ∷ tests) e k h =
    let up = rising-tail m test tests e in
    either test.1
    (λ t.
    let other : test.0 ≡ k → ⊥ = λ p. true_false t (sym (at-number test tests k p) ∙ h.fails) in
    let lower : (j : ℕ) → j < k → test_of j tests ≡ true =
    λ j l. either (eqb test.0 j)
    (λ p. absent test.0 tests up j (omega (arith, eqb-true test.0 j p)))
    (λ p. sym (past-number test tests j (eqb-false test.0 j p)) ∙ h.lower j l) in
    passed test tests t
    ∙ is-first test.0 tests up k (record { fails = sym (past-number test tests k other) ∙ h.fails; lower = lower }))
    (λ f.
    failed test tests f
    ∙ either (eqb test.0 k)
    (λ p. eqb-true test.0 k p)
    (λ p. either (ltb test.0 k)
    (λ l. true_false (h.lower test.0 (ltb-true test.0 k l)) (at-number test tests test.0 refl ∙ f))
    (λ l. true_false
    (absent test.0 tests up k (ltb-false test.0 k l))
    (sym (past-number test tests k (eqb-false test.0 k p)) ∙ h.fails))))

pub first_iff : (tests : List (ℕ × Bool)) → rising 0 tests ≡ true → (k : ℕ) → 0 < k → (first_failing tests ≡ k) ↔ First tests k
first_iff tests e k some = (first-is 0 tests e k some, is-first 0 tests e k)

-- where none fails each number's test holds, and back
pub holds_iff : (tests : List (ℕ × Bool)) → rising 0 tests ≡ true → (first_failing tests ≡ 0) ↔ Rows tests
holds_iff tests e = (holds tests (rising-numbered 0 tests e), none (first_failing tests) refl)
  where
    none : (k : ℕ) → first_failing tests ≡ k → Rows tests → first_failing tests ≡ 0
    none zero q h = q
    none (suc k) q h = true_false (h (suc k)) (first-is 0 tests e (suc k) (omega arith) q).fails

-- ---- a list in two parts

pub stops : (early later : List (ℕ × Bool)) {x : ℕ} → x ≡ first_failing early → (x ≡ 0 → ⊥) → x ≡ first_failing (early ++ later)
stops [] later e h = absurd (h (e ∙ sym none-fails))
stops (test ∷ tests) later {x} e h =
    either test.1
    (λ t. stops tests later (e ∙ passed test tests t) h ∙ sym (passed test (tests ++ later) t))
    (λ f. e ∙ failed test tests f ∙ sym (failed test (tests ++ later) f))

pub after-passes : (early later : List (ℕ × Bool)) → Passes early → first_failing (early ++ later) ≡ first_failing later
after-passes [] later p = refl
after-passes (test ∷ tests) later p = passed test (tests ++ later) p.0 ∙ after-passes tests later p.1

pub goes_on : (early later : List (ℕ × Bool)) → numbered early ≡ true → {x y : ℕ} → x ≡ first_failing early → x ≡ 0 → y ≡ first_failing later
    → y ≡ first_failing (early ++ later)
goes_on early later l e z h = h ∙ sym (after-passes early later (refusal_passes early l (sym e ∙ z)))

-- the test after `early` is the first that fails
module _ (k : ℕ) (t : Bool) (later : List (ℕ × Bool)) where
  after_holds : (early : List (ℕ × Bool)) (m : ℕ) → rising m (early ++ ((k, t) ∷ later)) ≡ true
      → first_failing (early ++ ((k, t) ∷ later)) ≡ k → Passes early × (t ≡ false)
  after_holds [] m e q =
      let up = rising-tail m (k, t) later e in
      let above = rising-head m (k, t) later e in (
        tt,
        either t
            (λ p. let here = sym (passed (k, t) later p) ∙ q in
            absurd (omega (arith, above, here, first_above k later up (omega (arith, above, here)))))
            (λ f. f),
      )
  after_holds (test ∷ early) m e q =
      let up = rising-tail m test (early ++ ((k, t) ∷ later)) e in
      let above = rising-head m test (early ++ ((k, t) ∷ later)) e in
      either test.1
      (λ p. let next = after_holds early test.0 up (sym (passed test _ p) ∙ q) in ((p, next.0), next.1))
      (λ f. absurd (omega (arith, above, sym (failed test _ f) ∙ q, above-all early test.0 up)))
    where
      above-all : (early : List (ℕ × Bool)) (m : ℕ) → rising m (early ++ ((k, t) ∷ later)) ≡ true → m < k
      above-all [] m e = rising-head m (k, t) later e
      above-all (test ∷ early) m e =
          let first = rising-head m test (early ++ ((k, t) ∷ later)) e in
          omega (arith, first, above-all early test.0 (rising-tail m test (early ++ ((k, t) ∷ later)) e))

  pub first-after : (early : List (ℕ × Bool)) → rising 0 (early ++ ((k, t) ∷ later)) ≡ true
      → (first_failing (early ++ ((k, t) ∷ later)) ≡ k) ↔ (Passes early × (t ≡ false))
  first-after early e = (after_holds early 0 e, λ h. after-passes early ((k, t) ∷ later) h.0 ∙ failed (k, t) later h.1)

-- ---- the verdict by its number

pub accepted-none : (k m : ℕ) → kind_of (Judged (judged k m)) ≡ 0 → k ≡ 0
unfolding judged
accepted-none zero m e = refl
accepted-none (suc k) m e = absurd (omega (arith, e))

pub failed-number : (k m j : ℕ) → judged k m ≡ Failed j → k ≡ j
unfolding judged
failed-number zero m j e = let no : ◌≡◌ {A = ℕ} 0 1 = ap (λ (v : Verdict). kind_of (Judged v)) e in absurd (omega arith)
failed-number (suc k) m j e = cc

pub number-failed : (k m j : ℕ) → 0 < j → k ≡ j → judged k m ≡ Failed j
unfolding judged
number-failed zero m j some e = absurd (omega (arith, some, e))
number-failed (suc k) m j some e = ap Failed e
