-- SPECIFICATION 7.i: "each low digit x of the opening, of a base B, has 2·|x| ≤ B." Row 15: "the absolute value of a low digit is more than half its
-- base (verifier only)". For the answers of `verify`, whose promise is `answer ≡ verification ..`, and of `judge_sheet`, whose promise is
-- `answer ≡ judged_text text`. `NarrowOpening` and `WideOpening` (crates/fold/proofs/Theorems/NarrowDigits.antt) say it by digit.
--     refused_15         refused by 15, where the tests of all lower rows hold, "exactly when the absolute value of a low digit is more than half its base"
--     accepted-narrow    an accepted opening has narrow low digits
--     sheet_refused_15   a sheet is refused by 15 exactly when its opening has a wide low digit
--     sheet_narrow_lem       the opening of a text that is judged has narrow ones
-- That honest messages never meet 15 is `honest_judged` (HonestRuns.antt); what it means for the next instance stands in NextInstance.antt.
use Rattle.std.specs.Prelude.{◌≡◌, refl, Bool, true, false, ◌↔◌, List, ℕ, ◌<◌, ◌≤◌, length, ℤ}
use Rattle.std.proofs.Common.{sym, ap, ◌∙◌, arith}
use Rattle.fold.specs.Answers.{Answer}
use Rattle.fold.specs.Answers.{Refused, Judged}
use Rattle.fold.specs.Answers.{Verdict}
use Rattle.fold.specs.Answers.{Accepted, Failed}
use Rattle.fold.specs.Answers.{kind_of, test_of}
use Rattle.fold.specs.Statement.{Statement, Draws, Transcript}
use Rattle.fold.specs.Refusals.{verify_tests}
use Rattle.fold.specs.Verification.{verification}
use Rattle.fold.specs.Laws.TestLaws.{first_iff}
use Rattle.fold.proofs.Laws.VerificationLaws.{accepted-opening}
use Rattle.fold.proofs.Theorems.FirstRefusal.{fails-first, first-fails}
use Rattle.fold.proofs.Theorems.LowestFirst.{verify-rising}
use Rattle.fold.proofs.Theorems.NarrowDigits.{NarrowOpening, narrow-exactly, WideOpening, wide-exactly}
use Rattle.sheet.specs.Layout.{sheet_text, SheetNumbers}
use Rattle.sheet.specs.Reading.{header_numbers, sizes_of}
use Rattle.judge.specs.Judging.{sheet_statement, sheet_opening, sheet_narrow, judged_text}
use Rattle.judge.specs.Theorems.JudgeTheorem.{sheet_verdict, numbers_of, judged_sheet}
use Rattle.theorems.specs.Refusals.{verify-refuses}
use Rattle.theorems.specs.Sheet.{sheet_judged, sheet_wide}

module _ (𝓢 : Statement) (𝓓 : Draws) (𝓣 : Transcript) (o : List ℤ) (answer : Answer) (is : answer ≡ verification 𝓢 𝓓 𝓣 o) where
  pub refused_15 : (answer ≡ Refused 15) ↔ (((j : ℕ) → j < 15 → test_of j (verify_tests 𝓢 𝓓 𝓣 o) ≡ true) × WideOpening 𝓢 o)
  unfolding verify_tests
  refused_15 =
      let exactly = (verify-refuses 𝓢 𝓓 𝓣 o answer is).exactly 15 in
      let first = first_iff (verify_tests 𝓢 𝓓 𝓣 o) (verify-rising 𝓢 𝓓 𝓣 o) 15 (omega arith) in (
        λ e.
            let one = first.0 (fails-first _ 15 (exactly.0 e)) in
            (one.lower, (wide-exactly 𝓢 o).0 one.fails),
        λ h. exactly.1 (first-fails _ 14 (first.1 (record { fails = (wide-exactly 𝓢 o).1 h.1; lower = h.0 }))),
      )

  pub accepted-narrow : kind_of answer ≡ 0 → NarrowOpening 𝓢 o
  accepted-narrow e = (narrow-exactly 𝓢 o).0 (accepted-opening 𝓢 𝓓 𝓣 o (ap kind_of (sym is) ∙ e)).digits-narrow

pub sheet_refused_15 : (h xs : List ℤ) → SheetNumbers h xs → length (sheet_text h xs) ≤ 65536 → (answer : Answer)
    → answer ≡ judged_text (sheet_text h xs)
    → (answer ≡ Refused 15) ↔ WideOpening (sheet_statement (sizes_of h) xs) (sheet_opening (sizes_of h) xs)
sheet_refused_15 h xs numbers fits answer is =
    let by-digit = wide-exactly (sheet_statement (sizes_of h) xs) (sheet_opening (sizes_of h) xs) in
    (λ e. by-digit.0 (wide e (sheet_narrow (sizes_of h) xs) refl), λ w. sheet_wide h xs numbers fits answer is (by-digit.1 w))
  where
    judged-kind : (v : Verdict) → kind_of (Judged v) < 2
    judged-kind (Accepted m) = omega arith
    judged-kind (Failed k) = omega arith

    wide : answer ≡ Refused 15 → (t : Bool) → sheet_narrow (sizes_of h) xs ≡ t → sheet_narrow (sizes_of h) xs ≡ false
    wide e false q = q
    wide e true q =
        let same = ap kind_of (sym e ∙ sheet_judged h xs numbers fits answer is q) in
        absurd (omega (arith, same, judged-kind (sheet_verdict (sizes_of h) xs)))

pub sheet_narrow_lem : (text : List ℕ) (answer : Answer) → answer ≡ judged_text text → (v : Verdict) → answer ≡ Judged v
    → NarrowOpening (sheet_statement (sizes_of (header_numbers text)) (numbers_of text)) (sheet_opening (sizes_of (header_numbers text)) (numbers_of text))
sheet_narrow_lem text answer is v e = (narrow-exactly _ _).0 (judged_sheet text v (sym is ∙ e)).digits-narrow
