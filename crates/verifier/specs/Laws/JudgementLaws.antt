-- Laws of what Judgement.antt defines.
use Rattle.std.specs.Prelude.{◌≡◌, refl, Bool, true, false, cond, List, [], ◌∷◌, ℕ, zero, suc, ◌-◌, ◌≤◌, ◌<◌, leb, ℤ, length, Option, Some, Result}
use Rattle.std.specs.Option.{ok_or}
use Rattle.std.proofs.Common.{sym, ap, ◌∙◌, mul-le-mul, arith}
use Rattle.integers.specs.Over.{over}
use Rattle.residues.specs.Length.{margin_if, remaining}
use Rattle.fold.specs.Answers.{Verdict, verdict_of}
use Rattle.fold.specs.Laws.ResultLaws.{failed-at}
use Rattle.fold.specs.declared.Sizes.{Sizes}
use Rattle.fold.specs.Answers.{first_failing, judged, answered}
use Rattle.fold.specs.Messages.{elements}
use Rattle.fold.specs.Verdict.{checks}
use Rattle.fold.specs.Statement.{Statement, Draws, Transcript}
use Rattle.fold.specs.Arguments.{statement_with, draws_of, transcript_of, verify_refusal}
use Rattle.fold.specs.Laws.TestLaws.{stops, goes_on}
use Rattle.fold.specs.Known.CallFacts.{VerifyFacts, verify-facts}
use Rattle.checks.specs.Known.Facts.{Fits, z_value}
use Rattle.fold.proofs.Laws.WriterLaws.{el-written}
use Rattle.verifier.specs.Judgement.{Recomposed, message_checks_of, outer_checks_of, opening_checks_of}

pub recomposed : (tz : ℕ) (s : Sizes) → Fits s → (o old z : List ℤ) → length z ≡ 16384 → z ≡ over old 0 (elements s.shape.d s.shape.n
    (z_value tz s o)) → Recomposed tz s o z
recomposed tz s fits o old z room e = record {
  room = omega (arith, mul-le-mul fits.shaped.rank-small fits.shaped.degree.small);
  agree = λ i h. el-written s.shape.d s.shape.n (z_value tz s o) old e i h;
}

module _ (tz : ℕ) (s : Sizes) (A B C D whole constant_terms projections ψ ω α δ c u₁ p b'' u₂ o : List ℤ) where
  abbrev 𝓢 : Statement
  𝓢 = statement_with tz s A B C D whole constant_terms

  abbrev 𝓓 : Draws
  𝓓 = draws_of projections ψ ω α δ c

  abbrev 𝓣 : Transcript
  𝓣 = transcript_of u₁ p b'' u₂

  -- what a call that is not refused knows
  pub call_facts : 0 ≡ verify_refusal 𝓢 𝓓 𝓣 o → VerifyFacts tz s A B C D whole constant_terms projections ψ ω α δ c u₁ p b'' u₂ o
  call_facts e = verify-facts tz s A B C D whole constant_terms projections ψ ω α δ c u₁ p b'' u₂ o (sym e)

  -- the three parts are the checks: one of the first part fails, or one of the second, or the third says
  module _ {x : ℕ} (e : x ≡ first_failing (message_checks_of s constant_terms p ψ ω b'')) where
    pub message-fails : (x ≡ 0 → ⊥) → x ≡ first_failing (checks 𝓢 𝓓 𝓣 o)
    message-fails some = stops _ _ e some

    module _ (none : x ≡ 0) {y : ℕ} (f : y ≡ first_failing (outer_checks_of tz s B C D u₁ u₂ o)) where
      pub outer-fails : (y ≡ 0 → ⊥) → y ≡ first_failing (checks 𝓢 𝓓 𝓣 o)
      outer-fails some = goes_on _ _ refl e none (stops _ _ f some)

      pub opening_says : (m : ℕ) {v : Verdict} → y ≡ 0 → v ≡ judged (first_failing (opening_checks_of tz s A whole constant_terms projections ψ ω b'' α δ c o)) m
          → v ≡ judged (first_failing (checks 𝓢 𝓓 𝓣 o)) m
      opening_says m pass later = later ∙ ap (λ j. judged j m) (goes_on _ _ refl e none (goes_on _ _ refl f pass refl))

pub check_passed : (k n m : ℕ) {v : Verdict} → v ≡ judged k m → k ≡ n → v ≡ judged n m
check_passed k n m e f = e ∙ ap (λ j. judged j m) f

-- what the last check says is the verdict on it alone, with what is left of the bound as margin
pub length_says : {E : Type 0} (number : E → ℕ) (e : E) (bound n : ℕ) {r : Result ℕ E} {x : Option ℕ} → (number e ≡ 0 → ⊥) → r ≡ ok_or x e
    → x ≡ remaining bound n → verdict_of number r ≡ judged (first_failing ((number e, leb n bound) ∷ [])) (bound - n)
unfolding remaining first_failing judged
length_says number e bound n some is left = ap (verdict_of number) (is ∙ ap (λ y. ok_or y e) left) ∙ says (leb n bound)
  where
    says : (t : Bool) → verdict_of number (ok_or (margin_if t (Some (bound - n))) e) ≡ judged (cond t 0 (number e)) (bound - n)
    says true = refl
    says false = failed-at (number e) (bound - n) some
