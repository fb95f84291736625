-- SPECIFICATION 3.6: "A statement keeps z in two digits to base b, or in one: then z itself, centred, is its only digit. With one, b is neither taken nor
-- tested." The demands (the other files of this folder) hold for both. Where z has one digit, for the answers of `amortize`, `verify` and `next_instance`:
--     amortize-no-base                  message 5 is not refused by 4
--     amortize-whole                    what it writes is z itself
--     verify_any_base, next_any_base    the answer, and what is written, is that for every base that row 4 takes
--     next-unmixed                      "the next instance of a fold with one z digit has no mixed products"
-- `Unmixed` (crates/fold/proofs/Theorems/OneDigit.antt) says of a statement that no a_ij with i < j is other than zero.
use Rattle.std.specs.Prelude.{◌≡◌, refl, true, List, ℕ, ℤ, pos}
use Rattle.std.proofs.Common.{sym, ◌∙◌, arith}
use Rattle.fold.specs.Answers.{Answer}
use Rattle.fold.specs.Answers.{Refused, Written}
use Rattle.fold.specs.declared.Shape.{Shape}
use Rattle.fold.specs.declared.StatementSizes.{StatementSizes}
use Rattle.fold.specs.declared.ZDigits.TheVariants.{One}
use Rattle.fold.specs.Statement.{Statement, Draws, Transcript}
use Rattle.fold.specs.Refusals.{base, amortize_tests}
use Rattle.fold.specs.Arguments.{base_of, statement_of}
use Rattle.fold.specs.Messages.{elements, z}
use Rattle.fold.specs.Verification.{verification}
use Rattle.fold.specs.NextInstance.{relation_of}
use Rattle.fold.proofs.Laws.DigitCounts.{one-base-taken}
use Rattle.fold.proofs.Laws.OneDigit.{with_base, one-digit-is}
use Rattle.fold.specs.Laws.RefusalLaws.{false_true}
use Rattle.fold.specs.Laws.TestLaws.{first_iff}
use Rattle.fold.proofs.Laws.HonestWritten.{left}
use Rattle.fold.proofs.Laws.NextCallLaws.{written_out}
use Rattle.fold.proofs.Theorems.OneDigit.{Unmixed, base-free, base-free-next}
use Rattle.fold.proofs.Theorems.OneDigit as fold
use Rattle.fold.proofs.Theorems.FirstRefusal.{fails-first}
use Rattle.fold.proofs.Theorems.LowestFirst.{amortize-rising}
use Rattle.lizkarg.specs.Calls.{Amortized}
use Rattle.theorems.specs.Refusals.{amortize-refuses}
use Rattle.next_instance.specs.Calls.{NextCalled}

-- message 5
module _ {m : Shape} {c s v v' : List ℤ} {answer : Answer} (called : Amortized m One c s v answer v') where
  pub amortize-no-base : answer ≡ Refused 4 → ⊥
  unfolding amortize_tests
  amortize-no-base e =
      let tests = amortize_tests m.d m.n m.r 1 (base_of One) c s v in
      let first = first_iff tests (amortize-rising m.d m.n m.r 1 (base_of One) c s v) 4 (omega arith) in
      let fails = (first.0 (fails-first _ 4 (((amortize-refuses called).exactly 4).0 e))).fails in
      false_true (sym fails ∙ one-base-taken)

  pub amortize-whole : answer ≡ Written → v' ≡ elements m.d m.n (z m.d m.n m.r c s)
  amortize-whole e = left _ _ _ (sym e ∙ called.answer-is) called.z-is ∙ one-digit-is m.d m.n m.r (base_of One) c s

-- the statement of a call whose sizes say one digit
module _ (sizes : StatementSizes) (one : sizes.z ≡ One) (A B C D whole constant_terms : List ℤ) (𝓓 : Draws) (𝓣 : Transcript) where
  abbrev pub 𝓢 : Statement
  𝓢 = statement_of sizes A B C D whole constant_terms

  single : 𝓢.tz ≡ 1
  single = rw one refl

  taken : (b : ℕ) → base (pos b) ≡ true → base (pos b) ≡ base (pos 𝓢.b)
  taken b row = rw one (row ∙ sym one-base-taken)

  pub verify_any_base : (o : List ℤ) (answer : Answer) → answer ≡ verification 𝓢 𝓓 𝓣 o → (b : ℕ) → base (pos b) ≡ true
      → answer ≡ verification (with_base 𝓢 b) 𝓓 𝓣 o
  verify_any_base o answer is b row = is ∙ sym (base-free 𝓢 single b (taken b row) 𝓓 𝓣 o)

  module _ {ν μ : ℕ} {out out' : List ℤ} {answer : Answer} (called : NextCalled 𝓢 𝓓 𝓣 ν μ out answer out') where
    pub next_any_base : (b : ℕ) → base (pos b) ≡ true → NextCalled (with_base 𝓢 b) 𝓓 𝓣 ν μ out answer out'
    next_any_base b row =
        let free = base-free-next 𝓢 single b (taken b row) 𝓓 𝓣 ν μ out in
        record { answer-is = called.answer-is ∙ sym free.0; out-is = called.out-is ∙ sym free.1 }

    pub next-unmixed : answer ≡ Written → Unmixed (relation_of 𝓢 𝓓 𝓣 ν μ out')
    next-unmixed e =
        rw (called.out-is ∙ written_out 𝓢 𝓓 𝓣 ν μ out (sym called.answer-is ∙ e)) (fold.next-unmixed 𝓢 𝓓 𝓣 ν μ single)
