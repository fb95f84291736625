-- SPECIFICATION 7.a: "Lowest number first". The numbers of each call's tests rise, so its refusal is the lowest number of a test
-- that fails, whatever the arguments.
--     lowest-first         the refusal is the number of a test that fails, and none that fails has a lower one
--     commit-rising, ..    the calls
use Rattle.std.specs.Prelude.{◌≡◌, refl, Bool, true, false, ◌⊎◌, List, [], ◌∷◌, ℕ, ◌≤◌, ◌<◌, T, ℤ}
use Rattle.std.proofs.Common.{sym, subst, ◌∙◌, inl, inr, arith}
use Rattle.fold.specs.Answers.{first_failing}
use Rattle.fold.specs.Statement.{Statement, Draws, Transcript}
use Rattle.fold.specs.Refusals.{commit_tests, project_tests, aggregate_tests, garbage_tests, amortize_tests}
use Rattle.fold.specs.Refusals.{prover_tests, verify_tests, next_tests, part_tests, product_tests}
use Rattle.fold.specs.Laws.TestLaws.{rising, rising-head, rising-tail, passed, failed}

-- a test with number j fails
abbrev pub Fails : ℕ → List (ℕ × Bool) → Type 0
Fails j [] = ⊥
Fails j (test ∷ tests) = ((test.0 ≡ j) × (test.1 ≡ false)) ⊎ Fails j tests

above : (k j : ℕ) (tests : List (ℕ × Bool)) → rising k tests ≡ true → Fails j tests → k < j
above k j [] e f = absurd f
above k j (test ∷ tests) e (inl f) = omega (arith, rising-head k test tests e, f.0)
above k j (test ∷ tests) e (inr f) =
    omega (arith, rising-head k test tests e, above test.0 j tests (rising-tail k test tests e) f)

-- the refusal, where a test with number j fails
pub record Lowest (tests : List (ℕ × Bool)) (j : ℕ) : Type 0 where
  pub fails : Fails (first_failing tests) tests
  pub not_above : first_failing tests ≤ j

pub lowest-first : (k : ℕ) (tests : List (ℕ × Bool)) → rising k tests ≡ true → (j : ℕ) → Fails j tests → Lowest tests j
lowest-first k [] e j f = absurd f
lowest-first k (test ∷ tests) e j f =
    step test.1 refl f (lowest-first test.0 tests (rising-tail k test tests e) j)
  where
    step : (t : Bool) → test.1 ≡ t → Fails j (test ∷ tests) → (Fails j tests → Lowest tests j) → Lowest (test ∷ tests) j
    step true q (inl f) next = absurd (subst T (sym q ∙ f.1) tt)
    step true q (inr f) next =
        let same = passed test tests q in
        record {
          fails = subst (λ x. Fails x (test ∷ tests)) (sym same) (inr (next f).fails);
          not_above = omega (arith, same, (next f).not_above);
        }
    step false q f next =
        let same = failed test tests q in
        record {
          fails = inl (sym same, q);
          not_above = omega (arith, same, least f);
        }
      where
        least : Fails j (test ∷ tests) → test.0 ≤ j
        least (inl f) = omega (arith, f.0)
        least (inr f) = omega (arith, above test.0 j tests (rising-tail k test tests e) f)

-- ---- the calls

pub commit-rising : (d n r κ κ₁ b₁ b₂ t₁ t₂ : ℕ) (A B C s ts gs u₁ : List ℤ) → rising 0 (commit_tests d n r κ κ₁ b₁ b₂ t₁ t₂ A B C s ts gs u₁) ≡ true
unfolding commit_tests
commit-rising d n r κ κ₁ b₁ b₂ t₁ t₂ A B C s ts gs u₁ = refl

pub project-rising : (d n r w : ℕ) (projections s p : List ℤ) → rising 0 (project_tests d n r w projections s p) ≡ true
unfolding project_tests
project-rising d n r w projections s p = refl

pub aggregate-rising : (d n r L w : ℕ) (constant_terms projections ψ ω s b'' : List ℤ) → rising 0 (aggregate_tests d n r L w constant_terms projections ψ ω s b'') ≡ true
unfolding aggregate_tests
aggregate-rising d n r L w constant_terms projections ψ ω s b'' = refl

pub garbage-rising : (d n r K L w κ₂ b₁ t₁ : ℕ) (whole constant_terms projections ψ ω α δ D s hs u₂ : List ℤ)
    → rising 0 (garbage_tests d n r K L w κ₂ b₁ t₁ whole constant_terms projections ψ ω α δ D s hs u₂) ≡ true
unfolding garbage_tests
garbage-rising d n r K L w κ₂ b₁ t₁ whole constant_terms projections ψ ω α δ D s hs u₂ = refl

pub amortize-rising : (d n r tz b : ℕ) (c s zs : List ℤ) → rising 0 (amortize_tests d n r tz b c s zs) ≡ true
unfolding amortize_tests
amortize-rising d n r tz b c s zs = refl

pub prover_rising : (𝓢 : Statement) (𝓓 : Draws) (s : List ℤ) → rising 0 (prover_tests 𝓢 𝓓 s) ≡ true
unfolding prover_tests
prover_rising 𝓢 𝓓 s = refl

pub verify-rising : (𝓢 : Statement) (𝓓 : Draws) (𝓣 : Transcript) (o : List ℤ) → rising 0 (verify_tests 𝓢 𝓓 𝓣 o) ≡ true
unfolding verify_tests
verify-rising 𝓢 𝓓 𝓣 o = refl

pub next-rising : (𝓢 : Statement) (𝓓 : Draws) (𝓣 : Transcript) (ν μ : ℕ) (out : List ℤ) → rising 0 (next_tests 𝓢 𝓓 𝓣 ν μ out) ≡ true
unfolding next_tests
next-rising 𝓢 𝓓 𝓣 ν μ out = refl

pub product-rising : (d : ℕ) (x y : List ℤ) → rising 0 (product_tests d x y) ≡ true
unfolding product_tests
product-rising d x y = refl

pub part-rising : (d n r κ t₁ t₂ tz ν μ i : ℕ) (o : List ℤ) → rising 0 (part_tests d n r κ t₁ t₂ tz ν μ i o) ≡ true
unfolding part_tests
part-rising d n r κ t₁ t₂ tz ν μ i o = refl
