-- SPECIFICATION 7.a: "Lowest number first". The numbers of the tests of each call of the bare level rise, so that its refusal is the lowest number of a
-- test that fails, whatever the arguments: `lowest-first`, crates/fold/proofs/Theorems/LowestFirst.antt.
--     bare_commit_rising, bare_phi-rising, bare_turn_rising, bare_verify_rising     the calls
--     bare_prover_rising     the statement, the draws and a witness
use Rattle.std.specs.Prelude.{◌≡◌, refl, true, List, ℕ, ℤ}
use Rattle.fold.specs.Statement.{Draws}
use Rattle.fold.specs.Laws.TestLaws.{rising}
use Rattle.bare.specs.Statement.{BareStatement, BareTranscript}
use Rattle.bare.specs.Refusals.{bare_commit_tests, bare_phi_tests, bare_turn_tests, bare_prover_tests, bare_verify_tests}

pub bare_commit_rising : (d n r κ : ℕ) (A s ts : List ℤ) → rising 0 (bare_commit_tests d n r κ A s ts) ≡ true
unfolding bare_commit_tests
bare_commit_rising d n r κ A s ts = refl

pub bare_phi-rising : (d n r K L w : ℕ) (whole constant_terms projections ψ ω α δ phi : List ℤ)
    → rising 0 (bare_phi_tests d n r K L w whole constant_terms projections ψ ω α δ phi) ≡ true
unfolding bare_phi_tests
bare_phi-rising d n r K L w whole constant_terms projections ψ ω α δ phi = refl

pub bare_turn_rising : (d n r i : ℕ) (phi c s out : List ℤ) → rising 0 (bare_turn_tests d n r i phi c s out) ≡ true
unfolding bare_turn_tests
bare_turn_rising d n r i phi c s out = refl

pub bare_prover_rising : (𝓢 : BareStatement) (𝓓 : Draws) (s : List ℤ) → rising 0 (bare_prover_tests 𝓢 𝓓 s) ≡ true
unfolding bare_prover_tests
bare_prover_rising 𝓢 𝓓 s = refl

pub bare_verify_rising : (𝓢 : BareStatement) (𝓓 : Draws) (𝓣 : BareTranscript) (o : List ℤ) → rising 0 (bare_verify_tests 𝓢 𝓓 𝓣 o) ≡ true
unfolding bare_verify_tests
bare_verify_rising 𝓢 𝓓 𝓣 o = refl
