-- Every number of the lists of the bare level is a coefficient, and so is every number of the next instance of a fold and of its padded opening.
--     coefficients-bare_t, coefficients-bare_phi, coefficients-turn      t, φ and a turn
--     coefficients-next_whole, coefficients-padded     the constraints of a next instance, and its witness
use Rattle.std.specs.Prelude.{◌≡◌, true, List, [], ℕ, zero, suc, ◌-◌, ◌*◌, ◌<◌, replicate, ℤ, pos, nat_abs}
use Rattle.std.proofs.Common.{ap, lt-suc_self, arith}
use Rattle.std.proofs.Math.Nat.{le_step}
use Rattle.std.proofs.lemmas.List.{length-replicate, get_or-replicate}
use Rattle.integers.specs.Flat.{flat}
use Rattle.algebra.specs.Triangle.{start}
use Rattle.residues.specs.Range.{coefficients}
use Rattle.residues.proofs.Laws.RangeLaws.{coefficients_of, coefficients-join, coefficients-part}
use Rattle.ring.specs.Element.{R, coeffs}
use Rattle.fold.specs.Statement.{Statement, Draws, Transcript}
use Rattle.fold.specs.Messages.{elements}
use Rattle.fold.specs.Chunks.{cut, cut_padded, padded}
use Rattle.fold.specs.Constraint.{laid_out}
use Rattle.fold.specs.NextInstance.{next_whole}
use Rattle.fold.proofs.Laws.MessageRanges.{coefficients-flat, coefficients-elements}
use Rattle.bare.specs.Messages.{bare_t, bare_phi, turn}

pub coefficients-nil : coefficients [] ≡ true
coefficients-nil = coefficients_of [] (λ i l. let no : ⊥ = omega arith in absurd no)

-- ---- the messages

pub coefficients-bare_t : (d n r κ : ℕ) (A s : List ℤ) → coefficients (bare_t d n r κ A s) ≡ true
unfolding bare_t
coefficients-bare_t d n r κ A s = coefficients-flat r _ (λ i _. coefficients-elements d κ _)

pub coefficients-bare_phi : (d n r : ℕ) (φ : ℕ → ℕ → (R d).Carrier) → coefficients (bare_phi d n r φ) ≡ true
unfolding bare_phi
coefficients-bare_phi d n r φ = coefficients-flat r _ (λ i _. coefficients-elements d n (φ i))

pub coefficients-turn : (d n : ℕ) (φ : ℕ → ℕ → (R d).Carrier) (c s : List ℤ) (i : ℕ) → coefficients (turn d n φ c s i) ≡ true
unfolding turn
coefficients-turn d n φ c s i = coefficients-elements d _ _

-- ---- the next instance

-- one element
coefficients-coeffs : (d : ℕ) (u : (R d).Carrier) → coefficients (coeffs d u) ≡ true
unfolding elements flat
coefficients-coeffs d u = coefficients-elements d 1 (λ _. u)

pub coefficients-next_whole : (𝓢 : Statement) (𝓓 : Draws) (𝓣 : Transcript) (ν μ : ℕ) → coefficients (next_whole 𝓢 𝓓 𝓣 ν μ) ≡ true
unfolding next_whole laid_out
coefficients-next_whole 𝓢 𝓓 𝓣 ν μ =
    coefficients-flat _ _ (λ x _. coefficients-join _ _ (coefficients-flat _ _ (λ s _. coefficients-elements _ _ _))
    (coefficients-join _ _ (coefficients-flat _ _ (λ s _. coefficients-elements _ _ _)) (coefficients-coeffs _ _)))

coefficients-zeros : (n : ℕ) → coefficients (replicate n (pos 0)) ≡ true
coefficients-zeros n =
    coefficients_of _ (λ i h. let inside : i < n = omega (arith, h, length-replicate n (pos 0)) in
    omega (arith, ap nat_abs (get_or-replicate n i (pos 0) (pos 0) inside)))

coefficients-chunk : (d n' : ℕ) (w : ℕ → ℕ) (o : List ℤ) (s : ℕ) → coefficients o ≡ true → coefficients (cut_padded d n' w o s) ≡ true
unfolding cut_padded cut
coefficients-chunk d n' w o s e =
    coefficients-join _ _ (coefficients-part (start w s * d) (w s * d) o e) (coefficients-zeros ((n' - w s) * d))

pub coefficients-padded : (d tz n ν m μ : ℕ) (o : List ℤ) → coefficients o ≡ true → coefficients (padded d tz n ν m μ o) ≡ true
unfolding padded
coefficients-padded d tz n ν m μ o e = coefficients-flat _ _ (λ s _. coefficients-chunk d _ _ o s e)
