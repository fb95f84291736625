-- Laws of the place after a read and of interrupted reads, in the form in which the code meets them.
--     place-failed, place-cut, place-within    the place where the read failed, where it answered more than there is room for, else
--     place-between                            the place is not before the read's own and not past the end
--     not_interrupted, interrupted_by          a read that did not fail was not interrupted; one that failed was if the bits of its error are 4
use Rattle.std.specs.Prelude.{◌≡◌, refl, true, false, ℕ, suc, ◌+◌, ◌-◌, ◌≤◌, ◌<◌, eqb, ℤ, pos, negsuc, nat_abs}
use Rattle.std.proofs.Common.{arith, SFits, of_z, ne_eqb}
use Rattle.std.specs.Int.Signed.{lt_z}
use Rattle.std.specs.Int.{w32}
use Rattle.integers.specs.Laws.Bridge.{zarith}
use Rattle.verdict.specs.Reads.{place_after, interrupted}

pub place-failed : (got : ℤ) (from size : ℕ) → lt_z got (pos 0) ≡ true → size ≡ place_after got from size
unfolding place_after
place-failed (pos k) from size t = let f : ⊥ = omega (zarith, t) in absurd f
place-failed (negsuc k) from size t = refl

pub place-cut : (got : ℤ) (from size : ℕ) → from ≤ size → lt_z got (pos 0) ≡ false → size - from < nat_abs got
    → size ≡ place_after got from size
unfolding place_after
place-cut (pos k) from size h t more = omega arith
place-cut (negsuc k) from size h t more = let f : ⊥ = omega (zarith, t) in absurd f

pub place-within : (got : ℤ) (from size : ℕ) → from ≤ size → lt_z got (pos 0) ≡ false → nat_abs got ≤ size - from
    → from + nat_abs got ≡ place_after got from size
unfolding place_after
place-within (pos k) from size h t less = omega arith
place-within (negsuc k) from size h t less = let f : ⊥ = omega (zarith, t) in absurd f

pub place-between : (got : ℤ) (from size : ℕ) → from ≤ size → (from ≤ place_after got from size) × (place_after got from size ≤ size)
unfolding place_after
place-between (pos k) from size h = (omega arith, omega arith)
place-between (negsuc k) from size h = (h, omega arith)

pub not_interrupted : (got error : ℤ) → lt_z got (pos 0) ≡ false → false ≡ interrupted got error
not_interrupted (pos k) error t = refl
not_interrupted (negsuc k) error t = let f : ⊥ = omega (zarith, t) in absurd f

pub interrupted_by : (got error : ℤ) → SFits w32 error → lt_z got (pos 0) ≡ true → eqb (of_z w32 error) 4 ≡ interrupted got error
interrupted_by (pos k) error fits t = let f : ⊥ = omega (zarith, t) in absurd f
interrupted_by (negsuc k) (pos error) fits t = refl
interrupted_by (negsuc k) (negsuc m) fits t = ne_eqb (4294967296 - suc m) 4 (below fits.sfits)
  where
    below : m < 2147483648 → 4294967296 - suc m ≡ 4 → ⊥
    below h e = omega arith
