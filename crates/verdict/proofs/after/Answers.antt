-- crates/verdict/proofs/after/Answers.antt
-- Where the read failed, and where it answered a count: `place_after` by cases.
use Rattle.std.proofs.Common.{◌≡◌, refl, ℕ, ◌+◌, ◌-◌, ◌≤◌, min, ℤ, pos, negsuc, nat_abs, SFits, arith, to_z-of_z}
use Rattle.std.specs.Int.{w64, FitsUnsignedBits}
use Rattle.verdict.specs.Reads.{place_after}
use Rattle.verdict.proofs.after.Goals as goal

counted : (got : ℤ) (from size n : ℕ) → from ≤ size → FitsUnsignedBits 64 got × (n ≡ nat_abs got)
    → from + min n (size - from) ≡ place_after got from size
unfolding place_after
counted (pos k) from size n h p = omega (arith, p.1)
counted (negsuc k) from size n h p = absurd p.0

failed : (got : ℤ) (from size : ℕ) → SFits w64 got → (FitsUnsignedBits 64 got → ⊥) → size ≡ place_after got from size
unfolding place_after
failed (pos k) from size fits h = absurd (h (omega (arith, fits.sfits)))
failed (negsuc k) from size fits h = refl

pub returns-in-Ok : goal.returns-in-Ok
returns-in-Ok c =
    rw c.min.ensures (counted c.args.got c.args.from c.args.size _ c.requires (rw (to_z-of_z c.ranges.got) at c.in-Ok.ensures))

pub returns-in-Err : goal.returns-in-Err
returns-in-Err c = failed c.args.got c.args.from c.args.size c.ranges.got (rw (to_z-of_z c.ranges.got) at c.in-Err.ensures)
