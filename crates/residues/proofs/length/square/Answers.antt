-- `residues::length::square` meets its contract: an i32 is at most 2^31 in absolute value, so its square fits. Assumes nothing.
use mathlib.Core.Path.{◌≡◌, ap, ◌∙◌}
use Prim.Native.Nat.{ℕ, ◌*◌, ◌^◌, ◌≤◌}
use native.Mathlib.Nat.{mul-le-mul}
use native.Mathlib.Omega.{arith}
use lib.IntN.{ℤ, nat_abs}
use lib.Signed.{nat_abs-le}
use mir.Syntax.{w32, w64}
use mir.Val.{Fits, SFits}
use mir.Facts.{to_z-of_z}
use Rattle.residues.proofs.length.square.Goals as goal

-- the square of an absolute value that an i32 has
square-fits : {x : ℤ} {m : ℕ} → SFits w32 x → m ≡ nat_abs x → Fits w64 (m * m)
square-fits {x} {m} f e =
    let h : m ≤ 2 ^ 31 = rw e (nat_abs-le x f.sfits) in
    omega (arith, mul-le-mul h h)

pub overflow_mul-result : goal.overflow_mul-result
overflow_mul-result c = square-fits c.ranges.x (c.magnitude-m.ensures ∙ ap nat_abs (to_z-of_z c.ranges.x))

pub returns : goal.returns
returns c =
    let e = c.magnitude-m.ensures ∙ ap nat_abs (to_z-of_z c.ranges.x) in
    ap (λ (m : ℕ). m * m) e
