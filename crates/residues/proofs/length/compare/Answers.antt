-- `residues::length::compare` meets its contract. The loop's invariant: what is left and the squared length so far make up the bound.
-- Assumes nothing.
use mathlib.Core.Path.{◌≡◌, ap, ◌∙◌}
use Prim.Native.Nat.{ℕ, ◌*◌, ◌^◌, ◌<◌}
use native.Mathlib.Omega.{arith}
use lib.IntN.{ℤ, nat_abs}
use lib.Signed.{mag}
use mir.Syntax.{w32}
use mir.Val.{to_z, of_z}
use Rattle.integers.specs.Sums.{sq}
use Rattle.residues.proofs.Laws.Words.{word}
use Rattle.residues.proofs.Laws.LengthLaws.{compared_start, compared_step, compared_above, compared_end}
use Rattle.residues.proofs.length.compare.Goals as goal

-- what `square` gives for an element of the slice
squared : (x : ℤ) {s : ℕ} → mag x < 2 ^ 31 → s ≡ nat_abs (to_z w32 (of_z w32 x)) * nat_abs (to_z w32 (of_z w32 x)) → s ≡ sq x
unfolding sq
squared x g e = e ∙ ap (λ (z : ℤ). nat_abs z * nat_abs z) (word x g)

pub loop-x-init : goal.loop-x-init
loop-x-init c = compared_start _ _

pub returns-then-rest-s : goal.returns-then-rest-s
returns-then-rest-s c =
    compared_above _ _ _ _ _ c.loop-x.invariant c.loop-x-test.true
    (squared _ c.square-arg-1.given c.square-s.ensures) (omega arith)

pub loop-x-preserved : goal.loop-x-preserved
loop-x-preserved c =
    compared_step _ _ _ _ _ c.loop-x.invariant c.loop-x-test.true
    (squared _ c.square-arg-1.given c.square-s.ensures) (omega arith)

pub returns : goal.returns
returns c = compared_end _ _ _ _ c.loop-x.invariant c.loop-x-test.false
