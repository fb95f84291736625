-- `residues::range::are_narrow` meets its contract: from -b/2 to b/2, with b/2 rounded down, is at most half the base.
use mathlib.Core.Path.{◌≡◌, ap, ap₂, ◌∙◌}
use Prim.Native.Nat.{ℕ, ◌/◌, ◌≤◌}
use native.Mathlib.Omega.{arith}
use lib.IntN.{pos, neg_ℤ, ◌-ℤ◌}
use mir.Syntax.{w32}
use mir.Val.{SFits, to_z, of_z}
use mir.Facts.{to_z_pos, to_z-of_z}
use Rattle.integers.specs.Laws.Bridge.{zarith, sub_pn, neg_pn, pos_pn}
use Rattle.residues.specs.Range.{all_between}
use Rattle.residues.proofs.Laws.RangeLaws.{narrow-between}
use Rattle.residues.proofs.range.are_narrow.Goals as goal

opposite-fits : (n : ℕ) → n ≤ 32768 → SFits w32 (pos 0 -ℤ pos n)
opposite-fits n h = omega (zarith, sub_pn (pos 0) (pos n), pos_pn n)

opposite : (n : ℕ) → pos 0 -ℤ pos n ≡ neg_ℤ (pos n)
opposite n = omega (zarith, sub_pn (pos 0) (pos n), neg_pn (pos n))

pub overflow_sub-half : goal.overflow_sub-half
overflow_sub-half c =
    let small : c.args.base / 2 ≤ 32768 = omega (arith, c.requires.most) in
    rw (to_z_pos w32 {n = c.args.base / 2} (omega (arith, small))) (opposite-fits _ small)

pub returns : goal.returns
returns c =
    let a = c.args in
    let h = a.base / 2 in
    let small : h ≤ 32768 = omega (arith, c.requires.most) in
    let half = to_z_pos w32 {n = h} (omega (arith, small)) in
    let low = ap (λ x. to_z w32 (of_z w32 (pos 0 -ℤ x))) half ∙ to_z-of_z (opposite-fits h small) ∙ opposite h in
    c.all_between.ensures
    ∙ ap₂ (λ x y. all_between x y a.xs.now) low half
    ∙ narrow-between a.base a.xs.now c.requires.least
