-- `cases::sums::with_number` meets its contract. Assumes nothing.
use mathlib.Core.Path.{◌≡◌, ap, ◌∙◌}
use Prim.Native.Nat.{ℕ, ◌*◌, ◌%◌, ◌≤◌}
use native.Mathlib.Nat.{mul-le-mul}
use native.Mathlib.Omega.{arith}
use lib.IntN.{ℤ}
use mir.Facts.{to_z-of_z}
use Rattle.integers.specs.Remainder.{emod}
use Rattle.integers.specs.Laws.RemainderLaws.{emod-lt}
use Rattle.cases.specs.Laws.SumLaws.{one_more}
use Rattle.cases.proofs.sums.with_number.Goals as goal

small : (times : ℕ) (x : ℤ) {r : ℕ} → r ≡ emod x 2147483647 → times % 2147483647 * r ≤ 4611686014132420609
small times x {r} e =
    let factor : times % 2147483647 ≤ 2147483647 = omega arith in
    let other : r ≤ 2147483647 = omega (arith, e, emod-lt 2147483647 (omega arith) x) in
    mul-le-mul factor other

pub overflow_mul-result : goal.overflow_mul-result
overflow_mul-result c = omega (arith, small c.args.times _ c.residue.ensures)

pub overflow_add-result : goal.overflow_add-result
overflow_add-result c = omega (arith, small c.args.times _ c.residue.ensures)

pub returns : goal.returns
returns c =
    let residue = c.residue.ensures ∙ ap (λ x. emod x 2147483647) (to_z-of_z c.ranges.x) in
    rw residue (one_more 2147483647 (omega arith) c.args.sum c.args.times c.args.x)
