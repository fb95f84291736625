-- `fields::sizes::last_count` meets its contract.
use mathlib.Core.Path.{refl}
use Prim.Native.Nat.{◌≤◌}
use native.Mathlib.Omega.{arith}
use Rattle.fields.specs.Sections.{last_count}
use Rattle.fields.specs.Laws.SectionLaws.{opening-few}
use Rattle.fields.proofs.sizes.last_count.Goals as goal

pub overflow_add-result : goal.overflow_add-result
overflow_add-result c = omega (arith, opening-few c.args.s c.requires c.opening_size-opening.ensures)

pub overflow_add-result-2 : goal.overflow_add-result-2
overflow_add-result-2 c = omega (arith, opening-few c.args.s c.requires c.opening_size-opening.ensures)

pub overflow_add-result-3 : goal.overflow_add-result-3
overflow_add-result-3 c = omega (arith, opening-few c.args.s c.requires c.opening_size-opening.ensures)

pub overflow_add-result-4 : goal.overflow_add-result-4
overflow_add-result-4 c = omega (arith, opening-few c.args.s c.requires c.opening_size-opening.ensures)

pub overflow_add-result-5 : goal.overflow_add-result-5
overflow_add-result-5 c = omega (arith, opening-few c.args.s c.requires c.opening_size-opening.ensures)

pub returns : goal.returns
unfolding last_count
returns c =
    let few : c.opening_size-opening.result ≤ 3712 = opening-few c.args.s c.requires c.opening_size-opening.ensures in
    (rw c.opening_size-opening.ensures refl, omega (arith, c.requires, few))
