-- `fields::sizes::whole_count` meets its contract.
use mathlib.Core.Path.{refl}
use native.Mathlib.Nat.{mul-le-mul}
use native.Mathlib.Omega.{arith}
use Rattle.fields.specs.Sections.{whole_count}
use Rattle.fields.specs.Laws.SectionLaws.{le-one, function-few}
use Rattle.fields.proofs.sizes.whole_count.Goals as goal

pub overflow_add-result : goal.overflow_add-result
overflow_add-result c = omega (arith, function-few c.args.s c.requires c.function_size.ensures)

pub overflow_mul-result : goal.overflow_mul-result
overflow_mul-result c =
    let s = c.args.s in
    let b = c.requires in
    omega (arith, mul-le-mul b.K-small (le-one (function-few s b c.function_size.ensures)))

pub returns : goal.returns
unfolding whole_count
returns c =
    let s = c.args.s in
    let b = c.requires in
    (rw c.function_size.ensures refl, mul-le-mul b.K-small (le-one (function-few s b c.function_size.ensures)))
