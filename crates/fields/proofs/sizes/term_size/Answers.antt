-- `fields::sizes::term_size` meets its contract.
use mathlib.Core.Path.{refl}
use native.Mathlib.Nat.{mul-le-mul}
use native.Mathlib.Omega.{arith}
use Rattle.fields.specs.Sections.{term_size}
use Rattle.fields.specs.Laws.SectionLaws.{le-one, function-few}
use Rattle.fields.proofs.sizes.term_size.Goals as goal

pub overflow_mul-result : goal.overflow_mul-result
overflow_mul-result c =
    let s = c.args.s in
    let b = c.requires in
    omega (arith, mul-le-mul (function-few s b c.function_size.ensures) b.shaped.degree.small)

pub overflow_add-result : goal.overflow_add-result
overflow_add-result c =
    let s = c.args.s in
    let b = c.requires in
    omega (arith, mul-le-mul (function-few s b c.function_size.ensures) b.shaped.degree.small)

pub returns : goal.returns
unfolding term_size
returns c =
    let s = c.args.s in
    let b = c.requires in
    (rw c.function_size.ensures refl, le-one (mul-le-mul (function-few s b c.function_size.ensures) b.shaped.degree.small))
