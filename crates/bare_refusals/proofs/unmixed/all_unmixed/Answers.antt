-- `bare_refusals::unmixed::all_unmixed` meets its contract: both kinds of constraints. Assumes nothing.
use mathlib.Core.Path.{refl, sym, ap, ◌∙◌}
use Prim.Native.Nat.{ℕ, ◌+◌, ◌*◌}
use native.Mathlib.Omega.{arith}
use Rattle.fold.specs.Statement.{whole_at, term_at}
use Rattle.fold.specs.Refusals.{whole_length, constant_terms_length}
use Rattle.limits.specs.Laws.RowLaws.{end, ◌&◌}
use Rattle.limits.specs.Laws.StageLaws.{joined-tests}
use Rattle.bare.specs.Refusals.{all_unmixed}
use Rattle.bare_refusals.specs.Laws.RowLaws.{pairs_in_whole, pairs_in_term, step_small}
use Rattle.bare_refusals.proofs.unmixed.all_unmixed.Goals as goal

pub overflow_add-function : goal.overflow_add-function
overflow_add-function c = omega (arith, step_small c.requires.limits.shaped c.function_size-function.ensures)

pub overflow_mul-function : goal.overflow_mul-function
overflow_mul-function c = omega (arith, step_small c.requires.limits.shaped c.function_size-function.ensures)

pub overflow_mul-function-2 : goal.overflow_mul-function-2
overflow_mul-function-2 c = omega (arith, step_small c.requires.limits.shaped c.function_size-function.ensures)

pub overflow_add-function-2 : goal.overflow_add-function-2
overflow_add-function-2 c = omega (arith, step_small c.requires.limits.shaped c.function_size-function.ensures)

pub each_unmixed-requires : goal.each_unmixed-requires
unfolding whole_length
each_unmixed-requires c =
    let m = c.args.sizes in
    let k = c.requires.limits in
    let size = c.function_size-function.ensures in record { degree = k.shaped.degree; r_le_most_parts = (k.shaped.parts-small, pairs_in_whole m.shape.d m.shape.n m.shape.r size, c.requires.whole_length ∙ ap (λ (x : ℕ). m.k * ((x + 1) * m.shape.d)) (sym size)) }

pub each_unmixed-requires-2 : goal.each_unmixed-requires-2
unfolding constant_terms_length
each_unmixed-requires-2 c =
    let m = c.args.sizes in
    let k = c.requires.limits in
    let size = c.function_size-function.ensures in record { degree = k.shaped.degree; r_le_most_parts = (k.shaped.parts-small, pairs_in_term m.shape.d m.shape.n m.shape.r size, c.requires.constant-terms-length ∙ ap (λ (x : ℕ). m.l * (x * m.shape.d + 1)) (sym size)) }

pub returns : goal.returns
unfolding all_unmixed whole_at term_at
returns c =
    let m = c.args.sizes in
    let wholes = rw c.function_size-function.ensures at c.each_unmixed.ensures in
    let terms = rw c.function_size-function.ensures at c.each_unmixed-2.ensures in
    joined-tests (wholes & terms & end) refl
