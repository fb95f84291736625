-- `next_constraints::blocks::write_garbage` meets its contract.
use mathlib.Core.Path.{◌≡◌, ap, ◌∙◌}
use Prim.Native.Nat.{◌*◌}
use native.Mathlib.Omega.{arith}
use Rattle.integers.specs.Over.{over}
use Rattle.fold.specs.Sizes.{garbage_size}
use Rattle.fold.specs.NextInstance.{t_table}
use Rattle.next_constraints.specs.declared.blocks.Digits.{Digits}
use Rattle.next_constraints.specs.Blocks.{numbers, digit_row}
use Rattle.next_constraints.specs.Laws.BlockLaws.{garbage-parts}
use Rattle.next_constraints.proofs.blocks.write_garbage.Goals as goal

pub write_parts-requires-clause-d_in_bounds : goal.write_parts-requires-clause-d_in_bounds
unfolding garbage_size
write_parts-requires-clause-d_in_bounds c =
    let a = c.args in
    let one : a.t * 1 ≡ a.t = omega arith in
    (rw c.pair_count.ensures c.requires.d_in_bounds.0, rw (c.pair_count.ensures, one) c.requires.d_in_bounds.1)

pub returns : goal.returns
returns c =
    let a = c.args in
    let digits : Digits = record { base = a.base; count = a.t; rows = 1; row = 0 } in
    c.write_parts.ensures
    ∙ ap (λ k. over a.out.now (a.at * a.d) (numbers a.d (t_table a.d k 1 a.t (digit_row a.d digits a.xs.now)))) c.pair_count.ensures
    ∙ ap (λ table. over a.out.now (a.at * a.d) (numbers a.d table)) (garbage-parts a.d a.r a.base a.t a.xs.now)
