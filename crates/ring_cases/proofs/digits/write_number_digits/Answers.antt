-- `ring_cases::digits::write_number_digits` meets its contract. Assumes nothing.
use mathlib.Core.Path.{sym, ◌∙◌}
use Prim.Native.Nat.{◌-◌, ◌≤◌}
use native.Mathlib.Nat.{mul-one}
use native.Mathlib.Omega.{arith}
use lib.ListN.{length, set, length-set}
use mir.Syntax.{w32}
use mir.Val.{to_z, of_z}
use mir.Facts.{to_z-of_z}
use Rattle.ring_cases.specs.Laws.ResultLaws.{block-length, number-digits-out, results_length, count_fits, base-fits}
use Rattle.ring_cases.proofs.digits.write_number_digits.Goals as goal

pub overflow_sub-count : goal.overflow_sub-count
overflow_sub-count c = (count_fits _ 2 c.count_at-count.ensures).0

pub offset_bounds-out-count : goal.offset_bounds-out-count
offset_bounds-out-count c = omega (arith, (count_fits _ 2 c.count_at-count.ensures).1)

pub bounds-out-count : goal.bounds-out-count
bounds-out-count c = omega (arith, (count_fits _ 2 c.count_at-count.ensures).1, c.requires.1)

pub slice_bounds-split_digits-end : goal.slice_bounds-split_digits-end
slice_bounds-split_digits-end c =
    let kept = length-set c.args.out.now (c.count_at-count.result - 1) (to_z w32 (of_z w32 c.number_at.result)) in
    omega (arith, kept, c.requires.1, (count_fits _ 2 c.count_at-count.ensures).1)

pub split_digits-requires : goal.split_digits-requires
split_digits-requires c =
    let out = c.args.out.now in
    let t = c.count_at-count.result in
    let range = count_fits _ 2 c.count_at-count.ensures in
    let fits : t ≤ length (set out (t - 1) (to_z w32 (of_z w32 c.number_at.result))) =
    omega (arith, length-set out (t - 1) (to_z w32 (of_z w32 c.number_at.result)), c.requires.1, range.1) in record { base = base-fits _ 1 c.base_at-base.ensures; count_nonzero = (range.0, block-length _ t fits ∙ sym (mul-one t)) }

pub returns : goal.returns
returns c =
    let is = to_z-of_z {w = w32} (record { sfits = c.number_at.type_inv }) ∙ c.number_at.ensures in
    number-digits-out c.args.xs.now c.args.out.now _ c.requires.1 c.base_at-base.ensures
    c.count_at-count.ensures is c.split_digits.ensures

pub shape_of-out : goal.shape_of-out
shape_of-out c = results_length (returns c) (omega (arith, (count_fits _ 2 c.count_at-count.ensures).1, c.requires.1))
