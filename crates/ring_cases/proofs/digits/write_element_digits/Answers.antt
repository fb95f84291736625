-- `ring_cases::digits::write_element_digits` meets its contract. Assumes nothing.
use Prim.Native.Nat.{◌*◌, ◌≤◌}
use native.Mathlib.Omega.{arith}
use lib.ListN.{length}
use Rattle.residues.proofs.Laws.DigitBlockLaws.{last_fits}
use Rattle.ring_cases.specs.Laws.ResultLaws.{degree-fits, base-fits, count_fits, rest-length, block-fits, block-length, element-digits-out}
use Rattle.ring_cases.proofs.digits.write_element_digits.Goals as goal

pub overflow_mul-all : goal.overflow_mul-all
overflow_mul-all c =
    let room : c.count_at-count.result * c.degree_at-d.result ≤ 512 = block-fits _ _ (count_fits _ 3 c.count_at-count.ensures).1 (degree-fits _ c.degree_at-d.ensures).small in
    omega (arith, room)

pub from_slice-a-requires : goal.from_slice-a-requires
from_slice-a-requires c =
    let degree = degree-fits _ c.degree_at-d.ensures in record { degree = degree; d_in_bounds = omega (arith, degree.small, rest-length c.args.xs.now 4 c.requires.0 c.past_numbers.ensures) }

pub overflow_sub-count : goal.overflow_sub-count
overflow_sub-count c = (count_fits _ 3 c.count_at-count.ensures).0

pub store-requires : goal.store-requires
store-requires c =
    let room : c.count_at-count.result * c.degree_at-d.result ≤ 512 = block-fits _ _ (count_fits _ 3 c.count_at-count.ensures).1 (degree-fits _ c.degree_at-d.ensures).small in
    let last = last_fits c.count_at-count.result c.degree_at-d.result (count_fits _ 3 c.count_at-count.ensures).0 in record { degree = degree-fits _ c.degree_at-d.ensures; d_in_bounds = omega (arith, last, room, c.requires.1) }

pub slice_bounds-split_digits-end : goal.slice_bounds-split_digits-end
slice_bounds-split_digits-end c =
    let room : c.count_at-count.result * c.degree_at-d.result ≤ 512 = block-fits _ _ (count_fits _ 3 c.count_at-count.ensures).1 (degree-fits _ c.degree_at-d.ensures).small in
    let inside : c.count_at-count.result * c.degree_at-d.result ≤ length c.store.new.out = omega (arith, room, c.requires.1, c.store.auto) in
    omega (arith, inside)

pub split_digits-requires : goal.split_digits-requires
split_digits-requires c =
    let room : c.count_at-count.result * c.degree_at-d.result ≤ 512 = block-fits _ _ (count_fits _ 3 c.count_at-count.ensures).1 (degree-fits _ c.degree_at-d.ensures).small in
    let inside : c.count_at-count.result * c.degree_at-d.result ≤ length c.store.new.out = omega (arith, room, c.requires.1, c.store.auto) in record { base = base-fits _ 2 c.base_at-base.ensures; count_nonzero = ((count_fits _ 3 c.count_at-count.ensures).0, block-length _ _ inside) }

pub returns : goal.returns
returns c =
    element-digits-out c.args.xs.now _ _ _ _ _ c.requires.1 c.degree_at-d.ensures
    c.base_at-base.ensures c.count_at-count.ensures c.past_numbers.ensures c.from_slice-a.ensures
    c.store.ensures c.split_digits.ensures
