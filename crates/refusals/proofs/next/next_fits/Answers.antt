-- `refusals::next::next_fits` meets its contract: constraints of at most 131209 elements. Assumes nothing.
use Prim.Native.Nat.{◌+◌, ◌*◌, ◌≤◌}
use native.Mathlib.Omega.{arith}
use Rattle.fold.specs.Limits.{most_chunks, most_commitment_rank}
use Rattle.fold.specs.Sizes.{function_size}
use Rattle.fold.specs.Refusals.{whole_length}
use Rattle.fold.specs.Laws.SizeBounds.{product-fits, product-bound, pairs-bound}
use Rattle.refusals.proofs.next.next_fits.Goals as goal

pub overflow_mul-function : goal.overflow_mul-function
overflow_mul-function c = product-fits _ _ most_chunks 8192 c.requires.2 c.requires.1 tt

pub overflow_add-function : goal.overflow_add-function
overflow_add-function c =
    let few : c.pair_count.result + c.args.parts * c.args.rank + 1 ≤ 131209 = let p = c.requires in
    let pairs : c.pair_count.result ≤ 136 = rw c.pair_count.ensures (pairs-bound _ p.2) in
    omega (arith, pairs, product-bound c.args.parts c.args.rank most_chunks 8192 p.2 p.1) in
    omega (arith, few)

pub overflow_add-length : goal.overflow_add-length
overflow_add-length c =
    let few : c.pair_count.result + c.args.parts * c.args.rank + 1 ≤ 131209 = let p = c.requires in
    let pairs : c.pair_count.result ≤ 136 = rw c.pair_count.ensures (pairs-bound _ p.2) in
    omega (arith, pairs, product-bound c.args.parts c.args.rank most_chunks 8192 p.2 p.1) in
    omega (arith, few)

pub overflow_mul-length : goal.overflow_mul-length
overflow_mul-length c =
    let few : c.pair_count.result + c.args.parts * c.args.rank + 1 ≤ 131209 = let p = c.requires in
    let pairs : c.pair_count.result ≤ 136 = rw c.pair_count.ensures (pairs-bound _ p.2) in
    omega (arith, pairs, product-bound c.args.parts c.args.rank most_chunks 8192 p.2 p.1) in
    product-fits _ _ 131209 64 few c.requires.0 tt

pub overflow_mul-length-2 : goal.overflow_mul-length-2
overflow_mul-length-2 c =
    let few : c.pair_count.result + c.args.parts * c.args.rank + 1 ≤ 131209 = let p = c.requires in
    let pairs : c.pair_count.result ≤ 136 = rw c.pair_count.ensures (pairs-bound _ p.2) in
    omega (arith, pairs, product-bound c.args.parts c.args.rank most_chunks 8192 p.2 p.1) in
    product-fits _ _ (3 * most_commitment_rank + 3) (131209 * 64) c.requires.3 (product-bound _ _ 131209 64 few c.requires.0) tt

pub returns : goal.returns
unfolding whole_length function_size
returns c = rw c.pair_count.ensures at c.sized.ensures
