-- `checks::amortized::mixed_summand` meets its contract: once on the diagonal, twice off it.
use Rattle.std.proofs.Common.{◌+◌, arith}
use Rattle.checks.specs.Laws.PlaceLaws.{element-fits}
use Rattle.checks.specs.Laws.MixedLaws.{garbage-fits, mixed-once, mixed-twice, mixed-summand, pair_along, pair_small}
use Rattle.checks.proofs.amortized.mixed_summand.Goals as goal

pub overflow_add-q : goal.overflow_add-q
overflow_add-q c =
    let a = c.args in
    omega (arith, pair_small a.r a.i a.q c.requires.garbage.parts (omega arith) c.requires.k_bound.1, c.requires.garbage.parts)

pub garbage_of-garbage-requires-clause-d_in_bounds : goal.garbage_of-garbage-requires-clause-d_in_bounds
garbage_of-garbage-requires-clause-d_in_bounds c =
    let a = c.args in
    garbage-fits a.d a.r a.t a.place a.i (a.i + a.k) (a.q + a.k) _ (omega arith) (omega arith) (pair_along a.r a.i a.k a.q c.requires.k_bound.1)
    c.requires.garbage.inside

pub from_slice-left-requires-clause-d_in_bounds : goal.from_slice-left-requires-clause-d_in_bounds
from_slice-left-requires-clause-d_in_bounds c = element-fits _ _ c.args.i _ c.requires.holds (omega arith)

pub from_slice-right-requires-clause-d_in_bounds : goal.from_slice-right-requires-clause-d_in_bounds
from_slice-right-requires-clause-d_in_bounds c = element-fits _ _ (c.args.i + c.args.k) _ c.requires.holds (omega arith)

pub returns-then-k-eq0 : goal.returns-then-k-eq0
returns-then-k-eq0 c =
    let a = c.args in
    let small = c.requires.garbage.degree.small in
    mixed-summand a.d a.r a.b a.t a.place _ _ a.i a.k (a.q + a.k) small (pair_along a.r a.i a.k a.q c.requires.k_bound.1)
    c.garbage_of-garbage.ensures
    (mixed-once a.d _ a.i a.k small _ c.from_slice-left.ensures c.from_slice-right.ensures c.product.ensures c.product-once.ensures
    (omega (arith, c.if-k-eq0.true)))

pub returns : goal.returns
returns c =
    let a = c.args in
    let small = c.requires.garbage.degree.small in
    mixed-summand a.d a.r a.b a.t a.place _ _ a.i a.k (a.q + a.k) small (pair_along a.r a.i a.k a.q c.requires.k_bound.1)
    c.garbage_of-garbage.ensures
    (mixed-twice a.d _ a.i a.k small _ c.from_slice-left.ensures c.from_slice-right.ensures c.product.ensures c.product-once.ensures
    (omega (arith, c.if-k-eq0.false)) c.sum.ensures)
