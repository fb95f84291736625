-- `aggregation::garbage::half_sum` meets its contract.
use Rattle.aggregation.specs.Laws.GarbageLaws.{half-sum-end}
use Rattle.aggregation.proofs.garbage.half_sum.Goals as goal

pub returns : goal.returns
returns c =
    let a = c.args in
    half-sum-end a.d a.r a.products.now a.i a.j c.requires.degree c.from_slice-one.ensures
    c.from_slice-other.ensures c.sum.ensures c.half.ensures
