-- `prover::commit::write_t_part` meets its contract: t_i stands in the last part of the block before it is split.
use Rattle.fold.proofs.Laws.WriterLaws.{split-elements}
use Rattle.prover.proofs.commit.write_t_part.Goals as goal

pub returns : goal.returns
returns c =
    let a = c.args in
    split-elements a.d a.b1 a.t1 a.kappa _ a.block.now c.requires.t1_nonzero.0 c.requires.t1_nonzero.1
    c.write_products.ensures c.split_digits.ensures
