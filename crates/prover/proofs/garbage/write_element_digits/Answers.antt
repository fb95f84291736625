-- `prover::garbage::write_element_digits` meets its contract: the element stands in the last part of the block before it is split.
use Rattle.fold.proofs.Laws.WriterLaws.{split-element}
use Rattle.prover.proofs.garbage.write_element_digits.Goals as goal

pub returns : goal.returns
returns c =
    let a = c.args in
    split-element a.d a.base a.t _ a.block.now c.requires.degree.small c.requires.t_nonzero.0 c.requires.t_nonzero.2
    c.from_slice.ensures c.store.ensures c.split_digits.ensures
