-- `prover::garbage::write_garbage_digits` meets its contract: the pairs stand one after the other.
use Rattle.std.proofs.Common.{◌∙◌, arith}
use Rattle.fold.specs.Sizes.{garbage_size}
use Rattle.fold.proofs.Laws.WriterLaws.{garbage_places}
use Rattle.prover.proofs.garbage.write_garbage_digits.Goals as goal

pub write_digits-requires-clause-t_nonzero : goal.write_digits-requires-clause-t_nonzero
unfolding garbage_size
write_digits-requires-clause-t_nonzero c =
    let sizes = c.requires.r_le_most_parts in
    let count = c.pair_count.ensures in
    (sizes.1, sizes.2, rw count sizes.3, rw count (omega (arith, sizes.4)))

pub returns : goal.returns
returns c =
    let a = c.args in
    (rw c.pair_count.ensures at c.write_digits.ensures) ∙ garbage_places a.d a.r a.base a.t _
