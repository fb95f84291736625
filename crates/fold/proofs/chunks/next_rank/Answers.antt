-- `fold::chunks::next_rank` meets its contract: the larger of two. Assumes nothing.
use Rattle.fold.specs.Known.CutSizes.{rank-first, rank-second}
use Rattle.fold.proofs.chunks.next_rank.Goals as goal

pub returns-then-of_z-of_rest : goal.returns-then-of_z-of_rest
returns-then-of_z-of_rest c = rank-second _ _ _ _ c.ceiling-of_z.ensures c.ceiling-of_rest.ensures c.if-of_z-of_rest.true

pub returns-else-of_z-of_rest : goal.returns-else-of_z-of_rest
returns-else-of_z-of_rest c = rank-first _ _ _ _ c.ceiling-of_z.ensures c.ceiling-of_rest.ensures c.if-of_z-of_rest.false
