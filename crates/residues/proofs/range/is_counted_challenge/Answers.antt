-- `residues::range::is_counted_challenge` meets its contract. Assumes nothing.
use Rattle.residues.proofs.Laws.RangeLaws.{counted-tests}
use Rattle.residues.proofs.range.is_counted_challenge.Goals as goal

pub returns : goal.returns
returns c = counted-tests _ c.count_of-zeros.ensures c.count_of-ones.ensures c.count_of-twos.ensures
