-- `limits::next::rank_of` meets its contract. Assumes nothing.
use Rattle.limits.proofs.next.rank_of.Goals as goal

pub next_rank-requires : goal.next_rank-requires
next_rank-requires c = rw c.rest_size-m.ensures c.requires.cut_sizes

pub returns : goal.returns
returns c = rw c.rest_size-m.ensures at c.next_rank.ensures
