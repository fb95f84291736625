-- `bare_verifier::folded::folded_summand` meets its contract. Assumes nothing.
use Rattle.ring.specs.Laws.Loops.{held-product}
use Rattle.bare.specs.Opening.{t_at}
use Rattle.bare_verifier.specs.Known.Facts.{t-fits}
use Rattle.bare_verifier.proofs.folded.folded_summand.Goals as goal

pub from_slice-t-requires : goal.from_slice-t-requires
from_slice-t-requires c =
    record { degree = c.requires.bare_opening_facts.shaped.degree; d_in_bounds = t-fits c.args.sizes c.requires.bare_opening_facts c.requires.i_lt_r.0 c.requires.i_lt_r.1 }

pub returns : goal.returns
unfolding t_at
returns c =
    held-product _ _ c.requires.bare_opening_facts.shaped.degree.small c.from_slice-challenge.ensures c.from_slice-t.ensures c.product.ensures
