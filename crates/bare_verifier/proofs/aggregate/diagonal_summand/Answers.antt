-- `bare_verifier::aggregate::diagonal_summand` meets its contract. Assumes nothing.
use native.Mathlib.Omega.{arith}
use Rattle.ring.specs.Laws.Loops.{held-product}
use Rattle.bare_verifier.specs.Summands.{diagonal_summand}
use Rattle.bare_verifier.specs.Laws.CheckLaws.{diagonal_below}
use Rattle.bare_verifier.proofs.aggregate.diagonal_summand.Goals as goal

pub aggregate_a-a-requires : goal.aggregate_a-a-requires
aggregate_a-a-requires c =
    let p = c.requires.diagonal_facts in record { whole_facts = p.wholes; term_facts = p.terms; delta_len = (p.δ-length, diagonal_below c.args.sizes.shape.r c.args.i c.args.q c.requires.i_lt_r.0 c.requires.i_lt_r.1) }

pub turn_element-own-requires : goal.turn_element-own-requires
turn_element-own-requires c = record { bare_opening_facts = c.requires.diagonal_facts.opened; e_bound = (omega arith, c.requires.i_lt_r.0) }

pub product-requires : goal.product-requires
product-requires c = c.requires.diagonal_facts.opened.shaped.degree

pub returns : goal.returns
unfolding diagonal_summand
returns c =
    held-product _ _ c.requires.diagonal_facts.opened.shaped.degree.small (rw c.requires.i_lt_r.1 at c.aggregate_a-a.ensures) c.turn_element-own.ensures c.product.ensures
