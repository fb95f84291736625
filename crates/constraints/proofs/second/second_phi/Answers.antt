-- `constraints::second::second_phi` meets its contract.
use Rattle.std.proofs.Common.{arith}
use Rattle.fold.specs.Laws.SizeBounds.{pairs-bound}
use Rattle.constraints.specs.Laws.SizeLaws.{witness_small, function-parts}
use Rattle.constraints.specs.Laws.AggregatedLaws.{second-φ-end}
use Rattle.constraints.proofs.second.second_phi.Goals as goal

pub overflow_add-place : goal.overflow_add-place
overflow_add-place c =
    let shaped = c.requires.term_facts.shaped in
    omega (arith, c.pair_count.ensures, pairs-bound _ shaped.parts-small, witness_small shaped, c.requires.k_bound.1)

pub term_entry-own-requires-clause-k_bound : goal.term_entry-own-requires-clause-k_bound
term_entry-own-requires-clause-k_bound c =
    (c.requires.k_bound.0, omega (arith, c.pair_count.ensures, function-parts c.args.shape.n c.args.shape.r, c.requires.k_bound.1))

pub returns : goal.returns
returns c =
    let own = rw c.pair_count.ensures at c.term_entry-own.ensures in
    second-φ-end _ _ _ _ _ _ _ _ _ c.requires.term_facts.shaped.degree own c.conjugate.ensures c.sum.ensures
