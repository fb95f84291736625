-- `prover::commit::write_outer` meets its contract. The loop's invariant: the first k rows are written.
use Rattle.std.proofs.Common.{sym, zero-add, arith}
use Rattle.fold.specs.Messages.{elements}
use Rattle.ring.specs.Laws.Writers.{elements_start₀, elements-turn, elements-all}
use Rattle.ring.specs.Laws.ElementPlaces.{row_fits}
use Rattle.prover.proofs.commit.write_outer.Goals as goal

pub loop-k-init : goal.loop-k-init
loop-k-init c = elements_start₀ (omega (arith, c.requires.out_len))

pub outer_row-requires-clause-l_bound : goal.outer_row-requires-clause-l_bound
outer_row-requires-clause-l_bound c =
    let right = c.requires.l_bound in
    (right.0, row_fits c.args.d c.args.l c.loop-k-test.true right.1, right.2)

pub loop-k-preserved : goal.loop-k-preserved
loop-k-preserved c =
    elements-turn c.loop-k.invariant c.requires.degree (sym (zero-add _)) c.loop-k-test.true c.outer_row.ensures c.store.ensures

pub returns : goal.returns
unfolding elements
returns c = elements-all c.loop-k.invariant c.requires.out_len c.loop-k-test.false
