-- `constraints::phi::write_phi_part` meets its contract. The loop's invariant: the first y elements are written.
use Rattle.std.proofs.Common.{refl, sym, zero-add}
use Rattle.fold.specs.Messages.{elements}
use Rattle.ring.specs.Laws.Writers.{elements_start₀, elements-turn, elements_end₀}
use Rattle.constraints.specs.Laws.AggregatedLaws.{aggregate-row}
use Rattle.constraints.proofs.phi.write_phi_part.Goals as goal

pub loop-y-init : goal.loop-y-init
loop-y-init c = elements_start₀ c.requires.i_lt_r.1

pub loop-y-preserved : goal.loop-y-preserved
loop-y-preserved c =
    let degree = c.requires.aggregate_facts.wholes.shaped.degree in
    let entry =
    aggregate-row _ _ _ _ _ _ _ _ _ _ degree.small c.projection_row-projected.ensures _ _ _ _ c.args.i c.loop-y.y refl
    c.aggregate_phi-phi.ensures in
    elements-turn c.loop-y.invariant degree (sym (zero-add _)) c.loop-y-test.true entry c.store.ensures

pub returns : goal.returns
unfolding elements
returns c = elements_end₀ c.loop-y.invariant c.loop-y-test.false
