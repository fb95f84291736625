-- `checks::linear::linear_sum` meets its contract. The accumulator holds the sum of the summands so far.
use Rattle.std.proofs.Common.{◌≡◌, ◌∙◌, length, pos}
use lib.ListN.{length-replicate}
use Rattle.checks.specs.Laws.RelationLaws.{linear_written}
use Rattle.ring.specs.Laws.Loops.{summed_start, summed_step, summed_end}
use Rattle.checks.proofs.linear.linear_sum.Goals as goal

pub loop-i-init : goal.loop-i-init
loop-i-init c = (length-replicate 16384 (pos 0), summed_start (c.additive_identity-acc.ensures _))

pub loop-i-preserved : goal.loop-i-preserved
loop-i-preserved c =
    let kept : length c.write_phi_part.new.out ≡ 16384 = c.write_phi_part.auto.out ∙ c.loop-i.invariant.0 in
    let value = linear_written _ _ _ _ _ c.loop-i.i _ c.write_phi_part.ensures c.linear_summand.ensures in
    (kept, summed_step c.loop-i.invariant.1 c.requires.aggregate_facts.wholes.shaped.degree c.loop-i-test.true value c.sum-acc.ensures)

pub returns : goal.returns
returns c = summed_end c.loop-i.invariant.1 c.loop-i-test.false
