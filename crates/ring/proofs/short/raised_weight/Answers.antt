-- `ring::short::raised_weight` meets its contract. The loop keeps the sum of the residues so far.
use Rattle.ring.specs.Laws.ShortLaws.{totalling_start, totalling_step, totalling_end}
use Rattle.ring.proofs.short.raised_weight.Goals as goal

pub loop-i-init : goal.loop-i-init
loop-i-init c = totalling_start _ _

pub loop-i-preserved : goal.loop-i-preserved
loop-i-preserved c = totalling_step c.loop-i.invariant c.loop-i-test.true (c.requires.1 _ c.loop-i-test.true)

pub returns : goal.returns
returns c = totalling_end c.loop-i.invariant c.loop-i-test.false
