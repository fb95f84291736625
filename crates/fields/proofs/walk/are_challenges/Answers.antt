-- `fields::walk::are_challenges` meets its contract.
use native.Mathlib.Omega.{arith}
use Rattle.fields.specs.Laws.ChallengeLaws.{challenged_start, challenged_span, challenged_range, challenged_index}
use Rattle.fields.specs.Laws.ChallengeLaws.{challenged_false, challenged_step, challenged_end}
use Rattle.fields.proofs.walk.are_challenges.Goals as goal

pub loop-e-init : goal.loop-e-init
loop-e-init c = challenged_start c.requires.span

pub overflow_add-at : goal.overflow_add-at
overflow_add-at c = omega (arith, challenged_index c.loop-e.invariant c.loop-e-test.true)

pub challenge_at-requires : goal.challenge_at-requires
challenge_at-requires c =
    record { d_nonzero = (c.requires.d_nonzero.0, c.requires.d_nonzero.1, c.requires.d_nonzero.2); span = challenged_span c.loop-e.invariant c.loop-e-test.true; d_value = challenged_range c.loop-e.invariant c.loop-e-test.true c.requires.d_value }

pub returns-then-not-challenge_at : goal.returns-then-not-challenge_at
returns-then-not-challenge_at c = challenged_false c.loop-e.invariant c.loop-e-test.true c.challenge_at.ensures c.if-not-challenge_at.true

pub place_after-here-requires : goal.place_after-here-requires
place_after-here-requires c =
    record { d_nonzero = (c.requires.d_nonzero.0, c.requires.d_nonzero.1); span = challenged_span c.loop-e.invariant c.loop-e-test.true }

pub loop-e-preserved : goal.loop-e-preserved
loop-e-preserved c =
    challenged_step c.loop-e.invariant c.loop-e-test.true c.challenge_at.ensures c.if-not-challenge_at.false
    c.place_after-here.ensures

pub returns : goal.returns
returns c = challenged_end c.loop-e.invariant c.loop-e-test.false
