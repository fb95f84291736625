-- `ring::short::raise` meets its contract. The loop has filled i places from place 1 on and their negatives.
use Rattle.std.proofs.Common.{ℕ, ◌+◌, ◌-◌, ◌*◌, get_or, pos, refl, ap, ◌∙◌, arith}
use Rattle.residues.proofs.Laws.Words.{word}
use Rattle.ring.specs.Short.{lifted}
use Rattle.ring.specs.Laws.ShortOperand.{raised-step, raised-limit, short-at}
use Rattle.ring.specs.Laws.Loops.{counted_step}
use Rattle.ring.proofs.short.raise.Goals as goal

pub raised-x-requires : goal.raised-x-requires
raised-x-requires c = rw (word _ c.raised-arg-1.given) (short-at c.loop-i.i _ c.requires.d_in_bounds.2 c.loop-i-test.true (omega arith))

pub overflow_sub-e : goal.overflow_sub-e
overflow_sub-e c =
    let args = c.args in
    let place = args.p * args.d + (args.d - 1) - c.loop-i.i in
    let short = short-at c.loop-i.i place c.requires.d_in_bounds.2 c.loop-i-test.true (omega arith) in
    let x = get_or args.v.now place (pos 0) in
    raised-limit x (c.raised-x.ensures ∙ ap lifted (word x c.raised-arg-1.given)) short

pub loop-i-preserved : goal.loop-i-preserved
loop-i-preserved c =
    counted_step c.loop-i-test.true (
    raised-step c.requires.degree c.loop-i-test.true c.loop-i.invariant.held
    (c.raised-x.ensures ∙ ap lifted (word _ c.raised-arg-1.given ∙ ap (λ (k : ℕ). get_or c.args.v.now k (pos 0)) (omega arith))) refl)
