-- `residues::range::all_between` meets its contract. The loop's invariant: `all` is the answer for the first i numbers.
use mathlib.Core.Path.{ap, ◌∙◌}
use lib.ListN.{get_or}
use lib.IntN.{pos}
use mir.Syntax.{w32}
use mir.Val.{to_z, of_z}
use Rattle.residues.specs.Range.{between}
use Rattle.residues.proofs.Laws.RangeLaws.{tested-start, tested-step}
use Rattle.residues.proofs.Laws.Words.{word}
use Rattle.residues.proofs.range.all_between.Goals as goal

pub loop-x-init : goal.loop-x-init
loop-x-init c = tested-start _ _ _

pub loop-x-preserved : goal.loop-x-preserved
loop-x-preserved c =
    let x = get_or c.args.xs.now c.loop-x.x-index (pos 0) in
    tested-step _ _ _ _ c.loop-x.invariant c.loop-x-test.true
    (c.is_between-all.ensures ∙ ap (between (to_z w32 (of_z w32 c.args.low)) (to_z w32 (of_z w32 c.args.high)))
    (word x c.is_between-arg-1.given))
