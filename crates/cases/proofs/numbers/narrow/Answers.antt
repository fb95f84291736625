-- `cases::numbers::narrow` meets its contract. Assumes nothing.
use Rattle.std.proofs.Common.{rules, sym, ap, ◌∙◌, arith, get_or, pos, SFits, to_z-of_z}
use Rattle.std.specs.Int.{w32, w64}
use Rattle.integers.specs.Laws.OverLaws.{over-nil}
use Rattle.integers.specs.Lists.{tab}
use Rattle.cases.specs.Numbers.{word}
use Rattle.cases.specs.Laws.NumberLaws.{narrow_next, narrow-end}
use Rattle.cases.proofs.numbers.narrow.Goals as goal

pub loop-i-init : goal.loop-i-init
unfolding tab
loop-i-init c = sym (over-nil c.args.words.now 0)

pub loop-i-preserved : goal.loop-i-preserved
loop-i-preserved c =
    let fits : SFits w64 (get_or c.args.wides.now c.loop-i.i (pos 0)) = search rules in
    let number = to_z-of_z {w = w32} (record { sfits = c.word.type_inv }) ∙ c.word.ensures ∙ ap word (to_z-of_z fits) in
    narrow_next c.args.wides.now c.args.words.now c.loop-i.words c.loop-i.i c.loop-i.invariant (omega arith) number

pub returns : goal.returns
returns c = narrow-end c.args.wides.now _ c.loop-i.words c.loop-i.i c.loop-i.invariant (omega arith) c.requires
