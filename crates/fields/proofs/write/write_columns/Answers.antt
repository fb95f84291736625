-- `fields::write::write_columns` meets its contract. The loop's invariant: the columns from `left` on are written.
use native.Mathlib.Omega.{arith}
use Rattle.fields.specs.Laws.WriteLaws.{columns-start, columns-step, columns-sign, columns-end}
use Rattle.fields.proofs.write.write_columns.Goals as goal

pub loop-left-init : goal.loop-left-init
loop-left-init c = columns-start _ _ _ _

pub returns-then-rest-eq0 : goal.returns-then-rest-eq0
returns-then-rest-eq0 c =
    columns-sign c.args.text.now c.args.at c.args.minus c.args.m c.requires.0 _ _ _ c.loop-left.invariant
    c.loop-left-test.true c.if-rest-eq0.true c.requires.1 c.column_byte.ensures

pub loop-left-preserved : goal.loop-left-preserved
loop-left-preserved c =
    columns-step c.args.text.now c.args.at c.args.minus c.args.m c.requires.0 _ _ _ c.loop-left.invariant
    c.loop-left-test.true (omega (arith, c.if-rest-eq0.false))

pub returns : goal.returns
returns c =
    columns-end c.args.text.now c.args.at c.args.minus c.args.m c.requires.0 _ _ _ c.loop-left.invariant
    c.loop-left-test.false
