-- `fields::field::is_field_of` meets its contract. The loop's invariant: the bytes from `left` on agree, so the others decide.
use Rattle.fields.specs.Laws.FieldSteps.{matching_start, matching_not, matching_step, matching_other, matching_end}
use Rattle.fields.proofs.field.is_field_of.Goals as goal

pub returns-then-text-at : goal.returns-then-text-at
returns-then-text-at c = matching_not c.args.text.now c.args.at c.requires _ _ c.if-text-at.true

pub loop-left-init : goal.loop-left-init
loop-left-init c = matching_start c.args.text.now c.args.at c.requires _ _ c.if-text-at.false

pub returns-then-text-at-2 : goal.returns-then-text-at-2
returns-then-text-at-2 c =
    matching_other _ _ c.requires _ _ _ _ _ c.loop-left.invariant c.loop-left-test.true
    c.column_byte.ensures c.if-text-at-2.true

pub loop-left-preserved : goal.loop-left-preserved
loop-left-preserved c =
    matching_step _ _ c.requires _ _ _ _ _ c.loop-left.invariant c.loop-left-test.true
    c.column_byte.ensures c.if-text-at-2.false c.minus_due-due.ensures

pub returns : goal.returns
returns c = matching_end _ _ c.requires _ _ _ _ _ c.loop-left.invariant c.loop-left-test.false
