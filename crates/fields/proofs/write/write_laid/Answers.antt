-- `fields::write::write_laid` meets its contract.
use Rattle.fields.specs.Laws.WriteLaws.{laid-inner, laid-last, laid-room, laid-inside}
use Rattle.fields.proofs.write.write_laid.Goals as goal

pub write_field-requires : goal.write_field-requires
write_field-requires c = laid-room _ _ _ c.requires

pub bounds-text-at : goal.bounds-text-at
bounds-text-at c =
    laid-inside c.args.text.now c.args.at c.args.minus c.args.m c.write_field.ensures
    c.if-last.true c.requires

pub returns-then-last : goal.returns-then-last
returns-then-last c =
    laid-last c.args.text.now c.args.at c.args.minus c.args.m c.write_field.ensures
    c.if-last.true c.requires

pub returns-else-last : goal.returns-else-last
returns-else-last c =
    laid-inner c.args.text.now c.args.at c.args.minus c.args.m c.write_field.ensures
    c.if-last.false
