use mathlib.Core.Path.{sym}
use Rattle.fields.specs.Laws.FieldLaws.{byte_digit, byte_none}
use Rattle.fields.proofs.field.column_byte.Goals as goal

pub returns-then-m-gt0 : goal.returns-then-m-gt0
returns-then-m-gt0 c = sym (byte_digit c.args.minus c.args.m c.if-m-gt0.true)

pub returns-then-minus : goal.returns-then-minus
returns-then-minus c = byte_none c.args.minus c.args.m c.if-m-gt0.false c.if-minus.true

pub returns-else-minus : goal.returns-else-minus
returns-else-minus c = byte_none c.args.minus c.args.m c.if-m-gt0.false c.if-minus.false
