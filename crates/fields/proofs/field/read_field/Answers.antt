-- `fields::field::read_field` meets its contract.
use Rattle.std.proofs.Common.{arith, drop}
use Rattle.std.proofs.Math.Facts.{to_z_pos}
use Rattle.std.specs.Int.{w64}
use Rattle.fields.specs.Laws.FieldsLaws.{field_short, value-fits, opposite-fits, opposite-is, field_plain, field_minus, field_neither}
use Rattle.fields.proofs.field.read_field.Goals as goal

pub returns-then-text-lt16 : goal.returns-then-text-lt16
returns-then-text-lt16 c = let a = c.args in field_short a.text.now a.at (omega arith)

pub overflow_cast-result : goal.overflow_cast-result
overflow_cast-result c = omega (arith, value-fits (drop c.args.at c.args.text.now) c.digits_value-value.ensures)

pub returns-then-is_field_of : goal.returns-then-is_field_of
returns-then-is_field_of c =
    let small = value-fits (drop c.args.at c.args.text.now) c.digits_value-value.ensures in
    field_plain _ _ _ (to_z_pos w64 (omega (arith, small))) c.digits_value-value.ensures c.is_field_of.ensures c.if-is_field_of.true

pub overflow_cast-result-then-is_field_of-2 : goal.overflow_cast-result-then-is_field_of-2
overflow_cast-result-then-is_field_of-2 c = omega (arith, value-fits (drop c.args.at c.args.text.now) c.digits_value-value.ensures)

pub overflow_sub-result : goal.overflow_sub-result
overflow_sub-result c = opposite-fits _ (value-fits (drop c.args.at c.args.text.now) c.digits_value-value.ensures)

pub returns-then-is_field_of-2 : goal.returns-then-is_field_of-2
returns-then-is_field_of-2 c =
    let small = value-fits (drop c.args.at c.args.text.now) c.digits_value-value.ensures in
    field_minus _ _ _ (opposite-is _ small) c.digits_value-value.ensures c.is_field_of.ensures c.if-is_field_of.false
    c.is_field_of-else-is_field_of.ensures c.if-is_field_of-2.true

pub returns-else-is_field_of-2 : goal.returns-else-is_field_of-2
returns-else-is_field_of-2 c =
    field_neither _ _ _ c.digits_value-value.ensures c.is_field_of.ensures c.if-is_field_of.false
    c.is_field_of-else-is_field_of.ensures c.if-is_field_of-2.false
