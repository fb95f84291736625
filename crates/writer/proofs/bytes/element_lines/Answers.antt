-- `writer::bytes::element_lines` meets its contract.
use Rattle.std.proofs.Common.{◌≤◌, refl, arith}
use Rattle.writer.specs.Writing.{element_lines}
use Rattle.writer.proofs.Laws.LengthLaws.{lines-most}
use Rattle.writer.proofs.bytes.element_lines.Goals as goal

pub overflow_mul-terms : goal.overflow_mul-terms
unfolding element_lines
overflow_mul-terms c =
    let most : element_lines c.args.s ≤ 1350890 = lines-most _ c.requires in
    rw c.function_size.ensures (omega (arith, most))

pub overflow_add-result-2 : goal.overflow_add-result-2
unfolding element_lines
overflow_add-result-2 c =
    let most : element_lines c.args.s ≤ 1350890 = lines-most _ c.requires in
    rw c.function_size.ensures (omega (arith, most))

pub overflow_add-result-3 : goal.overflow_add-result-3
unfolding element_lines
overflow_add-result-3 c =
    let most : element_lines c.args.s ≤ 1350890 = lines-most _ c.requires in
    rw c.function_size.ensures (omega (arith, most))

pub overflow_add-result-4 : goal.overflow_add-result-4
unfolding element_lines
overflow_add-result-4 c =
    let most : element_lines c.args.s ≤ 1350890 = lines-most _ c.requires in
    rw c.function_size.ensures (omega (arith, most))

pub returns : goal.returns
unfolding element_lines
returns c =
    rw (c.matrix_count.ensures.0, c.whole_count.ensures.0, c.row_count.ensures.0, c.last_count.ensures.0, c.function_size.ensures) refl
