-- `writer::bytes::text_bytes` meets its contract.
use Rattle.std.proofs.Common.{◌≤◌, refl, arith}
use Rattle.writer.specs.Writing.{text_bytes}
use Rattle.writer.proofs.Laws.LengthLaws.{bytes_most}
use Rattle.writer.proofs.bytes.text_bytes.Goals as goal

pub overflow_mul-result : goal.overflow_mul-result
unfolding text_bytes
overflow_mul-result c =
    let most : text_bytes c.args.s ≤ 1384691915 = bytes_most _ c.requires in
    rw c.element_lines.ensures (omega (arith, most))

pub overflow_add-result : goal.overflow_add-result
unfolding text_bytes
overflow_add-result c =
    let most : text_bytes c.args.s ≤ 1384691915 = bytes_most _ c.requires in
    rw c.element_lines.ensures (omega (arith, most))

pub overflow_add-result-2 : goal.overflow_add-result-2
unfolding text_bytes
overflow_add-result-2 c =
    let most : text_bytes c.args.s ≤ 1384691915 = bytes_most _ c.requires in
    rw c.element_lines.ensures (omega (arith, most))

pub returns : goal.returns
unfolding text_bytes
returns c = rw c.element_lines.ensures refl
