-- `writer::write_sheet` meets its contract.
use Rattle.std.proofs.Common.{arith}
use Rattle.sheet.specs.Laws.AnswerLaws.{row_positive}
use Rattle.writer.proofs.Laws.RefusalLaws.{refused_write, write_refused, written-counted, written-room, write_done}
use Rattle.writer.proofs.Laws.LineLaws.{header-fits, body-fits, both-written}
use Rattle.writer.proofs.write_sheet.Goals as goal

pub returns-in_err-write_refusal : goal.returns-in_err-write_refusal
returns-in_err-write_refusal c =
    let a = c.args in
    rw (refused_write _ _ c.from_residual.ensures.1) (write_refused a.s a.numbers.now a.text.now c.in_err-write_refusal.ensures (row_positive _))

pub write_header-requires : goal.write_header-requires
write_header-requires c =
    let a = c.args in
    header-fits a.s.sizes (written-room a.s a.numbers.now a.text.now c.in_ok-write_refusal.ensures (omega arith))

pub write_body-requires : goal.write_body-requires
write_body-requires c =
    let a = c.args in
    let counted = written-counted a.s a.numbers.now a.text.now c.in_ok-write_refusal.ensures (omega arith) in
    let room = written-room a.s a.numbers.now a.text.now c.in_ok-write_refusal.ensures (omega arith) in record { counted = counted; lines_fit = body-fits a.s a.numbers.now a.text.now counted room c.write_header.ensures }

pub text_bytes-requires : goal.text_bytes-requires
text_bytes-requires c =
    let a = c.args in
    (written-counted a.s a.numbers.now a.text.now c.in_ok-write_refusal.ensures (omega arith)).bounded

pub returns : goal.returns
returns c =
    let a = c.args in
    write_done a.s a.numbers.now a.text.now c.in_ok-write_refusal.ensures (omega arith) c.text_bytes.ensures
    (both-written a.s a.numbers.now a.text.now c.write_header.ensures c.write_body.ensures)
