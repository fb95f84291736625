-- `writer::lines::write_lines` meets its contract.
use mathlib.Core.Path.{ap, ◌∙◌}
use native.Mathlib.Omega.{arith}
use Rattle.std.proofs.Common.{rules}
use lib.IntN.{ℤ, pos, nat_abs}
use lib.Signed.{lt_z}
use lib.ListN.{get_or}
use Rattle.residues.proofs.Laws.Words.{word}
use Rattle.writer.proofs.Laws.LineLaws.{body-start, body-room, body-step}
use Rattle.writer.proofs.lines.write_lines.Goals as goal

pub loop-i-init : goal.loop-i-init
loop-i-init c = body-start _ _ _

pub write_laid-requires : goal.write_laid-requires
write_laid-requires c =
    body-room _ _ _ c.loop-i.invariant c.loop-i-test.true c.requires.lines_fit
    c.ends_line-last.ensures

pub overflow_add-here : goal.overflow_add-here
overflow_add-here c =
    let room =
    body-room _ _ _ c.loop-i.invariant c.loop-i-test.true c.requires.lines_fit
    c.ends_line-last.ensures in
    omega (arith, room, c.field_width-here.ensures)

pub loop-i-preserved : goal.loop-i-preserved
loop-i-preserved c =
    let x = get_or c.args.numbers.now c.loop-i.i (pos 0) in
    let read = word x (search rules) in
    body-step _ _ _ c.loop-i.invariant c.loop-i-test.true c.requires.lines_fit
    c.ends_line-last.ensures _ _ (ap (λ (z : ℤ). lt_z z (pos 0)) read)
    (c.magnitude.ensures ∙ ap nat_abs read) c.write_laid.ensures c.field_width-here.ensures
