-- `writer::lines::write_body` meets its contract.
use mathlib.Core.Path.{ap, ◌∙◌}
use Rattle.integers.specs.Over.{over}
use Rattle.fields.specs.Field.{header_bytes}
use Rattle.sheet.specs.Laws.ReadingLaws.{lines-positive}
use Rattle.writer.proofs.Laws.LineLaws.{body-lines}
use Rattle.writer.proofs.lines.write_body.Goals as goal

pub write_lines-requires : goal.write_lines-requires
write_lines-requires c =
    let sections = c.sections_of.ensures in record { d_nonzero = lines-positive c.requires.counted.bounded sections; lines_fit = rw sections.is c.requires.lines_fit }

pub returns : goal.returns
returns c =
    c.write_lines.ensures
    ∙ ap (over c.args.text.now header_bytes) (body-lines _ _ c.sections_of.ensures _ c.requires.counted)
