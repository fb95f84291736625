-- `sheet::reader::store` meets its contract.
use mathlib.Core.Path.{ap, ◌∙◌}
use native.Mathlib.Omega.{arith}
use Rattle.residues.specs.Range.{coefficients}
use Rattle.sheet.specs.Laws.ReadingLaws.{lines-positive, front-span, all-numbers}
use Rattle.sheet.specs.Laws.AnswerLaws.{stored}
use Rattle.sheet.proofs.reader.store.Goals as goal

pub fill-requires : goal.fill-requires
fill-requires c =
    let lines = c.sections_of.ensures in
    let count = c.total_numbers.ensures in record { d_nonzero = lines-positive c.requires.inside.bounded lines; span = front-span c.requires.inside lines _ (omega (arith, count)); count_value = ap coefficients (all-numbers c.requires.inside lines count) ∙ c.requires.text_value; count_in_bounds = omega (arith, count, c.requires.numbers_len) }

pub returns : goal.returns
returns c =
    let sections = c.sections_of in
    let count = c.total_numbers.ensures in
    stored c.args.s c.args.text.now sections.result c.requires.inside sections.ensures count
    c.args.numbers.now c.requires.numbers_len c.fill.ensures
