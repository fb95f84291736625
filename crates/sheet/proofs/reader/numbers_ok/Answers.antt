-- `sheet::reader::numbers_ok` meets its contract.
use mathlib.Core.Path.{ap, ◌∙◌}
use native.Mathlib.Omega.{arith}
use Rattle.residues.specs.Range.{all_within, coefficients}
use Rattle.sheet.specs.Laws.ReadingLaws.{lines-positive, front-span, all-numbers}
use Rattle.sheet.proofs.reader.numbers_ok.Goals as goal

pub all_within-requires : goal.all_within-requires
all_within-requires c =
    let pre = c.requires in
    let lines = c.sections_of.ensures in record { d_nonzero = lines-positive pre.bounded lines; span = front-span pre lines _ (omega (arith, c.total_numbers.ensures)) }

pub returns : goal.returns
unfolding coefficients
returns c =
    c.all_within.ensures ∙ ap (all_within 2147483598)
    (all-numbers c.requires c.sections_of.ensures c.total_numbers.ensures)
