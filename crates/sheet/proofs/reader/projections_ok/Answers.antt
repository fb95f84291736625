-- `sheet::reader::projections_ok` meets its contract.
use mathlib.Core.Path.{sym, ap, ◌∙◌}
use native.Mathlib.Omega.{arith}
use Rattle.residues.specs.Range.{all_within, projection_entries}
use Rattle.sheet.specs.Laws.ListLaws.{rows-part}
use Rattle.sheet.specs.Laws.ReadingLaws.{lines-positive, front-span, later-span, body-part, projections-end}
use Rattle.sheet.proofs.reader.projections_ok.Goals as goal

pub place_after-start-requires : goal.place_after-start-requires
place_after-start-requires c =
    let lines = c.sections_of-q.ensures in record { d_nonzero = lines-positive c.requires.bounded lines; span = front-span c.requires lines _ (omega (arith, c.projections_from-from.ensures, projections-end c.args.s)) }

pub all_within-requires : goal.all_within-requires
all_within-requires c =
    let lines = c.sections_of-q.ensures in record {
      d_nonzero = lines-positive c.requires.bounded lines;
      span = later-span c.requires lines _ _ (omega (arith, c.projections_from-from.ensures, c.projection_length-count.ensures, projections-end c.args.s))
          c.place_after-start.ensures;
    }

pub returns : goal.returns
unfolding projection_entries
returns c =
    c.all_within.ensures
    ∙ ap (all_within 1)
    (rw (c.projections_from-from.ensures, c.projection_length-count.ensures)
    (sym (rows-part c.args.s _ ∙ body-part c.requires c.sections_of-q.ensures _ _ (projections-end c.args.s))))
