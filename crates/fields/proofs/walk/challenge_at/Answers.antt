-- `fields::walk::challenge_at` meets its contract.
use mathlib.Core.Path.{refl, ap, ◌∙◌}
use Rattle.residues.specs.Range.{challenge}
use Rattle.fields.specs.Sections.{ends_line}
use Rattle.fields.specs.Laws.ChallengeLaws.{filled-part}
use Rattle.fields.proofs.walk.challenge_at.Goals as goal

pub returns : goal.returns
returns c =
    c.is_challenge.ensures ∙ ap challenge
    (filled-part _ c.fill.new.out (ends_line c.args.s) c.args.text.now
    c.args.from c.args.d refl c.requires.d_nonzero.2 c.fill.ensures)
