-- `residues::range::is_challenge` meets its contract: the rule by the slice's length. Assumes nothing.
use mathlib.Core.Path.{sym, ◌∙◌}
use Rattle.residues.proofs.Laws.RangeLaws.{challenge_64, challenge-other}
use Rattle.residues.proofs.range.is_challenge.Goals as goal

pub returns-then-xs-eq64 : goal.returns-then-xs-eq64
returns-then-xs-eq64 c = c.is_counted_challenge.ensures ∙ sym (challenge_64 _ c.if-xs-eq64.true)

pub returns : goal.returns
returns c = c.is_short_challenge.ensures ∙ sym (challenge-other _ c.if-xs-eq64.false)
