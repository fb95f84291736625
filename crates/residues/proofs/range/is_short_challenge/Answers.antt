-- `residues::range::is_short_challenge` meets its contract: both tests of the rule, the second as the margin below 71. Assumes nothing.
use mathlib.Core.Path.{◌∙◌}
use Rattle.residues.proofs.Laws.RangeLaws.{short-tests, between-bound}
use Rattle.residues.proofs.range.is_short_challenge.Goals as goal

pub returns : goal.returns
returns c = short-tests _ (c.all_between-small.ensures ∙ between-bound 1 _) c.compare.ensures c.is_some-short.ensures
