-- `checks::norms::parts_margin` meets its contract.
use Rattle.checks.specs.Norms.{three_lengths}
use Rattle.checks.specs.Laws.NormLaws.{three-lengths}
use Rattle.checks.proofs.norms.parts_margin.Goals as goal

pub returns : goal.returns
unfolding three_lengths
returns c = three-lengths _ _ _ _ _ _ _ c.compare-low.ensures c.lessen-middle.ensures c.lessen.ensures
