-- `checks::amortized::mixed_row` meets its contract.
use Rattle.std.proofs.Common.{rules}
use Rattle.checks.specs.Mixed.{mixed_row}
use Rattle.checks.proofs.amortized.mixed_row.Goals as goal

pub returns : goal.returns
unfolding mixed_row
returns c = c.sum_of.ensures _ (λ k h x e. search rules)
