-- `checks::outer::first_outer` meets its contract.
use Rattle.std.proofs.Common.{rules}
use Rattle.fold.specs.Verdict.{check₃}
use Rattle.checks.proofs.outer.first_outer.Goals as goal

pub returns : goal.returns
unfolding check₃
returns c = c.every.ensures _ (λ k h b e. search rules)
