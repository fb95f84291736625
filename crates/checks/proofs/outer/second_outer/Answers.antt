-- `checks::outer::second_outer` meets its contract.
use Rattle.std.proofs.Common.{rules}
use Rattle.fold.specs.Verdict.{check₄}
use Rattle.checks.proofs.outer.second_outer.Goals as goal

pub returns : goal.returns
unfolding check₄
returns c = c.every.ensures _ (λ k h b e. search rules)
