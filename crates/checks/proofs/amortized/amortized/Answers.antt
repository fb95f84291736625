-- `checks::amortized::amortized` meets its contract.
use Rattle.std.proofs.Common.{rules}
use Rattle.fold.specs.Verdict.{check₅}
use Rattle.checks.proofs.amortized.amortized.Goals as goal

pub returns : goal.returns
unfolding check₅
returns c = c.every.ensures _ (λ k h b e. search rules)
