-- `checks::terms::constant_terms_hold` meets its contract.
use Rattle.std.proofs.Common.{◌∙◌, rules}
use Rattle.checks.specs.Laws.ConstantTermLaws.{check_two}
use Rattle.checks.proofs.terms.constant_terms_hold.Goals as goal

pub returns : goal.returns
returns c = c.every.ensures _ (λ k h b e. search rules) ∙ check_two _ _ _ _ _ _ _ _ _ _
