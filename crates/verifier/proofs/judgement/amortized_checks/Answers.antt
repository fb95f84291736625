-- `verifier::judgement::amortized_checks` meets its contract: check 5 fails, or check 6 says.
use Rattle.std.proofs.Common.{sym, ◌∙◌}
use Rattle.fold.specs.declared.answers.Check.TheVariants.{SelfProduct}
use Rattle.fold.specs.Rows.{check_number}
use Rattle.fold.specs.Laws.TestLaws.{passing, failing}
use Rattle.fold.specs.Laws.ResultLaws.{required, last_row}
use Rattle.checks.specs.Laws.Rows.{check_five_cong, check_six_cong}
use Rattle.verifier.proofs.judgement.amortized_checks.Goals as goal

pub amortized-five-requires : goal.amortized-five-requires
amortized-five-requires c = record { tz_bound = c.requires.tz_bound; amortized_facts = c.requires.amortized_facts; d_in_bounds = c.requires.recomposed.room }

pub returns-in_err-require : goal.returns-in_err-require
returns-in_err-require c =
    required check_number _ c.from_residual.ensures.1 c.in_err-require.ensures.told
    (failing 5 _ (sym (c.amortized-five.ensures ∙ check_five_cong _ _ _ _ _ _ c.requires.recomposed.agree _ _ _) ∙ c.in_err-require.ensures.told.0))

pub self_product-six-requires : goal.self_product-six-requires
self_product-six-requires c =
    record { tz_bound = c.requires.tz_bound; folded_facts = c.requires.amortized_facts.folded; d_in_bounds = c.requires.recomposed.room }

pub returns : goal.returns
returns c =
    let agree = c.requires.recomposed.agree in
    passing 5 _ (sym (c.amortized-five.ensures ∙ check_five_cong _ _ _ _ _ _ agree _ _ _) ∙ c.in_ok-require.ensures.told)
    (last_row check_number SelfProduct c.require-2.ensures.value (c.self_product-six.ensures ∙ check_six_cong _ _ _ _ _ _ agree _))
