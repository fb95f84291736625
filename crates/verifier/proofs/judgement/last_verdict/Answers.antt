-- `verifier::judgement::last_verdict` meets its contract: check 8 fails, or check 9 says.
use Rattle.std.proofs.Common.{refl, sym, ◌∙◌}
use Rattle.fold.specs.declared.answers.Check.TheVariants.{Relation, OpeningLength}
use Rattle.fold.specs.Rows.{check_number}
use Rattle.fold.specs.Verdict.{check₉, margin₉}
use Rattle.fold.specs.Laws.TestLaws.{passing, failing}
use Rattle.fold.specs.Laws.ResultLaws.{failed_check, check_nonzero}
use Rattle.verifier.specs.Laws.JudgementLaws.{check_passed, length_says}
use Rattle.verifier.proofs.judgement.last_verdict.Goals as goal

pub relation_holds-eight-requires : goal.relation_holds-eight-requires
relation_holds-eight-requires c = record { tz_bound = c.requires.tz_bound; relation_facts = c.requires.relation_facts }

pub returns-in_err-require : goal.returns-in_err-require
returns-in_err-require c =
    λ projections ω.
    failed_check check_number _ _ c.from_residual.ensures.1 c.in_err-require.ensures.told (check_nonzero Relation)
    (failing 8 _ (sym (c.relation_holds-eight.ensures c.args.sizes.w projections ω) ∙ c.in_err-require.ensures.told.0))

pub opening_margin-requires : goal.opening_margin-requires
opening_margin-requires c = record { tz_bound = c.requires.tz_bound; fits = c.requires.relation_facts.limits; opening = c.requires.relation_facts.o-length }

pub returns : goal.returns
unfolding check₉ margin₉
returns c =
    λ projections ω.
    check_passed _ _ _ (length_says check_number OpeningLength _ _ (check_nonzero OpeningLength) c.ok_or.ensures.value c.opening_margin.ensures)
    (passing 8 _ (sym (c.relation_holds-eight.ensures c.args.sizes.w projections ω) ∙ c.in_ok-require.ensures.told) refl)
