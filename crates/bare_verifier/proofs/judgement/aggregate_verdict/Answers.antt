-- `bare_verifier::judgement::aggregate_verdict` meets its contract: check 5 or 6 fails, or check 7 says.
use Rattle.std.proofs.Common.{refl, sym, ◌∙◌}
use Rattle.fold.specs.Laws.TestLaws.{passing, failing}
use Rattle.fold.specs.Laws.ResultLaws.{failed_check}
use Rattle.bare.specs.declared.BareCheck.TheVariants.{GarbageOfPhi, Aggregate, LengthOfZ}
use Rattle.bare.specs.Checks.{bare_check_number}
use Rattle.bare.specs.Verdict.{z_short, z_margin}
use Rattle.verifier.specs.Laws.JudgementLaws.{check_passed, length_says}
use Rattle.bare_verifier.specs.Laws.JudgementLaws.{check_nonzero}
use Rattle.bare_verifier.proofs.judgement.aggregate_verdict.Goals as goal

pub phi_garbage-five-requires : goal.phi_garbage-five-requires
phi_garbage-five-requires c = c.requires

pub returns-in_err-require : goal.returns-in_err-require
returns-in_err-require c =
    failed_check bare_check_number _ _ c.from_residual.ensures.1 c.in_err-require.ensures.told (check_nonzero GarbageOfPhi)
    (failing 5 _ (sym c.phi_garbage-five.ensures ∙ c.in_err-require.ensures.told.0))

pub aggregate_holds-six-requires : goal.aggregate_holds-six-requires
aggregate_holds-six-requires c =
    let p = c.requires in record { diagonal_facts = record { opened = p.opened; wholes = p.aggregated.wholes; terms = p.aggregated.seconds.terms; δ-length = p.aggregated.δ-length }; second_b_len = p.b''-length }

pub returns-in_err-require-2 : goal.returns-in_err-require-2
returns-in_err-require-2 c =
    failed_check bare_check_number _ _ c.from_residual-in_err-require-2.ensures.1 c.in_err-require-2.ensures.told (check_nonzero Aggregate)
    (passing 5 _ (sym c.phi_garbage-five.ensures ∙ c.in_ok-require.ensures.told)
    (failing 6 _ (sym (c.aggregate_holds-six.ensures c.args.projections.now c.args.omega.now) ∙ c.in_err-require-2.ensures.told.0)))

pub z_margin-requires : goal.z_margin-requires
z_margin-requires c = c.requires.opened

pub returns : goal.returns
unfolding z_short z_margin
returns c =
    check_passed _ _ _ (length_says bare_check_number LengthOfZ _ _ (check_nonzero LengthOfZ) c.ok_or.ensures.value c.z_margin.ensures)
    (passing 5 _ (sym c.phi_garbage-five.ensures ∙ c.in_ok-require.ensures.told)
    (passing 6 _ (sym (c.aggregate_holds-six.ensures c.args.projections.now c.args.omega.now) ∙ c.in_ok-require-2.ensures.told) refl))
