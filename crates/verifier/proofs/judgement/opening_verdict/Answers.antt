-- `verifier::judgement::opening_verdict` meets its contract: checks 5 and 6, 7, 8 and 9 in turn pass or say.
use mathlib.Core.Path.{◌≡◌, refl, sym, ◌∙◌}
use native.Mathlib.Nat.{mul-le-mul}
use native.Mathlib.Omega.{arith}
use lib.ListN.{length, length-replicate}
use lib.IntN.{pos}
use Rattle.fold.specs.declared.answers.Check.TheVariants.{Linear}
use Rattle.fold.specs.Rows.{check_number}
use Rattle.fold.specs.Laws.TestLaws.{passing, failing, stops}
use Rattle.fold.specs.Laws.ResultLaws.{gone_on, failed_on, failed_check, check_nonzero}
use Rattle.checks.specs.Laws.SizeLaws.{z-within}
use Rattle.checks.specs.Laws.RelationLaws.{check_seven}
use Rattle.verifier.specs.Judgement.{Recomposed}
use Rattle.verifier.specs.Laws.JudgementLaws.{recomposed, check_passed}
use Rattle.verifier.proofs.judgement.opening_verdict.Goals as goal

pub slice_bounds-write_z-end : goal.slice_bounds-write_z-end
slice_bounds-write_z-end c = sym (length-replicate 16384 (pos 0))

pub write_z-requires : goal.write_z-requires
write_z-requires c =
    let f = c.requires.opening_facts.relation.limits in record {
      degree = f.shaped.degree;
      base = f.base;
      tz_nonzero = c.requires.tz_nonzero.0;
      d_in_bounds = (
        z-within c.args.tz c.args.sizes _ c.requires.opening_facts.relation.o-length,
        mul-le-mul f.shaped.rank-small
            f.shaped.degree.small,
      );
    }

pub slice_bounds-amortized_checks-end : goal.slice_bounds-amortized_checks-end
slice_bounds-amortized_checks-end c =
    let long : length c.write_z.new.z ≡ 16384 = c.write_z.auto.z ∙ length-replicate 16384 (pos 0) in
    sym long

pub amortized_checks-requires : goal.amortized_checks-requires
amortized_checks-requires c =
    let long : length c.write_z.new.z ≡ 16384 = c.write_z.auto.z ∙ length-replicate 16384 (pos 0) in
    let stands : Recomposed c.args.tz c.args.sizes c.args.opening.now c.write_z.new.z = recomposed c.args.tz c.args.sizes c.requires.opening_facts.relation.limits _ _ _ long c.write_z.ensures in record { tz_bound = c.requires.tz_nonzero.1; amortized_facts = c.requires.opening_facts.amortized; recomposed = stands }

pub returns-in_err-amortized_checks : goal.returns-in_err-amortized_checks
returns-in_err-amortized_checks c =
    failed_on check_number _ _ _ c.from_residual.ensures.1 (check_nonzero _) (stops _ _ c.in_err-amortized_checks.ensures (check_nonzero _))

pub slice_bounds-linear_sum-end : goal.slice_bounds-linear_sum-end
slice_bounds-linear_sum-end c =
    let long : length c.write_z.new.z ≡ 16384 = c.write_z.auto.z ∙ length-replicate 16384 (pos 0) in
    sym long

pub linear_sum-sum-requires : goal.linear_sum-sum-requires
linear_sum-sum-requires c =
    let long : length c.write_z.new.z ≡ 16384 = c.write_z.auto.z ∙ length-replicate 16384 (pos 0) in
    let stands : Recomposed c.args.tz c.args.sizes c.args.opening.now c.write_z.new.z = recomposed c.args.tz c.args.sizes c.requires.opening_facts.relation.limits _ _ _ long c.write_z.ensures in record { aggregate_facts = c.requires.opening_facts.aggregated; holds = c.requires.opening_facts.amortized.folded.c-length; d_in_bounds = stands.room }

pub linear_holds-seven-requires : goal.linear_holds-seven-requires
linear_holds-seven-requires c = record { tz_bound = c.requires.tz_nonzero.1; folded_facts = c.requires.opening_facts.amortized.folded }

pub returns-in_err-require : goal.returns-in_err-require
returns-in_err-require c =
    let long : length c.write_z.new.z ≡ 16384 = c.write_z.auto.z ∙ length-replicate 16384 (pos 0) in
    let stands : Recomposed c.args.tz c.args.sizes c.args.opening.now c.write_z.new.z = recomposed c.args.tz c.args.sizes c.requires.opening_facts.relation.limits _ _ _ long c.write_z.ensures in
    let small = c.requires.opening_facts.relation.limits.shaped.degree.small in
    failed_check check_number _ _ c.from_residual-in_err-require.ensures.1 c.in_err-require.ensures.told (check_nonzero Linear)
    (gone_on _ _ refl c.in_ok-amortized_checks.ensures
    (failing 7 _ (sym (check_seven _ _ _ _ _ _ _ _ small stands.agree c.linear_sum-sum.ensures c.linear_holds-seven.ensures) ∙ c.in_err-require.ensures.told.0)))

pub last_verdict-requires : goal.last_verdict-requires
last_verdict-requires c = record { tz_bound = c.requires.tz_nonzero.1; relation_facts = c.requires.opening_facts.relation }

pub returns : goal.returns
returns c =
    let long : length c.write_z.new.z ≡ 16384 = c.write_z.auto.z ∙ length-replicate 16384 (pos 0) in
    let stands : Recomposed c.args.tz c.args.sizes c.args.opening.now c.write_z.new.z = recomposed c.args.tz c.args.sizes c.requires.opening_facts.relation.limits _ _ _ long c.write_z.ensures in
    let small = c.requires.opening_facts.relation.limits.shaped.degree.small in
    check_passed _ _ _ (c.last_verdict.ensures c.args.projections.now c.args.omega.now)
    (gone_on _ _ refl c.in_ok-amortized_checks.ensures
    (passing 7 _ (sym (check_seven _ _ _ _ _ _ _ _ small stands.agree c.linear_sum-sum.ensures c.linear_holds-seven.ensures) ∙ c.in_ok-require.ensures.told) refl))
