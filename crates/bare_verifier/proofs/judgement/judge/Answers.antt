-- `bare_verifier::judgement::judge` meets its contract: one of the first part fails, or one of the second, or the third says.
use Rattle.std.proofs.Common.{refl}
use Rattle.fold.specs.Laws.ResultLaws.{failed_on}
use Rattle.bare.specs.Checks.{bare_check_number}
use Rattle.bare.specs.Verdict.{bare_verdict}
use Rattle.bare_verifier.specs.Laws.JudgementLaws.{message-fails, folded-fails, aggregate_says, check_nonzero}
use Rattle.bare_verifier.proofs.judgement.judge.Goals as goal

pub message_checks-requires : goal.message_checks-requires
message_checks-requires c = c.requires.message

pub returns-in_err-message_checks : goal.returns-in_err-message_checks
unfolding bare_verdict
returns-in_err-message_checks c =
    failed_on bare_check_number _ _ _ c.from_residual.ensures.1 (check_nonzero _)
    (message-fails c.args.sizes _ _ _ _ _ _ _ _ _ _ _ _ c.in_err-message_checks.ensures (check_nonzero _))

pub folded_checks-requires : goal.folded_checks-requires
folded_checks-requires c = c.requires.folded

pub returns-in_err-folded_checks : goal.returns-in_err-folded_checks
unfolding bare_verdict
returns-in_err-folded_checks c =
    failed_on bare_check_number _ _ _ c.from_residual-in_err-folded_checks.ensures.1 (check_nonzero _)
    (folded-fails c.args.sizes _ _ _ _ _ _ _ _ _ _ _ _ c.in_ok-message_checks.ensures refl c.in_err-folded_checks.ensures (check_nonzero _))

pub aggregate_verdict-requires : goal.aggregate_verdict-requires
aggregate_verdict-requires c = c.requires.aggregate

pub returns : goal.returns
unfolding bare_verdict
returns c =
    aggregate_says c.args.sizes _ _ _ _ _ _ _ _ _ _ _ _ c.in_ok-message_checks.ensures refl c.in_ok-folded_checks.ensures _ refl c.aggregate_verdict.ensures
