-- `verifier::judgement::judge` meets its contract: one of the first part fails, or one of the second, or the third says.
use Rattle.std.proofs.Common.{refl}
use Rattle.fold.specs.Rows.{check_number}
use Rattle.fold.specs.Verdict.{verdict}
use Rattle.fold.specs.Laws.ResultLaws.{failed_on, check_nonzero}
use Rattle.verifier.specs.Laws.JudgementLaws.{message-fails, outer-fails, opening_says}
use Rattle.verifier.proofs.judgement.judge.Goals as goal

pub message_checks-requires : goal.message_checks-requires
message_checks-requires c = c.requires.facts.message

pub returns-in_err-message_checks : goal.returns-in_err-message_checks
unfolding verdict
returns-in_err-message_checks c =
    let a = c.args in
    failed_on check_number _ _ _ c.from_residual.ensures.1 (check_nonzero _)
    (message-fails a.tz a.sizes _ _ _ _ _ _ _ _ _ _ _ _ _ _ _ _ _ c.in_err-message_checks.ensures (check_nonzero _))

pub outer_checks-requires : goal.outer_checks-requires
outer_checks-requires c = record { tz_bound = c.requires.tz_nonzero.1; outer_facts = c.requires.facts.outer }

pub returns-in_err-outer_checks : goal.returns-in_err-outer_checks
unfolding verdict
returns-in_err-outer_checks c =
    let a = c.args in
    failed_on check_number _ _ _ c.from_residual-in_err-outer_checks.ensures.1 (check_nonzero _)
    (outer-fails a.tz a.sizes _ _ _ _ _ _ _ _ _ _ _ _ _ _ _ _ _ c.in_ok-message_checks.ensures refl c.in_err-outer_checks.ensures (check_nonzero _))

pub opening_verdict-requires : goal.opening_verdict-requires
opening_verdict-requires c = record { tz_nonzero = c.requires.tz_nonzero; opening_facts = c.requires.facts.opening }

pub returns : goal.returns
unfolding verdict
returns c =
    let a = c.args in
    opening_says a.tz a.sizes _ _ _ _ _ _ _ _ _ _ _ _ _ _ _ _ _ c.in_ok-message_checks.ensures refl c.in_ok-outer_checks.ensures _ refl c.opening_verdict.ensures
