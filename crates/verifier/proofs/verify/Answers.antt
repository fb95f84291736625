-- `verifier::verify` meets its contract: a refusal with its number, or the judgement.
use Rattle.std.proofs.Common.{ap}
use Rattle.fold.specs.Answers.{Judged}
use Rattle.fold.specs.Rows.{check_number}
use Rattle.fold.proofs.Laws.DigitCounts.{digits-few}
use Rattle.fold.specs.Laws.ResultLaws.{refused_judgement, unrefused_by}
use Rattle.verifier.specs.Laws.JudgementLaws.{call_facts}
use Rattle.verifier.proofs.verify.Goals as goal

pub verify_refusal-requires : goal.verify_refusal-requires
verify_refusal-requires c = rw c.count-tz.ensures (digits-few c.args.sizes.z)

pub returns-in_err-verify_refusal : goal.returns-in_err-verify_refusal
returns-in_err-verify_refusal c =
    refused_judgement check_number _ _ _ _ c.from_residual.ensures.1 (rw (c.count-tz.ensures, c.based-given.ensures) at c.in_err-verify_refusal.ensures)

pub judge-requires : goal.judge-requires
judge-requires c =
    record {
      tz_nonzero = rw c.count-tz.ensures (digits-few c.args.sizes.z);
      facts = call_facts c.count-tz.result c.based-given.result _ _ _ _ _ _ _ _ _ _ _ _ _ _ _ _ _ c.in_ok-verify_refusal.ensures;
    }

pub returns : goal.returns
returns c =
    unrefused_by _ (rw (c.count-tz.ensures, c.based-given.ensures) at c.in_ok-verify_refusal.ensures)
    (ap Judged (rw (c.count-tz.ensures, c.based-given.ensures) at c.judge.ensures))
