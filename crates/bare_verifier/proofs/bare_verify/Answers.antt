-- `bare_verifier::bare_verify` meets its contract: a refusal with its number, or the judgement.
use Rattle.std.proofs.Common.{ap}
use Rattle.fold.specs.Answers.{Judged}
use Rattle.fold.specs.Laws.ResultLaws.{refused_judgement, unrefused_by}
use Rattle.bare.specs.Checks.{bare_check_number}
use Rattle.bare_verifier.specs.Laws.JudgementLaws.{call_facts}
use Rattle.bare_verifier.proofs.bare_verify.Goals as goal

pub returns-in_err-bare_verify_refusal : goal.returns-in_err-bare_verify_refusal
returns-in_err-bare_verify_refusal c = refused_judgement bare_check_number _ _ _ _ c.from_residual.ensures.1 c.in_err-bare_verify_refusal.ensures

pub judge-requires : goal.judge-requires
judge-requires c = call_facts c.args.sizes _ _ _ _ _ _ _ _ _ _ _ _ c.in_ok-bare_verify_refusal.ensures

pub returns : goal.returns
returns c = unrefused_by _ c.in_ok-bare_verify_refusal.ensures (ap Judged c.judge.ensures)
