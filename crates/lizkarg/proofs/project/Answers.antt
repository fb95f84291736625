use Rattle.std.proofs.Common.{refl}
use Rattle.fold.specs.Laws.ResultLaws.{row_nonzero}
use Rattle.lizkarg.specs.Laws.CallLaws.{refused_call, project-refused, project-facts, project-written}
use Rattle.lizkarg.proofs.project.Goals as goal

pub returns-in_err-project_refusal : goal.returns-in_err-project_refusal
returns-in_err-project_refusal c =
    rw (refused_call _ _ c.from_residual.ensures.1)
    (project-refused c.in_err-project_refusal.ensures (row_nonzero _))

pub write_p-requires : goal.write_p-requires
write_p-requires c = project-facts c.in_ok-project_refusal.ensures refl

pub returns : goal.returns
returns c = project-written c.in_ok-project_refusal.ensures refl c.write_p.ensures
