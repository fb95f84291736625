use Rattle.std.proofs.Common.{refl}
use Rattle.fold.specs.Laws.ResultLaws.{row_nonzero}
use Rattle.lizkarg.specs.Laws.CallLaws.{refused_call, commit-refused, commit-t, commit-g, commit-u, commit-written}
use Rattle.lizkarg.proofs.commit.Goals as goal

pub returns-in_err-commit_refusal : goal.returns-in_err-commit_refusal
returns-in_err-commit_refusal c =
    rw (refused_call _ _ c.from_residual.ensures.1)
    (commit-refused _ _ _ _ _ _ _ _ c.in_err-commit_refusal.ensures (row_nonzero _))

pub write_t-requires : goal.write_t-requires
write_t-requires c = commit-t _ _ _ _ _ _ _ _ c.in_ok-commit_refusal.ensures refl

pub write_g-requires : goal.write_g-requires
write_g-requires c = commit-g _ _ _ _ _ _ _ _ c.in_ok-commit_refusal.ensures refl

pub write_u1-requires : goal.write_u1-requires
write_u1-requires c = commit-u _ _ _ _ _ _ _ _ c.in_ok-commit_refusal.ensures refl c.write_t.auto.out c.write_g.auto.out

pub returns : goal.returns
returns c =
    commit-written _ _ _ _ _ _ _ _ c.in_ok-commit_refusal.ensures refl c.write_t.ensures c.write_g.ensures
    c.write_u1.ensures
