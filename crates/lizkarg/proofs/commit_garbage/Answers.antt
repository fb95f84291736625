use Rattle.std.proofs.Common.{refl}
use Rattle.fold.specs.Laws.ResultLaws.{row_nonzero}
use Rattle.lizkarg.specs.Laws.CallLaws.{refused_call, garbage-refused, garbage-h, garbage-u, garbage-written}
use Rattle.lizkarg.proofs.commit_garbage.Goals as goal

pub returns-in_err-garbage_refusal : goal.returns-in_err-garbage_refusal
returns-in_err-garbage_refusal c =
    rw (refused_call _ _ c.from_residual.ensures.1)
    (garbage-refused _ _ _ _ _ _ _ _ _ _ _ _ c.in_err-garbage_refusal.ensures (row_nonzero _))

pub write_h-requires : goal.write_h-requires
write_h-requires c = garbage-h _ _ _ _ _ _ _ _ _ _ _ _ c.in_ok-garbage_refusal.ensures refl

pub write_u2-requires : goal.write_u2-requires
write_u2-requires c = garbage-u _ _ _ _ _ _ _ _ _ _ _ _ c.in_ok-garbage_refusal.ensures refl c.write_h.auto.out

pub returns : goal.returns
returns c =
    garbage-written _ _ _ _ _ _ _ _ _ _ _ _ c.in_ok-garbage_refusal.ensures refl c.write_h.ensures c.write_u2.ensures
