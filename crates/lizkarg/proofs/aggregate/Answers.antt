use Rattle.std.proofs.Common.{refl}
use Rattle.fold.specs.Laws.ResultLaws.{row_nonzero}
use Rattle.lizkarg.specs.Laws.CallLaws.{refused_call, aggregate-refused, aggregate-facts, aggregate-written}
use Rattle.lizkarg.proofs.aggregate.Goals as goal

pub returns-in_err-aggregate_refusal : goal.returns-in_err-aggregate_refusal
returns-in_err-aggregate_refusal c =
    rw (refused_call _ _ c.from_residual.ensures.1)
    (aggregate-refused _ _ _ _ _ _ _ _ _ c.in_err-aggregate_refusal.ensures (row_nonzero _))

pub write_second_b-requires : goal.write_second_b-requires
write_second_b-requires c = aggregate-facts _ _ _ _ _ _ _ _ _ c.in_ok-aggregate_refusal.ensures refl

pub returns : goal.returns
returns c = aggregate-written _ _ _ _ _ _ _ _ _ c.in_ok-aggregate_refusal.ensures refl c.write_second_b.ensures
