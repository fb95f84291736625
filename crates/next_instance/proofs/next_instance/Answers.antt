-- `next_instance::next_instance` meets its contract: a refusal, a failed check, or all is written.
use Rattle.std.proofs.Common.{refl}
use Rattle.fold.specs.Arguments.{count_of, based_sizes}
use Rattle.fold.specs.Laws.ResultLaws.{row_nonzero, check_nonzero}
use Rattle.fold.proofs.Laws.DigitCounts.{digits-few}
use Rattle.next_instance.specs.Laws.CallLaws.{next-refused, call_facts, next-judged, next-written, refused_result}
use Rattle.next_instance.proofs.next_instance.Goals as goal

pub next_refusal-requires : goal.next_refusal-requires
next_refusal-requires c = rw c.count-tz.ensures (digits-few c.args.sizes.z)

pub returns-in_err-next_refusal : goal.returns-in_err-next_refusal
returns-in_err-next_refusal c =
    let s = c.args.sizes in
    rw (refused_result _ _ c.from_residual.ensures.1)
    (next-refused (count_of s.z) (based_sizes s) _ _ _ _ _ _ _ _ _ _ _ _ _ _ _ _ _ _ _ (rw (c.count-tz.ensures, c.based-given.ensures) at c.in_err-next_refusal.ensures) (row_nonzero _))

pub message_checks-requires : goal.message_checks-requires
message_checks-requires c = (call_facts c.count-tz.result c.based-given.result _ _ _ _ _ _ _ _ _ _ _ _ _ _ _ _ _ _ _ c.in_ok-next_refusal.ensures refl).message

pub returns-in-Err : goal.returns-in-Err
returns-in-Err c =
    let s = c.args.sizes in
    next-judged (count_of s.z) (based_sizes s) _ _ _ _ _ _ _ _ _ _ _ _ _ _ _ _ _ _ _ (rw (c.count-tz.ensures, c.based-given.ensures) at c.in_ok-next_refusal.ensures)
    refl (rw c.based-given.ensures at c.in-Err.ensures) (check_nonzero _)

pub write_instance-requires : goal.write_instance-requires
write_instance-requires c =
    record {
      next_facts = call_facts c.count-tz.result c.based-given.result _ _ _ _ _ _ _ _ _ _ _ _ _ _ _ _ _ _ _ c.in_ok-next_refusal.ensures refl;
      tz_nonzero = rw c.count-tz.ensures (digits-few c.args.sizes.z);
    }

pub returns : goal.returns
returns c =
    let s = c.args.sizes in
    next-written (count_of s.z) (based_sizes s) _ _ _ _ _ _ _ _ _ _ _ _ _ _ _ _ _ _ _ (rw (c.count-tz.ensures, c.based-given.ensures) at c.in_ok-next_refusal.ensures)
    refl (rw c.based-given.ensures at c.in-Ok.ensures) refl (rw (c.count-tz.ensures, c.based-given.ensures) at c.write_instance.ensures)
