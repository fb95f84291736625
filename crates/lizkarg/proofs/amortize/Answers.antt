-- `lizkarg::amortize` meets its contract: refused, or the digits of z are written. Assumes nothing.
use Rattle.std.proofs.Common.{refl}
use Rattle.fold.proofs.Laws.DigitCounts.{digits-few}
use Rattle.fold.specs.Laws.ResultLaws.{row_nonzero}
use Rattle.lizkarg.specs.Laws.CallLaws.{refused_call, amortize-refused, amortize-facts, amortize-written}
use Rattle.lizkarg.proofs.amortize.Goals as goal

pub amortize_refusal-requires : goal.amortize_refusal-requires
amortize_refusal-requires c = rw c.count-tz.ensures (digits-few c.args.digits).1

pub returns-in_err-amortize_refusal : goal.returns-in_err-amortize_refusal
returns-in_err-amortize_refusal c =
    rw (refused_call _ _ c.from_residual.ensures.1)
    (let a = c.args in
    amortize-refused a.shape a.digits (rw (c.count-tz.ensures, c.base-b.ensures) at c.in_err-amortize_refusal.ensures) (row_nonzero _))

pub write_z-requires : goal.write_z-requires
write_z-requires c =
    let a = c.args in
    let facts = amortize-facts a.shape a.digits (rw (c.count-tz.ensures, c.base-b.ensures) at c.in_ok-amortize_refusal.ensures) refl in
    record { tz_nonzero = rw c.count-tz.ensures (digits-few a.digits); amortize_facts = rw (c.count-tz.ensures, c.base-b.ensures) facts }

pub returns : goal.returns
returns c =
    let a = c.args in
    amortize-written a.shape a.digits (rw (c.count-tz.ensures, c.base-b.ensures) at c.in_ok-amortize_refusal.ensures) refl
    (rw (c.count-tz.ensures, c.base-b.ensures) at c.write_z.ensures)
