-- `cases::sums::checksum` meets its contract. Assumes nothing.
use Rattle.std.proofs.Common.{rules, ap, ◌∙◌, ◌+◌, arith, pos, ◌+ℤ◌, ◌*ℤ◌, get_or, SFits, to_z-of_z}
use Rattle.std.specs.Int.{w32}
use Rattle.integers.specs.Remainder.{emod}
use Rattle.cases.specs.Laws.SumLaws.{checksum-start, checksum-step, checksum-below, checksum-end}
use Rattle.cases.proofs.sums.checksum.Goals as goal

pub loop-i-init : goal.loop-i-init
loop-i-init c = checksum-start c.args.xs.now

pub with_number-sum-requires : goal.with_number-sum-requires
with_number-sum-requires c = checksum-below c.args.xs.now c.loop-i.i c.loop-i.invariant

pub loop-i-preserved : goal.loop-i-preserved
loop-i-preserved c =
    let xs = c.args.xs.now in
    let fits : SFits w32 (get_or xs c.loop-i.i (pos 0)) = search rules in
    let next = c.with_number-sum.ensures ∙ ap (λ x. emod (pos c.loop-i.sum +ℤ pos (c.loop-i.i + 1) *ℤ x) 2147483647) (to_z-of_z fits) in
    checksum-step xs c.loop-i.i c.loop-i.sum c.loop-i.invariant next

pub returns : goal.returns
returns c = checksum-end c.args.xs.now c.loop-i.i (omega arith) c.loop-i.invariant
