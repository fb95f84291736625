-- `next_cases::messages::total` meets its contract: the sum is where the next list starts. Assumes nothing.
use mathlib.Core.Path.{◌≡◌, ap, ◌∙◌}
use Prim.Native.Nat.{ℕ, ◌+◌}
use native.Mathlib.Omega.{arith}
use Rattle.next_cases.specs.Messages.{start_of}
use Rattle.next_cases.specs.Laws.MessageLaws.{start-inside, start_fits, start_none, start-next}
use Rattle.next_cases.proofs.messages.total.Goals as goal

pub loop-i-init : goal.loop-i-init
loop-i-init c = start_none _ _

pub overflow_sub-room : goal.overflow_sub-room
overflow_sub-room c = start_fits c.args.room c.args.lengths.now c.loop-i.i c.loop-i.invariant

pub overflow_add-sum : goal.overflow_add-sum
overflow_add-sum c =
    let a = c.args in
    let i = c.loop-i.i in
    let next = start-next a.room a.lengths.now i c.loop-i.invariant c.size-sum.ensures in
    omega (arith, next, start-inside a.room a.lengths.now (i + 1))

pub loop-i-preserved : goal.loop-i-preserved
loop-i-preserved c =
    let a = c.args in
    start-next a.room a.lengths.now c.loop-i.i c.loop-i.invariant c.size-sum.ensures

pub returns : goal.returns
returns c =
    let a = c.args in
    let all : c.loop-i.i ≡ a.lists = omega arith in
    c.loop-i.invariant ∙ ap (λ (k : ℕ). start_of a.room a.lengths.now k) all
