-- `cases::lists::put` meets its contract. Assumes nothing.
use Rattle.std.proofs.Common.{◌≡◌, ◌+◌, ◌-◌, min, ap, sym, ◌∙◌, take, drop, length, ℕ, length-take-le, length-drop, arith, to_z-of_z, zero-add, get_or, pos}
use Rattle.std.specs.Int.{w32}
use Rattle.integers.specs.Laws.ListLaws.{length-tab}
use Rattle.integers.specs.Laws.OverLaws.{over-nil, over-all, over_slice}
use Rattle.integers.specs.Over.{over}
use Rattle.integers.specs.Lists.{tab}
use Rattle.cases.specs.Numbers.{padded}
use Rattle.cases.specs.Laws.ListLaws.{put_next}
use Rattle.cases.proofs.lists.put.Goals as goal

pub loop-i-init : goal.loop-i-init
unfolding tab
loop-i-init c = sym (over-nil _ 0)

pub loop-i-preserved : goal.loop-i-preserved
loop-i-preserved c =
    let number = to_z-of_z {w = w32} (record { sfits = c.number_at.type_inv }) ∙ c.number_at.ensures in
    rw zero-add at (put_next _ c.loop-i.number-items c.args.part.now 0 c.loop-i.i c.loop-i.invariant (omega arith) number)

pub returns : goal.returns
unfolding padded
returns c =
    let out = c.args.out.now in
    let number = λ (k : ℕ). get_or c.args.part.now k (pos 0) in
    let part = take (c.args.at + c.min.result - c.args.at) (drop c.args.at out) in
    let wide : length part ≡ c.min.result = omega (arith, length-take-le (c.args.at + c.min.result - c.args.at) (drop c.args.at out), length-drop c.args.at out) in
    let count : c.loop-i.i ≡ min c.args.width (length out - c.args.at) = omega (arith, wide) in
    let all : c.loop-i.number-items ≡ tab c.loop-i.i number =
    c.loop-i.invariant ∙ over-all part _ (omega (arith, length-tab c.loop-i.i number, wide)) in (
      omega arith,
      over_slice out c.args.at _ c.loop-i.number-items (omega (arith, wide)) ∙ ap (over out c.args.at) all
          ∙ ap (λ (k : ℕ). over out c.args.at (tab k number)) count,
    )
