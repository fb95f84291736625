-- `bare_verifier::aggregate::phi_garbage` meets its contract. Assumes nothing.
use mathlib.Core.Path.{ap, ap₂, ◌∙◌}
use Prim.Native.Nat.{ℕ, ◌+◌, ◌*◌, ◌≤◌}
use native.Mathlib.Nat.{le_refl}
use native.Mathlib.Omega.{arith}
use lib.ListN.{length, length-drop}
use Rattle.integers.specs.Laws.ListLaws.{rest_all}
use Rattle.ring.specs.Element.{same}
use Rattle.ring.specs.Laws.Loops.{held}
use Rattle.bare.specs.Verdict.{garbage_ofΦ}
use Rattle.bare_verifier.specs.Known.Facts.{z-fits}
use Rattle.bare_verifier.specs.Laws.CheckLaws.{linear_at}
use Rattle.bare_verifier.proofs.aggregate.phi_garbage.Goals as goal

pub overflow_mul-start : goal.overflow_mul-start
overflow_mul-start c =
    let starts : let m = c.args.sizes in c.z_place.result * m.shape.d + m.shape.n * m.shape.d ≤ length c.args.opening.now = rw c.z_place.ensures (omega (arith, z-fits c.args.sizes c.requires.opened)) in
    omega (arith, starts)

pub offset_bounds-opening-start : goal.offset_bounds-opening-start
offset_bounds-opening-start c =
    let starts : let m = c.args.sizes in c.z_place.result * m.shape.d + m.shape.n * m.shape.d ≤ length c.args.opening.now = rw c.z_place.ensures (omega (arith, z-fits c.args.sizes c.requires.opened)) in
    omega (arith, starts)

pub slice_bounds-linear_sum-count : goal.slice_bounds-linear_sum-count
slice_bounds-linear_sum-count c =
    let starts : let m = c.args.sizes in c.z_place.result * m.shape.d + m.shape.n * m.shape.d ≤ length c.args.opening.now = rw c.z_place.ensures (omega (arith, z-fits c.args.sizes c.requires.opened)) in
    omega (arith, starts)

pub slice_bounds-linear_sum-start : goal.slice_bounds-linear_sum-start
slice_bounds-linear_sum-start c =
    let starts : let m = c.args.sizes in c.z_place.result * m.shape.d + m.shape.n * m.shape.d ≤ length c.args.opening.now = rw c.z_place.ensures (omega (arith, z-fits c.args.sizes c.requires.opened)) in
    omega (arith, starts)

pub slice_bounds-linear_sum-end : goal.slice_bounds-linear_sum-end
slice_bounds-linear_sum-end c = le_refl _

pub linear_sum-left-requires : goal.linear_sum-left-requires
linear_sum-left-requires c =
    let starts : let m = c.args.sizes in c.z_place.result * m.shape.d + m.shape.n * m.shape.d ≤ length c.args.opening.now = rw c.z_place.ensures (omega (arith, z-fits c.args.sizes c.requires.opened)) in
    let start = c.z_place.result * c.args.sizes.shape.d in record { aggregate_facts = c.requires.aggregated; holds = c.requires.opened.c-length; d_in_bounds = rw (rest_all c.args.opening.now start) (omega (arith, length-drop start c.args.opening.now, starts)) }

pub turn_sum-right-requires : goal.turn_sum-right-requires
turn_sum-right-requires c = record { bare_opening_facts = c.requires.opened; e_bound = omega arith }

pub equals-requires : goal.equals-requires
equals-requires c = c.requires.opened.shaped.degree

pub returns : goal.returns
unfolding garbage_ofΦ
returns c =
    let m = c.args.sizes in
    let d = m.shape.d in
    let small = c.requires.opened.shaped.degree.small in
    let start = ap (λ (q : ℕ). q * d) c.z_place.ensures in
    c.equals.ensures
    ∙ ap₂ (same d) (held small c.linear_sum-left.ensures ∙ linear_at d m.shape.n m.shape.r m.kappa _ c.args.c.now c.args.opening.now start)
    (held small c.turn_sum-right.ensures)
