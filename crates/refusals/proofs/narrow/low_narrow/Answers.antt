-- `refusals::narrow::low_narrow` meets its contract. The loop has tested the first i groups. Assumes nothing.
use mathlib.Core.Path.{◌≡◌, sym, ap, ◌∙◌}
use mathlib.Core.List.{List}
use Prim.Native.Nat.{ℕ, ◌+◌, ◌-◌, ◌*◌, ◌<◌, ◌≤◌}
use native.Mathlib.Nat.{mul-le-mul, mul-le-mul_right}
use native.Mathlib.Omega.{arith}
use lib.ListN.{length, take, drop}
use lib.Seq.{drop-drop}
use lib.IntN.{ℤ}
use Rattle.residues.specs.Range.{all_narrow}
use Rattle.ring.specs.Laws.ElementPlaces.{block-before}
use Rattle.ring.specs.Laws.Loops.{tested-start, tested-step, tested-end}
use Rattle.fold.specs.Refusals.{low_narrow}
use Rattle.refusals.proofs.narrow.low_narrow.Goals as goal

-- the numbers of a digit, and of a group
width_small : (rows d : ℕ) → rows ≤ 256 → d ≤ 64 → rows * d ≤ 16384
width_small rows d h l = mul-le-mul h l

group-small : (t rows d : ℕ) → t ≤ 8 → rows ≤ 256 → d ≤ 64 → t * (rows * d) ≤ 131072
group-small t rows d f h l = mul-le-mul f (width_small rows d h l)

-- the low digits of group i end before the last group does
low-inside : (start count t w i m : ℕ) → i < count → start + count * (t * w) ≤ m → start + i * (t * w) + (t - 1) * w ≤ m
low-inside start count t w i m h l =
    let fewer : t - 1 ≤ t = omega arith in
    omega (arith, block-before (t * w) i count h, mul-le-mul_right w fewer)

pub overflow_mul-width : goal.overflow_mul-width
overflow_mul-width c = omega (arith, width_small c.args.rows c.args.d (omega arith) (omega arith))

pub overflow_mul-group : goal.overflow_mul-group
overflow_mul-group c = omega (arith, group-small c.args.t c.args.rows c.args.d (omega arith) (omega arith) (omega arith))

pub overflow_mul-low : goal.overflow_mul-low
overflow_mul-low c =
    let fewer : c.args.t - 1 ≤ c.args.t = omega arith in
    omega (
      arith,
      mul-le-mul_right (c.args.rows * c.args.d) fewer,
      group-small c.args.t c.args.rows c.args.d (omega arith) (omega arith) (omega arith),
    )

pub overflow_mul-start : goal.overflow_mul-start
overflow_mul-start c = omega (arith, c.requires.d_in_bounds)

pub loop-i-init : goal.loop-i-init
loop-i-init c = tested-start

pub overflow_mul-at : goal.overflow_mul-at
overflow_mul-at c =
    let inside : let a = c.args in a.place * a.d + c.loop-i.i * (a.t * (a.rows * a.d)) + (a.t - 1) * (a.rows * a.d) ≤ length a.xs.now = low-inside (c.args.place * c.args.d) c.args.count c.args.t (c.args.rows * c.args.d) c.loop-i.i _ c.loop-i-test.true c.requires.d_in_bounds in
    omega (arith, inside)

pub overflow_add-at : goal.overflow_add-at
overflow_add-at c =
    let inside : let a = c.args in a.place * a.d + c.loop-i.i * (a.t * (a.rows * a.d)) + (a.t - 1) * (a.rows * a.d) ≤ length a.xs.now = low-inside (c.args.place * c.args.d) c.args.count c.args.t (c.args.rows * c.args.d) c.loop-i.i _ c.loop-i-test.true c.requires.d_in_bounds in
    omega (arith, inside)

pub overflow_add-end : goal.overflow_add-end
overflow_add-end c =
    let inside : let a = c.args in a.place * a.d + c.loop-i.i * (a.t * (a.rows * a.d)) + (a.t - 1) * (a.rows * a.d) ≤ length a.xs.now = low-inside (c.args.place * c.args.d) c.args.count c.args.t (c.args.rows * c.args.d) c.loop-i.i _ c.loop-i-test.true c.requires.d_in_bounds in
    omega (arith, inside)

pub offset_bounds-xs-at : goal.offset_bounds-xs-at
offset_bounds-xs-at c =
    let inside : let a = c.args in a.place * a.d + c.loop-i.i * (a.t * (a.rows * a.d)) + (a.t - 1) * (a.rows * a.d) ≤ length a.xs.now = low-inside (c.args.place * c.args.d) c.args.count c.args.t (c.args.rows * c.args.d) c.loop-i.i _ c.loop-i-test.true c.requires.d_in_bounds in
    omega (arith, inside)

pub slice_bounds-are_narrow-end : goal.slice_bounds-are_narrow-end
slice_bounds-are_narrow-end c =
    let inside : let a = c.args in a.place * a.d + c.loop-i.i * (a.t * (a.rows * a.d)) + (a.t - 1) * (a.rows * a.d) ≤ length a.xs.now = low-inside (c.args.place * c.args.d) c.args.count c.args.t (c.args.rows * c.args.d) c.loop-i.i _ c.loop-i-test.true c.requires.d_in_bounds in
    inside

pub are_narrow-all-requires : goal.are_narrow-all-requires
are_narrow-all-requires c = search

pub loop-i-preserved : goal.loop-i-preserved
loop-i-preserved c =
    let a = c.args in
    let i = c.loop-i.i in
    let w = a.rows * a.d in
    let at = a.place * a.d + i * (a.t * w) in
    let width : at + (a.t - 1) * w - at ≡ (a.t - 1) * w = omega arith in
    tested-step c.loop-i.invariant (omega arith)
    (c.are_narrow-all.ensures
    ∙ ap (λ x. all_narrow a.base (take x (drop at a.xs.now))) width
    ∙ ap (λ (ys : List ℤ). all_narrow a.base (take ((a.t - 1) * w) ys)) (sym (drop-drop (i * (a.t * w)) (a.place * a.d) a.xs.now)))

pub returns : goal.returns
unfolding low_narrow
returns c = tested-end c.loop-i.invariant c.loop-i-test.false
