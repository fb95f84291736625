-- `bare_verifier::aggregate::z_margin` meets its contract. Assumes nothing.
use mathlib.Core.Path.{◌≡◌, ap, ◌∙◌}
use Prim.Native.Nat.{ℕ, ◌+◌, ◌-◌, ◌*◌, ◌≤◌}
use native.Mathlib.Omega.{arith}
use lib.ListN.{length, take, drop}
use Rattle.integers.specs.Sums.{norm_sq}
use Rattle.residues.specs.Length.{remaining}
use Rattle.bare.specs.Opening.{z_numbers}
use Rattle.bare_verifier.specs.Known.Facts.{z-fits}
use Rattle.bare_verifier.proofs.aggregate.z_margin.Goals as goal

pub overflow_mul-start : goal.overflow_mul-start
overflow_mul-start c =
    let ends : let m = c.args.sizes in c.z_place.result * m.shape.d + m.shape.n * m.shape.d ≤ length c.args.opening.now = rw c.z_place.ensures (omega (arith, z-fits c.args.sizes c.requires)) in
    omega (arith, ends)

pub overflow_mul-end : goal.overflow_mul-end
overflow_mul-end c =
    let ends : let m = c.args.sizes in c.z_place.result * m.shape.d + m.shape.n * m.shape.d ≤ length c.args.opening.now = rw c.z_place.ensures (omega (arith, z-fits c.args.sizes c.requires)) in
    omega (arith, ends)

pub overflow_add-end : goal.overflow_add-end
overflow_add-end c =
    let ends : let m = c.args.sizes in c.z_place.result * m.shape.d + m.shape.n * m.shape.d ≤ length c.args.opening.now = rw c.z_place.ensures (omega (arith, z-fits c.args.sizes c.requires)) in
    omega (arith, ends)

pub offset_bounds-opening-start : goal.offset_bounds-opening-start
offset_bounds-opening-start c =
    let ends : let m = c.args.sizes in c.z_place.result * m.shape.d + m.shape.n * m.shape.d ≤ length c.args.opening.now = rw c.z_place.ensures (omega (arith, z-fits c.args.sizes c.requires)) in
    omega (arith, ends)

pub slice_bounds-compare-end : goal.slice_bounds-compare-end
slice_bounds-compare-end c =
    let ends : let m = c.args.sizes in c.z_place.result * m.shape.d + m.shape.n * m.shape.d ≤ length c.args.opening.now = rw c.z_place.ensures (omega (arith, z-fits c.args.sizes c.requires)) in
    omega (arith, ends)

pub returns : goal.returns
unfolding z_numbers
returns c =
    let a = c.args in
    let start = c.z_place.result * a.sizes.shape.d in
    let width : start + a.sizes.shape.n * a.sizes.shape.d - start ≡ a.sizes.shape.n * a.sizes.shape.d = omega arith in
    c.compare.ensures
    ∙ ap (λ (k : ℕ). remaining a.sizes.z_bound (norm_sq (take k (drop start a.opening.now)))) width
    ∙ ap (λ (k : ℕ). remaining a.sizes.z_bound (norm_sq (take (a.sizes.shape.n * a.sizes.shape.d) (drop (k * a.sizes.shape.d) a.opening.now)))) c.z_place.ensures
