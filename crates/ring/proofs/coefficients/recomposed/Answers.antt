-- `ring::coefficients::recomposed` meets its contract. The loop's invariant: `sum` is recomposed from the digits from e up.
use Rattle.std.proofs.Common.{◌≡◌, ℕ, ◌+◌, ◌-◌, ◌*◌, ◌<◌, ◌≤◌, length, sym, ap, ◌∙◌, arith, w32}
use mir.Facts.{to_z_pos}
use Rattle.ring.specs.Element.{R, el, array}
use Rattle.ring.specs.Laws.ElementPlaces.{element-below, digit-fits}
use Rattle.ring.specs.Laws.Recomposition.{horner-start, horner-turn, horner-end}
use Rattle.ring.proofs.coefficients.recomposed.Goals as goal

-- the last digit's place fits, and so does every other one's
top : (c : goal.Start) → c.args.p + (c.args.t - 1) * c.args.stride < length c.args.xs.now
top c = element-below c.args.d _ c.requires.degree.positive c.requires.d_in_bounds

fits : (c : goal.In-loop-e) → let a = c.args in
    (a.p + (c.loop-e.e - 1) * a.stride) * a.d + a.d ≤ length a.xs.now
fits c = digit-fits c.args.d c.args.p c.args.stride {f = c.args.t - 1} (omega arith) c.requires.d_in_bounds

below : (c : goal.In-loop-e) → let a = c.args in
    a.p + (c.loop-e.e - 1) * a.stride < length a.xs.now
below c = element-below c.args.d _ c.requires.degree.positive (fits c)

pub overflow_mul-top : goal.overflow_mul-top
overflow_mul-top c = omega (arith, top c)

pub overflow_add-p : goal.overflow_add-p
overflow_add-p c = omega (arith, top c)

pub loaded-sum-requires : goal.loaded-sum-requires
loaded-sum-requires c = record { degree = c.requires.degree; d_in_bounds = c.requires.d_in_bounds }

pub loop-e-init : goal.loop-e-init
loop-e-init c =
    let a = c.args in
    let digits : ℕ → (R a.d).Carrier = λ i. el a.d a.xs.now (a.p + i * a.stride) in
    c.loaded-sum.ensures ∙ ap (array a.d) (sym (horner-start a.d a.base a.t digits (omega arith)))

pub loaded-digit-requires : goal.loaded-digit-requires
loaded-digit-requires c = record { degree = c.requires.degree; d_in_bounds = fits c }

pub loop-e-preserved : goal.loop-e-preserved
loop-e-preserved c =
    let a = c.args in
    let digits : ℕ → (R a.d).Carrier = λ i. el a.d a.xs.now (a.p + i * a.stride) in
    let base = to_z_pos w32 {n = a.base} (omega (arith, c.requires.base.most)) in
    let digit = c.loaded-digit in
    let high = c.scaled-high in
    horner-turn a.d a.base a.t c.loop-e.e digits c.loop-e.sum high.result digit.result c.added-sum.result
    c.requires.degree.small (omega arith) (omega arith) c.loop-e.invariant digit.ensures (rw base at high.ensures) c.added-sum.ensures

pub returns : goal.returns
returns c =
    let a = c.args in
    let digits : ℕ → (R a.d).Carrier = λ i. el a.d a.xs.now (a.p + i * a.stride) in
    let end : c.loop-e.e ≡ 0 = omega arith in
    c.loop-e.invariant ∙ rw end (ap (array a.d) (horner-end a.d a.base a.t digits))
