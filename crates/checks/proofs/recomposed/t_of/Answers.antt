-- `checks::recomposed::t_of` meets its contract.
use Rattle.std.proofs.Common.{refl, ap, ◌∙◌, arith}
use Rattle.ring.specs.Element.{array}
use Rattle.checks.specs.Laws.PlaceLaws.{t-recomposed, t-digit-fits, t-first-within}
use Rattle.checks.proofs.recomposed.t_of.Goals as goal

pub overflow_add-first : goal.overflow_add-first
overflow_add-first c =
    let a = c.args in
    let h = c.requires in
    omega (arith, t-first-within a.d a.kappa a.t1 a.place a.i a.k _ h.degree.positive h.t1_nonzero.1 h.t1_nonzero.0 h.d_in_bounds)

pub overflow_add-first-2 : goal.overflow_add-first-2
overflow_add-first-2 c =
    let a = c.args in
    let h = c.requires in
    omega (arith, t-first-within a.d a.kappa a.t1 a.place a.i a.k _ h.degree.positive h.t1_nonzero.1 h.t1_nonzero.0 h.d_in_bounds)

pub recompose-requires-clause-d_in_bounds : goal.recompose-requires-clause-d_in_bounds
recompose-requires-clause-d_in_bounds c =
    let a = c.args in
    t-digit-fits a.d a.kappa a.t1 a.place a.i a.k _ c.requires.t1_nonzero.1 c.requires.t1_nonzero.0 c.requires.d_in_bounds

pub returns : goal.returns
returns c =
    let a = c.args in
    c.recompose.ensures ∙ ap (array a.d) (t-recomposed a.d a.b1 a.t1 _ a.place a.kappa a.i a.k _ refl)
