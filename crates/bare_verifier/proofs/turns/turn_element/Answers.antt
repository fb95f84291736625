-- `bare_verifier::turns::turn_element` meets its contract. Assumes nothing.
use mathlib.Core.Path.{ap, ◌∙◌}
use Prim.Native.Nat.{ℕ, ◌+◌, ◌*◌}
use native.Mathlib.Omega.{arith}
use Rattle.ring.specs.Element.{el, array}
use Rattle.ring.specs.Laws.ElementPlaces.{element-below}
use Rattle.bare.specs.Opening.{turn_at}
use Rattle.bare_verifier.specs.Known.Facts.{turn-fits}
use Rattle.bare_verifier.proofs.turns.turn_element.Goals as goal

pub overflow_add-place-2 : goal.overflow_add-place-2
overflow_add-place-2 c =
    let m = c.args.sizes in
    let fits = turn-fits m c.requires.bare_opening_facts {e = c.args.e} {i = c.args.i} c.requires.e_bound.0 c.requires.e_bound.1 in
    omega (arith, c.turns_place-start.ensures, element-below m.shape.d _ c.requires.bare_opening_facts.shaped.degree.positive fits)

pub from_slice-requires : goal.from_slice-requires
from_slice-requires c =
    record { degree = c.requires.bare_opening_facts.shaped.degree; d_in_bounds = rw c.turns_place-start.ensures (turn-fits c.args.sizes c.requires.bare_opening_facts c.requires.e_bound.0 c.requires.e_bound.1) }

pub returns : goal.returns
unfolding turn_at
returns c =
    let a = c.args in
    c.from_slice.ensures ∙ ap (λ (q : ℕ). array a.sizes.shape.d (el a.sizes.shape.d a.opening.now (q + (a.i * 4 + a.e)))) c.turns_place-start.ensures
