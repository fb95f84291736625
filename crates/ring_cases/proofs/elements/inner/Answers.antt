-- `ring_cases::elements::inner` meets its contract. Assumes nothing.
use mathlib.Core.Path.{refl, ◌∙◌}
use Prim.Native.Nat.{◌≤◌}
use native.Mathlib.Omega.{arith}
use Rattle.ring_cases.specs.Laws.ResultLaws.{inner-fits, rest-length}
use Rattle.ring_cases.specs.Results.{inner_at}
use Rattle.cases.specs.Laws.NumberLaws.{size-bound}
use Rattle.ring_cases.proofs.elements.inner.Goals as goal

pub inner-requires : goal.inner-requires
inner-requires c =
    let degree = c.requires.degree in
    let size : c.size-n.result ≤ 8 = rw c.size-n.ensures (size-bound 8 c.args.xs.now 2) in
    let fits =
    inner-fits c.size-n.result c.args.d _ size degree.small
    (rest-length c.args.xs.now 3 c.requires.xs_len c.past_numbers-both.ensures) in record { degree = degree; n_bound = (omega (arith, size), fits.0, fits.1) }

pub returns : goal.returns
unfolding inner_at
returns c = c.inner.ensures ∙ rw (c.size-n.ensures, c.past_numbers-both.ensures) refl
