-- `bare_verifier::folded::z_garbage` meets its contract. Assumes nothing.
use mathlib.Core.Path.{ap₂, ◌∙◌}
use native.Mathlib.Omega.{arith}
use Rattle.algebra.specs.DotProduct.{inner}
use Rattle.ring.specs.Element.{same}
use Rattle.ring.specs.Laws.Loops.{held}
use Rattle.bare.specs.Opening.{z_at}
use Rattle.bare.specs.Verdict.{garbage_of_z}
use Rattle.bare_verifier.specs.Known.Facts.{z-fits}
use Rattle.bare_verifier.proofs.folded.z_garbage.Goals as goal

pub inner-requires : goal.inner-requires
inner-requires c =
    let fits = z-fits c.args.sizes c.requires in record { degree = c.requires.shaped.degree; n_bound = (omega (arith, c.requires.shaped.rank-small), rw c.z_place-start.ensures fits, rw c.z_place-start.ensures fits) }

pub returns : goal.returns
unfolding garbage_of_z inner z_at
returns c =
    let small = c.requires.shaped.degree.small in
    c.equals.ensures
    ∙ ap₂ (same c.args.sizes.shape.d) (held small (rw c.z_place-start.ensures at c.inner.ensures)) (held small c.turn_sum-right.ensures)
