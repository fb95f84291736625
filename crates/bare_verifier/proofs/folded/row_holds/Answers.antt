-- `bare_verifier::folded::row_holds` meets its contract. Assumes nothing.
use mathlib.Core.Path.{ap₂, ◌∙◌}
use native.Mathlib.Omega.{arith}
use Rattle.algebra.specs.DotProduct.{inner}
use Rattle.ring.specs.Element.{same}
use Rattle.ring.specs.Laws.ElementPlaces.{row_fits}
use Rattle.ring.specs.Laws.Loops.{held}
use Rattle.fold.specs.Messages.{times}
use Rattle.bare.specs.Opening.{z_at}
use Rattle.bare_verifier.specs.Known.Facts.{z-fits}
use Rattle.bare_verifier.proofs.folded.row_holds.Goals as goal

pub inner-requires : goal.inner-requires
inner-requires c =
    let m = c.args.sizes in
    let o = c.requires.bare_folded_facts.opened in record {
      degree = o.shaped.degree;
      n_bound = (
        omega (arith, o.shaped.rank-small),
        row_fits m.shape.d m.shape.n c.requires.k_lt_kappa (omega (arith, c.requires.bare_folded_facts.A-length)),
        rw c.z_place-start.ensures (z-fits m o),
      );
    }

pub returns : goal.returns
unfolding times inner z_at
returns c =
    let small = c.requires.bare_folded_facts.opened.shaped.degree.small in
    c.equals.ensures
    ∙ ap₂ (same c.args.sizes.shape.d) (held small (rw c.z_place-start.ensures at c.inner.ensures)) (held small c.folded_row-right.ensures)
