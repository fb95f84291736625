-- `checks::amortized::self_product` meets its contract.
use Rattle.std.proofs.Common.{ap, ◌∙◌, ℕ}
use Rattle.algebra.specs.DotProduct.{mixed}
use Rattle.ring.specs.Element.{R, el, array}
use Rattle.fold.specs.Opening.{block, garbage_of}
use Rattle.checks.specs.Laws.MixedLaws.{g-garbage}
use Rattle.checks.specs.Laws.Rows.{self_product}
use Rattle.checks.proofs.amortized.self_product.Goals as goal

pub mixed_sum-right-requires-clause-garbage : goal.mixed_sum-right-requires-clause-garbage
mixed_sum-right-requires-clause-garbage c =
    let f = c.requires.folded_facts in g-garbage c.args.tz c.args.sizes f.limits _ f.o-length _ c.g_place-start.ensures

pub returns : goal.returns
returns c =
    let z = c.args.sizes in
    let right = c.mixed_sum-right.ensures ∙ ap (λ (p : ℕ). array z.shape.d (mixed (R z.shape.d) z.shape.r (garbage_of z.shape.d z.shape.r z.b2
    z.t2 (block z.shape.d c.args.opening.now p)) (el z.shape.d c.args.c.now))) c.g_place-start.ensures in
    self_product z.shape.d z.shape.n z.shape.r _ _ _ _ _ _ c.requires.folded_facts.limits.shaped.degree.small c.inner.ensures right
    c.equals.ensures
