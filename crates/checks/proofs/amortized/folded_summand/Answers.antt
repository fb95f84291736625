-- `checks::amortized::folded_summand` meets its contract.
use Rattle.std.proofs.Common.{ap, ◌∙◌, ℕ}
use Rattle.ring.specs.Element.{array}
use Rattle.fold.specs.Opening.{block, t_of}
use Rattle.checks.specs.Laws.SizeLaws.{t-part-within}
use Rattle.checks.specs.Laws.Rows.{folded-summand}
use Rattle.checks.proofs.amortized.folded_summand.Goals as goal

pub t_of-t-requires-clause-d_in_bounds : goal.t_of-t-requires-clause-d_in_bounds
t_of-t-requires-clause-d_in_bounds c =
    t-part-within c.args.tz c.args.sizes _ c.requires.folded_facts.o-length c.args.i _ c.requires.i_lt_r.0 c.t_place-start.ensures

pub returns : goal.returns
returns c =
    let z = c.args.sizes in
    let t = c.t_of-t.ensures ∙ ap (λ (p : ℕ). array z.shape.d (t_of z.shape.d z.kappa z.b1 z.t1 (block z.shape.d
    c.args.opening.now p) c.args.i c.args.k)) c.t_place-start.ensures in
    folded-summand z.shape.d _ _ _ _ _ c.requires.folded_facts.limits.shaped.degree.small c.from_slice.ensures t c.product.ensures
