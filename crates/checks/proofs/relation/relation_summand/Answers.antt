-- `checks::relation::relation_summand` meets its contract.
use Rattle.checks.specs.Laws.MixedLaws.{garbage-below}
use Rattle.checks.specs.Laws.RelationLaws.{relation-summand}
use Rattle.checks.proofs.relation.relation_summand.Goals as goal

pub garbage_of-g-requires-clause-d_in_bounds : goal.garbage_of-g-requires-clause-d_in_bounds
garbage_of-g-requires-clause-d_in_bounds c =
    let z = c.args.sizes in
    garbage-below z.shape.d z.shape.r z.t2 c.args.place c.args.q _ c.requires.q_bound c.requires.garbage.inside

pub returns : goal.returns
returns c =
    relation-summand c.args.sizes _ _ _ _ _ _ c.args.place c.args.q _ _ _ c.requires.whole_facts.shaped.degree.small
    c.aggregate_a-aggregate_a.ensures c.garbage_of-g.ensures c.product.ensures
