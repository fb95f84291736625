-- `checks::relation::relation_holds` meets its contract.
use Rattle.checks.specs.Laws.MixedLaws.{g-garbage, h-garbage}
use Rattle.checks.specs.Laws.RelationLaws.{check_eight}
use Rattle.checks.proofs.relation.relation_holds.Goals as goal

pub relation_sum-g_sum-requires-clause-garbage : goal.relation_sum-g_sum-requires-clause-garbage
relation_sum-g_sum-requires-clause-garbage c =
    let p = c.requires.relation_facts in g-garbage c.args.tz c.args.sizes p.limits _ p.o-length _ c.g_place-g_start.ensures

pub diagonal_sum-h_sum-requires : goal.diagonal_sum-h_sum-requires
diagonal_sum-h_sum-requires c =
    h-garbage c.args.tz c.args.sizes c.requires.relation_facts.limits _ c.requires.relation_facts.o-length _ c.h_place-h_start.ensures

pub returns : goal.returns
returns c =
    λ w projections omega.
    check_eight c.args.sizes _ _ _ _ _ _ c.args.tz w projections omega _ _ _ _ _ _ _ _
    c.requires.relation_facts.limits.shaped.degree.small c.g_place-g_start.ensures
    c.relation_sum-g_sum.ensures c.h_place-h_start.ensures c.diagonal_sum-h_sum.ensures c.sum-left.ensures
    c.aggregate_constant-right.ensures c.equals.ensures
