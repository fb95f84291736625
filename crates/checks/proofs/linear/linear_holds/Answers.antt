-- `checks::linear::linear_holds` meets its contract.
use Rattle.checks.specs.Laws.MixedLaws.{h-garbage}
use Rattle.checks.specs.Laws.RelationLaws.{linear_holds}
use Rattle.checks.proofs.linear.linear_holds.Goals as goal

pub mixed_sum-right-requires-clause-garbage : goal.mixed_sum-right-requires-clause-garbage
mixed_sum-right-requires-clause-garbage c =
    let f = c.requires.folded_facts in h-garbage c.args.tz c.args.sizes f.limits _ f.o-length _ c.h_place-start.ensures

pub returns : goal.returns
returns c =
    linear_holds c.args.tz c.args.sizes _ _ _ c.requires.folded_facts.limits.shaped.degree.small c.h_place-start.ensures
    c.mixed_sum-right.ensures c.equals.ensures
