-- `bare_verifier::aggregate::aggregate_holds` meets its contract. Assumes nothing.
use mathlib.Core.Path.{refl, ap₂, ◌∙◌}
use Rattle.ring.specs.Element.{R, same}
use Rattle.ring.specs.Laws.Loops.{held, held-sum}
use Rattle.bare.specs.Verdict.{aggregate_holds}
use Rattle.bare_verifier.specs.Laws.CheckLaws.{diagonal_at}
use Rattle.bare_verifier.proofs.aggregate.aggregate_holds.Goals as goal

pub diagonal_sum-z_sum-requires : goal.diagonal_sum-z_sum-requires
diagonal_sum-z_sum-requires c = c.requires.diagonal_facts

pub own_phi_sum-phi_sum-requires : goal.own_phi_sum-phi_sum-requires
own_phi_sum-phi_sum-requires c = c.requires.diagonal_facts.opened

pub sum-left-requires : goal.sum-left-requires
sum-left-requires c = c.requires.diagonal_facts.opened.shaped.degree

pub aggregate_constant-right-requires : goal.aggregate_constant-right-requires
aggregate_constant-right-requires c =
    record { whole_facts = c.requires.diagonal_facts.wholes; delta_len = (c.requires.diagonal_facts.δ-length, c.requires.second_b_len) }

pub equals-requires : goal.equals-requires
equals-requires c = c.requires.diagonal_facts.opened.shaped.degree

pub returns : goal.returns
unfolding aggregate_holds
returns c =
    λ projections omega.
    let m = c.args.sizes in
    let d = m.shape.d in
    let small = c.requires.diagonal_facts.opened.shaped.degree.small in
    c.equals.ensures
    ∙ ap₂ (same d)
    (held small (held-sum _ _ small c.diagonal_sum-z_sum.ensures c.own_phi_sum-phi_sum.ensures c.sum-left.ensures)
    ∙ ap₂ (R d).add (diagonal_at d m.shape.n m.shape.r m.k m.l m.w m.kappa _ _ projections _ omega _ _ _) refl)
    (held small c.aggregate_constant-right.ensures)
