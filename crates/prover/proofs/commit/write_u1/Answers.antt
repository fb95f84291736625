-- `prover::commit::write_u1` meets its contract: the outer commitment at the sizes of t and g.
use Rattle.std.proofs.Common.{arith}
use Rattle.fold.specs.Laws.SizeBounds.{t_size-bound, garbage_size-bound}
use Rattle.fold.specs.Messages.{u₁, outer₁}
use Rattle.prover.specs.Outputs.{outer}
use Rattle.prover.proofs.commit.write_u1.Goals as goal

pub write_outer-requires-clause-m_bound : goal.write_outer-requires-clause-m_bound
write_outer-requires-clause-m_bound c =
    let z = c.args.sizes in
    let facts = c.requires.limits in
    let m = c.t_size-m.ensures in
    let ts = t_size-bound z.shape.r z.kappa z.t1 facts.shaped.parts-small facts.κ-small facts.t₁-most in
    (rw m (omega (arith, ts)), rw m (omega (arith, c.requires.B-length)), rw m (omega (arith, c.requires.ts_length)))

pub write_outer-requires-clause-l_bound : goal.write_outer-requires-clause-l_bound
write_outer-requires-clause-l_bound c =
    let z = c.args.sizes in
    let facts = c.requires.limits in
    let l = c.garbage_size-l.ensures in
    let gs = garbage_size-bound z.shape.r z.t2 facts.shaped.parts-small facts.t₂-most in
    (rw l (omega (arith, gs)), rw l (omega (arith, c.requires.C-length)), rw l (omega (arith, c.requires.gs_length)))

pub returns : goal.returns
unfolding u₁ outer₁ outer
returns c = rw (c.t_size-m.ensures, c.garbage_size-l.ensures) at c.write_outer.ensures
