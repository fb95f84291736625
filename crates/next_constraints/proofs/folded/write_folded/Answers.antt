-- `next_constraints::folded::write_folded` meets its contract. The loop has added the first i parts.
use mathlib.Core.Path.{◌∙◌}
use Prim.Native.Nat.{◌<◌}
use native.Mathlib.Nat.{zero-mul}
use lib.ListN.{length-replicate}
use lib.IntN.{pos}
use Rattle.next_constraints.specs.Laws.FoldedLaws.{folding_start, folding_step, folding_end}
use Rattle.next_constraints.proofs.folded.write_folded.Goals as goal

pub loop-i-init : goal.loop-i-init
loop-i-init c =
    (length-replicate 16384 (pos 0), folding_start _ c.requires.d_in_bounds.1 (rw (zero-mul c.args.sizes.shape.d) at c.write_zeros.ensures))

pub loop-i-preserved : goal.loop-i-preserved
loop-i-preserved c =
    let turn : c.loop-i.i < c.args.sizes.shape.r = c.loop-i-test.true in
    let kept = c.write_phi_part.auto.out in (
      kept ∙ c.loop-i.invariant.0,
      folding_step c.loop-i.invariant.1 _ c.requires.aggregate_facts.wholes.shaped.degree.small turn c.write_phi_part.ensures
          c.from_slice.ensures c.add_multiples.ensures,
    )

pub returns : goal.returns
returns c = folding_end c.loop-i.invariant.1 _ (rw (zero-mul c.args.sizes.shape.d) at c.write_zeros.ensures) c.loop-i-test.false
