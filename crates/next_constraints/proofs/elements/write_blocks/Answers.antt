-- `next_constraints::elements::write_blocks` meets its contract. The loop's invariant: the first k blocks are written.
use Rattle.std.proofs.Common.{◌≡◌, ℕ, ◌+◌, ◌*◌, ◌<◌, ◌≤◌, List, length, ℤ, refl, ◌∙◌, arith, mul-le-mul_right}
use Rattle.next_constraints.specs.Laws.BlockLaws.{blocks_start, blocks_turn}
use Rattle.next_constraints.proofs.elements.write_blocks.Goals as goal

-- block k, from element `place` on, ends within the list
block-fits : (d n w k at place : ℕ) (old now : List ℤ) → place ≡ at + k * w → k < n → (at + n * w) * d ≤ length old → length now ≡ length old
    → (place + w) * d ≤ length now
block-fits d n w k at place old now here h room same =
    let inside : place + w ≤ at + n * w = omega (arith, mul-le-mul_right w h) in
    omega (arith, mul-le-mul_right d inside)

pub loop-k-init : goal.loop-k-init
loop-k-init g c = record { same = refl; place_is = omega arith; written = λ block gives. blocks_start c.requires.d_in_bounds }

pub write-requires : goal.write-requires
write-requires g c =
    let l = c.loop-k in
    let fits = block-fits c.args.d _ _ _ _ _ _ _ l.invariant.place_is c.loop-k-test.true c.requires.d_in_bounds l.invariant.same in
    c.requires.callable l.k l.place _ c.loop-k-test.true fits

pub loop-k-preserved : goal.loop-k-preserved
loop-k-preserved g c =
    let l = c.loop-k in
    let fits = block-fits c.args.d _ _ _ _ _ _ _ l.invariant.place_is c.loop-k-test.true c.requires.d_in_bounds l.invariant.same in record {
      same = c.write.auto.arg4 ∙ l.invariant.same;
      place_is = omega (arith, l.invariant.place_is);
      written = λ block gives.
          blocks_turn (l.invariant.written block gives) gives.length_is c.loop-k-test.true
          (gives.written l.k l.place _ _ _ c.loop-k-test.true fits c.write.ensures);
    }
