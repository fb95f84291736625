-- `next_checks::spread::spread` meets its contract. The loop's invariant: the chunks of the first s parts are moved.
use native.Mathlib.Omega.{arith}
use Rattle.ring.specs.Laws.ElementPlaces.{place-below}
use Rattle.next_checks.specs.Laws.CutLaws.{cut-sizes, parts-few, short, chunk-within, part-within, pairs-room}
use Rattle.next_checks.specs.Laws.SpreadLaws.{spreading_start, spreading_order, spreading_chunk, spreading_part, spreading_below, spreading_turn}
use Rattle.next_checks.proofs.spread.spread.Goals as goal

pub overflow_add-place : goal.overflow_add-place
overflow_add-place c =
    let below = place-below c.args.sizes.shape.d _ c.requires.verify_sized.shaped.degree.positive c.requires.d_in_bounds in
    omega (arith, below, pairs-room c.args.sizes c.args.cut c.requires.cut_facts)

pub loop-s-init : goal.loop-s-init
loop-s-init c = spreading_start _ _ c.requires.d_in_bounds

pub chunk_width-size-requires-clause-cut_sizes : goal.chunk_width-size-requires-clause-cut_sizes
chunk_width-size-requires-clause-cut_sizes c = cut-sizes c.args.sizes c.args.cut c.requires.cut_facts c.requires.verify_sized

pub chunk_width-size-requires-clause-s_le_most_chunks : goal.chunk_width-size-requires-clause-s_le_most_chunks
chunk_width-size-requires-clause-s_le_most_chunks c = omega (arith, c.loop-s-test.true, parts-few c.args.sizes c.args.cut c.requires.cut_facts)

pub move_chunk-requires-clause-at_le_from : goal.move_chunk-requires-clause-at_le_from
move_chunk-requires-clause-at_le_from c =
    let a = c.args in
    let cut = c.requires.cut_facts in
    let inside = c.loop-s-test.true in (
      spreading_order a.sizes a.cut cut c.loop-s.invariant,
      spreading_chunk a.sizes a.cut cut c.loop-s.invariant c.chunk_width-size.ensures inside,
      spreading_part a.sizes a.cut cut c.loop-s.invariant inside,
    )

pub overflow_add-start-in-loop-s : goal.overflow_add-start-in-loop-s
overflow_add-start-in-loop-s c =
    let a = c.args in
    let cut = c.requires.cut_facts in
    omega (
      arith,
      spreading_below a.sizes a.cut cut c.loop-s.invariant c.requires.verify_sized.shaped.degree,
      chunk-within a.sizes a.cut cut c.loop-s.s c.loop-s-test.true,
      c.loop-s.invariant.first-is,
      c.chunk_width-size.ensures,
    )

pub overflow_add-place-in-loop-s : goal.overflow_add-place-in-loop-s
overflow_add-place-in-loop-s c =
    let a = c.args in
    let cut = c.requires.cut_facts in
    omega (
      arith,
      spreading_below a.sizes a.cut cut c.loop-s.invariant c.requires.verify_sized.shaped.degree,
      part-within a.sizes a.cut cut c.loop-s.s c.loop-s-test.true,
      c.loop-s.invariant.place_is,
      short a.sizes a.cut cut c.loop-s.s,
      c.chunk_width-size.ensures,
    )

pub loop-s-preserved : goal.loop-s-preserved
loop-s-preserved c =
    spreading_turn c.args.sizes c.args.cut c.requires.cut_facts c.loop-s.invariant c.chunk_width-size.ensures c.loop-s-test.true
    c.move_chunk.auto.out c.move_chunk.ensures
