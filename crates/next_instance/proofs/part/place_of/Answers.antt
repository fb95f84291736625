-- `next_instance::part::place_of` meets its contract: 0 and 0 where the part is refused, and else where that chunk stands. Assumes nothing.
use Rattle.std.proofs.Common.{refl, arith}
use Rattle.fold.specs.Laws.ResultLaws.{row_nonzero}
use Rattle.next_instance.specs.Laws.PartLaws.{part_known, part_cut, part-before, chunk-room, placed_refused, placed_found}
use Rattle.next_instance.proofs.part.place_of.Goals as goal

pub returns-in-Err : goal.returns-in-Err
returns-in-Err c =
    let a = c.args in
    placed_refused a.tz c.requires a.sizes a.part a.opening.now c.in-Err.ensures (row_nonzero _)

pub rest_size-m-requires : goal.rest_size-m-requires
rest_size-m-requires c =
    let a = c.args in
    let f = part_known a.tz c.requires a.sizes a.part _ c.in-Ok.ensures refl in
    (f.shaped.parts-small, f.κ-small, f.t₁-most, f.t₂-most)

pub overflow_sub-s : goal.overflow_sub-s
overflow_sub-s c =
    let a = c.args in
    let f = part_known a.tz c.requires a.sizes a.part _ c.in-Ok.ensures refl in
    omega (arith, f.from_one)

pub chunk_start-at-requires : goal.chunk_start-at-requires
chunk_start-at-requires c =
    let a = c.args in
    let e = c.in-Ok.ensures in record { tz_bound = c.requires.1; cut_sizes = part_cut a.tz c.requires a.sizes a.part _ e refl c.rest_size-m.ensures; s_le_most_chunks = part-before a.tz c.requires a.sizes a.part _ e refl }

pub chunk_width-width-requires : goal.chunk_width-width-requires
chunk_width-width-requires c =
    let a = c.args in
    let e = c.in-Ok.ensures in record { tz_bound = c.requires.1; cut_sizes = part_cut a.tz c.requires a.sizes a.part _ e refl c.rest_size-m.ensures; s_le_most_chunks = part-before a.tz c.requires a.sizes a.part _ e refl }

pub overflow_mul-start : goal.overflow_mul-start
overflow_mul-start c =
    let a = c.args in
    let e = c.in-Ok.ensures in
    let room = chunk-room a.tz c.requires a.sizes a.part _ e refl c.rest_size-m.ensures c.chunk_start-at.ensures c.chunk_width-width.ensures in
    omega (arith, room)

pub overflow_mul-length : goal.overflow_mul-length
overflow_mul-length c =
    let a = c.args in
    let e = c.in-Ok.ensures in
    let room = chunk-room a.tz c.requires a.sizes a.part _ e refl c.rest_size-m.ensures c.chunk_start-at.ensures c.chunk_width-width.ensures in
    omega (arith, room)

pub returns : goal.returns
returns c =
    let a = c.args in
    let e = c.in-Ok.ensures in
    placed_found a.tz c.requires a.sizes a.part _ e refl c.rest_size-m.ensures c.chunk_start-at.ensures c.chunk_width-width.ensures
