-- `next_checks::cut::cut_of` meets its contract.
use mathlib.Core.Path.{refl}
use native.Mathlib.Omega.{arith}
use Rattle.fold.specs.Sizes.{next_parts}
use Rattle.fold.specs.Laws.SizeBounds.{product-bound}
use Rattle.fold.proofs.Laws.PlaceBounds.{t-size-bound, g-size-bound}
use Rattle.fold.specs.Known.CutSizes.{cut-sizes}
use Rattle.next_checks.specs.Laws.CutLaws.{rest-small, room_of}
use Rattle.next_checks.proofs.cut.cut_of.Goals as goal

pub next_rank-rank-requires : goal.next_rank-rank-requires
next_rank-rank-requires c =
    let limits = c.requires.verify_sized in
    cut-sizes c.args.tz _ _ _ _ c.requires.tz_nonzero.0 limits.shaped.rank-small limits.shaped.parts-small limits.κ-small limits.t₁-most limits.t₂-most
    c.requires.chunk_limits c.rest_size-m.ensures

pub overflow_add-z : goal.overflow_add-z
overflow_add-z c =
    omega (
      arith,
      product-bound c.args.tz c.args.sizes.shape.n 2 256 c.requires.tz_nonzero.1 c.requires.verify_sized.shaped.rank-small,
      c.rest_size-m.ensures,
      rest-small c.args.sizes c.requires.verify_sized,
    )

pub overflow_sub-z : goal.overflow_sub-z
overflow_sub-z c =
    (room_of c.args.sizes.shape.n c.requires.chunk_limits c.requires.mu_bound c.rest_size-m.ensures c.next_rank-rank.ensures c.function_size-size.ensures).0

pub overflow_add-g : goal.overflow_add-g
overflow_add-g c =
    let limits = c.requires.chunk_limits in
    let room = room_of c.args.sizes.shape.n limits c.requires.mu_bound c.rest_size-m.ensures c.next_rank-rank.ensures c.function_size-size.ensures in
    omega (arith, room.0, room.1, c.t_size.ensures, t-size-bound c.args.sizes c.requires.verify_sized)

pub overflow_add-h : goal.overflow_add-h
overflow_add-h c =
    let limits = c.requires.chunk_limits in
    let room = room_of c.args.sizes.shape.n limits c.requires.mu_bound c.rest_size-m.ensures c.next_rank-rank.ensures c.function_size-size.ensures in
    omega (
      arith,
      room.0,
      room.1,
      c.t_size.ensures,
      c.garbage_size.ensures,
      t-size-bound c.args.sizes c.requires.verify_sized,
      g-size-bound c.args.sizes c.requires.verify_sized,
    )

pub returns : goal.returns
unfolding next_parts
returns c =
    let limits = c.requires.chunk_limits in
    let m = c.rest_size-m.ensures in
    let rank = c.next_rank-rank.ensures in
    let room = room_of c.args.sizes.shape.n limits c.requires.mu_bound m rank c.function_size-size.ensures in (
      record {
        tz-positive = c.requires.tz_nonzero.0;
        tz-small = c.requires.tz_nonzero.1;
        ν-positive = limits.ν-positive;
        μ-positive = limits.μ-positive;
        parts-small = limits.parts-small;
        rest-is = m;
        rank_is = rank;
        rank-small = rw (rank, m) c.requires.mu_bound;
        parts_is = refl;
        pairs_is = c.pair_count-pairs.ensures;
        size_is = c.function_size-size.ensures;
        z-is = omega (arith, room.0);
        t-is = refl;
        g-is = omega (arith, c.t_size.ensures);
        h-is = omega (arith, c.garbage_size.ensures);
      },
      refl,
      refl,
      refl,
    )
