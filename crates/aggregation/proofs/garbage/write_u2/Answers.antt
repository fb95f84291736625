-- `aggregation::garbage::write_u2` meets its contract.
use Rattle.std.proofs.Common.{arith}
use Rattle.fold.specs.Laws.SizeBounds.{garbage_size-bound}
use Rattle.aggregation.specs.Laws.GarbageLaws.{outer-end}
use Rattle.aggregation.proofs.garbage.write_u2.Goals as goal

pub write_rows-requires : goal.write_rows-requires
write_rows-requires c =
    let z = c.args.sizes in
    let size = c.garbage_size-m.ensures in record {
      degree = c.requires.limits.shaped.degree;
      m_bound = (
        rw size (omega (arith, garbage_size-bound z.shape.r z.t1 c.requires.limits.shaped.parts-small c.requires.limits.t₁-most)),
        rw size (omega (arith, c.requires.D-length)),
        rw size (omega (arith, c.requires.hs_length)),
        c.requires.u₂-length,
      );
    }

pub returns : goal.returns
returns c =
    let z = c.args.sizes in
    outer-end z.shape.d z.shape.r z.kappa2 z.t1 _ c.args.d_matrix.now c.args.digits.now c.garbage_size-m.ensures
    c.write_rows.ensures
