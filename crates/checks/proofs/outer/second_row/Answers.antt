-- `checks::outer::second_row` meets its contract.
use Rattle.std.proofs.Common.{arith}
use Rattle.checks.specs.Laws.PlaceLaws.{row_fits, part-fits}
use Rattle.fold.proofs.Laws.PlaceBounds.{h-size-bound}
use Rattle.checks.specs.Laws.SizeLaws.{h-within}
use Rattle.checks.specs.Laws.Rows.{second-row}
use Rattle.checks.proofs.outer.second_row.Goals as goal

pub row_times-row-requires-clause-m_bound : goal.row_times-row-requires-clause-m_bound
row_times-row-requires-clause-m_bound c =
    let z = c.args.sizes in
    rw c.garbage_size-count.ensures (omega (arith, h-size-bound z c.requires.second_outer_facts.limits))

pub row_times-row-requires-clause-d_in_bounds : goal.row_times-row-requires-clause-d_in_bounds
row_times-row-requires-clause-d_in_bounds c =
    let z = c.args.sizes in
    let f = c.requires.second_outer_facts in (
      row_fits z.shape.d _ z.kappa2 c.args.k _ _ c.garbage_size-count.ensures f.D-length c.requires.k_lt_kappa2,
      part-fits z.shape.d c.h_place-start.ensures c.garbage_size-count.ensures (h-within c.args.tz z _ f.o-length),
    )

pub returns : goal.returns
returns c =
    second-row c.args.tz c.args.sizes c.requires.second_outer_facts.limits.shaped.degree.small _ _ c.args.k _ _ _ _ _ _
    c.garbage_size-count.ensures c.h_place-start.ensures c.row_times-row.ensures c.from_slice.ensures c.equals.ensures
