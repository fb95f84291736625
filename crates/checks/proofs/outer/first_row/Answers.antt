-- `checks::outer::first_row` meets its contract.
use Rattle.std.proofs.Common.{arith}
use Rattle.checks.specs.Laws.PlaceLaws.{row_fits, part-fits, element-fits}
use Rattle.fold.proofs.Laws.PlaceBounds.{t-size-bound, g-size-bound}
use Rattle.checks.specs.Laws.SizeLaws.{t_within, g_within}
use Rattle.checks.specs.Laws.Rows.{first-row}
use Rattle.checks.proofs.outer.first_row.Goals as goal

pub row_times-t_part-requires-clause-m_bound : goal.row_times-t_part-requires-clause-m_bound
row_times-t_part-requires-clause-m_bound c =
    rw c.t_size-t_count.ensures (omega (arith, t-size-bound c.args.sizes c.requires.first_outer_facts.limits))

pub row_times-t_part-requires-clause-d_in_bounds : goal.row_times-t_part-requires-clause-d_in_bounds
row_times-t_part-requires-clause-d_in_bounds c =
    let z = c.args.sizes in
    let f = c.requires.first_outer_facts in (
      row_fits z.shape.d _ z.kappa1 c.args.k _ _ c.t_size-t_count.ensures f.B-length c.requires.k_lt_kappa1,
      part-fits z.shape.d c.t_place-t_start.ensures c.t_size-t_count.ensures (t_within c.args.tz z _ f.o-length),
    )

pub row_times-g_part-requires-clause-m_bound : goal.row_times-g_part-requires-clause-m_bound
row_times-g_part-requires-clause-m_bound c =
    rw c.garbage_size-g_count.ensures (omega (arith, g-size-bound c.args.sizes c.requires.first_outer_facts.limits))

pub row_times-g_part-requires-clause-d_in_bounds : goal.row_times-g_part-requires-clause-d_in_bounds
row_times-g_part-requires-clause-d_in_bounds c =
    let z = c.args.sizes in
    let f = c.requires.first_outer_facts in (
      row_fits z.shape.d _ z.kappa1 c.args.k _ _ c.garbage_size-g_count.ensures f.C-length c.requires.k_lt_kappa1,
      part-fits z.shape.d c.g_place-g_start.ensures c.garbage_size-g_count.ensures (g_within c.args.tz z _ f.o-length),
    )

pub from_slice-requires-clause-d_in_bounds : goal.from_slice-requires-clause-d_in_bounds
from_slice-requires-clause-d_in_bounds c = element-fits _ _ c.args.k _ c.requires.first_outer_facts.u₁-length c.requires.k_lt_kappa1

pub returns : goal.returns
returns c =
    first-row c.args.tz c.args.sizes c.requires.first_outer_facts.limits.shaped.degree.small _ _ c.args.k _ _ _ _ _ _ _ _ _ _ _
    c.t_size-t_count.ensures c.t_place-t_start.ensures c.row_times-t_part.ensures
    c.garbage_size-g_count.ensures c.g_place-g_start.ensures c.row_times-g_part.ensures c.sum.ensures
    c.from_slice.ensures c.equals.ensures
