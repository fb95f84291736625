-- `checks::amortized::amortized_row` meets its contract.
use Rattle.std.proofs.Common.{refl, arith}
use Rattle.checks.specs.Laws.PlaceLaws.{row_fits}
use Rattle.checks.specs.Laws.Rows.{amortized-row}
use Rattle.checks.proofs.amortized.amortized_row.Goals as goal

pub row_times-left-requires-clause-d_in_bounds : goal.row_times-left-requires-clause-d_in_bounds
row_times-left-requires-clause-d_in_bounds c =
    let z = c.args.sizes in
    let f = c.requires.amortized_facts in
    (row_fits z.shape.d z.shape.n z.kappa c.args.k _ _ refl f.A-length c.requires.k_lt_kappa, omega (arith, c.requires.d_in_bounds))

pub returns : goal.returns
returns c =
    let z = c.args.sizes in
    amortized-row z.shape.d z.shape.n _ _ c.args.k _ _ _ _ c.requires.amortized_facts.folded.limits.shaped.degree.small c.row_times-left.ensures
    c.folded_row.ensures c.equals.ensures
