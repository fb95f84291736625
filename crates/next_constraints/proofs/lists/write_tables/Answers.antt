-- `next_constraints::lists::write_tables` meets its contract: each list is written by one call.
use Rattle.next_constraints.specs.Laws.TableLaws.{tables_of}
use Rattle.next_constraints.proofs.lists.write_tables.Goals as goal

pub returns : goal.returns
returns c =
    let a = c.args in
    let z = a.sizes in
    tables_of z.shape.d z.shape.n z.shape.r z.k z.l z.w _ _ _ _ _ _ _ _ a.folded.now a.products.now a.aggregate_a.now
    a.diagonal.now c.requires.table_room c.write_folded.ensures c.write_products.ensures
    c.write_aggregate_a.ensures c.write_diagonal.ensures
