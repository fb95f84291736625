-- `fields::sizes::matrix_count` meets its contract.
use Rattle.std.proofs.Common.{refl, arith}
use Rattle.fields.specs.Sections.{matrix_count}
use Rattle.fields.specs.Laws.SectionLaws.{matrices_few}
use Rattle.fields.proofs.sizes.matrix_count.Goals as goal

pub overflow_mul-result-2 : goal.overflow_mul-result-2
overflow_mul-result-2 c = omega (arith, matrices_few c.args.s c.requires c.t_size-ts.ensures c.garbage_size-gs.ensures c.garbage_size-hs.ensures)

pub overflow_mul-result-3 : goal.overflow_mul-result-3
overflow_mul-result-3 c = omega (arith, matrices_few c.args.s c.requires c.t_size-ts.ensures c.garbage_size-gs.ensures c.garbage_size-hs.ensures)

pub overflow_mul-result-4 : goal.overflow_mul-result-4
overflow_mul-result-4 c = omega (arith, matrices_few c.args.s c.requires c.t_size-ts.ensures c.garbage_size-gs.ensures c.garbage_size-hs.ensures)

pub overflow_add-result : goal.overflow_add-result
overflow_add-result c = omega (arith, matrices_few c.args.s c.requires c.t_size-ts.ensures c.garbage_size-gs.ensures c.garbage_size-hs.ensures)

pub overflow_add-result-2 : goal.overflow_add-result-2
overflow_add-result-2 c = omega (arith, matrices_few c.args.s c.requires c.t_size-ts.ensures c.garbage_size-gs.ensures c.garbage_size-hs.ensures)

pub overflow_add-result-3 : goal.overflow_add-result-3
overflow_add-result-3 c = omega (arith, matrices_few c.args.s c.requires c.t_size-ts.ensures c.garbage_size-gs.ensures c.garbage_size-hs.ensures)

pub returns : goal.returns
unfolding matrix_count
returns c = (
  rw (c.t_size-ts.ensures, c.garbage_size-gs.ensures, c.garbage_size-hs.ensures) refl,
  matrices_few c.args.s c.requires c.t_size-ts.ensures c.garbage_size-gs.ensures c.garbage_size-hs.ensures,
)
