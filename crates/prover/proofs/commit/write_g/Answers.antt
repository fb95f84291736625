-- `prover::commit::write_g` meets its contract: the products of pairs, and then their digits.
use Rattle.std.proofs.Common.{mul-le-mul, arith}
use Rattle.fold.specs.Laws.SizeBounds.{pairs-bound}
use Rattle.fold.specs.Messages.{g, g_digits}
use Rattle.fold.proofs.Laws.WriterLaws.{garbage-written}
use Rattle.prover.proofs.commit.write_g.Goals as goal

pub write_pair_products-requires-clause-n_le_most_rank : goal.write_pair_products-requires-clause-n_le_most_rank
write_pair_products-requires-clause-n_le_most_rank c =
    let shape = c.requires.limits.shaped in (
      shape.rank-small,
      omega (arith, c.requires.s-length),
      mul-le-mul (pairs-bound c.args.sizes.shape.r shape.parts-small) shape.degree.small,
    )

pub write_garbage_digits-requires-clause-r_le_most_parts : goal.write_garbage_digits-requires-clause-r_le_most_parts
write_garbage_digits-requires-clause-r_le_most_parts c =
    let facts = c.requires.limits in
    let fits = mul-le-mul (pairs-bound c.args.sizes.shape.r facts.shaped.parts-small) facts.shaped.degree.small in (
      facts.shaped.parts-small,
      omega (arith, facts.t₂-least),
      facts.t₂-most,
      omega (arith, fits, c.write_pair_products.auto.out),
      c.requires.gs_length,
    )

pub returns : goal.returns
unfolding g_digits
returns c =
    let z = c.args.sizes in
    let shape = c.requires.limits.shaped in
    let fits = mul-le-mul (pairs-bound z.shape.r shape.parts-small) shape.degree.small in
    garbage-written z.shape.d z.shape.r z.b2 z.t2 (g z.shape.d z.shape.n c.args.witness.now) _ fits
    c.write_pair_products.ensures c.write_garbage_digits.ensures
