-- `bare_prover::commit::write_t` meets its contract. The loop's invariant: t_i of the first i parts is written. Assumes nothing.
use Prim.Native.Nat.{◌*◌}
use native.Mathlib.Nat.{zero-mul, mul_assoc}
use native.Mathlib.Omega.{arith}
use Rattle.ring.specs.Laws.ElementPlaces.{row_fits}
use Rattle.ring.specs.Laws.Writers.{blocks_start, blocks_over, blocks_all}
use Rattle.fold.proofs.Laws.WriterLaws.{length-elements}
use Rattle.prover.specs.Known.Facts.{PartFacts}
use Rattle.bare.specs.Messages.{bare_t}
use Rattle.bare_prover.proofs.commit.write_t.Goals as goal

pub loop-i-init : goal.loop-i-init
loop-i-init c =
    let a = c.args in
    rw (zero-mul (a.kappa * a.shape.d)) (blocks_start (omega (arith, c.requires.ts_length)))

pub write_products-requires : goal.write_products-requires
write_products-requires c =
    let z = c.args.shape in
    let facts : PartFacts z.d z.n c.args.kappa c.loop-i.i c.args.a_matrix.now c.args.witness.now = record {
      rank-small = c.requires.shaped.rank-small;
      matrix = omega (arith, c.requires.A-length);
      part = row_fits z.d z.n {r = z.r} c.loop-i-test.true (omega (arith, c.requires.s-length));
    } in record { degree = c.requires.shaped.degree; part_facts = facts; d_in_bounds = row_fits z.d c.args.kappa {r = z.r} c.loop-i-test.true (omega (arith, c.requires.ts_length, c.loop-i.invariant.same)) }

pub loop-i-preserved : goal.loop-i-preserved
loop-i-preserved c =
    let a = c.args in
    let i = c.loop-i.i in
    blocks_over c.loop-i.invariant (λ i. length-elements a.shape.d a.kappa _) c.loop-i-test.true
    (mul_assoc i a.kappa a.shape.d) (omega arith) c.write_products.ensures

pub returns : goal.returns
unfolding bare_t
returns c =
    blocks_all c.loop-i.invariant (λ i. length-elements c.args.shape.d c.args.kappa _) (omega (arith, c.requires.ts_length)) c.loop-i-test.false
