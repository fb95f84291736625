-- `prover::commit::write_t` meets its contract. The loop's invariant: the blocks of the first i parts are written.
use Rattle.std.proofs.Common.{◌≡◌, refl, ◌+◌, ◌*◌, zero-mul, arith}
use Rattle.fold.specs.Messages.{t_digits}
use Rattle.ring.specs.Laws.ElementPlaces.{row_fits}
use Rattle.ring.specs.Laws.Writers.{blocks_start, blocks_fit, blocks_turn, blocks_all}
use Rattle.fold.proofs.Laws.WriterLaws.{length-element-digits}
use Rattle.prover.specs.Known.Facts.{t-length}
use Rattle.prover.proofs.commit.write_t.Goals as goal

pub loop-i-init : goal.loop-i-init
loop-i-init c = rw zero-mul (blocks_start (omega (arith, t-length c.requires)))

pub slice_bounds-write_t_part-end : goal.slice_bounds-write_t_part-end
slice_bounds-write_t_part-end c = omega (arith, blocks_fit c.loop-i.invariant c.loop-i-test.true, c.loop-i.invariant.same)

pub write_t_part-requires-clause-part_facts : goal.write_t_part-requires-clause-part_facts
write_t_part-requires-clause-part_facts c =
    let shape = c.args.sizes.shape in
    record {
      rank-small = c.requires.limits.shaped.rank-small;
      matrix = omega (arith, c.requires.A-length);
      part = row_fits shape.d shape.n {r = shape.r} c.loop-i-test.true (omega (arith, c.requires.s-length));
    }

pub loop-i-preserved : goal.loop-i-preserved
loop-i-preserved c =
    let z = c.args.sizes in
    let width = z.t1 * (z.kappa * z.shape.d) in
    let next : (c.loop-i.i + 1) * width ≡ c.loop-i.i * width + width = omega arith in
    rw next
    (blocks_turn c.loop-i.invariant (λ i. length-element-digits z.shape.d z.b1 z.t1 z.kappa _) c.loop-i-test.true
    c.write_t_part.ensures refl)

pub returns : goal.returns
unfolding t_digits
returns c =
    let z = c.args.sizes in
    blocks_all c.loop-i.invariant (λ i. length-element-digits z.shape.d z.b1 z.t1 z.kappa _) (t-length c.requires) c.loop-i-test.false
