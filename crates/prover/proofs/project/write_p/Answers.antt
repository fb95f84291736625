-- `prover::project::write_p` meets its contract. The loop's invariant: the first j numbers are written.
use Rattle.std.proofs.Common.{◌≡◌, ◌+◌, ◌-◌, ◌*◌, zero-mul, length, arith}
use Rattle.residues.proofs.Laws.RangeLaws.{projection-entries-part}
use Rattle.prover.specs.Known.Facts.{projections-length, witness-short}
use Rattle.prover.specs.Laws.ProjectedLaws.{projecting-start, projecting-part, projecting-turn, projecting-end}
use Rattle.prover.proofs.project.write_p.Goals as goal

pub loop-j-init : goal.loop-j-init
loop-j-init c = rw zero-mul (projecting-start (projections-length c.requires) c.requires.p-length)

pub project_row-requires : goal.project_row-requires
project_row-requires c =
    let size = length c.args.witness.now in
    let at = c.loop-j.j * size in (
      projection-entries-part at (at + size - at) c.args.projections.now c.requires.tested,
      projecting-part c.loop-j.invariant c.loop-j-test.true,
      witness-short c.requires,
    )

pub loop-j-preserved : goal.loop-j-preserved
loop-j-preserved c =
    let size = length c.args.witness.now in
    let next : (c.loop-j.j + 1) * size ≡ c.loop-j.j * size + size = omega arith in
    rw next (projecting-turn c.loop-j.invariant c.loop-j-test.true c.project_row.ensures)

pub returns : goal.returns
returns c =
    let z = c.args.shape in
    projecting-end c.loop-j.invariant z.d z.n z.r c.requires.s-length c.loop-j-test.false
