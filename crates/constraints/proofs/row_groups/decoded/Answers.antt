-- `constraints::row_groups::decoded` meets its contract: the digit is below 3.
use Rattle.std.proofs.Common.{◌%◌, ◌^◌, ◌<◌, arith, to_z-of_z, w64}
use mir.Facts.{to_z_pos}
use Rattle.residues.proofs.Laws.Words.{widen}
use Rattle.constraints.specs.RowGroups.{decode}
use Rattle.constraints.specs.Laws.RowGroupLaws.{decode-fits}
use Rattle.constraints.proofs.row_groups.decoded.Goals as goal

pub returns : goal.returns
unfolding decode
returns c =
    let x = c.args.c in
    let low : x % 3 < 2 ^ 63 = omega arith in
    rw (to_z_pos w64 low, to_z-of_z (widen (decode-fits x))) (to_z-of_z (decode-fits x))
