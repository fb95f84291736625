-- `residues::digits::low_digit` meets its contract: the base times the quotient fits 64 bits, and what it leaves is the low digit.
use mir.Syntax.{w32}
use mir.Val.{SFits}
use mir.Facts.{to_z-of_z}
use Rattle.residues.proofs.Laws.Words.{widen}
use Rattle.residues.proofs.Laws.DigitSteps.{left-product-fits, digit-held, low_fits}
use Rattle.residues.proofs.digits.low_digit.Goals as goal

pub overflow_cast-left : goal.overflow_cast-left
overflow_cast-left c = let r : SFits w32 c.quotient-left.result = record { sfits = c.quotient-left.type_inv } in rw (to_z-of_z r) (widen r)

pub overflow_cast-result : goal.overflow_cast-result
overflow_cast-result c = rw (to_z-of_z c.ranges.x) (widen c.ranges.x)

pub overflow_mul-result : goal.overflow_mul-result
overflow_mul-result c = left-product-fits c.requires c.ranges.x (record { sfits = c.quotient-left.type_inv }) c.quotient-left.ensures

pub overflow_sub-result : goal.overflow_sub-result
overflow_sub-result c =
    rw (digit-held c.requires c.ranges.x (record { sfits = c.quotient-left.type_inv }) c.quotient-left.ensures)
    (widen (low_fits c.requires c.args.x))

pub overflow_cast-result-3 : goal.overflow_cast-result-3
overflow_cast-result-3 c =
    let low = low_fits c.requires c.args.x in
    rw (digit-held c.requires c.ranges.x (record { sfits = c.quotient-left.type_inv }) c.quotient-left.ensures, to_z-of_z (widen low)) low

pub returns : goal.returns
returns c =
    let low = low_fits c.requires c.args.x in
    rw (digit-held c.requires c.ranges.x (record { sfits = c.quotient-left.type_inv }) c.quotient-left.ensures, to_z-of_z (widen low)) (to_z-of_z low)
