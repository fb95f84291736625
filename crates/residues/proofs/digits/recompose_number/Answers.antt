-- `residues::digits::recompose_number` meets its contract. The loop's invariant: `acc` holds the value of the digits from `left` on.
use Rattle.std.proofs.Common.{sym, ◌∙◌, arith}
use mir.Syntax.{w32}
use mir.Facts.{to_z-of_z}
use Rattle.residues.proofs.Laws.DigitSums.{tail-start, value_step, value_end}
use Rattle.residues.proofs.digits.recompose_number.Invariants.{digits_of}
use Rattle.residues.proofs.digits.recompose_number.Goals as goal

pub loop-left-init : goal.loop-left-init
loop-left-init c = sym (tail-start c.args.base c.args.count (digits_of c.args.digits.now c.args.at c.args.width))

pub loop-left-preserved : goal.loop-left-preserved
loop-left-preserved c =
    let at = c.loop-left in
    to_z-of_z {w = w32} {z = c.fold_digit-acc.result} (record { sfits = c.fold_digit-acc.type_inv })
    ∙ value_step _ _ (digits_of c.args.digits.now c.args.at c.args.width) at.left _ _ (omega arith) (omega arith)
    at.invariant (record { sfits = c.fold_digit-arg-1.given }) c.fold_digit-acc.ensures

pub returns : goal.returns
returns c =
    let a = c.args in
    value_end _ _ (digits_of a.digits.now a.at a.width) c.loop-left.left _ (omega arith) c.loop-left.invariant
