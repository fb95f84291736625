-- `residues::digits::peel` meets its contract. The loop's invariant: i numbers are done.
use Rattle.std.proofs.Common.{◌≡◌, ap, ◌∙◌, ◌+◌, get_or, pos, arith}
use mir.Syntax.{w32}
use mir.Val.{to_z, of_z}
use mir.Facts.{to_z-of_z}
use Rattle.residues.specs.Digits.{low, rest}
use Rattle.residues.proofs.Laws.DigitBlockLaws.{peel_step}
use Rattle.residues.proofs.digits.peel.Goals as goal

pub loop-i-preserved : goal.loop-i-preserved
loop-i-preserved c =
    let at = c.loop-i in
    let x = get_or at.block (c.args.from + at.i) (pos 0) in
    let element : to_z w32 (of_z w32 x) ≡ x = to_z-of_z {w = w32} (record { sfits = c.x-1.given }) in
    peel_step _ _ _ _ at.i c.args.width at.block _ _ c.requires.width_bound.0 c.requires.width_bound.1 (omega arith) at.invariant
    (to_z-of_z {w = w32} (record { sfits = c.low_digit.type_inv }) ∙ c.low_digit.ensures ∙ ap (low c.args.base) element)
    (to_z-of_z {w = w32} (record { sfits = c.quotient.type_inv }) ∙ c.quotient.ensures ∙ ap (rest c.args.base) element)
