-- `residues::digits::split_digits` meets its contract. The loop's invariant: k low digits are taken from each number.
use Rattle.std.proofs.Common.{arith}
use Rattle.residues.proofs.Laws.DigitBlockLaws.{split-start, split_step, split-end}
use Rattle.residues.proofs.digits.split_digits.Goals as goal

pub loop-k-init : goal.loop-k-init
loop-k-init c = split-start _ _ _ _ c.requires.count_nonzero.1

pub loop-k-preserved : goal.loop-k-preserved
loop-k-preserved c = split_step _ c.args.count _ _ c.loop-k.k _ _ (omega arith) c.loop-k.invariant c.peel.ensures

pub returns : goal.returns
returns c =
    split-end _ c.args.count _ _ c.loop-k.k _ c.requires.base.least c.requires.count_nonzero.0 (omega arith) (omega arith)
    c.requires.count_nonzero.1 c.loop-k.invariant
