-- `ring::short::is_short` meets its contract: from -(2^22 - 1) to 2^22 - 1 is below 2^22 in absolute value.
use Rattle.std.proofs.Common.{◌∙◌, ◌*◌, ap, arith, pos, negsuc, take, drop}
use Rattle.residues.specs.Range.{all_between}
use Rattle.residues.proofs.Laws.RangeLaws.{between-bound}
use Rattle.ring.specs.Short.{short}
use Rattle.ring.proofs.short.is_short.Goals as goal

pub returns : goal.returns
unfolding short
returns c =
    c.all_between.ensures
    ∙ ap (λ k. all_between (negsuc 4194302) (pos 4194303) (take k (drop (c.args.p * c.args.d) c.args.v.now))) (omega arith)
    ∙ between-bound 4194302 _
