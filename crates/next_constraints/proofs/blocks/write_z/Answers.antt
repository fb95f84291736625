-- `next_constraints::blocks::write_z` meets its contract.
use Rattle.std.proofs.Common.{ℕ, ◌+◌, sym, ap, ◌∙◌, rules}
use Rattle.integers.specs.Lists.{tab}
use Rattle.integers.specs.Over.{over}
use Rattle.ring.specs.Element.{R, el}
use Rattle.fold.specs.NextInstance.{power, z_table}
use Rattle.next_constraints.specs.Blocks.{numbers}
use Rattle.next_constraints.specs.Laws.BlockLaws.{numbers-flat, length-row}
use Rattle.next_constraints.proofs.blocks.write_z.Goals as goal

pub returns : goal.returns
unfolding z_table
returns c =
    let a = c.args in
    let row = λ (e : ℕ). tab a.n (λ k. (R a.d).mul (power a.d a.b e) (el a.d a.xs.now (a.from + k))) in
    c.write_blocks.ensures (λ e. numbers a.d (row e)) (record {
      length_is = λ e. length-row a.d a.n _;
      written = λ k place out r after h fits post. search rules;
    })
    ∙ ap (over _ _) (sym (numbers-flat a.d a.tz row))
