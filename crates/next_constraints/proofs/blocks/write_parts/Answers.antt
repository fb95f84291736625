-- `next_constraints::blocks::write_parts` meets its contract.
use Rattle.std.proofs.Common.{ℕ, ◌*◌, sym, ap, ◌∙◌, rules}
use Rattle.integers.specs.Lists.{tab}
use Rattle.integers.specs.Over.{over}
use Rattle.integers.specs.Flat.{flat}
use Rattle.fold.specs.NextInstance.{t_table}
use Rattle.fold.proofs.Laws.TableSums.{length_digits}
use Rattle.next_constraints.specs.Blocks.{numbers, digit_row}
use Rattle.next_constraints.specs.Laws.BlockLaws.{numbers-flat, length-numbers}
use Rattle.next_constraints.proofs.blocks.write_parts.Goals as goal

pub returns : goal.returns
unfolding t_table
returns c =
    let a = c.args in
    let g = a.digits in
    let element = λ (i : ℕ). flat g.count (λ e. tab g.rows (digit_row a.d g a.xs.now i e)) in
    c.write_blocks.ensures (λ i. numbers a.d (element i)) (record {
      length_is = λ i. length-numbers a.d (element i) ∙ ap (λ k. k * a.d) (length_digits g.count g.rows (digit_row a.d g a.xs.now i));
      written = λ k place out r after h fits post. search rules;
    })
    ∙ ap (over _ _) (sym (numbers-flat a.d a.m element))
