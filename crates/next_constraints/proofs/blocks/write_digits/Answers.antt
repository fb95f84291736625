-- `next_constraints::blocks::write_digits` meets its contract.
use Rattle.std.proofs.Common.{ℕ, sym, ap, ◌∙◌, rules}
use Rattle.integers.specs.Lists.{tab}
use Rattle.integers.specs.Over.{over}
use Rattle.next_constraints.specs.Blocks.{numbers, digit_row}
use Rattle.next_constraints.specs.Laws.BlockLaws.{numbers-tab, numbers-flat, length-row}
use Rattle.next_constraints.proofs.blocks.write_digits.Goals as goal

pub returns : goal.returns
returns c =
    let a = c.args in
    let row = λ (e : ℕ). tab a.digits.rows (digit_row a.d a.digits a.xs.now a.i e) in
    c.write_blocks.ensures (λ e. numbers a.d (row e)) (record {
      length_is = λ e. length-row a.d a.digits.rows _;
      written = λ k place out r after h fits post. rw (numbers-tab a.d a.digits.rows (digit_row a.d a.digits a.xs.now a.i k)) (search rules);
    })
    ∙ ap (over _ _) (sym (numbers-flat a.d a.digits.count row))
