-- `next_instance::writer::write_rows4` meets its contract.
use Rattle.std.proofs.Common.{ℕ, rules}
use Rattle.next_checks.specs.Checks.{laid, check4}
use Rattle.next_instance.specs.Laws.Instance.{length-laid}
use Rattle.next_instance.proofs.writer.write_rows4.Goals as goal

pub returns : goal.returns
returns c =
    let a = c.args in
    let row = λ (k : ℕ). check4 a.sizes a.cut.tz a.d_matrix.now a.u2.now k in
    c.write_blocks.ensures (λ k. laid a.sizes a.cut (row k)) (record {
      length_is = λ k. length-laid a.sizes a.cut c.requires.cut_facts (row k);
      written = λ k place out r after h fits post. search rules;
    })
