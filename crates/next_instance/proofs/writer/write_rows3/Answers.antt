-- `next_instance::writer::write_rows3` meets its contract.
use Rattle.std.proofs.Common.{ℕ, arith, rules}
use Rattle.next_checks.specs.Checks.{laid, check3}
use Rattle.next_checks.specs.Laws.CutLaws.{size_small}
use Rattle.next_instance.specs.Laws.Instance.{length-laid}
use Rattle.next_instance.proofs.writer.write_rows3.Goals as goal

pub overflow_add-size : goal.overflow_add-size
overflow_add-size c = omega (arith, size_small c.args.sizes c.args.cut c.requires.cut_facts)

pub returns : goal.returns
returns c =
    let a = c.args in
    let row = λ (k : ℕ). check3 a.sizes a.cut.tz a.b_matrix.now a.c_matrix.now a.u1.now k in
    c.write_blocks.ensures (λ k. laid a.sizes a.cut (row k)) (record {
      length_is = λ k. length-laid a.sizes a.cut c.requires.cut_facts (row k);
      written = λ k place out r after h fits post. search rules;
    })
