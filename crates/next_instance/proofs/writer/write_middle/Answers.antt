-- `next_instance::writer::write_middle` meets its contract.
use mathlib.Core.Path.{refl}
use Rattle.next_checks.specs.Checks.{check6, check7, check8}
use Rattle.next_instance.specs.Laws.Instance.{middle-written}
use Rattle.next_instance.proofs.writer.write_middle.Goals as goal

pub returns : goal.returns
returns c =
    let a = c.args in
    middle-written a.sizes a.cut c.requires.cut_facts (check6 a.sizes a.cut.tz a.cut.nu a.products.now)
    (check7 a.sizes a.cut.tz a.folded.now a.products.now) (check8 a.sizes a.cut.tz a.aggregate_a.now a.diagonal.now _)
    a.out.now a.at c.requires.d_in_bounds refl refl c.write_check6.ensures c.write_check7.ensures c.write_check8.ensures
