-- `next_cases::twice::with_witness` meets its contract. Assumes nothing.
use Rattle.next_cases.specs.Laws.MessageLaws.{front_fits}
use Rattle.next_cases.specs.Laws.WitnessLaws.{fitting-inside}
use Rattle.next_cases.specs.Laws.RunLaws.{witness-is, second_of}
use Rattle.next_cases.proofs.twice.with_witness.Goals as goal

pub slice_bounds-room-end : goal.slice_bounds-room-end
slice_bounds-room-end c = fitting-inside 32768 c.product.result c.fitting-count.ensures

pub slice_bounds-witness-end : goal.slice_bounds-witness-end
slice_bounds-witness-end c = front_fits 32768 _ (fitting-inside 32768 c.product.result c.fitting-count.ensures)

pub returns : goal.returns
returns c =
    let a = c.args in
    second_of
    (witness-is a.first a.sizes a.opening.now
    c.product-width.ensures c.product.ensures c.fitting-count.ensures c.write_witness.ensures)
    c.run_second.ensures
