-- `next_cases::twice::run_twice` meets its contract. Assumes nothing.
use mathlib.Core.Path.{sym, ◌∙◌}
use Rattle.next_cases.specs.Laws.MessageLaws.{blank-inside, blank-fits, array_long}
use Rattle.next_cases.specs.Laws.RunLaws.{second-inside, twice_run}
use Rattle.next_cases.proofs.twice.run_twice.Goals as goal

pub overflow_sub-xs : goal.overflow_sub-xs
overflow_sub-xs c = second-inside c.args.xs.now c.past_numbers-lists.ensures c.past_lists-lengths.ensures c.past_numbers-second.ensures

pub slice_bounds-room-end : goal.slice_bounds-room-end
slice_bounds-room-end c = blank-inside 32768 _ 8 c.size-count.ensures

pub slice_bounds-whole-end : goal.slice_bounds-whole-end
slice_bounds-whole-end c = blank-fits 32768 _ 8 c.size-count.ensures

pub slice_bounds-run_first-end : goal.slice_bounds-run_first-end
slice_bounds-run_first-end c = array_long 32768

pub slice_bounds-opening-end : goal.slice_bounds-opening-end
slice_bounds-opening-end c = array_long 32768 ∙ sym c.run_first.auto.messages

pub returns : goal.returns
returns c =
    twice_run c.args.xs.now c.past_numbers-lists.ensures c.past_lists-lengths.ensures
    c.past_numbers-second.ensures
    c.size-count.ensures c.past_wides.ensures c.read_sizes-second_sizes.ensures c.part_sizes.ensures
    c.opening.ensures c.past_numbers.ensures c.run_first.ensures
    c.with_witness.ensures
