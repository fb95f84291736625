-- `next_cases::instance::run_instance` meets its contract. Assumes nothing.
use Rattle.next_cases.specs.Laws.MessageLaws.{blank-inside, blank-fits}
use Rattle.next_cases.specs.Laws.RunLaws.{instance_run}
use Rattle.next_cases.proofs.instance.run_instance.Goals as goal

pub slice_bounds-out-end : goal.slice_bounds-out-end
slice_bounds-out-end c = blank-inside 32768 _ 0 c.size-count.ensures

pub slice_bounds-print_instance-end : goal.slice_bounds-print_instance-end
slice_bounds-print_instance-end c = blank-fits 32768 _ 0 c.size-count.ensures

pub returns : goal.returns
returns c =
    instance_run c.args.sizes c.past_numbers-lists.ensures c.past_lists.ensures c.size-count.ensures
    c.print_instance.ensures
