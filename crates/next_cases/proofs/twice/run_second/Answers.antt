-- `next_cases::twice::run_second` meets its contract. Assumes nothing.
use Rattle.next_cases.specs.Laws.MessageLaws.{array_long}
use Rattle.next_cases.specs.Laws.RunLaws.{second_run}
use Rattle.next_cases.proofs.twice.run_second.Goals as goal

pub slice_bounds-run_fold-end : goal.slice_bounds-run_fold-end
slice_bounds-run_fold-end c = array_long 32768

pub returns : goal.returns
returns c = second_run c.past_lists-lengths.ensures c.run_fold.ensures
