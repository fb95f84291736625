-- `next_cases::twice::run_first` meets its contract. Assumes nothing.
use Rattle.next_cases.specs.Laws.RunLaws.{first_run}
use Rattle.next_cases.proofs.twice.run_first.Goals as goal

pub returns : goal.returns
returns c = first_run c.nth_list-whole.ensures c.nth_list-witness.ensures c.run_fold.ensures c.print_next.ensures
