-- `next_cases::part::run_part` meets its contract. Assumes nothing.
use Rattle.next_cases.specs.Laws.RunLaws.{part-number}
use Rattle.next_cases.proofs.part.run_part.Goals as goal

pub returns : goal.returns
returns c =
    let a = c.args in
    part-number a.sizes a.nu a.mu a.part a.xs.now c.part_sizes.ensures
    c.past_numbers.ensures c.nth_list-opening.ensures c.print_part.ensures
