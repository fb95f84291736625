-- `refusals::part::next_part_refusal` meets its contract: the tests for as many z digits as there are. Assumes nothing.
use Rattle.fold.proofs.Laws.DigitCounts.{flag_few}
use Rattle.refusals.proofs.part.next_part_refusal.Goals as goal

pub part_refusal-requires : goal.part_refusal-requires
part_refusal-requires c = rw c.count_if-tz.ensures (flag_few c.args.sizes.one_digit)

pub returns : goal.returns
returns c = rw c.count_if-tz.ensures at c.part_refusal.ensures
