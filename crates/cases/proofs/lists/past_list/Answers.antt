-- `cases::lists::past_list` meets its contract. Assumes nothing.
use Rattle.std.proofs.Common.{◌≡◌, List, ℕ, min, ℤ, length, drop, arith}
use Rattle.std.proofs.lemmas.Grind.{common_steps}
use Rattle.cases.specs.Lists.{past_list, first_width}
use Rattle.cases.specs.Laws.ListLaws.{size-inside}
use Rattle.cases.proofs.lists.past_list.Goals as goal

past-min : (k : ℕ) (xs : List ℤ) → drop k xs ≡ drop (min (length xs) k) xs
past-min k xs = grind (arith, common_steps)

pub overflow_add-first_size : goal.overflow_add-first_size
overflow_add-first_size c = omega (arith, c.first_size.ensures, size-inside c.args.xs.now)

pub returns : goal.returns
unfolding past_list first_width
returns c = rw (c.past_numbers.ensures, c.first_size.ensures) (past-min _ c.args.xs.now)
