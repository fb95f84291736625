-- `ring_cases::tests::part` meets its contract. Assumes nothing.
use Rattle.std.proofs.Common.{◌≡◌, List, ℕ, ℤ, min, length, take, arith}
use Rattle.std.proofs.lemmas.Grind.{common_steps}
use Rattle.ring_cases.specs.Results.{list_at}
use Rattle.ring_cases.proofs.tests.part.Goals as goal

take-min : (n : ℕ) (xs : List ℤ) → take (min n (length xs)) xs ≡ take n xs
take-min n xs = grind (arith, common_steps)

pub returns : goal.returns
unfolding list_at
returns c = rw (← c.past_numbers-rest.ensures, c.min.ensures) (take-min c.args.n _)
