-- Laws of the lists with room for what a call writes.
use Rattle.std.specs.Prelude.{◌≡◌, List, ℕ, ◌≤◌, ℤ, pos, length, take, replicate}
use Rattle.std.proofs.Common.{sym, length-take-le}
use Rattle.std.proofs.lemmas.List.{length-replicate}
use Rattle.cases.specs.Numbers.{size_at}
use Rattle.cases.specs.Lists.{past_lists}
use Rattle.cases.specs.Input.{room}
use Rattle.cases.specs.Laws.NumberLaws.{size-bound}

-- a filled array has a part of every length up to its own
pub part-fits : (n r : ℕ) (x : ℤ) → r ≤ n → r ≡ length (take r (replicate n x))
part-fits n r x h = sym (length-take-le _ _ (rw (length-replicate n x) h))

pub count_fits : (xs : List ℤ) (k : ℕ) {r : ℕ} → r ≡ size_at 8192 xs k → r ≤ 8192
count_fits xs k e = rw e (size-bound 8192 xs k)

-- the room for a list is the part of the filled array that its length tells
pub room-is : (k i : ℕ) (lists : List ℤ) {lengths : List ℤ} {r : ℕ} → lengths ≡ past_lists k lists → r ≡ size_at 8192 lengths i
    → take r (replicate 8192 (pos 77)) ≡ room k i lists
unfolding room
room-is k i lists e f = rw (f, e)
