-- Lists among numbers: each is its length and its numbers, one after another. One that does not fit counts as empty.
use Rattle.std.specs.Prelude.{List, ℕ, zero, suc, ◌+◌, ◌-◌, min, ℤ, length, take, drop}
use Rattle.cases.specs.Numbers.{size_at}

-- how many numbers the first list has
unfoldable pub first_size : List ℤ → ℕ
first_size xs = size_at (length xs - 1) xs 0

unfoldable pub first_list : List ℤ → List ℤ
first_list xs = take (first_size xs) (drop 1 xs)

-- how many numbers it takes, its length among them
unfoldable pub first_width : List ℤ → ℕ
first_width xs = min (length xs) (1 + first_size xs)

-- what follows it
unfoldable pub past_list : List ℤ → List ℤ
past_list xs = drop (first_width xs) xs

unfoldable pub past_lists : ℕ → List ℤ → List ℤ
past_lists zero xs = xs
past_lists (suc n) xs = past_list (past_lists n xs)

-- list n, from 0
unfoldable pub nth_list : ℕ → List ℤ → List ℤ
nth_list n xs = first_list (past_lists n xs)
