-- Sizes among the numbers of a case, and room for the lists that a call writes.
use Rattle.std.specs.Prelude.{List, ℕ, ℤ, pos, get_or, take, replicate}
use Rattle.std.specs.Int.{w64}
use Rattle.std.proofs.Common.{of_z}
use Rattle.cases.specs.Numbers.{size_at}
use Rattle.cases.specs.Lists.{past_lists}

-- the number at a place, 0 where there is none, modulo 2^64: -k stands for 2^64 - k
abbrev pub wide_size : List ℤ → ℕ → ℕ
wide_size xs place = of_z w64 (get_or xs place (pos 0))

-- list i to be written, of those whose lengths follow k lists: filled with 77, and empty where it is longer than 8192
unfoldable pub room : (k i : ℕ) → List ℤ → List ℤ
room k i lists = take (size_at 8192 (past_lists k lists) i) (replicate 8192 (pos 77))
