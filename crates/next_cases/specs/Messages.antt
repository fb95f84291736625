-- The messages of a fold in one list, one after another. Their lengths are the first numbers of another list.
use Rattle.std.specs.Prelude.{List, ℕ, zero, suc, ◌+◌, ◌-◌, ℤ, pos, length, take, drop, replicate}
use Rattle.integers.specs.Over.{over}
use Rattle.cases.specs.Numbers.{size_at}

-- a list to write, before the call: n times FILL
unfoldable pub filled : ℕ → List ℤ
filled n = replicate n (pos 77)

-- message k before the call that writes it
abbrev pub blank : List ℤ → ℕ → List ℤ
blank lengths k = filled (size_at 32768 lengths k)

-- where message k begins, in a list of `room` numbers; one that does not fit counts as empty
unfoldable pub start_of : (room : ℕ) → List ℤ → ℕ → ℕ
start_of room lengths zero = 0
start_of room lengths (suc k) = start_of room lengths k + size_at (room - start_of room lengths k) lengths k

unfoldable pub message_of : (messages lengths : List ℤ) → ℕ → List ℤ
message_of messages lengths k =
    take (size_at (length messages - start_of (length messages) lengths k) lengths k) (drop (start_of (length messages) lengths k) messages)

-- the opening: messages 0 to 3
unfoldable pub opening_of : (messages lengths : List ℤ) → List ℤ
opening_of messages lengths = take (start_of (length messages) lengths 4) messages

-- the messages after xs is kept as message k
unfoldable pub kept : (messages lengths : List ℤ) → ℕ → List ℤ → List ℤ
kept messages lengths k xs =
    over messages (start_of (length messages) lengths k) (take (length messages - start_of (length messages) lengths k) xs)
