-- What the program makes of a read's answer: the count of the bytes that it put into the text, negative where it failed.
--     Moved room got              what a read with room for so many bytes may answer
--     TookInto, TookBetween       what a read did to the bytes that the input has left, where these are known
--     number_of kind              the number of a read's error, as C counts them
--     place_after got from size    the place in a text of `size` bytes after a read from place `from` on
--     interrupted got error       whether the read is to be made again
use Rattle.std.specs.Prelude.{◌≡◌, Bool, false, ℕ, ◌+◌, ◌-◌, ◌≤◌, ◌<◌, min, eqb, ℤ, pos, negsuc, List, length, take, drop, Option}
use Rattle.std.specs.declared.io.ErrorKind.{ErrorKind}
use Rattle.std.specs.declared.io.ErrorKind.TheVariants.{Interrupted}
use Rattle.std.specs.Io.KnownBytes.{Keeps, Consumes, IsAtEnd}

-- -1, or how many bytes it moved, at most as many as there is room for
abbrev pub Moved : ℕ → ℤ → Type 0
Moved room (pos count) = count ≤ room
Moved room (negsuc k) = k ≡ 0

-- a read into `part` took as many bytes as it answered and put them at the part's front, none with room left only at the end; none where it failed
abbrev pub TookInto : Option (List ℕ) → Option (List ℕ) → ℤ → List ℕ → Type 0
TookInto old new (pos count) part = Consumes old new (take count part) × (count ≡ 0 → 0 < length part → IsAtEnd new)
TookInto old new (negsuc k) part = Keeps old new

-- the bytes of the text from place `from` to place `to` were taken, and none only at the end
abbrev pub TookBetween : Option (List ℕ) → Option (List ℕ) → ℕ → ℕ → List ℕ → Type 0
TookBetween old new from to text = Consumes old new (take (to - from) (drop from text)) × (to ≡ from → IsAtEnd new)

-- 4, which is EINTR, where a signal interrupted the read, and else 0
abbrev pub number_of : ErrorKind → ℤ
number_of Interrupted = pos 4
number_of _ = pos 0

-- the place after as many bytes as the read answered, cut at the end; the end where the read failed
unfoldable pub place_after : ℤ → ℕ → ℕ → ℕ
place_after (pos count) from size = min (from + count) size
place_after (negsuc _) from size = size

-- the read failed, and C's errno is 4, which is EINTR: a signal came before the first byte
abbrev pub interrupted : ℤ → ℤ → Bool
interrupted (negsuc _) (pos error) = eqb error 4
interrupted (negsuc _) (negsuc _) = false
interrupted (pos _) error = false
