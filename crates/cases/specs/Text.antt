-- Numbers in a text: decimal, with a minus sign or without. A byte of at most 32, a blank or a line feed, ends a number, and a line feed ends
-- a line.
use Rattle.std.specs.Prelude.{◌≡◌, Bool, false, cond, ◌||◌, List, [], ◌∷◌, ℕ, zero, suc, ◌+◌, ◌*◌, ◌-◌, min, eqb, leb, ltb, ℤ, pos, neg_ℤ, take, drop}

-- the magnitude with one more digit, at most 2^63; a byte that is no digit, such as the sign, changes nothing
unfoldable pub with_digit : ℕ → ℕ → ℕ
with_digit m byte = cond (cond (leb 48 byte) (leb byte 57) false) (min 9223372036854775808 (m * 10 + (byte - 48))) m

-- the number, or the nearest that 64 bits hold
unfoldable pub with_sign : Bool → ℕ → ℤ
with_sign minus m = cond minus (neg_ℤ (pos (min 9223372036854775808 m))) (pos (min 9223372036854775807 m))

-- the numbers of bytes, where a sign and a magnitude are already read
unfoldable pub numbers_from : Bool → ℕ → List ℕ → List ℤ
numbers_from minus m [] = []
numbers_from minus m (byte ∷ bytes) =
    cond (ltb 32 byte) (numbers_from (minus || eqb byte 45) (with_digit m byte) bytes) (with_sign minus m ∷ numbers_from false 0 bytes)

unfoldable pub line_numbers : List ℕ → List ℤ
line_numbers line = numbers_from false 0 line

-- how many bytes the first line has, its line feed included
unfoldable pub line_length : List ℕ → ℕ
line_length [] = 0
line_length (byte ∷ bytes) = cond (eqb byte 10) 1 (suc (line_length bytes))

unfoldable pub first_line : List ℕ → List ℕ
first_line text = take (line_length text) text

unfoldable pub past_line : List ℕ → List ℕ
past_line text = drop (line_length text) text

-- what follows the first lines
unfoldable pub past_lines : ℕ → List ℕ → List ℕ
past_lines zero text = text
past_lines (suc n) text = past_line (past_lines n text)

-- the first bytes of a buffer are a text of so many lines
pub record Lines (buffer : List ℕ) (count : ℕ) : Type 0 where
  pub size : ℕ
  pub all : past_lines count (take size buffer) ≡ []
