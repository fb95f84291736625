-- SPECIFICATION 10.1: "Each number is decimal, right-justified with blanks in 16 columns, no leading zeros, no plus, no minus zero".
--     field_text z     the 16 bytes of a number
--     Fits16 z        the numbers that 16 columns hold
--     header_bytes     the length of a header
use Rattle.std.specs.Prelude.{Bool, true, false, cond, List, [], ◌∷◌, ◌++◌, ℕ, zero, suc, ◌+◌, ◌/◌, ◌%◌, ltb, ℤ, pos, negsuc, nat_abs, ◌≤ℤ◌}

-- the byte left of what is written, where m is still to be written and a minus is due in front of it if s: a digit, "-" or a blank
unfoldable pub column_byte : Bool → ℕ → ℕ
column_byte s m = cond (ltb 0 m) (48 + m % 10) (cond s 45 32)

-- a minus is due after that byte: it comes once
unfoldable pub minus_due : Bool → ℕ → Bool
minus_due s m = cond (ltb 0 m) s false

-- the k columns left of what is written
unfoldable pub columns : ℕ → Bool → ℕ → List ℕ
columns zero s m = []
columns (suc k) s m = columns k (minus_due s m) (m / 10) ++ (column_byte s m ∷ [])

abbrev pub negative : ℤ → Bool
negative (pos n) = false
negative (negsuc n) = true

-- the last column holds a digit, also for 0
unfoldable pub signed_text : Bool → ℕ → List ℕ
signed_text s m = columns 15 s (m / 10) ++ ((48 + m % 10) ∷ [])

unfoldable pub field_text : ℤ → List ℕ
field_text z = signed_text (negative z) (nat_abs z)

pub record Fits16 (z : ℤ) : Type 0 where
  pub least : negsuc 999999999999998 ≤ℤ z
  pub most : z ≤ℤ pos 9999999999999999

-- the bytes of a header: eighteen fields and a line feed
abbrev pub header_bytes : ℕ
header_bytes = 289
