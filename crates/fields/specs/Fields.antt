-- How fields are read.
--     read_field l            the number whose field the bytes l are; None where they are no field
--     field_at text at        the same of the 16 bytes from `at` on
use Rattle.std.specs.Prelude.{Bool, true, false, cond, List, [], ◌∷◌, ℕ, ◌+◌, ◌*◌, ◌-◌, leb, eqb, take, drop, ℤ, pos, neg_ℤ, Option, None, Some}
use Rattle.fields.specs.Field.{field_text}

-- ---- one field: the digits' value, and the bytes compared with the field of that number, without and with a minus

unfoldable pub digit_step : ℕ → ℕ → ℕ
digit_step m byte = cond (cond (leb 48 byte) (leb byte 57) false) (m * 10 + (byte - 48)) m

unfoldable pub value_from : ℕ → List ℕ → ℕ
value_from m [] = m
value_from m (byte ∷ l) = value_from (digit_step m byte) l

unfoldable pub same_bytes : List ℕ → List ℕ → Bool
same_bytes [] [] = true
same_bytes [] (y ∷ ys) = false
same_bytes (x ∷ xs) [] = false
same_bytes (x ∷ xs) (y ∷ ys) = cond (eqb x y) (same_bytes xs ys) false

unfoldable pub field_of : List ℕ → ℤ → Option ℤ → Option ℤ
field_of l z other = cond (same_bytes l (field_text z)) (Some z) other

unfoldable pub read_field : List ℕ → Option ℤ
read_field l = field_of l (pos (value_from 0 l)) (field_of l (neg_ℤ (pos (value_from 0 l))) None)

-- ---- by place

unfoldable pub field_at : List ℕ → ℕ → Option ℤ
field_at text at = read_field (take 16 (drop at text))
