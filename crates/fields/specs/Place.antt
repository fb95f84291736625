-- Numbers on lines, by place. The numbers are counted from 0, `ends i` says that number i is the last of its line, and the first field
-- starts at byte `at` of the text.
--     blanks k                    k blanks
--     field_width, feed            how many bytes a field takes, with a line feed if it ends a line, and that line feed
--     place ends at i             the byte where number i starts
--     laid ends at text n         the first n fields are numbers, with a line feed after the last of each line
--     number_at, numbers_from       the number at a place, 0 where there is none, and `count` numbers from number `from` on
--     line_fields ends x n         the text of the n numbers x 0, x 1, ..
use Rattle.std.specs.Prelude.{◌≡◌, Bool, true, false, cond, List, [], ◌∷◌, ◌++◌, ℕ, zero, suc, ◌+◌, ◌≤◌, eqb, length, get_or, ℤ, pos, Option, None, Some, is_some, unwrap_or}
use Rattle.integers.specs.Lists.{tab}
use Rattle.integers.specs.Flat.{flat}
use Rattle.ring.specs.Element.{every}
use Rattle.fields.specs.Fields.{field_at}
use Rattle.fields.specs.Field.{field_text, header_bytes}

unfoldable pub blanks : ℕ → List ℕ
blanks zero = []
blanks (suc k) = blanks k ++ (32 ∷ [])

-- "each line ends with one line feed"
unfoldable pub field_width : Bool → ℕ
field_width last = cond last 17 16

-- what follows a field: the line feed where it is the last of its line
unfoldable pub feed : Bool → List ℕ
feed true = 10 ∷ []
feed false = []

unfoldable pub line_fields : (ℕ → Bool) → (ℕ → ℤ) → ℕ → List ℕ
line_fields ends x n = flat n (λ i. field_text (x i) ++ feed (ends i))

unfoldable pub place : (ℕ → Bool) → ℕ → ℕ → ℕ
place ends at zero = at
place ends at (suc i) = place ends at i + field_width (ends i)

unfoldable pub laid_field : List ℕ → ℕ → Bool → Bool
laid_field text at last = cond (is_some (field_at text at)) (cond last (eqb (get_or text (at + 16) 0) 10) true) false

unfoldable pub laid : (ℕ → Bool) → ℕ → List ℕ → ℕ → Bool
laid ends at text n = every n (λ i. laid_field text (place ends at i) (ends i))

-- where the first n fields end
abbrev pub end_if : Bool → ℕ → Option ℕ
end_if true at = Some at
end_if false at = None

unfoldable pub number_at : List ℕ → ℕ → ℤ
number_at text at = unwrap_or (field_at text at) (pos 0)

unfoldable pub numbers_from : (ℕ → Bool) → ℕ → List ℕ → ℕ → ℕ → List ℤ
numbers_from ends at text from count = tab count (λ j. number_at text (place ends at (from + j)))

-- number `from` of those after the header, which is 289 bytes long, stands at `start`, and the text holds `count` numbers from there on
pub record Span (ends : ℕ → Bool) (text : List ℕ) (from start count : ℕ) : Type 0 where
  pub is : start ≡ place ends header_bytes from
  pub inside : place ends header_bytes (from + count) ≤ length text
