-- SPECIFICATION 10: the lines of a sheet, each by its number of fields, and the text of numbers on lines.
--     body_lines s          the lines after the header
--     text_of widths xs     numbers laid out on lines
--     sheet_text h xs       the text of the header's numbers h and of all others xs
--     SheetNumbers h xs    these are the numbers of a sheet; the reader takes them and the writer writes them
use Rattle.std.specs.Prelude.{◌≡◌, List, [], ◌∷◌, ◌++◌, ℕ, zero, suc, ◌+◌, ◌*◌, ◌<◌, length, get_or, take, drop, ℤ, pos}
use Rattle.integers.specs.Flat.{flat}
use Rattle.fold.specs.Answers.{first_failing}
use Rattle.fold.specs.Sizes.{z_count, pairs, t_size, garbage_size, opening_size}
use Rattle.fold.specs.declared.Sizes.{Sizes}
use Rattle.fields.specs.Field.{field_text, Fits16}
use Rattle.sheet.specs.Reading.{header_tests, sizes_of, number_tests}

-- ---- lines

-- c copies of some lines
unfoldable pub copies : ℕ → List ℕ → List ℕ
copies zero lines = []
copies (suc c) lines = lines ++ copies c lines

-- c lines of d fields: "one ring element per line (d fields)"
unfoldable pub elements : ℕ → ℕ → List ℕ
elements d c = copies c (d ∷ [])

-- the fields of some lines
unfoldable pub fields : List ℕ → ℕ
fields [] = 0
fields (w ∷ ws) = w + fields ws

module _ (s : Sizes) where
  open s use {shape, k, l, w, kappa, kappa1, kappa2, t1, t2}
  open shape use {d, n, r}

  -- "A, B, C, D by rows"
  unfoldable pub matrix_lines : List ℕ
  matrix_lines =
      elements d (kappa * n)
      ++ (elements d (kappa1 * t_size r kappa t1)
      ++ (elements d (kappa1 * garbage_size r t2) ++ elements d (kappa2 * garbage_size r t1)))

  -- "each whole constraint as a (by i, then j), φ (by part), b"
  unfoldable pub whole_lines : List ℕ
  whole_lines = copies k (elements d (pairs r) ++ (elements d (r * n) ++ elements d 1))

  -- "each constant-term one likewise, its b a line of one field"
  unfoldable pub term_lines : List ℕ
  term_lines = copies l (elements d (pairs r) ++ (elements d (r * n) ++ elements 1 1))

  -- "u1; projection rows (by row, then part)"
  unfoldable pub row_lines : List ℕ
  row_lines = elements d kappa1 ++ elements d (w * (r * n))

  -- "p, ψ, ω (one number a line, ψ and ω by k)"
  unfoldable pub number_lines : List ℕ
  number_lines = elements 1 w ++ (elements 1 (5 * l) ++ elements 1 (5 * w))

  -- "b''; α; δ; u2; c; the opening."
  unfoldable pub last_lines : List ℕ
  last_lines =
      elements d 5
      ++ (elements d k
      ++ (elements d 5
      ++ (elements d kappa2
      ++ (elements d r ++ elements d (opening_size z_count n r kappa t1 t2)))))

  unfoldable pub body_lines : List ℕ
  body_lines = matrix_lines ++ (whole_lines ++ (term_lines ++ (row_lines ++ (number_lines ++ last_lines))))

-- ---- text

-- the fields of a line, and "one line feed"
unfoldable pub line_text : List ℤ → List ℕ
line_text xs = flat (length xs) (λ i. field_text (get_or xs i (pos 0))) ++ (10 ∷ [])

unfoldable pub text_of : List ℕ → List ℤ → List ℕ
text_of [] xs = []
text_of (w ∷ ws) xs = line_text (take w xs) ++ text_of ws (drop w xs)

-- "Header: d n r K L w κ κ1 κ2 b b1 b2 t1 t2 ν μ β² β'²." "Nothing follows."
unfoldable pub sheet_text : List ℤ → List ℤ → List ℕ
sheet_text h xs = line_text h ++ text_of (body_lines (sizes_of h)) xs

-- each number fits 16 columns
abbrev pub AllFit : List ℤ → Type 0
AllFit xs = (i : ℕ) → i < length xs → Fits16 (get_or xs i (pos 0))

-- the numbers of a sheet: rows 1 to 6 do not refuse the header's, and the others, as many as the sizes give (row 7), are not refused by 8 to 10
pub record SheetNumbers (h xs : List ℤ) : Type 0 where
  pub header : length h ≡ 18
  pub fit : AllFit h
  pub sizes : first_failing (header_tests h) ≡ 0
  pub count : length xs ≡ fields (body_lines (sizes_of h))
  pub numbers : first_failing (number_tests (sizes_of h) xs) ≡ 0
