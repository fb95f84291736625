-- The lines of a sheet as `Sections` counts them.
--     body_merged    the lines after the header, in five parts
--     body-total     their fields
use Rattle.std.specs.Prelude.{◌≡◌, List, [], ◌∷◌, ◌++◌}
use Rattle.std.proofs.Math.Path.{refl, ap, ap₂}
use Rattle.std.proofs.Common.{sym, ◌∙◌, append_assoc, zero-mul, suc-mul, zero-add, add_assoc, arith}
use Prim.Native.Nat.{ℕ, zero, suc, ◌+◌, ◌*◌, ◌<◌}
use Rattle.fold.specs.Sizes.{pairs, function_size}
use Rattle.fold.specs.declared.Sizes.{Sizes}
use Rattle.fields.specs.Sections.{matrix_count, whole_count, row_count, last_count, term_size, ones_count, total}
use Rattle.sheet.specs.Layout.{copies, elements, fields, matrix_lines, whole_lines, term_lines, row_lines, number_lines, last_lines, body_lines}
use Rattle.sheet.specs.Laws.LayoutLaws.{Positive, fields-append, fields-copies, fields-elements, positive-append, positive-copies, positive-elements}

-- ---- lines of elements joined

copies-add : (a b : ℕ) (l : List ℕ) → copies a l ++ copies b l ≡ copies (a + b) l
unfolding copies
copies-add zero b l = rw (zero-add b) refl
copies-add (suc a) b l =
    let e : suc a + b ≡ suc (a + b) = omega arith in
    rw e (append_assoc l (copies a l) (copies b l) ∙ ap (λ (m : List ℕ). l ++ m) (copies-add a b l))

pub join : (d a b : ℕ) → elements d a ++ elements d b ≡ elements d (a + b)
unfolding elements
join d a b = copies-add a b (d ∷ [])

-- before other lines
join-rest : (d a b : ℕ) (rest : List ℕ) → elements d a ++ (elements d b ++ rest) ≡ elements d (a + b) ++ rest
join-rest d a b rest = sym (append_assoc (elements d a) (elements d b) rest) ∙ ap (λ (l : List ℕ). l ++ rest) (join d a b)

no-elements : (d : ℕ) → [] ≡ elements d 0
unfolding elements copies
no-elements d = refl

copies-elements : (c d m : ℕ) → copies c (elements d m) ≡ elements d (c * m)
unfolding copies
copies-elements zero d m = rw (zero-mul m) (none d)
  where
    none : (d : ℕ) → [] ≡ elements d 0
    none d = no-elements d
copies-elements (suc c) d m =
    ap (λ (l : List ℕ). elements d m ++ l) (copies-elements c d m) ∙ join d m (c * m) ∙ ap (elements d) (sum c m)
  where
    sum : (c m : ℕ) → m + c * m ≡ suc c * m
    sum c m = omega (arith, suc-mul c m)

module _ (s : Sizes) where
  open s use {shape, k, l, w, kappa1}
  open shape use {d, n, r}

  matrix_merged : matrix_lines s ≡ elements d (matrix_count s)
  unfolding matrix_lines matrix_count
  matrix_merged = simp join

  whole_merged : whole_lines s ≡ elements d (whole_count s)
  unfolding whole_lines whole_count function_size
  whole_merged = simp (join, copies-elements) (ap (λ (x : ℕ). elements d (k * x)) (sym (add_assoc (pairs r) (r * n) 1)))

  term_merged : term_lines s ≡ copies l (elements d (function_size n r) ++ elements 1 1)
  unfolding term_lines function_size
  term_merged = ap (copies l) (join-rest d (pairs r) (r * n) (elements 1 1))

  rows_merged : row_lines s ≡ elements d (row_count s)
  unfolding row_lines row_count
  rows_merged = join d kappa1 (w * (r * n))

  numbers_merged : number_lines s ≡ elements 1 (ones_count s)
  unfolding number_lines ones_count
  numbers_merged = simp join

  last_merged : last_lines s ≡ elements d (last_count s)
  unfolding last_lines last_count
  last_merged = simp join

  -- the five parts
  unfoldable pub middle_part : List ℕ
  middle_part = elements d (row_count s) ++ (elements 1 (ones_count s) ++ elements d (last_count s))

  unfoldable pub term_part : List ℕ
  term_part = copies l (elements d (function_size n r) ++ elements 1 1)

  pub body_merged : body_lines s ≡ elements d (matrix_count s + whole_count s) ++ (term_part ++ middle_part)
  unfolding body_lines middle_part term_part
  body_merged =
      rw (matrix_merged, whole_merged, term_merged, rows_merged, numbers_merged, last_merged)
      (join-rest d (matrix_count s) (whole_count s) _)

  term_fields : fields term_part ≡ l * term_size s
  unfolding term_part term_size
  term_fields =
      fields-copies l (elements d (function_size n r) ++ elements 1 1)
      ∙ ap (λ (x : ℕ). l * x) (fields-append (elements d (function_size n r)) (elements 1 1)
      ∙ ap₂ ◌+◌ (fields-elements d (function_size n r)) (fields-elements 1 1))

  middle-fields : fields middle_part ≡ row_count s * d + (ones_count s + last_count s * d)
  unfolding middle_part
  middle-fields =
      simp (fields-append, fields-elements) (omega arith)

  pub body-total : fields (body_lines s) ≡ total s
  unfolding total
  body-total =
      rw (
        body_merged,
        fields-append (elements d (matrix_count s + whole_count s)) (term_part ++ middle_part),
        fields-append term_part middle_part,
        fields-elements d (matrix_count s + whole_count s),
        term_fields,
        middle-fields,
      )
      refl

  pub body-positive : 0 < d → Positive (body_lines s)
  unfolding middle_part term_part
  body-positive h =
      let e = positive-elements d in
      rw body_merged
      (positive-append (elements d (matrix_count s + whole_count s)) _ (e (matrix_count s + whole_count s) h)
      (positive-append (copies l (elements d (function_size n r) ++ elements 1 1)) _
      (positive-copies l _
      (positive-append (elements d (function_size n r)) (elements 1 1) (e (function_size n r) h)
      (positive-elements 1 1 (omega arith))))
      (positive-append (elements d (row_count s)) _ (e (row_count s) h)
      (positive-append (elements 1 (ones_count s)) (elements d (last_count s)) (positive-elements 1 (ones_count s) (omega arith))
      (e (last_count s) h)))))
