-- Where the lines of a sheet end: the test by sections agrees with the lines.
--     five_ends      for five parts in general
--     body_ends      for the lines after the header
--     header_ends, header-place, header-end    for the header's one line
use Rattle.std.specs.Prelude.{◌≡◌, Bool, List, ◌++◌, eqb}
use Rattle.std.proofs.Math.Path.{refl, ap, ap₂}
use Rattle.std.proofs.Common.{◌∙◌, mul-one, mod-eq_of_lt, add-one, arith}
use Rattle.std.proofs.Math.Bool.{true, false}
use Prim.Native.Nat.{ℕ, zero, suc, ◌+◌, ◌*◌, ◌-◌, ◌≤◌, ◌<◌}
use Rattle.std.proofs.Math.Nat.{mod-one}
use Rattle.std.proofs.Math.Dec.{ltb}
use borrow.Author.Tests.{ltb-true, ltb-false, ne_eqb}
use Rattle.fold.specs.Sizes.{function_size}
use Rattle.fold.specs.declared.Sizes.{Sizes}
use Rattle.fields.specs.declared.sizes.Sections.{Sections}
use Rattle.fields.specs.Sections.{matrix_count, whole_count, row_count, last_count, term_size, ones_count, sections_of, total, ends_element, ends_line}
use Rattle.fields.specs.Laws.SectionLaws.{line-head, line-terms, line-middle, line-ones, line-tail}
use Rattle.fields.specs.Place.{field_width, place}
use Rattle.sheet.specs.Layout.{copies, elements, fields, body_lines}
use Rattle.sheet.specs.Laws.LayoutLaws.{ends_of, fields-append, fields-copies, fields-elements, ends_front, ends_back, ends_elements, ends_term_lem}
use Rattle.sheet.specs.Laws.BodyLaws.{middle_part, term_part, body_merged}
use Rattle.sheet.specs.Reading.{header_sections}
use Rattle.fields.specs.Field.{header_bytes}

-- ---- past some lines, or among them

before : (xs ys : List ℕ) (n i : ℕ) → fields xs ≡ n → i < n → ends_of (xs ++ ys) i ≡ ends_of xs i
before xs ys n i e h = ends_front xs ys i (omega (arith, e))

past : (xs ys : List ℕ) (n i : ℕ) → fields xs ≡ n → n ≤ i → ends_of (xs ++ ys) i ≡ ends_of ys (i - n)
past xs ys n i e h = ends_back xs ys i (omega (arith, e)) ∙ ap (λ (k : ℕ). ends_of ys (i - k)) e

one_alone : (i : ℕ) → ends_element 1 i ≡ true
unfolding ends_element
one_alone i = rw (mod-one i) refl

ends_ones : (c i : ℕ) → i < c → ends_of (elements 1 c) i ≡ true
ends_ones c i h = ends_elements 1 c i (omega arith) (rw (mul-one c) h) ∙ one_alone i

module _ (d f H L R O T : ℕ) (p : 0 < d) where
  sections : Sections
  sections = record { d = d; head = H * d; period = f * d + 1; terms = L * (f * d + 1); middle = R * d; ones = O }

  numbers : List ℕ
  numbers = elements 1 O ++ elements d T

  rows : List ℕ
  rows = elements d R ++ numbers

  block : List ℕ
  block = elements d f ++ elements 1 1

  terms : List ℕ
  terms = copies L block ++ rows

  block_size : fields (copies L block) ≡ L * (f * d + 1)
  unfolding block
  block_size =
      fields-copies L block
      ∙ ap (λ (x : ℕ). L * x) (fields-append (elements d f) (elements 1 1) ∙ ap₂ ◌+◌ (fields-elements d f) (fields-elements 1 1))

  one_size : fields (elements 1 O) ≡ O
  one_size = fields-elements 1 O ∙ mul-one O

  module _ (i : ℕ) (h : i < H * d + (L * (f * d + 1) + (R * d + (O + T * d)))) where
    into_terms : H * d ≤ i → ends_of (elements d H ++ terms) i ≡ ends_of terms (i - H * d)
    into_terms k = past (elements d H) terms (H * d) i (fields-elements d H) k

    into_rows : H * d ≤ i → L * (f * d + 1) ≤ i - H * d → ends_of (elements d H ++ terms) i ≡ ends_of rows (i - H * d - L * (f * d + 1))
    unfolding terms
    into_rows k l = into_terms k ∙ past (copies L block) rows (L * (f * d + 1)) (i - H * d) block_size l

    into_numbers : H * d ≤ i → L * (f * d + 1) ≤ i - H * d → R * d ≤ i - H * d - L * (f * d + 1)
        → ends_of (elements d H ++ terms) i ≡ ends_of numbers (i - H * d - L * (f * d + 1) - R * d)
    unfolding rows
    into_numbers k l m = into_rows k l ∙ past (elements d R) numbers (R * d) (i - H * d - L * (f * d + 1)) (fields-elements d R) m

    into_last : H * d ≤ i → L * (f * d + 1) ≤ i - H * d → R * d ≤ i - H * d - L * (f * d + 1)
        → O ≤ i - H * d - L * (f * d + 1) - R * d
        → ends_of (elements d H ++ terms) i ≡ ends_of (elements d T) (i - H * d - L * (f * d + 1) - R * d - O)
    unfolding numbers
    into_last k l m n = into_numbers k l m ∙ past (elements 1 O) (elements d T) O (i - H * d - L * (f * d + 1) - R * d) one_size n

    five_ends : ends_of (elements d H ++ terms) i ≡ ends_line sections i
    unfolding sections terms rows numbers block
    five_ends = first (ltb i (H * d)) refl
      where
        fourth : (t : Bool) → ltb (i - H * d - L * (f * d + 1) - R * d) O ≡ t → H * d ≤ i → L * (f * d + 1) ≤ i - H * d
            → R * d ≤ i - H * d - L * (f * d + 1) → ends_of (elements d H ++ terms) i ≡ ends_line sections i
        fourth true e k l m =
            let small = ltb-true (i - H * d - L * (f * d + 1) - R * d) O e in
            into_numbers k l m ∙ before (elements 1 O) (elements d T) O (i - H * d - L * (f * d + 1) - R * d) one_size small
            ∙ ends_ones O (i - H * d - L * (f * d + 1) - R * d) small ∙ line-ones sections i k l m small
        fourth false e k l m =
            let large = ltb-false (i - H * d - L * (f * d + 1) - R * d) O e in
            line-tail sections i k l m large
            (into_last k l m large ∙ ends_elements d T (i - H * d - L * (f * d + 1) - R * d - O) p (omega arith))

        third : (t : Bool) → ltb (i - H * d - L * (f * d + 1)) (R * d) ≡ t → H * d ≤ i → L * (f * d + 1) ≤ i - H * d
            → ends_of (elements d H ++ terms) i ≡ ends_line sections i
        third true e k l =
            let small = ltb-true (i - H * d - L * (f * d + 1)) (R * d) e in
            line-middle sections i k l small
            (into_rows k l ∙ before (elements d R) numbers (R * d) (i - H * d - L * (f * d + 1)) (fields-elements d R) small
            ∙ ends_elements d R (i - H * d - L * (f * d + 1)) p small)
        third false e k l =
            fourth (ltb (i - H * d - L * (f * d + 1) - R * d) O) refl k l (ltb-false (i - H * d - L * (f * d + 1)) (R * d) e)

        second : (t : Bool) → ltb (i - H * d) (L * (f * d + 1)) ≡ t → H * d ≤ i → ends_of (elements d H ++ terms) i ≡ ends_line sections i
        second true e k =
            let small = ltb-true (i - H * d) (L * (f * d + 1)) e in
            line-terms sections i k small
            (into_terms k ∙ before (copies L block) rows (L * (f * d + 1)) (i - H * d) block_size small ∙ ends_term_lem d f (i - H * d) p L small)
        second false e k = third (ltb (i - H * d - L * (f * d + 1)) (R * d)) refl k (ltb-false (i - H * d) (L * (f * d + 1)) e)

        first : (t : Bool) → ltb i (H * d) ≡ t → ends_of (elements d H ++ terms) i ≡ ends_line sections i
        first true e =
            let small = ltb-true i (H * d) e in
            line-head sections i small (before (elements d H) terms (H * d) i (fields-elements d H) small ∙ ends_elements d H i p small)
        first false e = second (ltb (i - H * d) (L * (f * d + 1))) refl (ltb-false i (H * d) e)

pub body_ends : (s : Sizes) (i : ℕ) → 0 < s.shape.d → i < total s → ends_of (body_lines s) i ≡ ends_line (sections_of s) i
unfolding total sections_of term_size middle_part term_part sections terms rows numbers block
body_ends s i p h =
    rw (body_merged s)
    (five_ends s.shape.d (function_size s.shape.n s.shape.r) (matrix_count s + whole_count s) s.l (row_count s) (ones_count s) (last_count s) p i h)

-- ---- the header

pub header_ends : (i : ℕ) → i < 18 → eqb (suc i) 18 ≡ ends_line header_sections i
unfolding ends_element
header_ends i h = line-head header_sections i h (rw (mod-eq_of_lt h, add-one i) refl)

pub header-place : (k : ℕ) → k ≤ 17 → place (ends_line header_sections) 0 k ≡ 16 * k
unfolding place field_width
header-place zero h = refl
header-place (suc k) h =
    let small : k < 18 = omega arith in
    rw (← header_ends k small, ne_eqb (suc k) 18 (λ e. omega arith)) (omega (arith, header-place k (omega arith)))

pub header-end : place (ends_line header_sections) 0 18 ≡ header_bytes
unfolding place field_width
header-end = rw (header-place 17 (omega arith), ← header_ends 17 (omega arith)) refl
