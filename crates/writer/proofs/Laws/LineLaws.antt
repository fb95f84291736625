-- Numbers written on lines, field by field.
--     Lined                       the first i numbers are written; its start, its step and its end: `write_header`, `write_lines`
--     HeaderWritten               the first k numbers of the header are written: the loop of `write_header`
--     BodyWritten                 the first i numbers after it are written: the loop of `write_lines`
--     body_field, body-lines      the field of a number, and all lines after the header: `write_lines`, `write_body`
--     header-fits, body-fits, both-written    the header, and the other lines after it: `write_sheet`
use Rattle.std.specs.Prelude.{◌≡◌, Bool, eqb, negsuc, nat_abs}
use Rattle.std.proofs.Math.Path.{refl, sym, ap, subst}
use Rattle.std.proofs.Common.{◌∙◌, add-one, arith, le-ltb}
use Rattle.std.proofs.Math.Bool.{false}
use mathlib.Core.List.{List, ◌++◌}
use Prim.Native.Nat.{ℕ, ◌+◌, ◌*◌, ◌≤◌, ◌<◌}
use Rattle.std.proofs.Math.ListN.{length, get_or, get_or-map}
use Rattle.std.proofs.Math.IntN.{ℤ, pos}
use Rattle.std.specs.Int.Signed.{lt_z}
use Rattle.integers.specs.Over.{over}
use Rattle.integers.specs.Flat.{flat}
use Rattle.integers.specs.Laws.OverLaws.{over-nil, over-over, length_over}
use Rattle.integers.specs.Laws.FlatLaws.{flat-suc}
use Rattle.fold.specs.declared.Sizes.{Sizes}
use Rattle.fields.specs.declared.sizes.Sections.{Sections}
use Rattle.fields.specs.Field.{signed_text, field_text, header_bytes}
use Rattle.fields.specs.Sections.{Sectioned, sections_of, ends_line}
use Rattle.fields.specs.Place.{field_width, feed, place, line_fields}
use Rattle.fields.specs.Laws.PlaceLaws.{place-next, place_mono}
use Rattle.sheet.specs.declared.header.SheetSizes.{SheetSizes}
use Rattle.sheet.specs.Layout.{body_lines, line_text, text_of, sheet_text}
use Rattle.sheet.specs.Reading.{header_sections}
use Rattle.sheet.specs.Laws.BodyLaws.{body-total}
use Rattle.sheet.specs.Laws.EndLaws.{header_ends, header-place, header-end}
use Rattle.sheet.specs.Laws.LayoutLaws.{fields_cong}
use Rattle.sheet.specs.Laws.SheetLaws.{header-fields, body-fields}
use Rattle.writer.specs.Writing.{header_words, header_fields, written_text, text_bytes}
use Rattle.writer.specs.Known.Writing.{Counted, LinesFit}
use Rattle.fields.specs.Laws.WriteLaws.{length-laid}
use Rattle.writer.proofs.Laws.LengthLaws.{line-length, length_fields, sizes-given, fields-place, place_end}

-- the first i numbers of x are written from `at` on, and the next one stands at `here`
pub record Lined (ends : ℕ → Bool) (x : ℕ → ℤ) (at : ℕ) (out₀ out : List ℕ) (here i : ℕ) : Type 0 where
  pub is : out ≡ over out₀ at (line_fields ends x i)
  pub here-is : here ≡ place ends at i
  pub size : length out ≡ length out₀

place-first : (ends : ℕ → Bool) (at : ℕ) → place ends at 0 ≡ at
unfolding place
place-first ends at = refl

module _ (ends : ℕ → Bool) (x : ℕ → ℤ) (at : ℕ) (out₀ : List ℕ) where
  lined_start : Lined ends x at out₀ out₀ at 0
  unfolding line_fields flat place
  lined_start = record { is = sym (over-nil out₀ at); here-is = refl; size = refl }

  module _ {out : List ℕ} {here i : ℕ} (inv : Lined ends x at out₀ out here i) where
    -- the field and its line feed lie within the buffer
    lined_room : {n : ℕ} → i < n → place ends at n ≤ length out₀ → {last : Bool} → last ≡ ends i → here + field_width last ≤ length out
    lined_room {n} h room e =
        let next : here + field_width (ends i) ≡ place ends at (i + 1) = rw inv.here-is (sym (place-next ends at i)) in
        rw e (omega (arith, next, place_mono ends at (i + 1) n (omega arith), inv.size))

    lined_step : {n : ℕ} → i < n → place ends at n ≤ length out₀ → {last : Bool} → last ≡ ends i → (minus : Bool) (m : ℕ)
        → signed_text minus m ≡ field_text (x i) → {out' : List ℕ} → out' ≡ over out here (signed_text minus m ++ feed last)
        → {width : ℕ} → width ≡ field_width last → Lined ends x at out₀ out' (here + width) (i + 1)
    unfolding line_fields
    lined_step {n} h room {last} e minus m f {out'} w {width} v =
        let F : ℕ → List ℕ = λ k. field_text (x k) ++ feed (ends k) in
        let fits : at ≤ length out₀ = omega (arith, room, place_mono ends at 0 n (omega arith), place-first ends at) in
        let here-at : here ≡ at + length (flat i F) = inv.here-is ∙ sym (fields-place ends x at i) in
        let inside : here + length (signed_text minus m ++ feed last) ≤ length out = omega (arith, lined_room h room e, length-laid minus m last) in
        record {
          is =
              w ∙ rw (f, e, inv.is, here-at) (over-over out₀ at (flat i F) (F i) fits)
              ∙ ap (over out₀ at) (sym (flat-suc i F) ∙ ap (λ (k : ℕ). flat k F) (sym (add-one i)));
          here-is = rw (inv.here-is, v, e) (sym (place-next ends at i));
          size = ap length w ∙ length_over out here (signed_text minus m ++ feed last) inside ∙ inv.size;
        }

  lined_end : {out : List ℕ} {here i : ℕ} → Lined ends x at out₀ out here i → (n : ℕ) → i ≡ n → out ≡ over out₀ at (line_fields ends x n)
  lined_end inv n e = inv.is ∙ ap (λ (k : ℕ). over out₀ at (line_fields ends x k)) e

-- ---- the header's line

header-last : (k : ℕ) → k < 18 → eqb (k + 1) 18 ≡ ends_line header_sections k
header-last k h = ap (λ (i : ℕ). eqb i 18) (add-one k) ∙ header_ends k h

-- the first k numbers of the header are written
pub record HeaderWritten (words : List ℕ) (out₀ out : List ℕ) (k : ℕ) : Type 0 where
  pub below : k ≤ 18
  pub lines : Lined (ends_line header_sections) (λ i. pos (get_or words i 0)) 0 out₀ out (place (ends_line header_sections) 0 k) k

module _ (words : List ℕ) where
  pub header-start : (out : List ℕ) → HeaderWritten words out out 0
  unfolding place
  header-start out = record { below = omega arith; lines = lined_start (ends_line header_sections) (λ i. pos (get_or words i 0)) 0 out }

  module _ {out₀ out : List ℕ} {k : ℕ} (inv : HeaderWritten words out₀ out k) (more : k < 18) (room : header_bytes ≤ length out₀) where
    here : place (ends_line header_sections) 0 k ≡ 16 * k
    here = header-place k (omega arith)

    end : place (ends_line header_sections) 0 18 ≤ length out₀
    end = omega (arith, header-end)

    pub header-room : 16 * k + field_width (eqb (k + 1) 18) ≤ length out
    header-room =
        rw (← here)
        (lined_room (ends_line header_sections) (λ i. pos (get_or words i 0)) 0 out₀ inv.lines more end (header-last k more))

    pub header-step : {out' : List ℕ} → out' ≡ over out (16 * k) (signed_text false (get_or words k 0) ++ feed (eqb (k + 1) 18))
        → HeaderWritten words out₀ out' (k + 1)
    unfolding field_text
    header-step {out'} w =
        let ends = ends_line header_sections in
        let x : ℕ → ℤ = λ i. pos (get_or words i 0) in
        let put = w ∙ ap (λ (a : ℕ). over out a (signed_text false (get_or words k 0) ++ feed (eqb (k + 1) 18))) (sym here) in
        let next = lined_step ends x 0 out₀ inv.lines more end (header-last k more) false (get_or words k 0) refl put refl in
        let place-k : place ends 0 k + field_width (eqb (k + 1) 18) ≡ place ends 0 (k + 1) = rw (header-last k more) (sym (place-next ends 0 k)) in
        record {
          below = omega arith;
          lines = subst (λ (a : ℕ). Lined ends x 0 out₀ out' a (k + 1)) place-k next;
        }

  pub header-done : (h : SheetSizes) → words ≡ header_words h → {out₀ out : List ℕ} {k : ℕ} → HeaderWritten words out₀ out k → 18 ≤ k
      → out ≡ over out₀ 0 (line_text (header_fields h))
  unfolding header_fields
  header-done h e {out₀} {k} inv done =
      let ends = ends_line header_sections in
      let same : k ≡ 18 = omega (arith, inv.below) in
      lined_end ends (λ i. pos (get_or words i 0)) 0 out₀ inv.lines 18 same
      ∙ ap (over out₀ 0)
      (fields_cong ends ends (λ i. pos (get_or words i 0)) (λ i. get_or (header_fields h) i (pos 0)) 18 (λ i l. refl)
      (λ i l. rw e (sym (get_or-map pos (header_words h) i 0)))
      ∙ sym (header-fields (header_fields h) (length_fields h)))

-- ---- the other lines

body_field : (x : ℤ) {minus : Bool} {m : ℕ} → minus ≡ lt_z x (pos 0) → m ≡ nat_abs x → signed_text minus m ≡ field_text x
unfolding field_text
body_field (pos n) e f = rw (e, f, le-ltb n 0 (omega arith)) refl
body_field (negsuc n) e f = rw (e, f) refl

-- the first i numbers are written after the header
pub record BodyWritten (ends : ℕ → Bool) (xs : List ℤ) (out₀ out : List ℕ) (here i : ℕ) : Type 0 where
  pub below : i ≤ length xs
  pub lines : Lined ends (λ k. get_or xs k (pos 0)) header_bytes out₀ out here i

module _ (ends : ℕ → Bool) (xs : List ℤ) (out₀ : List ℕ) where
  pub body-start : BodyWritten ends xs out₀ out₀ header_bytes 0
  body-start = record { below = omega arith; lines = lined_start ends (λ k. get_or xs k (pos 0)) header_bytes out₀ }

  module _ {out : List ℕ} {here i : ℕ} (inv : BodyWritten ends xs out₀ out here i) (more : i < length xs) (room : LinesFit ends (length xs) out₀)
      {last : Bool} (told : last ≡ ends i) where
    pub body-room : here + field_width last ≤ length out
    body-room = lined_room ends (λ k. get_or xs k (pos 0)) header_bytes out₀ inv.lines more room told

    pub body-step : (minus : Bool) (m : ℕ) → minus ≡ lt_z (get_or xs i (pos 0)) (pos 0) → m ≡ nat_abs (get_or xs i (pos 0)) → {out' : List ℕ}
        → out' ≡ over out here (signed_text minus m ++ feed last) → {width : ℕ} → width ≡ field_width last
        → BodyWritten ends xs out₀ out' (here + width) (i + 1)
    body-step minus m e f w v = record {
      below = omega arith;
      lines =
          lined_step ends (λ k. get_or xs k (pos 0)) header_bytes out₀ inv.lines more room told minus m (body_field (get_or xs i (pos 0)) e f) w v;
    }

  pub body-done : {out : List ℕ} {here i : ℕ} → BodyWritten ends xs out₀ out here i → length xs ≤ i
      → out ≡ over out₀ header_bytes (line_fields ends (λ k. get_or xs k (pos 0)) (length xs))
  body-done inv done = lined_end ends (λ k. get_or xs k (pos 0)) header_bytes out₀ inv.lines (length xs) (omega (arith, inv.below))

module _ (s : Sizes) (q : Sections) (e : Sectioned s q) (xs : List ℤ) (c : Counted s xs) where
  pub body-lines : line_fields (ends_line q) (λ i. get_or xs i (pos 0)) (length xs) ≡ text_of (body_lines s) xs
  body-lines =
      rw (e.is, c.count)
      (sym (body-fields s c.bounded.shaped.degree.positive xs (c.count ∙ sym (body-total s))))

-- ---- both

pub header-fits : (s : Sizes) {room : ℕ} → text_bytes s ≤ room → header_bytes ≤ room
unfolding text_bytes
header-fits s h = omega (arith, h)

-- the buffer with the header on it has room for the other lines
pub body-fits : (h : SheetSizes) (xs : List ℤ) (out : List ℕ) → Counted h.sizes xs → text_bytes h.sizes ≤ length out → {head : List ℕ}
    → head ≡ over out 0 (line_text (header_fields h)) → LinesFit (ends_line (sections_of h.sizes)) (length xs) head
body-fits h xs out c room {head} e =
    let line : length (line_text (header_fields h)) ≡ header_bytes = omega (arith, line-length (header_fields h), length_fields h) in
    let fits : 0 + length (line_text (header_fields h)) ≤ length out = omega (arith, line, header-fits h.sizes room) in
    let same : length head ≡ length out = ap length e ∙ length_over out 0 (line_text (header_fields h)) fits in
    rw (c.count, same, place_end h.sizes c.bounded.shaped.degree.positive) room

pub both-written : (h : SheetSizes) (xs : List ℤ) (out : List ℕ) {head both : List ℕ} → head ≡ over out 0 (line_text (header_fields h))
    → both ≡ over head header_bytes (text_of (body_lines h.sizes) xs) → both ≡ over out 0 (written_text h xs)
unfolding written_text sheet_text
both-written h xs out e f =
    let head-length : header_bytes ≡ 0 + length (line_text (header_fields h)) = omega (arith, line-length (header_fields h), length_fields h) in
    f ∙ rw (e, head-length, sizes-given h) (over-over out 0 (line_text (header_fields h)) (text_of (body_lines h.sizes) xs) (omega arith))
