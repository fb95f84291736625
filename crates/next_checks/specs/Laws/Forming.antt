-- A constraint while its writer forms it at element `at` of a list: its a, zeros, and the coefficients of z, t, g and h, one piece after the other.
--     over-within, over-end        lists written over a part of what was written before
--     Pieces, put                  a list in pieces, and one of them written anew
--     Forming, cleared, put_a .. put-h     the pieces of a constraint
--     formed, formed-no-a          with φ spread and b written, it is the constraint laid out
use Rattle.std.specs.Prelude.{◌≡◌, Bool, ℕ, suc, ◌+◌, ◌-◌, ◌*◌, ◌<◌, ◌≤◌, ltb, drop, ℤ}
use Rattle.std.proofs.Math.Path.{refl, sym, ap, ap₂}
use Rattle.std.proofs.Common.{◌∙◌, ltb-true, eq-eqb, ne_eqb, eqb-true, length-take, length-drop, length-take-le, take_at, drop_at}
use Rattle.std.proofs.Math.Bool.{true, false, cond}
use mathlib.Core.List.{List, [], ◌∷◌, ◌++◌, append_assoc}
use Rattle.std.proofs.Math.Nat.{add-sub_cancel_left, eq_of_mul-eq-mul_right}
use native.Mathlib.Omega.{arith}
use Rattle.std.proofs.Math.Dec.{eqb}
use Rattle.std.proofs.Math.ListN.{length, get_or, take, length-append}
use Rattle.integers.specs.Over.{over}
use Rattle.integers.specs.Laws.OverLaws.{over-is, over-all, over-over, over_slice, drop-over-add, length_over}
use Rattle.integers.specs.Flat.{flat}
use Rattle.integers.specs.Laws.FlatLaws.{flat_cong, flat-at, flat_append}
use Rattle.algebra.specs.Triangle.{start, pairs-count}
use Rattle.algebra.specs.Laws.Tables.{length-flat-start}
use Rattle.algebra.specs.Laws.TriangleLaws.{start_mono}
use Rattle.ring.specs.Element.{R, Degree, el, coeffs, array}
use Rattle.ring.specs.Laws.ElementLaws.{take-array, length-coeffs}
use Rattle.ring.specs.Laws.ElementPlaces.{el_overs}
use Rattle.fold.specs.declared.Sizes.{Sizes}
use Rattle.fold.specs.Sizes.{pairs, t_size, garbage_size}
use Rattle.fold.specs.Messages.{elements}
use Rattle.fold.specs.PairElements.{pair_elements}
use Rattle.fold.specs.Laws.ChunkLaws.{start-scale}
use Rattle.fold.proofs.Laws.Layout.{length_triangle}
use Rattle.fold.proofs.Laws.WriterLaws.{length-elements, flat_start}
use Rattle.fold.specs.Constraint.{Constraint, φ', laid_out}
use Rattle.fold.specs.NextInstance.{no-a}
use Rattle.next_checks.specs.declared.cut.Cut.{Cut}
use Rattle.next_checks.specs.Known.Facts.{CutFacts}
use Rattle.next_constraints.specs.Blocks.{numbers}
use Rattle.next_checks.specs.Spread.{chunk_entry, widths, spread_entry}
use Rattle.next_checks.specs.Checks.{laid}
use Rattle.next_constraints.specs.Laws.BlockLaws.{numbers-append, length-numbers, el-numbers}
use Rattle.next_checks.specs.Laws.SpreadLaws.{length_spread}
use Rattle.next_checks.specs.Laws.CutLaws.{pairs_first, pairs-room, h-end, all-parts}

-- ---- lists written over a part of what was written before

module _ {ℓ} {A : Type ℓ} where
  -- over the middle of it
  pub over-within : (out : List A) (a : ℕ) (xs ys zs ys' : List A) → a ≤ length out → length ys' ≡ length ys
      → over (over out a (xs ++ (ys ++ zs))) (a + length xs) ys' ≡ over out a (xs ++ (ys' ++ zs))
  over-within out a xs ys zs ys' h e =
      let rest = drop (a + length (xs ++ (ys ++ zs))) out in
      let front = take a out ++ xs in
      let before : length front ≡ a + length xs = length-append (take a out) xs ∙ ap (λ (n : ℕ). n + length xs) (length-take-le a out h) in
      let past : length (front ++ ys) ≡ a + length xs + length ys' = omega (arith, length-append front ys, before, e) in
      let split : over out a (xs ++ (ys ++ zs)) ≡ front ++ (ys ++ (zs ++ rest)) =
      cc (
        over-is out a (xs ++ (ys ++ zs)),
        append_assoc (take a out) xs (ys ++ (zs ++ rest)),
        append_assoc xs (ys ++ zs) rest,
        append_assoc ys zs rest,
      ) in
      let same : a + length (xs ++ (ys' ++ zs)) ≡ a + length (xs ++ (ys ++ zs)) =
      omega (arith, length-append xs (ys' ++ zs), length-append xs (ys ++ zs), length-append ys' zs, length-append ys zs, e) in
      over-is (over out a (xs ++ (ys ++ zs))) (a + length xs) ys'
      ∙ ap₂ (λ (l m : List A). l ++ (ys' ++ m))
      (ap (take (a + length xs)) split ∙ take_at front (ys ++ (zs ++ rest)) (a + length xs) before)
      (ap (drop (a + length xs + length ys')) (split ∙ sym (append_assoc front ys (zs ++ rest)))
      ∙ drop_at (front ++ ys) (zs ++ rest) (a + length xs + length ys') past)
      ∙ cc (
        over-is out a (xs ++ (ys' ++ zs)),
        same,
        append_assoc (take a out) xs (ys' ++ (zs ++ rest)),
        append_assoc xs (ys' ++ zs) rest,
        append_assoc ys' zs rest,
      )

  -- over the end of it, and past it
  over_again : (out : List A) (a : ℕ) (ys zs : List A) → a ≤ length out → length ys ≤ length zs → over (over out a ys) a zs ≡ over out a zs
  over_again out a ys zs h l =
      let more : a + length ys + (length zs - length ys) ≡ a + length zs = omega arith in
      over-is (over out a ys) a zs
      ∙ ap₂ (λ (l m : List A). l ++ (zs ++ m))
      (ap (take a) (over-is out a ys) ∙ take_at (take a out) (ys ++ drop (a + length ys) out) a (length-take-le a out h))
      (rw more at (drop-over-add out a ys (length zs - length ys) h))
      ∙ sym (over-is out a zs)

  pub over-end : (out : List A) (a : ℕ) (xs ys zs : List A) → a + length xs ≤ length out → length ys ≤ length zs
      → over (over out a (xs ++ ys)) (a + length xs) zs ≡ over out a (xs ++ zs)
  over-end out a xs ys zs h l =
      let fits : a ≤ length out = omega arith in
      let kept : a + length xs ≤ length (over out a xs) = rw (length_over out a xs h) h in
      ap (λ (o : List A). over o (a + length xs) zs) (sym (over-over out a xs ys fits))
      ∙ over_again (over out a xs) (a + length xs) ys zs kept l
      ∙ over-over out a xs zs fits

-- ---- a list in pieces

-- n pieces, of w 0, w 1, .. elements, stand one after the other from element `at` on
pub record Pieces (d n : ℕ) (w : ℕ → ℕ) (F : ℕ → List ℤ) (old : List ℤ) (at : ℕ) (new : List ℤ) : Type 0 where
  pub room : (at + start w n) * d ≤ length old
  pub wide : (j : ℕ) → j < n → length (F j) ≡ w j * d
  pub is : new ≡ over old (at * d) (flat n F)

-- piece i replaced
unfoldable pub replaced : (ℕ → List ℤ) → ℕ → List ℤ → ℕ → List ℤ
replaced F i block j = cond (eqb j i) block (F j)

module _ {d n : ℕ} {w : ℕ → ℕ} {F : ℕ → List ℤ} {old : List ℤ} {at : ℕ} {new : List ℤ} (sofar : Pieces d n w F old at new) where
  length_before : (i : ℕ) → i ≤ n → length (flat i F) ≡ start w i * d
  length_before i h = length-flat-start i (λ k. w k * d) F (λ k l. sofar.wide k (omega arith)) ∙ start-scale w d i

  begins : at * d ≤ length old
  begins = omega (arith, sofar.room)

  pub same_size : length new ≡ length old
  same_size = ap length sofar.is ∙ length_over old (at * d) (flat n F) (omega (arith, length_before n (omega arith), sofar.room))

  module _ (i : ℕ) (block : List ℤ) (h : i < n) (long : length block ≡ w i * d) where
    still_wide : (j : ℕ) → j < n → length (replaced F i block j) ≡ w j * d
    unfolding replaced
    still_wide j l = side (eqb j i) refl
      where
        side : (t : Bool) → eqb j i ≡ t → length (cond t block (F j)) ≡ w j * d
        side true e = long ∙ ap (λ (k : ℕ). w k * d) (sym (eqb-true j i e))
        side false e = sofar.wide j l

    others : (j : ℕ) → (j ≡ i → ⊥) → F j ≡ replaced F i block j
    unfolding replaced
    others j e = ap (λ (t : Bool). cond t block (F j)) (sym (ne_eqb j i e))

    itself : block ≡ replaced F i block i
    unfolding replaced
    itself = ap (λ (t : Bool). cond t block (F i)) (sym (eq-eqb i i refl))

    pub put : {p : ℕ} {next : List ℤ} → p ≡ at + start w i → next ≡ over new (p * d) block → Pieces d n w (replaced F i block) old at next
    put {p} place written =
        let rest = flat (n - suc i) (λ j. F (suc i + j)) in
        let here : p * d ≡ at * d + length (flat i F) = rw place (omega (arith, length_before i (omega arith))) in
        record {
          room = sofar.room;
          wide = still_wide;
          is =
              written
              ∙ ap₂ (λ (xs : List ℤ) (k : ℕ). over xs k block) (sofar.is ∙ ap (over old (at * d)) (flat-at n i F h)) here
              ∙ over-within old (at * d) (flat i F) (F i) rest block begins (long ∙ sym (sofar.wide i h))
              ∙ ap (over old (at * d))
              (ap₂ ◌++◌ (flat_cong i _ _ (λ j l. others j (λ e. omega (arith, l, e))))
              (ap₂ ◌++◌ itself (flat_cong (n - suc i) _ _ (λ j _. others (suc i + j) (λ e. omega (arith, e)))))
              ∙ sym (flat-at n i (replaced F i block) h));
        }

-- ---- the pieces of a constraint

unfoldable pub piece_sizes : Sizes → Cut → ℕ → ℕ
piece_sizes s cut j =
    get_or (cut.pairs ∷ (cut.z - cut.pairs) ∷ (cut.tz * s.shape.n) ∷ t_size s.shape.r s.kappa s.t1
    ∷ garbage_size s.shape.r s.t2 ∷ garbage_size s.shape.r s.t1 ∷ []) j 0

abbrev pub Forming : (s : Sizes) (cut : Cut) (F : ℕ → List ℤ) (old : List ℤ) (at : ℕ) (new : List ℤ) → Type 0
Forming s cut F old at new = Pieces s.shape.d 6 (piece_sizes s cut) F old at new

-- all of them zero
unfoldable pub cleared_pieces : (s : Sizes) (cut : Cut) → ℕ → List ℤ
cleared_pieces s cut j = elements s.shape.d (piece_sizes s cut j) (λ _. (R s.shape.d).zero)

module _ (s : Sizes) (cut : Cut) (facts : CutFacts s cut) where
  z_starts : cut.z ≡ start (piece_sizes s cut) 2
  unfolding start piece_sizes
  z_starts = omega (arith, pairs_first s cut facts)

  t_starts : cut.t ≡ start (piece_sizes s cut) 3
  unfolding start piece_sizes
  t_starts = omega (arith, pairs_first s cut facts, facts.t-is)

  g_starts : cut.g ≡ start (piece_sizes s cut) 4
  unfolding start piece_sizes
  g_starts = omega (arith, pairs_first s cut facts, facts.t-is, facts.g-is)

  h_starts : cut.h ≡ start (piece_sizes s cut) 5
  unfolding start piece_sizes
  h_starts = omega (arith, pairs_first s cut facts, facts.t-is, facts.g-is, facts.h-is)

  all_end : cut.size ≡ start (piece_sizes s cut) 6
  unfolding start piece_sizes
  all_end = omega (arith, pairs_first s cut facts, facts.t-is, facts.g-is, facts.h-is, h-end s cut facts)

  pub cleared : (old : List ℤ) (at : ℕ) {new : List ℤ} → (at + cut.size + 1) * s.shape.d ≤ length old
      → new ≡ over old (at * s.shape.d) (elements s.shape.d cut.size (λ _. (R s.shape.d).zero))
      → Forming s cut (cleared_pieces s cut) old at new
  unfolding cleared_pieces elements
  cleared old at fits written =
      let d = s.shape.d in
      record {
        room = rw (← all_end) (omega (arith, fits));
        wide = λ j _. length-elements d (piece_sizes s cut j) (λ _. (R d).zero);
        is =
            written
            ∙ ap (over old (at * d))
            (ap (λ (k : ℕ). flat k (λ _. coeffs d (R d).zero)) all_end ∙ flat_start (piece_sizes s cut) 6 (λ _. coeffs d (R d).zero));
      }

  module _ {F : ℕ → List ℤ} {old : List ℤ} {at : ℕ} {new : List ℤ} (sofar : Forming s cut F old at new) where
    abbrev d : ℕ
    d = s.shape.d

    table-long : (t : List (R d).Carrier) {k : ℕ} → length t ≡ k → length (numbers d t) ≡ k * d
    table-long t e = length-numbers d t ∙ ap (λ (k : ℕ). k * d) e

    pub put_a : {next : List ℤ} (es : List ℤ) → length es ≡ cut.pairs * d → next ≡ over new (at * d) es → Forming s cut (replaced F 0 es) old at next
    unfolding start piece_sizes
    put_a es long written = put sofar 0 es (omega arith) long (omega arith) written

    pub put-z : {next : List ℤ} (zs : List (R d).Carrier) → length zs ≡ cut.tz * s.shape.n → next ≡ over new ((at + cut.z) * d) (numbers d zs)
        → Forming s cut (replaced F 2 (numbers d zs)) old at next
    unfolding piece_sizes
    put-z zs long written = put sofar 2 (numbers d zs) (omega arith) (table-long zs long) (ap (λ (k : ℕ). at + k) z_starts) written

    pub put-t : {next : List ℤ} (ts : List (R d).Carrier) → length ts ≡ t_size s.shape.r s.kappa s.t1 → next ≡ over new ((at + cut.t) * d) (numbers d ts)
        → Forming s cut (replaced F 3 (numbers d ts)) old at next
    unfolding piece_sizes
    put-t ts long written = put sofar 3 (numbers d ts) (omega arith) (table-long ts long) (ap (λ (k : ℕ). at + k) t_starts) written

    pub put-g : {next : List ℤ} (gs : List (R d).Carrier) → length gs ≡ garbage_size s.shape.r s.t2 → next ≡ over new ((at + cut.g) * d) (numbers d gs)
        → Forming s cut (replaced F 4 (numbers d gs)) old at next
    unfolding piece_sizes
    put-g gs long written = put sofar 4 (numbers d gs) (omega arith) (table-long gs long) (ap (λ (k : ℕ). at + k) g_starts) written

    pub put-h : {next : List ℤ} (hs : List (R d).Carrier) → length hs ≡ garbage_size s.shape.r s.t1 → next ≡ over new ((at + cut.h) * d) (numbers d hs)
        → Forming s cut (replaced F 5 (numbers d hs)) old at next
    unfolding piece_sizes
    put-h hs long written = put sofar 5 (numbers d hs) (omega arith) (table-long hs long) (ap (λ (k : ℕ). at + k) h_starts) written

-- the room of a, and its length
pub a-room : (s : Sizes) (cut : Cut) → CutFacts s cut → (at : ℕ) {len : ℕ} → (at + cut.size + 1) * s.shape.d ≤ len
    → at * s.shape.d + cut.pairs * s.shape.d ≤ len
a-room s cut facts at fits = omega (arith, ap (λ (k : ℕ). k * s.shape.d) (pairs-room s cut facts), fits)

pub length-a : (s : Sizes) (cut : Cut) → CutFacts s cut → (x : ℕ → ℕ → (R s.shape.d).Carrier)
    → length (pair_elements s.shape.d cut.parts x) ≡ cut.pairs * s.shape.d
unfolding pair_elements elements pairs
length-a s cut facts x =
    length_triangle cut.parts s.shape.d (λ i j. coeffs s.shape.d (x i j)) (λ i j _ _. length-coeffs s.shape.d (x i j))
    ∙ ap (λ (k : ℕ). k * s.shape.d) (sym facts.pairs_is)

-- numbers that are lent to a callee
pub lent_length {ℓ} : {A : Type ℓ} (new : List A) (a w : ℕ) → a + w ≤ length new → length (take (a + w - a) (drop a new)) ≡ w
lent_length new a w fits = simp (length-take, length-drop, add-sub_cancel_left) (omega (arith, fits))

-- a block as it comes back from a callee that was lent those numbers, and that wrote all of them
pub lent-over {ℓ} : {A : Type ℓ} (new : List A) (a w : ℕ) (es : List A) {block : List A} → a + w ≤ length new → length es ≡ w
    → block ≡ over (take (a + w - a) (drop a new)) 0 es → take a new ++ (block ++ drop (a + w - a) (drop a new)) ≡ over new a es
lent-over new a w es {block} fits long written =
    let part : length (take w (drop a new)) ≡ w = simp (length-take, length-drop) (omega (arith, fits)) in
    let whole : block ≡ es = (rw (add-sub_cancel_left a w) at written) ∙ over-all (take w (drop a new)) es (long ∙ sym part) in
    rw (whole, add-sub_cancel_left a w) (over_slice new a w es long)

-- ---- with φ spread and b written

-- a test that is passed only where x and y are equal
tested {ℓ} : {A : Type ℓ} (t : Bool) (x y z : A) → (t ≡ true → x ≡ y) → cond t x z ≡ cond t y z
tested true x y z e = e refl
tested false x y z e = refl

no_a_standing : (d r : ℕ) → elements d (pairs r) (λ _. (R d).zero) ≡ pair_elements d r (no-a d)
unfolding elements pairs pairs-count pair_elements
no_a_standing d r = flat_start (λ k. r - k) r (λ _. coeffs d (R d).zero)

-- the first of six pieces
first-apart : (F : ℕ → List ℤ) → flat 6 F ≡ F 0 ++ flat 5 (λ j. F (1 + j))
unfolding flat
first-apart F = flat_append 1 5 F

-- the last four of six pieces, as a table
four_tables : (d : ℕ) (F : ℕ → List ℤ) (zs ts gs hs : List (R d).Carrier)
    → F 2 ≡ numbers d zs → F 3 ≡ numbers d ts → F 4 ≡ numbers d gs → F 5 ≡ numbers d hs
    → flat 4 (λ j. F (2 + j)) ≡ numbers d (zs ++ (ts ++ (gs ++ hs)))
unfolding flat
four_tables d F zs ts gs hs z t g h =
    ap₂ ◌++◌ (ap₂ ◌++◌ (ap₂ ◌++◌ z t) g) h
    ∙ append_assoc (numbers d zs ++ numbers d ts) (numbers d gs) (numbers d hs)
    ∙ append_assoc (numbers d zs) (numbers d ts) (numbers d gs ++ numbers d hs)
    ∙ sym (numbers-append d zs (ts ++ (gs ++ hs))
    ∙ ap (λ (xs : List ℤ). numbers d zs ++ xs) (numbers-append d ts (gs ++ hs) ∙ ap (λ (xs : List ℤ). numbers d ts ++ xs) (numbers-append d gs hs)))

module _ {s : Sizes} {cut : Cut} (facts : CutFacts s cut) {F : ℕ → List ℤ} {old : List ℤ} {at : ℕ} {new : List ℤ} (sofar : Forming s cut F old at new)
    (zs ts gs hs : List (R s.shape.d).Carrier) (z-is : F 2 ≡ numbers s.shape.d zs) (t-is : F 3 ≡ numbers s.shape.d ts)
    (g-is : F 4 ≡ numbers s.shape.d gs) (h-is : F 5 ≡ numbers s.shape.d hs) where
  abbrev E : ℕ
  E = s.shape.d

  abbrev table : List (R E).Carrier
  table = zs ++ (ts ++ (gs ++ hs))

  split : flat 6 F ≡ flat 2 F ++ numbers E table
  split = flat_append 2 4 F ∙ ap (λ (xs : List ℤ). flat 2 F ++ xs) (four_tables E F zs ts gs hs z-is t-is g-is h-is)

  length_front : length (flat 2 F) ≡ cut.z * E
  length_front = length_before sofar 2 (omega arith) ∙ ap (λ (k : ℕ). k * E) (sym (z_starts s cut facts))

  length-six : length (flat 6 F) ≡ cut.size * E
  length-six = length_before sofar 6 (omega arith) ∙ ap (λ (k : ℕ). k * E) (sym (all_end s cut facts))

  coefficient : (p : ℕ) → p < length table → el E new (at + cut.z + p) ≡ get_or table p (R E).zero
  coefficient p h =
      let room : (at + cut.size) * E ≤ length old = rw (all_end s cut facts) sofar.room in
      let all : cut.size * E ≡ cut.z * E + length table * E =
      sym length-six ∙ ap length split ∙ length-append (flat 2 F) (numbers E table) ∙ ap₂ ◌+◌ length_front (length-numbers E table) in
      let place : at * E + length (flat 2 F) ≡ (at + cut.z) * E = omega (arith, length_front) in
      let front = over old (at * E) (flat 2 F) in
      let kept : length front ≡ length old = length_over old (at * E) (flat 2 F) (omega (arith, room, all, length_front)) in
      let stands : new ≡ over front ((at + cut.z) * E) (numbers E table) =
      sofar.is
      ∙ ap (over old (at * E)) split
      ∙ sym (over-over old (at * E) (flat 2 F) (numbers E table) (begins sofar))
      ∙ ap (λ (k : ℕ). over front k (numbers E table)) place in
      ap (λ (xs : List ℤ). el E xs (at + cut.z + p)) stands
      ∙ el_overs E front (numbers E table) (at + cut.z) (length table) p (omega (arith, kept, room, all)) (length-numbers E table) h
      ∙ el-numbers E table p h

  length-table : 0 < E → length table ≡ cut.tz * s.shape.n + cut.m
  length-table some =
      let all : length (flat 2 F) + length (numbers E table) ≡ cut.size * E = sym (length-append (flat 2 F) (numbers E table)) ∙ ap length (sym split) ∙ length-six in
      eq_of_mul-eq-mul_right E some (length table) (cut.tz * s.shape.n + cut.m)
      (omega (arith, all, length_front, length-numbers E table, ap (λ (k : ℕ). k * E) facts.z-is))

  part-entry : 0 < E → (p k : ℕ) → p < cut.parts → spread_entry s cut new at p k ≡ φ' E (widths s cut) table p k
  unfolding spread_entry chunk_entry φ'
  part-entry some p k h = tested (ltb k (widths s cut p)) _ _ _ (λ e. inside (ltb-true k (widths s cut p) e))
    where
      inside : k < widths s cut p → el E new (at + cut.z + start (widths s cut) p + k) ≡ get_or table (start (widths s cut) p + k) (R E).zero
      inside l =
          let place : at + cut.z + start (widths s cut) p + k ≡ at + cut.z + (start (widths s cut) p + k) = omega arith in
          let below : start (widths s cut) p + k < length table =
          omega (arith, start_mono (widths s cut) p cut.parts h, all-parts s cut facts, length-table some) in
          ap (el E new) place ∙ coefficient (start (widths s cut) p + k) below

  -- x is the constraint that stands there
  pub formed : (x : Constraint E) {u next : List ℤ} → Degree E → F 0 ≡ pair_elements E cut.parts x.a → x.table ≡ table → u ≡ array E x.constant
      → next ≡ over new ((at + cut.pairs) * E) (flat cut.parts (λ p. elements E cut.rank (spread_entry s cut new at p)) ++ take E u)
      → next ≡ over old (at * E) (laid s cut x)
  unfolding laid_out pair_elements elements
  formed x {u} {next} degree a-is table_is value written =
      let φ = flat cut.parts (λ p. elements E cut.rank (spread_entry s cut new at p)) in
      let rest = flat 5 (λ j. F (1 + j)) in
      let b-is : take E u ≡ coeffs E x.constant = rw value (take-array E x.constant degree.small) in
      let apart : flat 6 F ≡ F 0 ++ rest = first-apart F in
      let long-a : length (F 0) ≡ cut.pairs * E = ap length a-is ∙ length-a s cut facts x.a in
      let long_rest : length (F 0) + length rest ≡ cut.size * E = sym (length-append (F 0) rest) ∙ ap length (sym apart) ∙ length-six in
      let parts = ap (λ (k : ℕ). k * E) (pairs-room s cut facts) in
      let place : (at + cut.pairs) * E ≡ at * E + length (F 0) = omega (arith, long-a) in
      let room : at * E + length (F 0) ≤ length old =
      omega (arith, long_rest, rw (← (all_end s cut facts)) at sofar.room) in
      let shorter : length rest ≤ length (φ ++ take E u) =
      omega (arith, long_rest, long-a, parts, length_spread s cut new at, length-append φ (take E u)) in
      let φ-is : φ ≡ flat cut.parts (λ p. elements E cut.rank (φ' E (widths s cut) x.table p)) =
      flat_cong cut.parts _ _ (λ p h. flat_cong cut.rank _ _ (λ k _. ap (coeffs E) (part-entry degree.positive p k h)))
      ∙ ap (λ (xs : List (R E).Carrier). flat cut.parts (λ p. elements E cut.rank (φ' E (widths s cut) xs p))) (sym table_is) in
      written
      ∙ ap₂ (λ (xs : List ℤ) (k : ℕ). over xs k (φ ++ take E u)) (sofar.is ∙ ap (over old (at * E)) apart) place
      ∙ over-end old (at * E) (F 0) rest (φ ++ take E u) room shorter
      ∙ ap₂ (λ (xs ys : List ℤ). over old (at * E) (xs ++ ys)) a-is (ap₂ ◌++◌ φ-is b-is)

  pub formed-no-a : (x : Constraint E) {u next : List ℤ} → Degree E → F 0 ≡ elements E cut.pairs (λ _. (R E).zero) → x.a ≡ no-a E → x.table ≡ table
      → u ≡ array E x.constant
      → next ≡ over new ((at + cut.pairs) * E) (flat cut.parts (λ p. elements E cut.rank (spread_entry s cut new at p)) ++ take E u)
      → next ≡ over old (at * E) (laid s cut x)
  formed-no-a x degree zero none table_is value written =
      formed x degree
      (zero ∙ ap (λ (k : ℕ). elements E k (λ _. (R E).zero)) facts.pairs_is ∙ no_a_standing E cut.parts ∙ ap (pair_elements E cut.parts) (sym none))
      table_is value written
