-- Laws of the loops that move the coefficients to their parts.
--     el-past                  elements past what was written
--     entry-inside .. chunk_kept     an element of a chunk, read where the elements before it are written over
--     Spreading                the invariant of the loop over the parts: its start, its turn and its end
use Rattle.std.specs.Prelude.{◌≡◌, ℕ, ◌+◌, ◌-◌, ◌*◌, ◌<◌, ◌≤◌, ltb, length, drop, ℤ}
use Rattle.std.proofs.Math.Path.{refl, sym, ap}
use Rattle.std.proofs.Common.{◌∙◌, mul-le-mul_right, add-sub_of_le, arith, lt-ltb, le-ltb}
use Rattle.std.proofs.Math.Bool.{cond}
use mathlib.Core.List.{List}
use Rattle.std.proofs.Math.Numerals.{add-one}
use Rattle.integers.specs.Over.{over}
use Rattle.integers.specs.Laws.OverLaws.{over-nil, drop-over-add}
use Rattle.integers.specs.Flat.{flat}
use Rattle.integers.specs.Laws.FlatLaws.{flat_cong, length-flat, over-flat}
use Rattle.algebra.specs.Triangle.{start}
use Rattle.algebra.specs.Laws.TriangleLaws.{start-suc}
use Rattle.ring.specs.Element.{R, Degree, el, lift, coeffs, array}
use Rattle.ring.specs.Laws.ElementPlaces.{place-below}
use Rattle.fold.specs.declared.Sizes.{Sizes}
use Rattle.fold.specs.Messages.{elements}
use Rattle.fold.proofs.Laws.WriterLaws.{length-elements}
use Rattle.next_checks.specs.declared.cut.Cut.{Cut}
use Rattle.next_checks.specs.Known.Facts.{CutFacts}
use Rattle.next_checks.specs.Spread.{chunk_entry, widths, spread_entry}
use Rattle.next_checks.specs.Laws.CutLaws.{starts_first, chunk-within, part-within, pairs-room}

-- l holds m elements, written from element a on
pub el-past : (d : ℕ) (old l : List ℤ) (a m p : ℕ) → a * d ≤ length old → length l ≡ m * d → a + m ≤ p → el d (over old (a * d) l) p ≡ el d old p
unfolding el
el-past d old l a m p fits wide h =
    let place : a * d + length l + (p - (a + m)) * d ≡ p * d = spare in
    ap (λ (k : ℕ). lift d (drop k (over old (a * d) l))) (sym place)
    ∙ ap (lift d) (drop-over-add old (a * d) l ((p - (a + m)) * d) fits)
    ∙ ap (λ (k : ℕ). lift d (drop k old)) place
  where
    spare : a * d + length l + (p - (a + m)) * d ≡ p * d
    spare =
        let all : (a + m + (p - (a + m))) * d ≡ p * d = ap (λ (k : ℕ). k * d) (add-sub_of_le h) in
        omega (arith, all, wide)

module _ (d : ℕ) (xs : List ℤ) (first size k : ℕ) where
  pub entry-inside : {u : List ℤ} → k < size → u ≡ array d (el d xs (first + k)) → u ≡ array d (chunk_entry d xs first size k)
  unfolding chunk_entry
  entry-inside h e = rw (lt-ltb k size h) e

  pub entry_padding : {u : List ℤ} → size ≤ k → u ≡ array d (R d).zero → u ≡ array d (chunk_entry d xs first size k)
  unfolding chunk_entry
  entry_padding h e = rw (le-ltb k size h) e

  -- the same element of two lists
  pub chunk-same : (ys : List ℤ) → el d ys (first + k) ≡ el d xs (first + k) → chunk_entry d ys first size k ≡ chunk_entry d xs first size k
  unfolding chunk_entry
  chunk-same ys e = ap (λ u. cond (ltb k size) u (R d).zero) e

-- element k of the chunk, where those before it are moved to elements a, a + 1, ..
pub chunk_kept : (d : ℕ) (old : List ℤ) (first size a k : ℕ) (x : ℕ → (R d).Carrier) {new : List ℤ} → a * d ≤ length old → a ≤ first
    → new ≡ over old (a * d) (flat k (λ i. coeffs d (x i))) → length (flat k (λ i. coeffs d (x i))) ≡ k * d
    → chunk_entry d new first size k ≡ chunk_entry d old first size k
chunk_kept d old first size a k x fits h written wide =
    chunk-same d old first size k _
    (ap (λ (xs : List ℤ). el d xs (first + k)) written ∙ el-past d old _ a k (first + k) fits wide (omega arith))

pub length_spread : (s : Sizes) (cut : Cut) (xs : List ℤ) (at : ℕ)
    → length (flat cut.parts (λ p. elements s.shape.d cut.rank (spread_entry s cut xs at p))) ≡ cut.parts * (cut.rank * s.shape.d)
length_spread s cut xs at =
    length-flat cut.parts (cut.rank * s.shape.d) _ (λ p _. length-elements s.shape.d cut.rank (spread_entry s cut xs at p))

-- ---- the loop over the parts

-- the first i parts are written; the next chunk starts at element `first`, and its part at element `place`
pub record Spreading (s : Sizes) (cut : Cut) (old : List ℤ) (at i first place : ℕ) (new : List ℤ) : Type 0 where
  pub within : i ≤ cut.parts
  pub first-is : first ≡ at + cut.z + start (widths s cut) i
  pub place_is : place ≡ at + cut.pairs + i * cut.rank
  pub room : (at + cut.size) * s.shape.d ≤ length old
  pub is : new ≡ over old ((at + cut.pairs) * s.shape.d) (flat i (λ p. elements s.shape.d cut.rank (spread_entry s cut old at p)))
  pub same : length new ≡ length old

module _ (s : Sizes) (cut : Cut) {old : List ℤ} {at : ℕ} where
  pub spreading_start : (at + cut.size) * s.shape.d ≤ length old → Spreading s cut old at 0 (at + cut.z) (at + cut.pairs) old
  unfolding flat start
  spreading_start fits =
      record {
        within = omega arith;
        first-is = omega arith;
        place_is = omega arith;
        room = fits;
        is = sym (over-nil old ((at + cut.pairs) * s.shape.d));
        same = refl;
      }

  module _ (facts : CutFacts s cut) {i first place : ℕ} {new : List ℤ} (sofar : Spreading s cut old at i first place new) where
    -- the part starts no later than its chunk
    pub spreading_order : place ≤ first
    spreading_order = omega (arith, starts_first s cut facts i sofar.within, sofar.first-is, sofar.place_is)

    within-size : {p : ℕ} → p ≤ at + cut.size → p * s.shape.d ≤ length new
    within-size h = rw sofar.same (omega (arith, mul-le-mul_right s.shape.d h, sofar.room))

    pub spreading_chunk : {size : ℕ} → size ≡ widths s cut i → i < cut.parts → (first + size) * s.shape.d ≤ length new
    spreading_chunk e h = within-size (omega (arith, chunk-within s cut facts i h, sofar.first-is, e))

    pub spreading_part : i < cut.parts → (place + cut.rank) * s.shape.d ≤ length new
    spreading_part h = within-size (omega (arith, part-within s cut facts i h, sofar.place_is))

    pub spreading_below : Degree s.shape.d → at + cut.size ≤ length old
    spreading_below degree = place-below s.shape.d (at + cut.size) degree.positive sofar.room

    part : ℕ → List ℤ
    part p = elements s.shape.d cut.rank (spread_entry s cut old at p)

    long-part : (p : ℕ) → length (part p) ≡ cut.rank * s.shape.d
    unfolding part
    long-part p = length-elements s.shape.d cut.rank (spread_entry s cut old at p)

    written_so_far : length (flat i part) ≡ i * cut.rank * s.shape.d
    written_so_far = omega (arith, length-flat i (cut.rank * s.shape.d) part (λ p _. long-part p))

    front : (at + cut.pairs) * s.shape.d ≤ length old
    front = omega (arith, within-size {p = at + cut.pairs} (omega (arith, pairs-room s cut facts)), sofar.same)

    kept : (k : ℕ) → el s.shape.d new (first + k) ≡ el s.shape.d old (first + k)
    unfolding part
    kept k =
        ap (λ (xs : List ℤ). el s.shape.d xs (first + k)) sofar.is
        ∙ el-past s.shape.d old (flat i part) (at + cut.pairs) (i * cut.rank) (first + k) front written_so_far
        (omega (arith, spreading_order, sofar.place_is))

    this_part : {size : ℕ} → size ≡ widths s cut i → elements s.shape.d cut.rank (chunk_entry s.shape.d new first size) ≡ part i
    unfolding part elements spread_entry
    this_part {size} e =
        flat_cong cut.rank _ _ (λ k _. ap (coeffs s.shape.d) (chunk-same s.shape.d old first size k new (kept k)))
        ∙ rw (sofar.first-is, e) refl

    pub spreading_turn : {size : ℕ} {next : List ℤ} → size ≡ widths s cut i → i < cut.parts → length next ≡ length new
        → next ≡ over new (place * s.shape.d) (elements s.shape.d cut.rank (chunk_entry s.shape.d new first size))
        → Spreading s cut old at (i + 1) (first + size) (place + cut.rank) next
    unfolding part
    spreading_turn {size} {next} e h long written =
        let here : place * s.shape.d ≡ (at + cut.pairs) * s.shape.d + i * (cut.rank * s.shape.d) = rw sofar.place_is (omega arith) in
        record {
          within = omega arith;
          first-is = rw add-one (omega (arith, sofar.first-is, e, start-suc (widths s cut) i));
          place_is = omega (arith, sofar.place_is);
          room = sofar.room;
          is =
              written
              ∙ ap (over new (place * s.shape.d)) (this_part e)
              ∙ ap (λ (xs : List ℤ). over xs (place * s.shape.d) (part i)) sofar.is
              ∙ ap (λ (p : ℕ). over (over old ((at + cut.pairs) * s.shape.d) (flat i part)) p (part i)) here
              ∙ over-flat old ((at + cut.pairs) * s.shape.d) i (cut.rank * s.shape.d) part (λ p _. long-part p) front;
          same = long ∙ sofar.same;
        }

    pub spreading_end : cut.parts ≤ i
        → new ≡ over old ((at + cut.pairs) * s.shape.d) (flat cut.parts (λ p. elements s.shape.d cut.rank (spread_entry s cut old at p)))
    spreading_end h = let all : i ≡ cut.parts = omega (arith, sofar.within) in rw all at sofar.is
