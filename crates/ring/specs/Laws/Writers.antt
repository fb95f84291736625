-- The invariants of loops that write a list from a place on, each with its start, its step and its end; what stands elsewhere stays.
--     Blocks       lists F 0, F 1, .. of one width
--     Elements     elements x 0, x 1, .. by value, each stored as the d numbers of `coeffs`
use Rattle.std.specs.Prelude.{◌≡◌, ℕ, ◌+◌, ◌-◌, ◌*◌, ◌<◌, ◌≤◌, List, ◌++◌, length, take, drop, ℤ}
use Rattle.std.proofs.Math.Path.{refl, sym}
use Rattle.std.proofs.Common.{ap, ◌∙◌, add-mul, zero-mul, zero-add, arith, length-take, length-drop}
use Rattle.std.proofs.Math.Nat.{add-sub_cancel_left}
use Rattle.integers.specs.Over.{over}
use Rattle.integers.specs.Laws.OverLaws.{over-nil, over-all, over_slice, length_over}
use Rattle.integers.specs.Flat.{flat}
use Rattle.integers.specs.Laws.FlatLaws.{length-flat, over-flat}
use Rattle.ring.specs.Element.{R, Degree, coeffs, array}
use Rattle.ring.specs.Laws.ElementLaws.{length-coeffs, take-array}
use Rattle.ring.specs.Laws.ElementPlaces.{block-before, place-below, element-fits}

-- ---- blocks of one width

-- k of n blocks are written from place a on, the next one stands at place `at`
pub record Blocks {A : Type 0} (a n w : ℕ) (F : ℕ → List A) (old : List A) (k at : ℕ) (new : List A) : Type 0 where
  pub within : k ≤ n
  pub place : at ≡ a + k * w
  pub room : a + n * w ≤ length old
  pub is : new ≡ over old a (flat k F)
  pub same : length new ≡ length old

module _ {A : Type 0} {a n w : ℕ} {F : ℕ → List A} {old : List A} where
  pub blocks_start : a + n * w ≤ length old → Blocks a n w F old 0 a old
  unfolding flat
  blocks_start e = record { within = omega arith; place = omega arith; room = e; is = sym (over-nil old a); same = refl }

  module _ {k at : ℕ} {new : List A} (sofar : Blocks a n w F old k at new) where
    pub blocks_fit : k < n → at + w ≤ length new
    blocks_fit h = omega (arith, block-before w k n h, sofar.place, sofar.room, sofar.same)

    -- block k as it is lent to a callee
    pub blocks_part : k < n → length (take (at + w - at) (drop at new)) ≡ w
    blocks_part h = simp (length-take, length-drop, add-sub_cancel_left) (omega (arith, blocks_fit h))

    -- block k is written at place p, and the next one stands at place q
    pub blocks_over : {p q : ℕ} {next : List A} → ((i : ℕ) → length (F i) ≡ w) → k < n → p ≡ at → q ≡ at + w → next ≡ over new p (F k)
        → Blocks a n w F old (k + 1) q next
    blocks_over {p} wide h here there written =
        let place : p ≡ a + k * w = here ∙ sofar.place in
        record {
          within = omega arith;
          place = omega (arith, sofar.place);
          room = sofar.room;
          is = written ∙ rw (sofar.is, place) (over-flat old a k w F (λ i _. wide i) (omega (arith, sofar.room)));
          same = ap length written ∙ length_over new p (F k) (omega (arith, wide k, blocks_fit h)) ∙ sofar.same;
        }

    -- the same as it comes back from a callee
    pub blocks_turn : {next block : List A} → ((i : ℕ) → length (F i) ≡ w) → k < n → block ≡ F k
        → next ≡ take at new ++ (block ++ drop (at + w - at) (drop at new)) → Blocks a n w F old (k + 1) (at + w) next
    blocks_turn wide h e slice =
        blocks_over wide h refl refl (slice ∙ rw (e, add-sub_cancel_left) (over_slice new at w (F k) (wide k)))

    pub blocks_end : n ≤ k → new ≡ over old a (flat n F)
    blocks_end h = let all : k ≡ n = omega (arith, sofar.within) in rw all at sofar.is

-- blocks that fill a list
pub blocks_all : {A : Type 0} {n w : ℕ} {F : ℕ → List A} {old : List A} {k at : ℕ} {new : List A} → Blocks 0 n w F old k at new
    → ((i : ℕ) → length (F i) ≡ w) → length old ≡ n * w → n ≤ k → new ≡ flat n F
blocks_all {n = n} {w} {F} {old} sofar wide size h =
    blocks_end sofar h ∙ over-all old (flat n F) (length-flat n w F (λ i _. wide i) ∙ sym size)

-- ---- elements

-- k of n elements are written, from element a on
pub record Elements (d a n : ℕ) (x : ℕ → (R d).Carrier) (old : List ℤ) (k : ℕ) (new : List ℤ) : Type 0 where
  pub within : k ≤ n
  pub room : (a + n) * d ≤ length old
  pub is : new ≡ over old (a * d) (flat k (λ i. coeffs d (x i)))
  pub same : length new ≡ length old

module _ {d a n : ℕ} {x : ℕ → (R d).Carrier} {old : List ℤ} where
  pub elements-start : (a + n) * d ≤ length old → Elements d a n x old 0 old
  unfolding flat
  elements-start fits = record { within = omega arith; room = fits; is = sym (over-nil old (a * d)); same = refl }

  module _ {k : ℕ} {new : List ℤ} (sofar : Elements d a n x old k new) where
    -- the place of the next element fits a machine word as the list's length does
    pub elements-below : Degree d → a + k ≤ length old
    elements-below degree = omega (arith, place-below d (a + n) degree.positive sofar.room, sofar.within)

    pub elements-fit : {p : ℕ} → p ≡ a + k → k < n → p * d + d ≤ length new
    elements-fit e h = rw (e, sofar.same) (element-fits d a h sofar.room)

    -- element k is stored at element p, as the sixty-four numbers u
    pub elements-turn : {p : ℕ} {next u : List ℤ} → Degree d → p ≡ a + k → k < n → u ≡ array d (x k)
        → next ≡ over new (p * d) (take d u) → Elements d a n x old (k + 1) next
    elements-turn {p} {next} {u} degree e h value stored =
        let numbers : take d u ≡ coeffs d (x k) = rw value (take-array d (x k) degree.small) in
        let wide = length-coeffs d (x k) in
        let at : p * d ≡ a * d + k * d = ap (λ (e : ℕ). e * d) e ∙ add-mul a k d in
        let fits = elements-fit e h in
        record {
          within = omega arith;
          room = sofar.room;
          is =
              rw numbers at stored
              ∙ rw (sofar.is, at) (over-flat old (a * d) k d (λ i. coeffs d (x i)) (λ i _. length-coeffs d (x i)) (omega (arith, sofar.same)));
          same = rw numbers at (ap length stored) ∙ length_over new (p * d) (coeffs d (x k)) (omega arith) ∙ sofar.same;
        }

    pub elements-end : n ≤ k → new ≡ over old (a * d) (flat n (λ i. coeffs d (x i)))
    elements-end h = let all : k ≡ n = omega (arith, sofar.within) in rw all at sofar.is

-- from the beginning of a list on, and a whole list
module _ {d n : ℕ} {x : ℕ → (R d).Carrier} {old : List ℤ} where
  pub elements_start₀ : n * d ≤ length old → Elements d 0 n x old 0 old
  elements_start₀ fits = elements-start (rw (zero-add n) fits)

  module _ {k : ℕ} {new : List ℤ} (sofar : Elements d 0 n x old k new) where
    pub elements_end₀ : n ≤ k → new ≡ over old 0 (flat n (λ i. coeffs d (x i)))
    elements_end₀ h = rw (zero-mul d) at (elements-end sofar h)

    pub elements-all : length old ≡ n * d → n ≤ k → new ≡ flat n (λ i. coeffs d (x i))
    elements-all size h =
        elements_end₀ h
        ∙ over-all old (flat n (λ i. coeffs d (x i))) (length-flat n d (λ i. coeffs d (x i)) (λ i _. length-coeffs d (x i)) ∙ sym size)
