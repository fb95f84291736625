-- Laws of what Projected.antt defines.
use Rattle.std.specs.Prelude.{◌≡◌, true, List, ℕ, ◌+◌, ◌-◌, ◌*◌, ◌^◌, ◌<◌, ◌≤◌, take, drop, set, ℤ, pos, nat_abs, ◌+ℤ◌, ◌*ℤ◌}
use Rattle.std.proofs.Math.Path.{refl, sym, ap}
use Rattle.std.proofs.Common.{◌∙◌, zero-mul, length-take, length-drop, get_or-take, get_or-drop, to_z-of_z}
use Rattle.std.proofs.Math.Nat.{zero-add, add-sub_cancel_left}
use native.Mathlib.Omega.{arith}
use Rattle.std.proofs.Math.ListN.{length, get_or, length-set}
use Rattle.std.specs.Int.Signed.{mag}
use mir.Syntax.{w32, w64}
use mir.Val.{SFits, to_z, of_z}
use Rattle.integers.specs.Laws.Bridge.{P, N, pn_min, nat_abs_pn, add_pn, mul-bnd, abs_bnd, zarith}
use Rattle.integers.specs.Lists.{tab}
use Rattle.integers.specs.Laws.ListLaws.{length-tab}
use Rattle.integers.specs.Over.{over}
use Rattle.integers.specs.Laws.OverLaws.{over-nil, over-all, over-tab}
use Rattle.algebra.specs.Integers.{ℤ-ring}
use Rattle.algebra.specs.Sum.{sum}
use Rattle.algebra.specs.Laws.SumLaws.{sum_cong, sum-one-more}
use Rattle.residues.specs.Modulus.{centred}
use Rattle.residues.proofs.Laws.ModulusLaws.{centred-fits}
use Rattle.residues.specs.Range.{projection_entries}
use Rattle.residues.proofs.Laws.RangeLaws.{projection-entries-at}
use Rattle.residues.proofs.Laws.Words.{word}
use Rattle.fold.specs.Messages.{p}
use Rattle.ring.specs.Laws.ElementPlaces.{block-before}
use Rattle.prover.specs.Projected.{dot}

-- one summand more of a sum that is far from the limits
pub summand-fits : (acc x y : ℤ) → nat_abs acc ≤ 4611686018427387904 → nat_abs x ≤ 1 → SFits w32 y → SFits w64 (acc +ℤ x *ℤ y)
summand-fits acc x y h k f =
    let one : P x + N x ≤ 1 = omega (arith, nat_abs_pn x) in
    omega (zarith, nat_abs_pn acc, add_pn acc (x *ℤ y), mul-bnd x y one (abs_bnd f))

-- the summand is below 2^31
summand-bound : (acc x y : ℤ) {n : ℕ} → nat_abs acc ≤ n → nat_abs x ≤ 1 → SFits w32 y → nat_abs (acc +ℤ x *ℤ y) ≤ n + 2147483648
summand-bound acc x y h k f =
    let one : P x + N x ≤ 1 = omega (arith, nat_abs_pn x) in
    let sum = acc +ℤ x *ℤ y in
    omega (arith, nat_abs_pn acc, nat_abs_pn sum, pn_min sum, add_pn acc (x *ℤ y), mul-bnd x y one (abs_bnd f))

-- a projection entry as the loop reads it
pub entry-small : (row : List ℤ) (y : ℕ) → projection_entries row ≡ true → mag (get_or row y (pos 0)) < 2 ^ 31
    → nat_abs (to_z w32 (of_z w32 (get_or row y (pos 0)))) ≤ 1
entry-small row y e h = rw (word (get_or row y (pos 0)) h) (projection-entries-at row e y)

pub record Dotted (row s : List ℤ) (y acc : ℕ) : Type 0 where
  pub within : y ≤ length s
  pub value : acc ≡ of_z w64 (dot row s y)
  pub small : nat_abs (dot row s y) ≤ y * 2147483648

module _ (row s : List ℤ) where
  pub dotted_start : Dotted row s 0 0
  unfolding dot sum
  dotted_start = record { within = omega arith; value = refl; small = omega arith }

  dot-next : (y : ℕ) → dot row s (y + 1) ≡ dot row s y +ℤ get_or row y (pos 0) *ℤ get_or s y (pos 0)
  unfolding dot
  dot-next y = sum-one-more ℤ-ring y (λ j. get_or row j (pos 0) *ℤ get_or s j (pos 0))

  module _ (short : length s ≤ 262144) {y acc : ℕ} (sofar : Dotted row s y acc) where
    dot-fits : SFits w64 (dot row s y)
    dot-fits = omega (zarith, nat_abs_pn (dot row s y), sofar.small, sofar.within)

    dotted_read : to_z w64 acc ≡ dot row s y
    dotted_read = ap (to_z w64) sofar.value ∙ to_z-of_z dot-fits

    pub dotted_small : nat_abs (to_z w64 acc) ≤ 4611686018427387904
    dotted_small = rw dotted_read (omega (arith, sofar.small, sofar.within))

    pub dotted_turn : {next : ℤ} → projection_entries row ≡ true → y < length s → mag (get_or row y (pos 0)) < 2 ^ 31
        → mag (get_or s y (pos 0)) < 2 ^ 31
        → next ≡ to_z w64 acc +ℤ to_z w32 (of_z w32 (get_or row y (pos 0))) *ℤ to_z w32 (of_z w32 (get_or s y (pos 0)))
        → Dotted row s (y + 1) (of_z w64 next)
    dotted_turn {next} entries h f g e =
        let x = get_or row y (pos 0) in
        let u = get_or s y (pos 0) in
        let bound = summand-bound (dot row s y) x u sofar.small (projection-entries-at row entries y) (record { sfits = g }) in
        let total : next ≡ dot row s (y + 1) = (rw (dotted_read, word x f, word u g) at e) ∙ sym (dot-next y) in
        record {
          within = omega arith;
          value = ap (λ (v : ℤ). of_z w64 v) total;
          small = rw (dot-next y) (omega (arith, bound));
        }

    pub dotted_end : {r : ℤ} → length s ≤ y → r ≡ centred (to_z w64 acc)
        → r ≡ centred (dot row s (length s))
    dotted_end h e =
        let all : y ≡ length s = omega (arith, sofar.within) in
        e ∙ ap centred dotted_read ∙ rw all

-- p_j, of rows of `size` numbers
unfoldable pub entry : ℕ → List ℤ → List ℤ → ℕ → ℤ
entry size projections s j = centred (sum ℤ-ring size (λ y. get_or projections (j * size + y) (pos 0) *ℤ get_or s y (pos 0)))

pub record Projecting (w : ℕ) (projections s old : List ℤ) (j at : ℕ) (new : List ℤ) : Type 0 where
  pub within : j ≤ w
  pub size : length projections ≡ w * length s
  pub count : length old ≡ w
  pub place : at ≡ j * length s
  pub is : new ≡ over old 0 (tab j (entry (length s) projections s))
  pub same : length new ≡ length old

module _ {w : ℕ} {projections s old : List ℤ} where
  pub projecting-start : length projections ≡ w * length s → length old ≡ w → Projecting w projections s old 0 0 old
  unfolding tab
  projecting-start e f =
      record { within = omega arith; size = e; count = f; place = sym (zero-mul (length s)); is = sym (over-nil old 0); same = refl }

  module _ {j at : ℕ} {new : List ℤ} (sofar : Projecting w projections s old j at new) where
    pub projecting-fit : j < w → at + length s ≤ length projections
    projecting-fit h = omega (arith, block-before (length s) j w h, sofar.place, sofar.size)

    -- row j as it is lent
    pub projecting-part : j < w → length (take (at + length s - at) (drop at projections)) ≡ length s
    projecting-part h = simp (length-take, length-drop, add-sub_cancel_left) (omega (arith, projecting-fit h))

    row-entry : (y : ℕ) → y < length s → get_or (take (at + length s - at) (drop at projections)) y (pos 0) ≡ get_or projections (j * length s + y) (pos 0)
    row-entry y h =
        let inside : y < at + length s - at = omega arith in
        get_or-take (at + length s - at) (drop at projections) y (pos 0) inside
        ∙ get_or-drop at projections y (pos 0)
        ∙ ap (λ (a : ℕ). get_or projections (a + y) (pos 0)) sofar.place

    pub projecting-turn : {v : ℤ} → j < w
        → v ≡ centred (dot (take (at + length s - at) (drop at projections)) s (length s))
        → Projecting w projections s old (j + 1) (at + length s) (set new j (to_z w32 (of_z w32 v)))
    unfolding entry dot
    projecting-turn {v} h e =
        let value : v ≡ entry (length s) projections s j =
        e ∙ ap centred (sum_cong ℤ-ring (length s) _ _ (λ y l. ap (λ (x : ℤ). x *ℤ get_or s y (pos 0)) (row-entry y l))) in
        let held : to_z w32 (of_z w32 v) ≡ entry (length s) projections s j = rw value (to_z-of_z (centred-fits _)) in
        let inside : 0 + j < length old = omega (arith, sofar.count) in
        record {
          within = omega arith;
          size = sofar.size;
          count = sofar.count;
          place = omega (arith, sofar.place);
          is = rw sofar.is (rw zero-add at (over-tab old 0 j (entry (length s) projections s) (to_z w32 (of_z w32 v)) inside held));
          same = length-set new j (to_z w32 (of_z w32 v)) ∙ sofar.same;
        }

    pub projecting-end : (d n r : ℕ) → length s ≡ r * n * d → w ≤ j → new ≡ p d n r w projections s
    unfolding entry p
    projecting-end d n r e h =
        let all : j ≡ w = omega (arith, sofar.within) in
        (rw all at sofar.is)
        ∙ over-all old (tab w (entry (length s) projections s)) (length-tab w _ ∙ sym sofar.count)
        ∙ ap (λ (m : ℕ). tab w (entry m projections s)) e
