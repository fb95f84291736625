-- The arrays of a product's loops: what each step keeps of the residues, of the extended operand and of the accumulator.
use Rattle.std.specs.Prelude.{◌≡◌, ℕ, ◌+◌, ◌-◌, ◌*◌, ◌<◌, ◌≤◌, Bool, true, false, ◌≢◌, ◌⊎◌, List, length, set, ℤ, pos, FitsSigned, nat_lt, slice_index, slice_index_or, slice_set, refl}
use Rattle.std.proofs.Common.{sym, ap, ap₂, ◌∙◌, inl, inr, eq-or-lt_of_le, length-set, get_or-set_same, Fits, to_z, of_z, to_z-of_z, ltb-true, ltb-false}
use native.Mathlib.Omega.{arith}
use Rattle.std.proofs.Math.Seq.{get_or-set_other}
use Rattle.std.specs.Int.{w32, w64}
use Rattle.integers.specs.Remainder.{emod}
use Rattle.integers.specs.Laws.RemainderLaws.{emod-lt}
use Rattle.algebra.specs.Polynomial.{coeff}
use Rattle.residues.specs.Modulus.{q, Zq}
use Rattle.residues.proofs.Laws.ModulusLaws.{q-value, q-above, red_residue}
use Rattle.ring.specs.Element.{Degree, R, el}
use Rattle.ring.specs.Laws.ElementPlaces.{coeff-el}
use Rattle.ring.specs.Product.{summand, column, most, Residues, Extended, TwoColumns, Room, Added}
use Rattle.ring.specs.Laws.ColumnLaws.{summand-small, folded-most}

pub le_or_lt : (m n : ℕ) → (m ≤ n) ⊎ (n < m)
le_or_lt m n = pick (nat_lt n m) refl
  where
    pick : (t : Bool) → nat_lt n m ≡ t → (m ≤ n) ⊎ (n < m)
    pick true e = inr (ltb-true n m e)
    pick false e = inl (ltb-false n m e)

-- ---- an array that a loop fills, place g i at step i

pub fill : (g f : ℕ → ℕ) (l : List ℕ) (i v : ℕ) → g i < length l → v ≡ f i → ((j : ℕ) → j < i → g j ≢ g i)
    → ((j : ℕ) → j < i → slice_index l (g j) ≡ f j) → (j : ℕ) → j < i + 1 → slice_index (slice_set l (g i) v) (g j) ≡ f j
fill g f l i v h e other before j b = pick (eq-or-lt_of_le below)
  where
    below : j ≤ i
    below = omega arith

    pick : (j ≡ i) ⊎ (j < i) → slice_index (slice_set l (g i) v) (g j) ≡ f j
    pick (inl same) = rw same (get_or-set_same l (g i) v 0 h ∙ e)
    pick (inr less) = get_or-set_other l (g i) (g j) v 0 (other j less) ∙ before j less

-- ---- the coefficients of an element

-- the residue that a load computes, from an element as a call passes it on
pub residue_el : (d : ℕ) (xs : List ℤ) (p i : ℕ) {r at : ℕ} → FitsSigned w32 (slice_index_or xs at (pos 0)) → i < d → at ≡ p * d + i
    → r ≡ emod (to_z w32 (of_z w32 (slice_index_or xs at (pos 0)))) q → r ≡ (coeff Zq (el d xs p) i).val
residue_el d xs p i {r} {at} g h place e =
    e
    ∙ ap (λ z. emod z q) (to_z-of_z {w = w32} {z = slice_index_or xs at (pos 0)} g)
    ∙ ap (λ t. emod (slice_index_or xs t (pos 0)) q) place
    ∙ sym (red_residue _)
    ∙ ap (λ x. x.val) (sym (coeff-el d xs p i h))

pub residue_small : (z : ℤ) {r : ℕ} → r ≡ emod z q → r ≤ 4294967197
residue_small z e = omega (arith, emod-lt q q-above z, q-value)

pub residues_start : (d : ℕ) (u : (R d).Carrier) (a : List ℕ) → length a ≡ 64 → Residues d u 0 a
residues_start d u a e = record { size = e; entry = λ i h. absurd (omega arith) }

module _ {d : ℕ} {u : (R d).Carrier} {i : ℕ} (small : Degree d) (h : i < d) where
  pub residues_step : {a : List ℕ} {v : ℕ} → Residues d u i a → v ≡ (coeff Zq u i).val → Residues d u (i + 1) (slice_set a i v)
  residues_step {a} {v} r e =
      record {
        size = length-set a i v ∙ r.size;
        entry = fill (λ j. j) (λ j. (coeff Zq u j).val) a i v (omega (arith, r.size, small.small)) e (λ j b g. omega arith) r.entry;
      }

  pub extended_step : {e : List ℕ} {v w : ℕ} → Extended d u i e → v ≡ (coeff Zq u (d - 1 - i)).val → w ≡ 4294967197 - v
      → Extended d u (i + 1) (slice_set (slice_set e (i + 1) v) (d + i + 1) w)
  extended_step {e} {v} {w} r at_front at_back =
      let first : length (slice_set e (i + 1) v) ≡ 129 = length-set e (i + 1) v ∙ r.size in
      record {
        size = length-set (slice_set e (i + 1) v) (d + i + 1) w ∙ first;
        front = λ j b. get_or-set_other (slice_set e (i + 1) v) (d + i + 1) (j + 1) w 0 (λ g. omega arith)
            ∙ fill (λ j. j + 1) (λ j. (coeff Zq u (d - 1 - j)).val) e i v (omega (arith, r.size, small.small)) at_front
            (λ j b g. omega arith) r.front j b;
        back = fill (λ j. d + j + 1) (λ j. q - (coeff Zq u (d - 1 - j)).val) (slice_set e (i + 1) v) i w (omega (arith, first, small.small))
            (at_back ∙ ap₂ ◌-◌ (sym q-value) at_front) (λ j b g. omega arith)
            (λ j b. get_or-set_other e (i + 1) (d + j + 1) v 0 (λ g. omega arith) ∙ r.back j b);
      }

pub extended_start : (d : ℕ) (u : (R d).Carrier) (e : List ℕ) → length e ≡ 129 → Extended d u 0 e
extended_start d u e s = record { size = s; front = λ i h. absurd (omega arith); back = λ i h. absurd (omega arith) }

-- ---- an accumulator to which a loop adds two columns a turn

pub column-most : (d : ℕ) (a e : List ℕ) → d ≤ 64 → (start : ℕ) → start ≤ d → column d a e start ≤ most
unfolding column
column-most d a e h start b = folded-most d (summand a e start) h (summand-small a e start)

-- the loop has added columns 0 to k - 1 and half to half + k - 1
pub record Adding (d : ℕ) (col : ℕ → ℕ) (old : List ℕ) (half k : ℕ) (new : List ℕ) : Type 0 where
  pub size : length new ≡ 64
  pub within : k ≤ half
  pub lower : (j : ℕ) → j < k → slice_index new j ≡ slice_index old j + col (d - j)
  pub between : (j : ℕ) → k ≤ j → j < half → slice_index new j ≡ slice_index old j
  pub upper : (j : ℕ) → j < k → slice_index new (half + j) ≡ slice_index old (half + j) + col (d - (half + j))
  pub beyond : (j : ℕ) → half + k ≤ j → slice_index new j ≡ slice_index old j

pub adding_start : (d : ℕ) (col : ℕ → ℕ) (acc : List ℕ) (half : ℕ) → length acc ≡ 64 → Adding d col acc half 0 acc
adding_start d col acc half s =
    record {
      size = s;
      within = omega arith;
      lower = λ j h. absurd (omega arith);
      between = λ j h b. refl;
      upper = λ j h. absurd (omega arith);
      beyond = λ j h. refl;
    }

module _ {d : ℕ} {col : ℕ → ℕ} {old new : List ℕ} {half k x y : ℕ} (r : Adding d col old half k new) (h : k < half) (small : half ≤ 32)
    (found : TwoColumns col (d - k) (d - k - half) x y) where
  first-column : x ≡ col (d - k)
  first-column = found.first

  second-column : y ≡ col (d - (half + k))
  second-column =
      let place : d - k - half ≡ d - (half + k) = omega arith in
      found.second ∙ ap col place

  pub adding_step :
      Adding d col old half (k + 1) (slice_set (slice_set new k (slice_index new k + x)) (half + k) (slice_index (slice_set new k (slice_index new k + x)) (half + k) + y))
  adding_step =
      let once : List ℕ = set new k (slice_index new k + x) in
      let v : ℕ = slice_index new k + x in
      let w : ℕ = slice_index once (half + k) + y in
      let length-once : length once ≡ 64 = length-set new k v ∙ r.size in
      let add-first : v ≡ slice_index old k + col (d - k) = ap₂ ◌+◌ (r.between k (omega arith) h) first-column in
      let add-second : w ≡ slice_index old (half + k) + col (d - (half + k)) =
      ap₂ ◌+◌ (get_or-set_other new k (half + k) v 0 (λ g. omega arith) ∙ r.beyond (half + k) (omega arith)) second-column in
      record {
        size = length-set once (half + k) w ∙ length-once;
        within = omega arith;
        lower = λ j b. get_or-set_other once (half + k) j w 0 (λ g. omega arith)
            ∙ fill (λ j. j) (λ j. slice_index old j + col (d - j)) new k v (omega (arith, r.size)) add-first (λ j b g. omega arith)
            r.lower j b;
        between = λ j b l. get_or-set_other once (half + k) j w 0 (λ g. omega arith)
            ∙ get_or-set_other new k j v 0 (λ g. omega arith) ∙ r.between j (omega arith) l;
        upper = fill (λ j. half + j) (λ j. slice_index old (half + j) + col (d - (half + j))) once k w (omega (arith, length-once)) add-second
            (λ j b g. omega arith) (λ j b. get_or-set_other new k (half + j) v 0 (λ g. omega arith) ∙ r.upper j b);
        beyond = λ j b. get_or-set_other once (half + k) j w 0 (λ g. omega arith)
            ∙ get_or-set_other new k j v 0 (λ g. omega arith) ∙ r.beyond j (omega arith);
      }

  pub first_fits : ((s : ℕ) → s ≤ d → col s ≤ most) → Room old → Fits w64 (slice_index new k + x)
  unfolding most
  first_fits limit room =
      omega (arith, first-column, r.between k (omega arith) h, limit (d - k) (omega arith), room.small k (omega arith))

  pub second_fits : ((s : ℕ) → s ≤ d → col s ≤ most) → Room old → (v : ℕ) → Fits w64 (slice_index (slice_set new k v) (half + k) + y)
  unfolding most
  second_fits limit room v =
      omega (
        arith,
        second-column,
        get_or-set_other new k (half + k) v 0 (λ g. omega arith),
        r.beyond (half + k) (omega arith),
        limit (d - (half + k)) (omega arith),
        room.small (half + k) (omega arith),
      )

module _ {d : ℕ} {col : ℕ → ℕ} {old new : List ℕ} {half k : ℕ} (r : Adding d col old half k new) (all : half ≤ k) where
  added-below : (j : ℕ) → j < half + half → (half ≤ j) ⊎ (j < half) → slice_index new j ≡ slice_index old j + col (d - j)
  added-below j b (inr l) = r.lower j (omega arith)
  added-below j b (inl l) =
      let place : half + (j - half) ≡ j = omega arith in
      rw place at (r.upper (j - half) (omega arith))

  pub adding_end : d ≤ half + half → ((s : ℕ) → s ≤ d → col s ≤ most) → Added d col old new
  adding_end enough limit =
      record {
        size = r.size;
        value = λ j b. added-below j (omega arith) (le_or_lt half j);
        small = λ j b. small j (le_or_lt (half + half) j);
      }
    where
      small : (j : ℕ) → (half + half ≤ j) ⊎ (j < half + half) → slice_index new j ≤ slice_index old j + most
      small j (inl l) = omega (arith, r.beyond j (omega (arith, r.within)))
      small j (inr l) = omega (arith, added-below j l (le_or_lt half j), limit (d - j) (omega arith))
