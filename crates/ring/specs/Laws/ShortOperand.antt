-- Laws of the short operand.
--     short-below                  the test for short elements, by index
--     Counting, raised-..          the loops of src/short.rt that test and raise it: is_short, raise
--     lifted-.., lowered_is        a number, raised
use Rattle.std.specs.Prelude.{◌≡◌, ℕ, ◌+◌, ◌-◌, ◌*◌, ◌/◌, ◌^◌, ◌<◌, ◌≤◌, Bool, true, false, T, ◌⊎◌, List, length, take, drop, ℤ, pos, negsuc, ◌+ℤ◌, neg_ℤ, FitsSigned, ◌==◌, slice_index, slice_index_or, slice_set, unsigned_abs, refl}
use Rattle.std.proofs.Common.{sym, ap, ap₂, ◌∙◌, inl, inr, true≢false, arith, length-set, length-take, get_or-set_same, get_or-set_other, get_or-take, get_or-drop, Fits, eq-eqb, ne_eqb}
use Rattle.std.specs.Int.Signed.{mag, non_neg, yes_non_neg}
use Rattle.std.specs.Int.{w64}
use Rattle.integers.specs.Laws.Bridge.{zarith, bnd, nat_abs_pn, pn_min, add_pn, neg_pn}
use Rattle.integers.specs.Sums.{total}
use Rattle.integers.specs.Laws.SumLaws.{total-add-one, total-summand, total-zeros}
use Rattle.residues.proofs.Laws.RangeLaws.{all_within-at, all_within_of}
use Rattle.ring.specs.Element.{Degree}
use Rattle.ring.specs.Laws.ProductArrays.{le_or_lt, fill}
use Rattle.ring.specs.Short.{lifted, short, Short, Raised, Narrow}

-- ---- the test for short elements

-- the numbers of element p
part_at : (d : ℕ) (xs : List ℤ) (p i : ℕ) → i < d → slice_index_or (take d (drop (p * d) xs)) i (pos 0) ≡ slice_index_or xs (p * d + i) (pos 0)
part_at d xs p i h = get_or-take d (drop (p * d) xs) i (pos 0) h ∙ get_or-drop (p * d) xs i (pos 0)

pub short-below : (d : ℕ) (xs : List ℤ) (p : ℕ) → short d xs p ≡ true → Short d xs p
unfolding short
short-below d xs p e =
    record { below = λ i h. omega (arith, all_within-at 4194303 (take d (drop (p * d) xs)) e i, ap unsigned_abs (part_at d xs p i h)) }

short_of : (d : ℕ) (xs : List ℤ) (p : ℕ) → Short d xs p → short d xs p ≡ true
unfolding short
short_of d xs p s =
    all_within_of 4194303 (take d (drop (p * d) xs)) (λ i h.
    let inside : i < d = omega (arith, length-take d (drop (p * d) xs)) in
    omega (arith, s.below i inside, ap unsigned_abs (part_at d xs p i inside)))

-- ---- is_short: the sum of what the numbers hold of 2^22

pub record Counting (d : ℕ) (xs : List ℤ) (p excess i : ℕ) : Type 0 where
  pub within : i ≤ d
  pub is : excess ≡ total i (λ j. unsigned_abs (slice_index_or xs (p * d + j) (pos 0)) / 4194304)
  pub small : excess ≤ i * 512

pub counting_start : (d : ℕ) (xs : List ℤ) (p : ℕ) → Counting d xs p 0 0
unfolding total
counting_start d xs p = record { within = omega arith; is = refl; small = omega arith }

pub counting_step : {d : ℕ} {xs : List ℤ} {p excess i m : ℕ} → Counting d xs p excess i → i < d
    → m ≡ unsigned_abs (slice_index_or xs (p * d + i) (pos 0)) → m ≤ 2147483648 → Counting d xs p (excess + m / 4194304) (i + 1)
counting_step {d} {xs} {p} {excess} {i} r h e small =
    record {
      within = omega arith;
      is = ap₂ ◌+◌ r.is (ap (λ t. t / 4194304) e) ∙ sym (total-add-one i (λ j. unsigned_abs (slice_index_or xs (p * d + j) (pos 0)) / 4194304));
      small = omega (arith, r.small);
    }

pub counting_end : {d : ℕ} {xs : List ℤ} {p excess i : ℕ} → Counting d xs p excess i → d ≤ i → (excess == 0) ≡ short d xs p
counting_end {d} {xs} {p} {excess} {i} r h = pick (short d xs p) refl
  where
    held : ℕ → ℕ
    held j = unsigned_abs (slice_index_or xs (p * d + j) (pos 0)) / 4194304

    none-held : Short d xs p → excess ≡ 0
    none-held s = r.is ∙ total-zeros i held (λ j b. omega (arith, s.below j (omega (arith, r.within))))

    all-below : excess ≡ 0 → Short d xs p
    all-below e = record { below = λ j b. omega (arith, r.is, r.within, total-summand i held j (omega arith)) }

    pick : (t : Bool) → short d xs p ≡ t → (excess == 0) ≡ t
    pick true e = eq-eqb excess 0 (none-held (short-below d xs p e))
    pick false e = ne_eqb excess 0 (λ none. true≢false (sym (short_of d xs p (all-below none)) ∙ e))

pub magnitude_small : (x : ℤ) {m : ℕ} → mag x < 2 ^ 31 → m ≡ unsigned_abs x → m ≤ 2147483648
magnitude_small (pos n) h e = omega arith
magnitude_small (negsuc n) h e = omega arith

-- ---- raise: the numbers filled in

pub short-at : {d : ℕ} {xs : List ℤ} {p : ℕ} (i place : ℕ) → Short d xs p → i < d → place ≡ p * d + (d - 1 - i)
    → unsigned_abs (slice_index_or xs place (pos 0)) < 4194304
short-at {d} i place s h e = rw e (s.below (d - 1 - i) (omega arith))

pub raised-start : (d : ℕ) (xs : List ℤ) (p : ℕ) (e : List ℕ) → length e ≡ 129 → Raised d xs p 0 (slice_set e 0 0)
raised-start d xs p e s =
    record {
      size = length-set e 0 0 ∙ s;
      zero = get_or-set_same e 0 0 0 (omega (arith, s));
      front = λ i h. absurd (omega arith);
      back = λ i h. absurd (omega arith);
    }

module _ {d : ℕ} {xs : List ℤ} {p i : ℕ} (degree : Degree d) (h : i < d) where
  pub raised-step : {e : List ℕ} {v w : ℕ} → Raised d xs p i e → v ≡ lifted (slice_index_or xs (p * d + (d - 1 - i)) (pos 0))
      → w ≡ 8388608 - v → Raised d xs p (i + 1) (slice_set (slice_set e (i + 1) v) (d + i + 1) w)
  raised-step {e} {v} {w} r value rest =
      let first : length (slice_set e (i + 1) v) ≡ 129 = length-set e (i + 1) v ∙ r.size in
      record {
        size = length-set (slice_set e (i + 1) v) (d + i + 1) w ∙ first;
        zero =
            get_or-set_other (slice_set e (i + 1) v) (d + i + 1) 0 w 0 (λ g. omega arith)
            ∙ get_or-set_other e (i + 1) 0 v 0 (λ g. omega arith) ∙ r.zero;
        front = λ j b. get_or-set_other (slice_set e (i + 1) v) (d + i + 1) (j + 1) w 0 (λ g. omega arith)
            ∙ fill (λ j. j + 1) (λ j. lifted (slice_index_or xs (p * d + (d - 1 - j)) (pos 0))) e i v (omega (arith, r.size, degree.small)) value
            (λ j b g. omega arith) r.front j b;
        back = fill (λ j. d + j + 1) (λ j. 8388608 - lifted (slice_index_or xs (p * d + (d - 1 - j)) (pos 0))) (slice_set e (i + 1) v) i w (omega (arith, first, degree.small))
            (rest ∙ ap (λ t. 8388608 - t) value) (λ j b g. omega arith)
            (λ j b. get_or-set_other e (i + 1) (d + j + 1) v 0 (λ g. omega arith) ∙ r.back j b);
      }

-- a number below 2^22 in absolute value, raised
pub lifted-small : (x : ℤ) → unsigned_abs x < 4194304 → lifted x ≤ 8388608
unfolding lifted
lifted-small x h =
    omega (zarith, nat_abs_pn x, pn_min x, nat_abs_pn (pos 4194304 +ℤ x), pn_min (pos 4194304 +ℤ x), add_pn (pos 4194304) x)

pub lifted-is : (x : ℤ) → unsigned_abs x < 4194304 → pos (lifted x) ≡ pos 4194304 +ℤ x
unfolding lifted
lifted-is x h =
    omega (zarith, nat_abs_pn x, pn_min x, nat_abs_pn (pos 4194304 +ℤ x), pn_min (pos 4194304 +ℤ x), add_pn (pos 4194304) x)

pub lowered_is : (x : ℤ) → unsigned_abs x < 4194304 → pos (8388608 - lifted x) ≡ pos 4194304 +ℤ neg_ℤ x
unfolding lifted
lowered_is x h =
    omega (
      zarith,
      nat_abs_pn x,
      pn_min x,
      nat_abs_pn (pos 4194304 +ℤ x),
      pn_min (pos 4194304 +ℤ x),
      add_pn (pos 4194304) x,
      add_pn (pos 4194304) (neg_ℤ x),
      neg_pn x,
    )

pub raised-limit : (x : ℤ) {v : ℕ} → v ≡ lifted x → unsigned_abs x < 4194304 → v ≤ 8388608
raised-limit x e h = omega (arith, e, lifted-small x h)

-- the sum 2^22 + x in 64 bits
pub raised-fits : (x : ℤ) → unsigned_abs x < 4194304 → FitsSigned w64 (pos 4194304 +ℤ x)
raised-fits x h = omega (zarith, nat_abs_pn x, pn_min x, bnd (pos 4194304 +ℤ x), add_pn (pos 4194304) x)

pub raised-natural : (x : ℤ) → unsigned_abs x < 4194304 → T (non_neg (pos 4194304 +ℤ x)) × Fits w64 (unsigned_abs (pos 4194304 +ℤ x))
unfolding lifted
raised-natural x h =
    let natural : T (non_neg (pos 4194304 +ℤ x)) =
    yes_non_neg {z = pos 4194304 +ℤ x} (omega (zarith, nat_abs_pn x, pn_min x, add_pn (pos 4194304) x)) in
    (natural, omega (arith, lifted-small x h))

-- every number of a raised array is small
pub raised-narrow : {d : ℕ} {xs : List ℤ} {p : ℕ} {e : List ℕ} → Short d xs p → Raised d xs p d e → Narrow d e
unfolding Narrow
raised-narrow {d} {xs} {p} {e} s right j b = pick (le_or_lt 1 j) (le_or_lt (d + 1) j)
  where
    pick : (1 ≤ j) ⊎ (j < 1) → (d + 1 ≤ j) ⊎ (j < d + 1) → slice_index e j ≤ 8388608
    pick (inr l) m =
        let none : j ≡ 0 = omega arith in
        rw none (omega (arith, right.zero))
    pick (inl l) (inr m) =
        let place : j - 1 + 1 ≡ j = omega arith in
        let last : d - 1 - (j - 1) < d = omega arith in
        omega (arith, ap (λ t. slice_index e t) place, right.front (j - 1) (omega arith), lifted-small (slice_index_or xs (p * d + (d - 1 - (j - 1))) (pos 0)) (s.below (d - 1 - (j - 1)) last))
    pick (inl l) (inl m) =
        let place : d + (j - d - 1) + 1 ≡ j = omega arith in
        omega (arith, ap (λ t. slice_index e t) place, right.back (j - d - 1) (omega arith))
