-- Laws of what Accumulator.antt defines.
use Rattle.std.specs.Prelude.{◌≡◌, refl, Bool, true, false, List, ℕ, ◌+◌, ◌*◌, ◌^◌, ◌≤◌, ◌<◌, ltb, length, get_or, set, ℤ, pos, nat_abs, ◌+ℤ◌, ◌-ℤ◌, ◌*ℤ◌}
use Rattle.std.proofs.Common.{ap, ◌∙◌, arith, length-set, get_or-set_same, get_or-set_other, ltb-true, ltb-false, SFits, to_z, of_z, to_z-of_z}
use Rattle.std.specs.Int.Signed.{mag, lt_z}
use Rattle.std.specs.Int.{w32, w64}
use Rattle.integers.specs.Laws.Bridge.{P, N, zarith, eq_pn, nat_abs_pn, pn_min, add_pn, sub_pn, mul_pn, abs_bnd, mul-bnd}
use Rattle.residues.specs.Modulus.{centred}
use Rattle.residues.proofs.Laws.Words.{word, held}
use Rattle.ring.specs.Laws.ElementSteps.{bits32-centred}
use Rattle.constraints.specs.Accumulator.{FiveRoom, AddedFive}

-- ---- the leaves

pub plus-fits : (a b : ℤ) → nat_abs a < 4611686018427387904 → nat_abs b < 4611686018427387904 → SFits w64 (a +ℤ b)
plus-fits a b h k = omega (zarith, h, k, nat_abs_pn a, nat_abs_pn b, add_pn a b)

module _ (c x : ℤ) (one : nat_abs x ≤ 1) where
  pub signed_positive : lt_z (pos 0) x ≡ true → c ≡ c *ℤ x
  signed_positive t =
      let is : x ≡ pos 1 = omega (zarith, one, t, nat_abs_pn x) in
      rw is (omega (zarith, mul_pn c (pos 1)))

  pub signed_negative : lt_z x (pos 0) ≡ true → pos 0 -ℤ c ≡ c *ℤ x
  signed_negative t = let is : x ≡ pos 0 -ℤ pos 1 = omega (zarith, one, t, nat_abs_pn x) in
      rw is (omega (zarith, mul_pn c (pos 0 -ℤ pos 1), sub_pn (pos 0) c))

  pub signed_zero : lt_z (pos 0) x ≡ false → lt_z x (pos 0) ≡ false → pos 0 ≡ c *ℤ x
  signed_zero t f = let is : x ≡ pos 0 = omega (zarith, t, f) in
      rw is (omega (zarith, mul_pn c (pos 0)))

pub held_number : (z : ℤ) → mag z < 2 ^ 63 → held z ≡ z
held_number z fits = to_z-of_z {w = w64} {z = z} (record { sfits = fits })

pub held-room : (z : ℤ) {b : ℕ} → mag z < 2 ^ 63 → nat_abs z ≤ b → b ≤ 8589934592 → nat_abs (held z) < 4611686018427387904
held-room z fits h l = rw (held_number z fits) (omega (arith, h, l))

-- a weight times an entry, the weight read back from its bits
pub entry-summand : (ω : List ℤ) (i : ℕ) (x : ℤ) {v : ℤ} → mag (get_or ω i (pos 0)) < 2 ^ 31 → nat_abs x ≤ 1
    → v ≡ to_z w32 (of_z w32 (get_or ω i (pos 0))) *ℤ x → (v ≡ get_or ω i (pos 0) *ℤ x) × (nat_abs (get_or ω i (pos 0) *ℤ x) ≤ 2147483648)
entry-summand ω i x read one e =
    let c = get_or ω i (pos 0) in
    let product : P (c *ℤ x) + N (c *ℤ x) ≤ 2147483648 * 1 =
    mul-bnd c x (abs_bnd {w = w32} {x = c} (record { sfits = read })) (rw (nat_abs_pn x) at one)
    in
    (rw (word c read) at e, rw (nat_abs_pn (c *ℤ x)) (omega (arith, product)))

-- what `modulus::centre` answers on a sum read back from its bits
pub stored-centre : (r z : ℤ) → mag z < 2 ^ 63 → r ≡ centred (to_z w64 (of_z w64 z)) → to_z w32 (of_z w32 r) ≡ centred z
stored-centre r z given e =
    bits32-centred r (to_z w64 (of_z w64 z)) e ∙ ap centred (to_z-of_z {w = w64} {z = z} (record { sfits = given }))

-- ---- five neighbouring numbers

pub five-start : (b : ℕ) (δ : ℕ → ℤ) (at : ℕ) (acc : List ℤ) → length acc ≡ 320 → AddedFive b δ at acc 0 acc
five-start b δ at acc e =
    record {
      size = e;
      inside = λ k h. let no : ⊥ = omega arith in absurd no;
      small = λ k h. let no : ⊥ = omega arith in absurd no;
      before = λ i h. refl;
      after = λ i h. refl;
    }

module _ {b : ℕ} {δ : ℕ → ℤ} {at : ℕ} {old : List ℤ} {m : ℕ} {new : List ℤ} (sofar : AddedFive b δ at old m new) (room : FiveRoom old at)
    (h : m < 5) where
  pub five-room : mag (get_or new (at + m) (pos 0)) < 2 ^ 63 → nat_abs (held (get_or new (at + m) (pos 0))) < 4611686018427387904
  five-room given =
      rw (to_z-of_z {w = w64} {z = get_or new (at + m) (pos 0)} (record { sfits = given }), sofar.after (at + m) (omega arith))
      (omega (arith, room.small m h))

  -- v is what `plus` returns on the number there, read back from its bits, and s
  pub five-step : {v s : ℤ} → mag v < 2 ^ 63 → mag (get_or new (at + m) (pos 0)) < 2 ^ 63 → s ≡ δ m → nat_abs (δ m) ≤ b
      → v ≡ held (get_or new (at + m) (pos 0)) +ℤ s → AddedFive b δ at old (m + 1) (set new (at + m) (held v))
  five-step {v} {s} fits given is bound sum =
      record {
        size = length-set new (at + m) _ ∙ sofar.size;
        inside = λ k l. place k l (ltb k m) refl;
        small = λ k l. bounded k l (ltb k m) refl;
        before = λ i l. get_or-set_other new (at + m) i _ (pos 0) (λ e. omega arith) ∙ sofar.before i l;
        after = λ i l. get_or-set_other new (at + m) i _ (pos 0) (λ e. omega arith) ∙ sofar.after i (omega arith);
      }
    where
      value : held v ≡ get_or old (at + m) (pos 0) +ℤ δ m
      value =
          to_z-of_z {w = w64} {z = v} (record { sfits = fits })
          ∙ sum
          ∙ rw (
            to_z-of_z {w = w64} {z = get_or new (at + m) (pos 0)} (record { sfits = given }),
            is,
            sofar.after (at + m) (omega arith),
          ) refl

      place : (k : ℕ) → k < m + 1 → (t : Bool) → ltb k m ≡ t
          → get_or (set new (at + m) (held v)) (at + k) (pos 0) ≡ get_or old (at + k) (pos 0) +ℤ δ k
      place k l true e =
          let less : k < m = ltb-true k m e in
          get_or-set_other new (at + m) (at + k) _ (pos 0) (λ e. omega arith) ∙ sofar.inside k less
      place k l false e =
          let same : k ≡ m = omega (arith, l, ltb-false k m e) in
          rw same (get_or-set_same new (at + m) _ (pos 0) (omega (arith, sofar.size, room.inside)) ∙ value)

      bounded : (k : ℕ) → k < m + 1 → (t : Bool) → ltb k m ≡ t → nat_abs (δ k) ≤ b
      bounded k l true e = sofar.small k (ltb-true k m e)
      bounded k l false e =
          let same : k ≡ m = omega (arith, l, ltb-false k m e) in
          rw same bound

  -- the machine's sum of the number there and a summand s that it holds
  module _ {s : ℤ} (given : mag (get_or new (at + m) (pos 0)) < 2 ^ 63) (is : s ≡ δ m) (bound : nat_abs (δ m) ≤ b) (room_left : b ≤ 8589934592) where
    pub five_fits : SFits w64 (held (get_or new (at + m) (pos 0)) +ℤ s)
    five_fits = plus-fits _ s (five-room given) (rw is (omega (arith, bound, room_left)))

    pub five_more : AddedFive b δ at old (m + 1) (set new (at + m) (held (held (get_or new (at + m) (pos 0)) +ℤ s)))
    five_more = five-step five_fits.sfits given is bound refl

-- ---- the accumulator

pub record Cell (acc : List ℤ) (i : ℕ) (v : ℤ) (j : ℕ) : Type 0 where
  pub value : get_or acc i (pos 0) ≡ v
  pub small : nat_abs v ≤ j * 2147483648

cell-kept : {acc new : List ℤ} {i : ℕ} {v : ℤ} {j : ℕ} → Cell acc i v j → get_or new i (pos 0) ≡ get_or acc i (pos 0) → Cell new i v j
cell-kept cell e = record { value = e ∙ cell.value; small = cell.small }

cell-more : {acc new : List ℤ} {i : ℕ} {v : ℤ} {j : ℕ} (δ more : ℤ) (n : ℕ) → Cell acc i v j → get_or new i (pos 0) ≡ get_or acc i (pos 0) +ℤ δ
    → nat_abs δ ≤ n * 2147483648 → v +ℤ δ ≡ more → Cell new i more (j + n)
cell-more {v} δ more n cell e bound is =
    record {
      value = e ∙ ap (λ (z : ℤ). z +ℤ δ) cell.value ∙ is;
      small = omega (
        zarith,
        cell.small,
        bound,
        nat_abs_pn v,
        nat_abs_pn δ,
        nat_abs_pn more,
        pn_min more,
        add_pn v δ,
        eq_pn is,
      );
    }

pub record Turning (d : ℕ) (F G : ℕ → ℕ → ℤ) (j more y : ℕ) (acc : List ℤ) : Type 0 where
  pub within : y ≤ d
  pub size : length acc ≡ 320
  pub done : (z k : ℕ) → z < y → k < 5 → Cell acc (z * 5 + k) (G z k) (j + more)
  pub left : (z k : ℕ) → y ≤ z → z < d → k < 5 → Cell acc (z * 5 + k) (F z k) j

module _ {d : ℕ} {F G : ℕ → ℕ → ℤ} {j more y : ℕ} {acc : List ℤ} (turning : Turning d F G j more y acc) (h : y < d) where
  pub turning_room : d ≤ 64 → j ≤ 256 → FiveRoom acc (y * 5)
  turning_room small rows =
      record {
        size = turning.size;
        inside = omega (arith, h, small);
        small = λ k l. let cell = turning.left y k (omega arith) h l in rw cell.value (omega (arith, cell.small, rows));
      }

  pub turning_step : {δ : ℕ → ℤ} {new : List ℤ} → AddedFive (more * 2147483648) δ (y * 5) acc 5 new
      → ((k : ℕ) → k < 5 → F y k +ℤ δ k ≡ G y k) → Turning d F G j more (y + 1) new
  turning_step {δ} {new} added is =
      record {
        within = omega arith;
        size = added.size;
        done = λ z k l b. place z k l b (ltb z y) refl;
        left = λ z k l b f. cell-kept (turning.left z k (omega arith) b f) (added.after (z * 5 + k) (omega arith));
      }
    where
      place : (z k : ℕ) → z < y + 1 → k < 5 → (t : Bool) → ltb z y ≡ t → Cell new (z * 5 + k) (G z k) (j + more)
      place z k l b true e =
          let less : z < y = ltb-true z y e in
          cell-kept (turning.done z k less b) (added.before (z * 5 + k) (omega arith))
      place z k l b false e =
          let same : z ≡ y = omega (arith, l, ltb-false z y e) in
          rw same (cell-more (δ k) (G y k) more (turning.left y k (omega arith) h b) (added.inside k b) (added.small k b) (is k b))
