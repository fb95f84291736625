-- Laws of what RowGroups.antt defines.
use Rattle.std.specs.Prelude.{◌≡◌, refl, Bool, true, false, List, ℕ, ◌+◌, ◌*◌, ◌/◌, ◌%◌, ◌^◌, ◌≤◌, ◌<◌, T, ltb, length, get_or, set, ℤ, pos, nat_abs, ◌+ℤ◌, ◌-ℤ◌, ◌*ℤ◌}
use Rattle.std.proofs.Common.{sym, ap, ◌∙◌, mul-le-mul_right, arith, length-set, get_or-set_same, get_or-set_other, ltb-true, ltb-false, SFits, to_z, of_z, to_z-of_z}
use Rattle.std.proofs.Math.Arith.{digits_div, digits_mod}
use Rattle.std.specs.Int.Signed.{mag, non_neg, yes_non_neg}
use Rattle.std.specs.Int.{w32, w64}
use Rattle.integers.specs.Laws.Bridge.{P, N, zarith, nat_abs_pn, pn_min, pos_pn, add_pn, sub_pn, abs_bnd, mul-bnd}
use Rattle.residues.specs.Range.{projection_entries}
use Rattle.residues.proofs.Laws.RangeLaws.{all_within-at}
use Rattle.residues.proofs.Laws.Words.{word, held}
use Rattle.constraints.specs.RowGroups.{decode, Coded, Codes, CodesOf, four_sum, Summand, WeightedSum, OmegaSums, omega_sum_count, code_count}
use Rattle.fold.specs.Limits.{most_projections}

pub decode-small : (c : ℕ) → nat_abs (decode c) ≤ 1
unfolding decode
decode-small c = let z = pos (c % 3) -ℤ pos 1 in omega (zarith, nat_abs_pn z, pn_min z, sub_pn (pos (c % 3)) (pos 1))

-- a number by its last digit
digit-div : (c q : ℕ) {m t : ℕ} → t < m → c ≡ q * m + t → c / m ≡ q
digit-div c q {m} h e = ap (λ (x : ℕ). x / m) e ∙ digits_div q h

digit-mod : (c q : ℕ) {m t : ℕ} → t < m → c ≡ q * m + t → c % m ≡ t
digit-mod c q {m} h e = ap (λ (x : ℕ). x % m) e ∙ digits_mod q h

-- a code by its digits
pub coded_by : {x₀ x₁ x₂ x₃ : ℤ} (t₀ t₁ t₂ t₃ c : ℕ) → (t₀ < 3) × (x₀ ≡ pos t₀ -ℤ pos 1) → (t₁ < 3) × (x₁ ≡ pos t₁ -ℤ pos 1)
    → (t₂ < 3) × (x₂ ≡ pos t₂ -ℤ pos 1) → (t₃ < 3) × (x₃ ≡ pos t₃ -ℤ pos 1) → c ≡ t₀ + 3 * t₁ + 9 * t₂ + 27 * t₃ → Coded c x₀ x₁ x₂ x₃
unfolding decode
coded_by t₀ t₁ t₂ t₃ c (h₀, e₀) (h₁, e₁) (h₂, e₂) (h₃, e₃) e =
    let a : c % 3 ≡ t₀ = digit-mod c (t₁ + 3 * t₂ + 9 * t₃) h₀ (omega (arith, e)) in
    let b : c / 3 % 3 ≡ t₁ = rw (digit-div c (t₁ + 3 * t₂ + 9 * t₃) {m = 3} h₀ (omega (arith, e))) (digit-mod _ (t₂ + 3 * t₃) h₁ (omega arith)) in
    let f : c / 9 % 3 ≡ t₂ = rw (digit-div c (t₂ + 3 * t₃) {m = 9} {t = t₀ + 3 * t₁} (omega (arith, h₀, h₁)) (omega (arith, e))) (digit-mod _ t₃ h₂ (omega arith)) in
    let g : c / 27 % 3 ≡ t₃ = rw (digit-div c t₃ {m = 27} {t = t₀ + 3 * t₁ + 9 * t₂} (omega (arith, h₀, h₁, h₂)) (omega (arith, e))) (digit-mod t₃ 0 h₃ (omega arith)) in
    record {
      below = omega (arith, h₀, h₁, h₂, h₃, e);
      first = rw a (sym e₀);
      second = rw b (sym e₁);
      third = rw f (sym e₂);
      fourth = rw g (sym e₃);
    }

pub codes_start : (projections : List ℤ) (at step from : ℕ) (codes : List ℕ) → length codes ≡ code_count → Codes projections at step from codes 0 codes
codes_start projections at step from codes e =
    record { size = e; code = λ y h. let no : ⊥ = omega arith in absurd no; before = λ i h. refl }

pub codes_step : {projections : List ℤ} {at step from : ℕ} {old : List ℕ} {m : ℕ} {new : List ℕ} {c : ℕ} → Codes projections at step from old m new → from + m < code_count
    → Coded c (get_or projections (at + m) (pos 0)) (get_or projections (at + m + step) (pos 0)) (get_or projections (at + m + step + step) (pos 0))
    (get_or projections (at + m + step + step + step) (pos 0))
    → Codes projections at step from old (m + 1) (set new (from + m) c)
codes_step {projections} {at} {step} {from} {m} {new} {c} sofar inside coded =
    record {
      size = length-set new (from + m) c ∙ sofar.size;
      code = λ y h. place y h (ltb y m) refl;
      before = λ i h. get_or-set_other new (from + m) i c 0 (λ e. omega arith) ∙ sofar.before i h;
    }
  where
    place : (y : ℕ) → y < m + 1 → (t : Bool) → ltb y m ≡ t
        → Coded (get_or (set new (from + m) c) (from + y) 0) (get_or projections (at + y) (pos 0)) (get_or projections (at + y + step) (pos 0))
        (get_or projections (at + y + step + step) (pos 0)) (get_or projections (at + y + step + step + step) (pos 0))
    place y h true e =
        let less : y < m = ltb-true y m e in
        rw (get_or-set_other new (from + m) (from + y) c 0 (λ e. omega arith)) (sofar.code y less)
    place y h false e =
        let same : y ≡ m = omega (arith, h, ltb-false y m e) in
        rw (same, get_or-set_same new (from + m) c 0 (omega (arith, inside, sofar.size))) coded

pub groups_start : (d m : ℕ) (projections : List ℤ) (e : ℕ) (codes : List ℕ) → length codes ≡ code_count → CodesOf d m projections e 0 codes
groups_start d m projections e codes h = record { size = h; code = λ g y l b. let no : ⊥ = omega arith in absurd no }

pub groups_step : {d m : ℕ} {projections : List ℤ} {e g : ℕ} {codes new : List ℕ} → d ≤ 64 → CodesOf d m projections e g codes
    → Codes projections ((g * 4 * m + e) * d) (m * d) (g * 64) codes d new → CodesOf d m projections e (g + 1) new
groups_step {d} {m} {projections} {e} {g} {codes} {new} small sofar written =
    record { size = written.size; code = λ h y l b. place h y l b (ltb h g) refl }
  where
    place : (h y : ℕ) → h < g + 1 → y < d → (t : Bool) → ltb h g ≡ t
        → Coded (get_or new (h * 64 + y) 0) (get_or projections ((h * 4 * m + e) * d + y) (pos 0)) (get_or projections ((h * 4 * m + e) * d + y + m * d) (pos 0))
        (get_or projections ((h * 4 * m + e) * d + y + m * d + m * d) (pos 0)) (get_or projections ((h * 4 * m + e) * d + y + m * d + m * d + m * d) (pos 0))
    place h y l b true q =
        let less : h < g = ltb-true h g q in
        rw (written.before (h * 64 + y) (omega (arith, less, b, small))) (sofar.code h y less b)
    place h y l b false q =
        let same : h ≡ g = omega (arith, l, ltb-false h g q) in
        rw same (written.code y b)

-- ---- the leaves

pub digit-fits : (x : ℤ) → nat_abs x ≤ 1 → SFits w32 (x +ℤ pos 1)
digit-fits x h = omega (zarith, h, nat_abs_pn x, add_pn x (pos 1))

pub digit-natural : (x : ℤ) → nat_abs x ≤ 1 → T (non_neg (x +ℤ pos 1))
digit-natural x h = yes_non_neg {z = x +ℤ pos 1} (omega (zarith, h, nat_abs_pn x, add_pn x (pos 1)))

pub digit_value : (x : ℤ) → nat_abs x ≤ 1 → (nat_abs (x +ℤ pos 1) < 3) × (x ≡ pos (nat_abs (x +ℤ pos 1)) -ℤ pos 1)
digit_value x h =
    let z = x +ℤ pos 1 in
    let n = nat_abs z in (
      omega (zarith, h, nat_abs_pn x, nat_abs_pn z, pn_min z, add_pn x (pos 1)),
      omega (zarith, h, nat_abs_pn x, nat_abs_pn z, pn_min x, pn_min z, add_pn x (pos 1), pos_pn n, sub_pn (pos n) (pos 1)),
    )

pub decode-fits : (c : ℕ) → SFits w32 (decode c)
decode-fits c = omega (zarith, decode-small c, nat_abs_pn (decode c))

pub signed_fits : (a x y : ℤ) → nat_abs a < 4611686018427387904 → SFits w32 x → SFits w32 y → SFits w64 (a +ℤ (x *ℤ y))
signed_fits a x y g h k = omega (zarith, nat_abs_pn a, add_pn a (x *ℤ y), mul-bnd x y (abs_bnd h) (abs_bnd k))

-- an entry that was tested, read back from its bits
pub entry-one : (projections : List ℤ) (i : ℕ) → projection_entries projections ≡ true → mag (get_or projections i (pos 0)) < 2 ^ 31
    → nat_abs (to_z w32 (of_z w32 (get_or projections i (pos 0)))) ≤ 1
unfolding projection_entries
entry-one projections i tested read = rw (word (get_or projections i (pos 0)) read) (all_within-at 1 projections tested i)

-- ---- weighted sums

-- one product more
pub weighed : (a c x : ℤ) (b : ℕ) → nat_abs a ≤ b → SFits w32 c → nat_abs x ≤ 1 → nat_abs (a +ℤ (c *ℤ x)) ≤ b + 2147483648
weighed a c x b h fits one =
    let s = a +ℤ (c *ℤ x) in
    let product : P (c *ℤ x) + N (c *ℤ x) ≤ 2147483648 * 1 = mul-bnd c x (abs_bnd fits) (rw (nat_abs_pn x) at one) in
    rw (nat_abs_pn s) (omega (zarith, h, nat_abs_pn a, add_pn a (c *ℤ x), pn_min s, product))

-- what `add_signed` returns, on numbers read back from their bits
pub summand_of : (ω : List ℤ) (at c : ℕ) (a x : ℤ) {r : ℤ} → mag (get_or ω at (pos 0)) < 2 ^ 31 → mag x < 2 ^ 31 → x ≡ decode c → mag r < 2 ^ 63
    → r ≡ a +ℤ (to_z w32 (of_z w32 (get_or ω at (pos 0))) *ℤ to_z w32 (of_z w32 x)) → Summand ω at c a (held r)
summand_of ω at c a x {r} read fits is ok e =
    let weight = get_or ω at (pos 0) in
    let value : held r ≡ a +ℤ (weight *ℤ decode c) =
    to_z-of_z {w = w64} {z = r} (record { sfits = ok }) ∙ e ∙ rw (word weight read, word x fits, is) refl
    in
    record {
      value = value;
      small = rw value (weighed a weight (decode c) (nat_abs a) (omega arith) (record { sfits = read }) (decode-small c));
    }

-- the sums that four calls return, each read back from its bits
pub four_summands : (ω : List ℤ) (at c : ℕ) {s₀ s₁ s₂ s₃ : ℤ} → mag s₀ < 2 ^ 63 → mag s₁ < 2 ^ 63 → mag s₂ < 2 ^ 63
    → Summand ω at c (pos 0) s₀ → Summand ω (at + 1) (c / 3) (held s₀) s₁ → Summand ω (at + 2) (c / 9) (held s₁) s₂
    → Summand ω (at + 3) (c / 27) (held s₂) s₃ → WeightedSum ω at c s₃
unfolding four_sum
four_summands ω at c {s₀} {s₁} {s₂} {s₃} f₀ f₁ f₂ a₀ a₁ a₂ a₃ =
    let h₀ : held s₀ ≡ s₀ = to_z-of_z {w = w64} {z = s₀} (record { sfits = f₀ }) in
    let h₁ : held s₁ ≡ s₁ = to_z-of_z {w = w64} {z = s₁} (record { sfits = f₁ }) in
    let h₂ : held s₂ ≡ s₂ = to_z-of_z {w = w64} {z = s₂} (record { sfits = f₂ }) in
    let v₁ = rw h₀ at a₁.value in
    let v₂ = rw h₁ at a₂.value in
    let v₃ = rw h₂ at a₃.value in
    let b₁ = rw h₀ at a₁.small in
    let b₂ = rw h₁ at a₂.small in
    let b₃ = rw h₂ at a₃.small in
    record { value = rw (v₃, v₂, v₁, a₀.value) refl; small = omega (arith, a₀.small, b₁, b₂, b₃) }

-- ---- the table

pub record Tabled (w : ℕ) (ω : List ℤ) (i : ℕ) (omega_sums : List ℤ) : Type 0 where
  pub within : i ≤ w / 4 * 405
  pub size : length omega_sums ≡ omega_sum_count
  pub entry : (j : ℕ) → j < i → WeightedSum ω (j % 5 * w + j / 5 / 81 * 4) (j / 5 % 81) (get_or omega_sums j (pos 0))

pub tabled_start : (w : ℕ) (ω omega_sums : List ℤ) → length omega_sums ≡ omega_sum_count → Tabled w ω 0 omega_sums
tabled_start w ω omega_sums e = record { within = omega arith; size = e; entry = λ j h. let no : ⊥ = omega arith in absurd no }

module _ {w : ℕ} {ω omega_sums : List ℤ} {i : ℕ} (tabled : Tabled w ω i omega_sums) where
  pub tabled_step : {s : ℤ} → w ≤ most_projections → i < w / 4 * 405 → mag s < 2 ^ 63 → WeightedSum ω (i % 5 * w + i / 5 / 81 * 4) (i / 5 % 81) s
      → Tabled w ω (i + 1) (set omega_sums i (to_z w64 (of_z w64 s)))
  tabled_step {s} h l fits is =
      record { within = omega arith; size = length-set omega_sums i _ ∙ tabled.size; entry = λ j b. at_place j b (ltb j i) refl }
    where
      at_place : (j : ℕ) → j < i + 1 → (t : Bool) → ltb j i ≡ t
          → WeightedSum ω (j % 5 * w + j / 5 / 81 * 4) (j / 5 % 81) (get_or (set omega_sums i (to_z w64 (of_z w64 s))) j (pos 0))
      at_place j b true e =
          let before : j < i = ltb-true j i e in
          rw (get_or-set_other omega_sums i j (to_z w64 (of_z w64 s)) (pos 0) (λ e. omega arith)) (tabled.entry j before)
      at_place j b false e =
          let same : j ≡ i = omega (arith, b, ltb-false j i e) in
          let inside : i < length omega_sums = omega (arith, h, l, tabled.size) in
          rw (same, get_or-set_same omega_sums i (to_z w64 (of_z w64 s)) (pos 0) inside, to_z-of_z {w = w64} {z = s} (record { sfits = fits })) is

  pub tabled_end : w / 4 * 405 ≤ i → OmegaSums w ω omega_sums
  tabled_end h = record { entry = λ g c k l b f. place g c k l b f }
    where
      place : (g c k : ℕ) → g < w / 4 → c < 81 → k < 5 → WeightedSum ω (k * w + g * 4) c (get_or omega_sums ((g * 81 + c) * 5 + k) (pos 0))
      place g c k l b f =
          let j = (g * 81 + c) * 5 + k in
          let inside : j < i = omega (arith, h, l, b, f) in
          let number : j / 5 ≡ g * 81 + c = digits_div (g * 81 + c) f in
          rw (digits_mod (g * 81 + c) f, number, digits_mod g b, digits_div g b) at (tabled.entry j inside)

-- ---- the places that the loop reads

-- the weights of the group and the function of number i of the table
pub weights-place : (w i : ℕ) → w ≤ most_projections → i < w / 4 * 405
    → (i % 5 * w ≤ 1024) × (i / 5 / 81 * 4 ≤ 252) × (i % 5 * w + i / 5 / 81 * 4 + 4 ≤ 5 * w)
weights-place w i h l =
    let k : i % 5 ≤ 4 = omega arith in
    let group : i / 5 / 81 < w / 4 = omega (arith, l) in
    let first : i % 5 * w ≤ 4 * w = mul-le-mul_right w k in
    (omega (arith, first, h), omega (arith, group, h), omega (arith, first, group))
