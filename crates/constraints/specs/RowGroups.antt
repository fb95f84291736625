-- The projection rows, four at a time.
--     decode         the entry of which the last digit of a code to base 3 is the digit
--     Coded          a code of four entries
--     Codes, CodesOf    the codes of one group, and of the first groups
--     four_sum        the sum of four entries, each times its weight
--     Summand           one product more in such a sum, with its bound
--     WeightedSum    such a sum at a code, with its bound
--     OmegaSums         the table of these sums; Tabled is the state of the loop that writes it
use Rattle.std.specs.Prelude.{◌≡◌, List, ℕ, ◌+◌, ◌*◌, ◌/◌, ◌%◌, ◌≤◌, ◌<◌, length, get_or, ℤ, pos, nat_abs, ◌+ℤ◌, ◌-ℤ◌, ◌*ℤ◌}

-- codes of an element: a group of four rows and a coefficient have one
abbrev pub code_count : ℕ
code_count = 4096

-- numbers of the table: a group of four rows, a code of four entries and a second function have one
abbrev pub omega_sum_count : ℕ
omega_sum_count = 25920

unfoldable pub decode : ℕ → ℤ
decode c = pos (c % 3) -ℤ pos 1

pub record Coded (c : ℕ) (x₀ x₁ x₂ x₃ : ℤ) : Type 0 where
  pub below : c < 81
  pub first : decode c ≡ x₀
  pub second : decode (c / 3) ≡ x₁
  pub third : decode (c / 9) ≡ x₂
  pub fourth : decode (c / 27) ≡ x₃

-- the first m codes of entries of four rows, from place `from` on
pub record Codes (projections : List ℤ) (at step from : ℕ) (old : List ℕ) (m : ℕ) (new : List ℕ) : Type 0 where
  pub size : length new ≡ code_count
  pub code : (y : ℕ) → y < m
      → Coded (get_or new (from + y) 0) (get_or projections (at + y) (pos 0)) (get_or projections (at + y + step) (pos 0)) (get_or projections (at + y + step + step) (pos 0))
      (get_or projections (at + y + step + step + step) (pos 0))
  pub before : (i : ℕ) → i < from → get_or new i 0 ≡ get_or old i 0

-- the codes of the first groups at element e
pub record CodesOf (d m : ℕ) (projections : List ℤ) (e groups : ℕ) (codes : List ℕ) : Type 0 where
  pub size : length codes ≡ code_count
  pub code : (g y : ℕ) → g < groups → y < d
      → Coded (get_or codes (g * 64 + y) 0) (get_or projections ((g * 4 * m + e) * d + y) (pos 0)) (get_or projections ((g * 4 * m + e) * d + y + m * d) (pos 0))
      (get_or projections ((g * 4 * m + e) * d + y + m * d + m * d) (pos 0)) (get_or projections ((g * 4 * m + e) * d + y + m * d + m * d + m * d) (pos 0))

-- ---- weighted sums

unfoldable pub four_sum : (ω : List ℤ) (at : ℕ) (x₀ x₁ x₂ x₃ : ℤ) → ℤ
four_sum ω at x₀ x₁ x₂ x₃ =
    pos 0
    +ℤ (get_or ω at (pos 0) *ℤ x₀)
    +ℤ (get_or ω (at + 1) (pos 0) *ℤ x₁)
    +ℤ (get_or ω (at + 2) (pos 0) *ℤ x₂)
    +ℤ (get_or ω (at + 3) (pos 0) *ℤ x₃)

-- one summand more
pub record Summand (ω : List ℤ) (at c : ℕ) (a s : ℤ) : Type 0 where
  pub value : s ≡ a +ℤ (get_or ω at (pos 0) *ℤ decode c)
  pub small : nat_abs s ≤ nat_abs a + 2147483648

pub record WeightedSum (ω : List ℤ) (at c : ℕ) (s : ℤ) : Type 0 where
  pub value : s ≡ four_sum ω at (decode c) (decode (c / 3)) (decode (c / 9)) (decode (c / 27))
  pub small : nat_abs s ≤ 8589934592

-- ---- the table

pub record OmegaSums (w : ℕ) (ω omega_sums : List ℤ) : Type 0 where
  pub entry : (g c k : ℕ) → g < w / 4 → c < 81 → k < 5 → WeightedSum ω (k * w + g * 4) c (get_or omega_sums ((g * 81 + c) * 5 + k) (pos 0))
