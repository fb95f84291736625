-- An accumulator of 320 sums of 64 bits: number y * 5 + k belongs to coefficient y and second function k.
--     AddedFive    five neighbouring numbers added
--     Cell         one sum, with its bound
--     Turning      the state of a loop over the coefficients, which turns the values F into the values G
use Rattle.std.specs.Prelude.{◌≡◌, List, ℕ, ◌+◌, ◌≤◌, ◌<◌, length, get_or, ℤ, pos, nat_abs, ◌+ℤ◌}

pub record FiveRoom (acc : List ℤ) (at : ℕ) : Type 0 where
  pub size : length acc ≡ 320
  pub inside : at + 5 ≤ 320
  pub small : (k : ℕ) → k < 5 → nat_abs (get_or acc (at + k) (pos 0)) ≤ 549755813888

pub record SmallFive (b : ℕ) (xs : List ℤ) (from : ℕ) : Type 0 where
  pub small : (k : ℕ) → k < 5 → nat_abs (get_or xs (from + k) (pos 0)) ≤ b

-- the first m of the five numbers δ are added
pub record AddedFive (b : ℕ) (δ : ℕ → ℤ) (at : ℕ) (old : List ℤ) (m : ℕ) (new : List ℤ) : Type 0 where
  pub size : length new ≡ 320
  pub inside : (k : ℕ) → k < m → get_or new (at + k) (pos 0) ≡ get_or old (at + k) (pos 0) +ℤ δ k
  pub small : (k : ℕ) → k < m → nat_abs (δ k) ≤ b
  pub before : (i : ℕ) → i < at → get_or new i (pos 0) ≡ get_or old i (pos 0)
  pub after : (i : ℕ) → at + m ≤ i → get_or new i (pos 0) ≡ get_or old i (pos 0)
