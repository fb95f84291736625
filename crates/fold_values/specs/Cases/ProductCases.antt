-- SPECIFICATION 7 for the ring product: both sides of "a ring element with a nonzero number past d" and of the range,
-- computed. An element has sixty-four numbers.
use Rattle.std.specs.Prelude.{◌≡◌, refl, List, [], ◌∷◌, map, ℕ, ℤ}
use Rattle.integers.specs.Literals.{+◌, -◌, ◌zeros∷◌}
use Rattle.fold.specs.Arguments.{product_refusal}
use Rattle.fold_values.specs.Cases.Computing.{fold_computes}

-- the numbers of 1 and X², and those of x + 2X
abbrev pub one : List ℤ
one = + 1 ∷ 63 zeros∷ []

abbrev pub third : List ℤ
third = 2 zeros∷ + 1 ∷ 61 zeros∷ []

abbrev pub from : ℤ → List ℤ
from x = x ∷ + 2 ∷ 62 zeros∷ []

pub record ProductCases : Type 0 where
  pub taken : product_refusal 2 (from (+ 1)) (from (+ 1)) ≡ 0
  -- "d not listed", before all else
  pub listed : map (λ (d : ℕ). product_refusal d one one) (2 ∷ 4 ∷ 8 ∷ 16 ∷ 32 ∷ 64 ∷ []) ≡ 0 ∷ 0 ∷ 0 ∷ 0 ∷ 0 ∷ 0 ∷ []
  pub not_listed : map (λ (d : ℕ). product_refusal d one one) (0 ∷ 1 ∷ 3 ∷ 63 ∷ 65 ∷ 128 ∷ []) ≡ 1 ∷ 1 ∷ 1 ∷ 1 ∷ 1 ∷ 1 ∷ []
  pub degree-first : product_refusal 3 (from (+ 2147483599)) third ≡ 1
  -- the third number is past 2, in either factor, and the last is past 32; the third is not past 4, and nothing is past 64
  pub past_2 : product_refusal 2 third one ≡ 8
  pub past_2_right : product_refusal 2 one third ≡ 8
  pub not_past_4 : product_refusal 4 third third ≡ 0
  pub past_32 : product_refusal 32 one (63 zeros∷ - 1 ∷ []) ≡ 8
  pub not_past_64 : product_refusal 64 one (63 zeros∷ - 1 ∷ []) ≡ 0
  -- "2147483599", and the ends of the range
  pub above : product_refusal 2 (from (+ 2147483599)) one ≡ 8
  pub above-right : product_refusal 2 one (from (+ 2147483599)) ≡ 8
  pub below : product_refusal 2 (from (- 2147483599)) one ≡ 8
  pub highest : product_refusal 2 (from (+ 2147483598)) (from (- 2147483598)) ≡ 0

pub product_cases : ProductCases
unfolding fold_computes
product_cases =
    record {
      taken = refl;
      listed = refl;
      not_listed = refl;
      degree-first = refl;
      past_2 = refl;
      past_2_right = refl;
      not_past_4 = refl;
      past_32 = refl;
      not_past_64 = refl;
      above = refl;
      above-right = refl;
      below = refl;
      highest = refl;
    }
