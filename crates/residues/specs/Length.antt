-- SPECIFICATION 2.9: "Squared length is the whole-number sum of squared centred coefficients. It can pass 2^64 and still
-- must be compared rightly." `norm_sq` is the sum; these are the answers of its comparison with a bound.
use Rattle.std.specs.Prelude.{Bool, true, false, Option, Some, None, is_some, ℕ, ◌-◌, leb}

abbrev pub margin_if : Bool → Option ℕ → Option ℕ
margin_if true m = m
margin_if false m = None

-- n against a bound: within, with what is left of the bound, or above
unfoldable pub remaining : ℕ → ℕ → Option ℕ
remaining bound n = margin_if (leb n bound) (Some (bound - n))

-- one more squared length against what is left
unfoldable pub lessened : Option ℕ → ℕ → Option ℕ
lessened (Some rest) n = remaining rest n
lessened None n = None

-- the bound holds
abbrev pub holds : Option ℕ → Bool
holds m = is_some m
