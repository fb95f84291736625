-- SPECIFICATION 3.1: "Parts s_1..s_r, each n ring elements. A constraint has a_ij for i ≤ j (each pair counted once), vectors φ_i,
-- and b: the sum of a_ij<s_i,s_j> plus the sum of <φ_i,s_i> minus b. K constraints vanish wholly. L others vanish in the constant
-- term only, and their b is a number. A witness solves the statement if both kinds hold and its total squared length is at most β²."
-- Lists are flat, d numbers to an element; constraints stand as on the sheet: a (by i, then j), φ (by part), b.
use Rattle.std.specs.Prelude.{◌≡◌, List, ℕ, ◌+◌, ◌*◌, ◌<◌, ◌≤◌, get_or, drop, ℤ, pos}
use Rattle.integers.specs.Sums.{norm_sq}
use Rattle.algebra.specs.Conjugation.{ct}
use Rattle.algebra.specs.DotProduct.{Function, value}
use Rattle.algebra.specs.Triangle.{pair}
use Rattle.residues.specs.Modulus.{Zq, red}
use Rattle.ring.specs.Element.{R, el}
use Rattle.fold.specs.Sizes.{pairs, function_size}

-- element k of part i of a witness of rank n
unfoldable pub part : (d n : ℕ) (s : List ℤ) → ℕ → ℕ → (R d).Carrier
part d n s i k = el d s (i * n + k)

module _ (d n r : ℕ) where
  -- the function of a constraint that starts where the list does
  abbrev pub function : (xs : List ℤ) → Function (R d)
  function xs = record { a = λ i j. el d xs (pair r i j); φ = λ i k. el d xs (pairs r + (i * n + k)) }

  -- the whole kind: a constraint is its function and one element b
  unfoldable pub whole_at : (xs : List ℤ) → ℕ → List ℤ
  whole_at xs k = drop (k * ((function_size n r + 1) * d)) xs

  unfoldable pub whole_constant : (xs : List ℤ) → ℕ → (R d).Carrier
  whole_constant xs k = el d (whole_at xs k) (function_size n r)

  -- the constant-term kind: a constraint is its function and one number b
  unfoldable pub term_at : (xs : List ℤ) → ℕ → List ℤ
  term_at xs l = drop (l * (function_size n r * d + 1)) xs

  unfoldable pub term_constant : (xs : List ℤ) → ℕ → ℤ
  term_constant xs l = get_or (term_at xs l) (function_size n r * d) (pos 0)

-- what a witness is asked to solve
pub record Relation : Type 0 where
  pub d : ℕ
  pub n : ℕ
  pub r : ℕ
  pub K : ℕ
  pub L : ℕ
  pub bound : ℕ
  pub whole : List ℤ
  pub constant_terms : List ℤ

module _ (𝓢 : Relation) where
  open 𝓢 use {d, n, r, K, L, bound, whole, constant_terms}

  -- "A witness meets all constraints when both kinds hold at it; its length isn't asked."
  pub record Meets (s : List ℤ) : Type 0 where
    pub wholly : (k : ℕ) → k < K
        → value (R d) r n (function d n r (whole_at d n r whole k)) (part d n s) ≡ whole_constant d n r whole k
    pub in_constant_term : (l : ℕ) → l < L
        → ct Zq (value (R d) r n (function d n r (term_at d n r constant_terms l)) (part d n s)) ≡ red (term_constant d n r constant_terms l)

  pub record Solves (s : List ℤ) : Type 0 where
    pub meets : Meets s
    pub short : norm_sq s ≤ bound

-- the relation, the matrices, the digits and the target bound: "Two openings are of one statement when the sizes, bases, bounds,
-- matrices A, B, C, D and constraints are equal." tz is the number of z digits.
pub record Statement : Type 0 where
  pub relation : Relation
  pub w : ℕ
  pub tz : ℕ
  pub κ : ℕ
  pub κ₁ : ℕ
  pub κ₂ : ℕ
  pub b : ℕ
  pub b₁ : ℕ
  pub b₂ : ℕ
  pub t₁ : ℕ
  pub t₂ : ℕ
  pub target : ℕ
  pub A : List ℤ
  pub B : List ℤ
  pub C : List ℤ
  pub D : List ℤ

-- what is lent beside the statement: projection rows, ψ, ω, α, δ, c
pub record Draws : Type 0 where
  pub projections : List ℤ
  pub ψ : List ℤ
  pub ω : List ℤ
  pub α : List ℤ
  pub δ : List ℤ
  pub c : List ℤ

-- the messages that precede the opening
pub record Transcript : Type 0 where
  pub u₁ : List ℤ
  pub p : List ℤ
  pub b'' : List ℤ
  pub u₂ : List ℤ
