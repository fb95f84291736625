-- SPECIFICATION 4, for any witness s: what each message holds, as ring elements by index, and as the flat list that a
-- call writes.
use Rattle.std.specs.Prelude.{List, ◌++◌, ℕ, ◌+◌, ◌*◌, ◌-◌, get_or, ℤ, pos, ◌*ℤ◌}
use Rattle.integers.specs.Lists.{tab}
use Rattle.integers.specs.Flat.{flat}
use Rattle.algebra.specs.Integers.{ℤ-ring}
use Rattle.algebra.specs.Sum.{sum}
use Rattle.algebra.specs.Conjugation.{conjugate}
use Rattle.algebra.specs.DotProduct.{Function, inner, value, plus, combination, folded, garbage}
use Rattle.residues.specs.Modulus.{Zq, centred}
use Rattle.ring.specs.Element.{R, el, coeffs, number}
use Rattle.residues.specs.Digits.{split}
use Rattle.fold.specs.Sizes.{five, t_size, garbage_size}
use Rattle.fold.specs.Statement.{part, function, whole_at, whole_constant, term_at, Statement, Draws}

-- the elements x 0 .. x (n-1) as a flat list
unfoldable pub elements : (d n : ℕ) → (ℕ → (R d).Carrier) → List ℤ
elements d n x = flat n (λ k. coeffs d (x k))

-- row k of a flat matrix with m columns, times the vector x
unfoldable pub times : (d m : ℕ) (M : List ℤ) → ℕ → (ℕ → (R d).Carrier) → (R d).Carrier
times d m M k x = inner (R d) m (λ y. el d M (k * m + y)) x

-- the digits of the elements x i j for i ≤ j: by i, then j, then digit
unfoldable pub garbage_digits : (d r b t : ℕ) → (ℕ → ℕ → (R d).Carrier) → List ℤ
garbage_digits d r b t x = flat r (λ i. flat (r - i) (λ k. split b t (coeffs d (x i (i + k)))))

-- Message 1: "t_i = A s_i (A has κ rows); g_ij = <s_i,s_j> for i ≤ j; t in t1 digits to base b1, g in t2 digits to base b2;
-- u1 = B·(t digits) + C·(g digits), κ1 rows." The order of t: "by part, then digit, then row".
unfoldable pub t : (d n : ℕ) (A s : List ℤ) → ℕ → ℕ → (R d).Carrier
t d n A s i k = times d n A k (part d n s i)

unfoldable pub g : (d n : ℕ) (s : List ℤ) → ℕ → ℕ → (R d).Carrier
g d n s i j = inner (R d) n (part d n s i) (part d n s j)

unfoldable pub t_digits : (d n r κ b₁ t₁ : ℕ) (A s : List ℤ) → List ℤ
t_digits d n r κ b₁ t₁ A s = flat r (λ i. split b₁ t₁ (elements d κ (t d n A s i)))

unfoldable pub g_digits : (d n r b₂ t₂ : ℕ) (s : List ℤ) → List ℤ
g_digits d n r b₂ t₂ s = garbage_digits d r b₂ t₂ (g d n s)

-- row k of B·x + C·y, for t digits x and g digits y
unfoldable pub outer₁ : (d r κ t₁ t₂ : ℕ) (B C : List ℤ) → ℕ → (ℕ → (R d).Carrier) → (ℕ → (R d).Carrier) → (R d).Carrier
outer₁ d r κ t₁ t₂ B C k x y = (R d).add (times d (t_size r κ t₁) B k x) (times d (garbage_size r t₂) C k y)

unfoldable pub u₁ : (d r κ κ₁ t₁ t₂ : ℕ) (B C x y : List ℤ) → List ℤ
u₁ d r κ κ₁ t₁ t₂ B C x y = elements d κ₁ (λ k. outer₁ d r κ t₁ t₂ B C k (el d x) (el d y))

-- Message 2: "Given w projection rows, p_j = the centred dot product of row j with all coefficients of all parts."
unfoldable pub p : (d n r w : ℕ) (projections s : List ℤ) → List ℤ
p d n r w projections s = tab w (λ j. centred (sum ℤ-ring (r * n * d) (λ y. get_or projections (j * (r * n * d) + y) (pos 0) *ℤ get_or s y (pos 0))))

-- the function of projection row j: its value at s has the constant term p_j
abbrev pub projection : (d n r : ℕ) (projections : List ℤ) → ℕ → Function (R d)
projection d n r projections j = record { a = λ i i'. (R d).zero; φ = λ i k. conjugate Zq (el d projections ((j * r + i) * n + k)) }

-- Message 3: "Given ψ (5 by L) and ω (5 by w), for k = 1..5: a'' = Σψ a'; φ''_i = Σψ φ'_i + Σω_j σ(row j, part i); b''_k is the value of
-- that function without its constant. Five is the count, since q^4 < 2^128."
abbrev pub second : (d n r L w : ℕ) (constant_terms projections ψ ω : List ℤ) → ℕ → Function (R d)
second d n r L w constant_terms projections ψ ω k =
    plus (R d)
    (combination (R d) L (λ l. number d (get_or ψ (k * L + l) (pos 0))) (λ l. function d n r (term_at d n r constant_terms l)))
    (combination (R d) w (λ j. number d (get_or ω (k * w + j) (pos 0))) (projection d n r projections))

unfoldable pub b'' : (d n r L w : ℕ) (constant_terms projections ψ ω s : List ℤ) → List ℤ
b'' d n r L w constant_terms projections ψ ω s = elements d five (λ k. value (R d) r n (second d n r L w constant_terms projections ψ ω k) (part d n s))

-- Message 4: "Given ring elements α (K) and δ (5), the aggregate is Σα f + Σδ f''."
abbrev pub aggregate : (d n r K L w : ℕ) (whole constant_terms projections ψ ω α δ : List ℤ) → Function (R d)
aggregate d n r K L w whole constant_terms projections ψ ω α δ =
    plus (R d)
    (combination (R d) K (el d α) (λ k. function d n r (whole_at d n r whole k)))
    (combination (R d) five (el d δ) (second d n r L w constant_terms projections ψ ω))

module _ (𝓢 : Statement) (𝓓 : Draws) where
  open 𝓢 use {relation, w}
  open relation use {d, n, r, K, L, whole, constant_terms}
  open 𝓓 use {projections, ψ, ω, α, δ}

  -- the aggregate of a statement and its draws
  abbrev pub aggregated : Function (R d)
  aggregated = aggregate d n r K L w whole constant_terms projections ψ ω α δ

-- the aggregate's b: Σα b + Σδ b''
unfoldable pub aggregate_constant : (d n r K : ℕ) (whole α δ b'' : List ℤ) → (R d).Carrier
aggregate_constant d n r K whole α δ b'' =
    (R d).add
    (sum (R d) K (λ k. (R d).mul (el d α k) (whole_constant d n r whole k)))
    (sum (R d) five (λ k. (R d).mul (el d δ k) (el d b'' k)))

-- "Half of a value is its product with 2147483599 modulo q."
unfoldable pub half : (d : ℕ) → (R d).Carrier
half d = number d (pos 2147483599)

-- "h_ii = <φ_i,s_i>; for i < j, h_ij is half of <φ_i,s_j> + <φ_j,s_i>": one formula, since half of twice <φ_i,s_i> is <φ_i,s_i>
unfoldable pub h : (d n : ℕ) → (ℕ → ℕ → (R d).Carrier) → List ℤ → ℕ → ℕ → (R d).Carrier
h d n φ s = garbage (R d) (half d) n φ (part d n s)

-- "h in t1 digits to base b1; u2 = D·(h digits), κ2 rows."
unfoldable pub h_digits : (d n r b₁ t₁ : ℕ) → (ℕ → ℕ → (R d).Carrier) → (s : List ℤ) → List ℤ
h_digits d n r b₁ t₁ φ s = garbage_digits d r b₁ t₁ (h d n φ s)

unfoldable pub outer₂ : (d r t₁ : ℕ) (D : List ℤ) → ℕ → (ℕ → (R d).Carrier) → (R d).Carrier
outer₂ d r t₁ D k x = times d (garbage_size r t₁) D k x

unfoldable pub u₂ : (d r κ₂ t₁ : ℕ) (D x : List ℤ) → List ℤ
u₂ d r κ₂ t₁ D x = elements d κ₂ (λ k. outer₂ d r t₁ D k (el d x))

-- Message 5: "Given c_1..c_r, z = Σ c_i s_i in two digits to base b." tz is the number of digits.
unfoldable pub z : (d n r : ℕ) → List ℤ → List ℤ → ℕ → (R d).Carrier
z d n r c s = folded (R d) r (el d c) (part d n s)

unfoldable pub z_digits : (d n r tz b : ℕ) (c s : List ℤ) → List ℤ
z_digits d n r tz b c s = split b tz (elements d n (z d n r c s))

-- "The opening is the digits of z, t, g, h."
unfoldable pub opening : (zs ts gs hs : List ℤ) → List ℤ
opening zs ts gs hs = zs ++ (ts ++ (gs ++ hs))
