-- SPECIFICATION 6: checks 1 to 9 over the recomposed digits of an opening, and the first that fails.
-- "The paper's Figure 3 takes z and splits it; here digits are lent and recomposed (its section 5.3)."
-- The opening is one list; x, y stand for its blocks as functions of the place, `block d o a` for the elements from place a on.
use Rattle.std.specs.Prelude.{Bool, List, [], ◌∷◌, ◌++◌, ℕ, ◌+◌, ◌*◌, ◌-◌, leb, eqb, get_or, ℤ, pos}
use Rattle.integers.specs.Sums.{norm_sq}
use Rattle.algebra.specs.Sum.{sum}
use Rattle.algebra.specs.Triangle.{rows}
use Rattle.algebra.specs.Conjugation.{ct}
use Rattle.algebra.specs.DotProduct.{inner, mixed}
use Rattle.residues.specs.Modulus.{Zq, red}
use Rattle.ring.specs.Element.{R, el, every, same}
use Rattle.fold.specs.Answers.{Verdict}
use Rattle.fold.specs.Answers.{first_failing, judged}
use Rattle.fold.specs.Statement.{term_constant}
use Rattle.fold.specs.Messages.{times, outer₁, outer₂, aggregated, aggregate_constant}
use Rattle.fold.specs.Sizes.{five}
use Rattle.fold.specs.Opening.{block, t_place, g_place, h_place, z_of, t_of, garbage_of, digits_length}
use Rattle.fold.specs.Statement.{Statement, Draws, Transcript}

-- ---- the checks

-- "2·|p|² ≤ w·β²"
unfoldable pub check₁ : (w β² : ℕ) (p : List ℤ) → Bool
check₁ w β² p = leb (2 * norm_sq p) (w * β²)

-- "Each b''_k has constant term Σψ b' + Σω p."
unfoldable pub check₂ : (d n r L w : ℕ) (constant_terms ψ ω p b'' : List ℤ) → Bool
check₂ d n r L w constant_terms ψ ω p b'' =
    every five (λ k. eqb (ct Zq (el d b'' k)).val (Zq.add (terms k) (projected k)).val)
  where
    terms : ℕ → Zq.Carrier
    terms k = sum Zq L (λ l. Zq.mul (red (get_or ψ (k * L + l) (pos 0))) (red (term_constant d n r constant_terms l)))

    projected : ℕ → Zq.Carrier
    projected k = sum Zq w (λ j. Zq.mul (red (get_or ω (k * w + j) (pos 0))) (red (get_or p j (pos 0))))

-- "u1 equation", for t digits x and g digits y
unfoldable pub check₃ : (d r κ κ₁ t₁ t₂ : ℕ) (B C u₁ : List ℤ) → (ℕ → (R d).Carrier) → (ℕ → (R d).Carrier) → Bool
check₃ d r κ κ₁ t₁ t₂ B C u₁ x y = every κ₁ (λ k. same d (el d u₁ k) (outer₁ d r κ t₁ t₂ B C k x y))

-- "u2 equation", for h digits x
unfoldable pub check₄ : (d r κ₂ t₁ : ℕ) (D u₂ : List ℤ) → (ℕ → (R d).Carrier) → Bool
check₄ d r κ₂ t₁ D u₂ x = every κ₂ (λ k. same d (el d u₂ k) (outer₂ d r t₁ D k x))

-- "A z = Σ c_i t_i"
unfoldable pub check₅ : (d n r κ : ℕ) (A c : List ℤ) → (ℕ → (R d).Carrier) → (ℕ → ℕ → (R d).Carrier) → Bool
check₅ d n r κ A c z t = every κ (λ k. same d (times d n A k z) (sum (R d) r (λ i. (R d).mul (el d c i) (t i k))))

-- "<z,z> = Σ g_ii c_i² + 2Σ_{i<j} g_ij c_i c_j"
unfoldable pub check₆ : (d n r : ℕ) (c : List ℤ) → (ℕ → (R d).Carrier) → (ℕ → ℕ → (R d).Carrier) → Bool
check₆ d n r c z g = same d (inner (R d) n z z) (mixed (R d) r g (el d c))

-- "Σ<φ_i,z>c_i = Σ h_ii c_i² + 2Σ_{i<j} h_ij c_i c_j"
unfoldable pub check₇ : (d n r : ℕ) (c : List ℤ) → (ℕ → ℕ → (R d).Carrier) → (ℕ → (R d).Carrier) → (ℕ → ℕ → (R d).Carrier) → Bool
check₇ d n r c φ z h = same d (sum (R d) r (λ i. (R d).mul (inner (R d) n (φ i) z) (el d c i))) (mixed (R d) r h (el d c))

-- "Σ a_ij g_ij + Σ h_ii = b"
unfoldable pub check₈ : (d r : ℕ) → (ℕ → ℕ → (R d).Carrier) → (R d).Carrier → (ℕ → ℕ → (R d).Carrier) → (ℕ → ℕ → (R d).Carrier) → Bool
check₈ d r a b g h = same d ((R d).add (rows (R d) r (λ i j. (R d).mul (a i j) (g i j))) (sum (R d) r (λ i. h i i))) b

-- "All digits' squared length ≤ β'² (lent)."
unfoldable pub check₉ : (d n r tz κ t₁ t₂ target : ℕ) (o : List ℤ) → Bool
check₉ d n r tz κ t₁ t₂ target o = leb (digits_length d n r tz κ t₁ t₂ o) target

-- "Accepted carries the margin of check 9: the bound minus the squared length, β'² minus that of all digits."
unfoldable pub margin₉ : (d n r tz κ t₁ t₂ target : ℕ) (o : List ℤ) → ℕ
margin₉ d n r tz κ t₁ t₂ target o = target - digits_length d n r tz κ t₁ t₂ o

-- ---- the verdict

-- checks 1 and 2, which need no opening
module _ (𝓢 : Statement) (𝓓 : Draws) (𝓣 : Transcript) where
  open 𝓢 use {relation, w}
  open relation use {d, n, r, L, bound, constant_terms}
  open 𝓓 use {ψ, ω}
  open 𝓣 use {p, b''}

  abbrev pub message_checks : List (ℕ × Bool)
  message_checks = (1, check₁ w bound p) ∷ (2, check₂ d n r L w constant_terms ψ ω p b'') ∷ []

module _ (𝓢 : Statement) (𝓓 : Draws) (𝓣 : Transcript) (o : List ℤ) where
  open 𝓢 use {relation, tz, κ, κ₁, κ₂, b, b₁, b₂, t₁, t₂, target, A, B, C, D}
  open relation use {d, n, r, K, whole}
  open 𝓓 use {α, δ, c}
  open 𝓣 use {u₁, b'', u₂}

  -- the blocks of the opening, and what they recompose to
  abbrev pub t_block : ℕ → (R d).Carrier
  t_block = block d o (t_place tz n)

  abbrev pub g_block : ℕ → (R d).Carrier
  g_block = block d o (g_place tz n r κ t₁)

  abbrev pub h_block : ℕ → (R d).Carrier
  h_block = block d o (h_place tz n r κ t₁ t₂)

  abbrev pub zᵒ : ℕ → (R d).Carrier
  zᵒ = z_of d n tz b (el d o)

  abbrev pub tᵒ : ℕ → ℕ → (R d).Carrier
  tᵒ = t_of d κ b₁ t₁ t_block

  abbrev pub gᵒ : ℕ → ℕ → (R d).Carrier
  gᵒ = garbage_of d r b₂ t₂ g_block

  abbrev pub hᵒ : ℕ → ℕ → (R d).Carrier
  hᵒ = garbage_of d r b₁ t₁ h_block

  -- checks 3 and 4, of the outer commitments
  abbrev pub outer_checks : List (ℕ × Bool)
  outer_checks = (3, check₃ d r κ κ₁ t₁ t₂ B C u₁ t_block g_block) ∷ (4, check₄ d r κ₂ t₁ D u₂ h_block) ∷ []

  -- checks 5 and 6, of z
  abbrev pub amortized_checks : List (ℕ × Bool)
  amortized_checks = (5, check₅ d n r κ A c zᵒ tᵒ) ∷ (6, check₆ d n r c zᵒ gᵒ) ∷ []

  -- checks 8 and 9, of the aggregated function and of the length
  abbrev pub last_checks : List (ℕ × Bool)
  last_checks =
      (8, check₈ d r (aggregated 𝓢 𝓓).a (aggregate_constant d n r K whole α δ b'') gᵒ hᵒ) ∷ (9, check₉ d n r tz κ t₁ t₂ target o) ∷ []

  -- checks 5 to 9, of what the digits recompose to and of their length
  abbrev pub opening_checks : List (ℕ × Bool)
  opening_checks = amortized_checks ++ ((7, check₇ d n r c (aggregated 𝓢 𝓓).φ zᵒ hᵒ) ∷ last_checks)

  abbrev pub checks : List (ℕ × Bool)
  checks = message_checks 𝓢 𝓓 𝓣 ++ (outer_checks ++ opening_checks)

  -- what an accepted opening leaves of the target bound
  abbrev pub margin : ℕ
  margin = margin₉ d n r tz κ t₁ t₂ target o

  -- "The first check that fails is named; none means accepted, with the margin"
  unfoldable pub verdict : Verdict
  verdict = judged (first_failing checks) margin
