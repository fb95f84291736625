-- SPECIFICATION 8: the constraints that hold at the padded opening exactly when checks 3 to 8 hold, and the relation they make
-- with the target bound. "Checks 5 to 8 are written as left side minus right side, 3 and 4 as the sum over the digits minus u1 or u2."
use Rattle.std.specs.Prelude.{cond, List, [], ◌∷◌, ◌++◌, ℕ, ◌+◌, ◌*◌, ◌-◌, ◌/◌, ◌%◌, ◌^◌, ltb, eqb, get_or, replicate, ℤ, pos}
use Rattle.integers.specs.Lists.{tab}
use Rattle.integers.specs.Flat.{flat}
use Rattle.algebra.specs.Sum.{sum}
use Rattle.ring.specs.Element.{R, el, number}
use Rattle.fold.specs.Chunks.{width, padded, unpadded}
use Rattle.fold.specs.Sizes.{t_size, garbage_size, rest_size, next_rank, next_parts, next_count}
use Rattle.fold.specs.Messages.{aggregated, aggregate_constant}
use Rattle.fold.specs.Statement.{Relation, Statement, Draws, Transcript}
use Rattle.fold.specs.Constraint.{Constraint, laid_out}

module _ (d : ℕ) where
  open R d use {Carrier as Rd, zero as 𝟘, mul as ◌⊗◌}

  infixl 70 ◌⊗◌
  abbrev pub power : ℕ → ℕ → Rd
  power base e = number d (pos (base ^ e))

  abbrev pub zeros : ℕ → List Rd
  zeros size = replicate size 𝟘

  abbrev pub no-a : ℕ → ℕ → Rd
  no-a s s' = 𝟘

  -- the blocks of a table: z by digit; t by part, digit, row; g and h by i, j, digit
  unfoldable pub z_table : (n tz b : ℕ) → (ℕ → Rd) → List Rd
  z_table n tz b f = flat tz (λ e. tab n (λ k. power b e ⊗ f k))

  unfoldable pub t_table : (r κ t₁ : ℕ) → (ℕ → ℕ → ℕ → Rd) → List Rd
  t_table r κ t₁ f = flat r (λ i. flat t₁ (λ e. tab κ (λ k. f i e k)))

  unfoldable pub garbage_table : (r base t : ℕ) → (ℕ → ℕ → Rd) → List Rd
  garbage_table r base t f = flat r (λ i. flat (r - i) (λ k. tab t (λ e. f i (i + k) ⊗ power base e)))

  -- c_i c_j, doubled for i < j
  unfoldable pub product : (ℕ → Rd) → ℕ → ℕ → Rd
  product c i j = number d (cond (eqb i j) (pos 1) (pos 2)) ⊗ (c i ⊗ c j)

  -- a of check 6: chunk i of digit e with chunk i of digit e' has b^(e+e'), doubled for e < e';
  -- "an empty chunk has the same a in check 6 as a full one"
  unfoldable pub squares : (tz ν b : ℕ) → ℕ → ℕ → Rd
  squares tz ν b s s' =
      cond (ltb s (tz * ν)) (cond (ltb s' (tz * ν)) (cond (eqb (s % ν) (s' % ν)) entry 𝟘) 𝟘) 𝟘
    where
      entry : Rd
      entry = number d (cond (eqb s s') (pos 1) (pos 2)) ⊗ power b (s / ν + s' / ν)

module _ (𝓢 : Statement) (𝓓 : Draws) (𝓣 : Transcript) (ν μ : ℕ) where
  open 𝓢 use {relation, w, tz, κ, κ₁, κ₂, b, b₁, b₂, t₁, t₂, target, A, B, C, D}
  open relation use {d, n, r, K, L, whole, constant_terms}
  open 𝓓 use {projections, ψ, ω, α, δ, c}
  open 𝓣 use {u₁, b'', u₂}
  open R d use {Carrier as Rd, zero as 𝟘, one as 𝟙, mul as ◌⊗◌, neg as ⊖◌}

  infixl 70 ◌⊗◌
  infix 75 ⊖◌
  -- a table is a block for each of z, t, g, h; these are the empty ones
  abbrev pub no_z : List Rd
  no_z = zeros d (tz * n)

  abbrev pub no_t : List Rd
  no_t = zeros d (t_size r κ t₁)

  abbrev pub no_g : List Rd
  no_g = zeros d (garbage_size r t₂)

  abbrev pub no_h : List Rd
  no_h = zeros d (garbage_size r t₁)

  -- check 5, row k: A z - Σ c_i t_i
  abbrev pub constraint₅ : ℕ → Constraint d
  constraint₅ k =
      record {
        a = no-a d;
        table =
            z_table d n tz b (λ y. el d A (k * n + y))
            ++ (t_table d r κ t₁ (λ i e k'. cond (eqb k' k) (⊖ (el d c i ⊗ power d b₁ e)) 𝟘)
            ++ (no_g ++ no_h));
        constant = 𝟘;
      }

  -- check 6: <z,z> - Σ g_ii c_i² - 2Σ g_ij c_i c_j
  abbrev pub constraint₆ : Constraint d
  constraint₆ =
      record { a = squares d tz ν b; table = no_z ++ (no_t ++ (garbage_table d r b₂ t₂ (λ i j. ⊖ product d (el d c) i j) ++ no_h)); constant = 𝟘 }

  -- check 7: Σ <φ_i,z> c_i - Σ h_ii c_i² - 2Σ h_ij c_i c_j
  abbrev pub constraint₇ : Constraint d
  constraint₇ =
      record {
        a = no-a d;
        table =
            z_table d n tz b (λ k. sum (R d) r (λ i. (aggregated 𝓢 𝓓).φ i k ⊗ el d c i))
            ++ (no_t
            ++ (no_g ++ garbage_table d r b₁ t₁ (λ i j. ⊖ product d (el d c) i j)));
        constant = 𝟘;
      }

  -- check 8: Σ a_ij g_ij + Σ h_ii - b
  abbrev pub constraint₈ : Constraint d
  constraint₈ =
      record {
        a = no-a d;
        table =
            no_z
            ++ (no_t
            ++ (garbage_table d r b₂ t₂ (aggregated 𝓢 𝓓).a ++ garbage_table d r b₁ t₁ (λ i j. cond (eqb i j) 𝟙 𝟘)));
        constant = aggregate_constant d n r K whole α δ b'';
      }

  -- check 3, row k: B·t + C·g - u1
  abbrev pub constraint₃ : ℕ → Constraint d
  constraint₃ k =
      record {
        a = no-a d;
        table =
            no_z
            ++ (tab (t_size r κ t₁) (λ y. el d B (k * t_size r κ t₁ + y))
            ++ (tab (garbage_size r t₂) (λ y. el d C (k * garbage_size r t₂ + y)) ++ no_h));
        constant = el d u₁ k;
      }

  -- check 4, row k: D·h - u2
  abbrev pub constraint₄ : ℕ → Constraint d
  constraint₄ k =
      record { a = no-a d; table = no_z ++ (no_t ++ (no_g ++ tab (garbage_size r t₁) (λ y. el d D (k * garbage_size r t₁ + y)))); constant = el d u₂ k }

  -- "Constraints, all of the whole kind: checks 5 (κ), 6, 7, 8, 3 (κ1), 4 (κ2)"
  unfoldable pub constraint : ℕ → Constraint d
  constraint x = get_or (tab κ constraint₅ ++ (constraint₆ ∷ constraint₇ ∷ constraint₈ ∷ (tab κ₁ constraint₃ ++ tab κ₂ constraint₄))) x constraint₆

  -- ---- the instance

  abbrev pub m : ℕ
  m = rest_size r κ t₁ t₂

  abbrev pub n' : ℕ
  n' = next_rank n ν m μ

  abbrev pub r' : ℕ
  r' = next_parts tz ν μ

  -- the next witness is the padded opening
  abbrev pub next_witness : (o : List ℤ) → List ℤ
  next_witness o = padded d tz n ν m μ o

  -- and a next witness "with the padding cut off" is an opening
  abbrev pub cut_off : (s : List ℤ) → List ℤ
  cut_off s = unpadded d tz n ν m μ s

  unfoldable pub next_whole : List ℤ
  next_whole = flat (next_count κ κ₁ κ₂) (λ x. laid_out d n' r' (width tz n ν m μ) (constraint x))

  -- "K' = κ+κ1+κ2+3, L' = 0, bound β'²", for the constraints that some numbers are
  abbrev pub relation_of : (numbers : List ℤ) → Relation
  relation_of numbers = record { d = d; n = n'; r = r'; K = next_count κ κ₁ κ₂; L = 0; bound = target; whole = numbers; constant_terms = [] }

  abbrev pub next_relation : Relation
  next_relation = relation_of next_whole
