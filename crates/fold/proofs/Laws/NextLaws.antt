-- What the next instance's constraints say at a padded opening: "Checks 5 to 8 are written as left side minus right side, 3 and 4 as the
-- sum over the digits minus u1 or u2." The right side of 8, u1 and u2 are the constraints' constants.
--     value-five .. value-four     the value of each constraint's function at the padded opening
use Rattle.std.specs.Prelude.{◌≡◌, List, ◌++◌, length, ℤ}
use Rattle.std.proofs.Math.Path.{sym, ap, ap₂}
use Rattle.std.proofs.Common.{◌∙◌, add_assoc}
use Prim.Native.Nat.{ℕ, ◌+◌, ◌*◌, ◌≤◌, ◌<◌}
use native.Mathlib.Omega.{arith}
use Rattle.std.proofs.Math.ListN.{length-append}
use Rattle.algebra.specs.CommRing.{CommRing, sub}
use Rattle.algebra.specs.Laws.RingLaws.{zero-add}
use Rattle.algebra.specs.Sum.{sum}
use Rattle.algebra.specs.Triangle.{start, rows}
use Rattle.algebra.specs.Laws.Tables.{dot, dot_cong}
use Rattle.algebra.specs.DotProduct.{inner, value, mixed}
use Rattle.algebra.specs.Laws.Solver.{◌:+◌, ◌:-◌, :neg, num, solve1, solve2}
use Rattle.ring.specs.Element.{R, el}
use Rattle.ring.specs.Joined.{joined}
use Rattle.fold.specs.Sizes.{t_size, garbage_size, rest_size, opening_size, next_rank, next_parts}
use Rattle.fold.specs.Statement.{part}
use Rattle.fold.specs.Messages.{times, outer₁, outer₂, aggregated}
use Rattle.fold.specs.Statement.{Statement, Draws, Transcript}
use Rattle.fold.specs.Opening.{block, t_place, g_place, h_place, z_of}
use Rattle.fold.specs.Verdict.{t_block, g_block, h_block, zᵒ, tᵒ, gᵒ, hᵒ}
use Rattle.fold.specs.Chunks.{width, padded}
use Rattle.fold.specs.Laws.ChunkLaws.{width-bound, widths_cover}
use Rattle.fold.proofs.Laws.PaddingLaws.{part-padded, part_padding}
use Rattle.fold.proofs.Laws.ChunkSums.{chunk_products}
use Rattle.fold.proofs.Laws.TableSums.{dot-two, rows-zero, inner-aggregate}
use Rattle.fold.proofs.Laws.SelfProduct.{self_product}
use Rattle.fold.specs.Constraint.{Constraint, φ'}
use Rattle.fold.specs.NextInstance.{power, zeros, no-a, squares, constraint₃, constraint₄, constraint₅, constraint₆, constraint₇, constraint₈}
use Rattle.fold.proofs.Laws.TableLaws.{Summed, squares-once, squares-twice, z_table-sums, garbage_table-sums, mixed-sums}
use Rattle.fold.proofs.Laws.TableLaws.{row-sums, diagonal_sums, tab-sums, empty-sums}

-- ---- what is left where blocks are empty

module _ (𝓡 : CommRing) where
  infixl 65 ◌⊕◌
  infix 75 ⊖◌
  open 𝓡 use {Carrier, zero as 𝟘, add as ◌⊕◌, neg as ⊖◌}

  in_five : (x y : Carrier) → x ⊕ (⊖ y ⊕ (𝟘 ⊕ 𝟘)) ≡ sub 𝓡 x y
  unfolding sub
  in_five = solve2 𝓡 (λ x y. x :+ (:neg y :+ (num 0 :+ num 0))) (λ x y. x :- y) tt

  in_six : (x y : Carrier) → x ⊕ (𝟘 ⊕ (𝟘 ⊕ (⊖ y ⊕ 𝟘))) ≡ sub 𝓡 x y
  unfolding sub
  in_six = solve2 𝓡 (λ x y. x :+ (num 0 :+ (num 0 :+ (:neg y :+ num 0)))) (λ x y. x :- y) tt

  in_seven : (x y : Carrier) → x ⊕ (𝟘 ⊕ (𝟘 ⊕ ⊖ y)) ≡ sub 𝓡 x y
  unfolding sub
  in_seven = solve2 𝓡 (λ x y. x :+ (num 0 :+ (num 0 :+ :neg y))) (λ x y. x :- y) tt

  in_eight : (x y : Carrier) → 𝟘 ⊕ (𝟘 ⊕ (x ⊕ y)) ≡ x ⊕ y
  in_eight = solve2 𝓡 (λ x y. num 0 :+ (num 0 :+ (x :+ y))) (λ x y. x :+ y) tt

  in_three : (x y : Carrier) → 𝟘 ⊕ (x ⊕ (y ⊕ 𝟘)) ≡ x ⊕ y
  in_three = solve2 𝓡 (λ x y. num 0 :+ (x :+ (y :+ num 0))) (λ x y. x :+ y) tt

  in_four : (x : Carrier) → 𝟘 ⊕ (𝟘 ⊕ (𝟘 ⊕ x)) ≡ x
  in_four = solve1 𝓡 (λ x. num 0 :+ (num 0 :+ (num 0 :+ x))) (λ x. x) tt

-- ---- the constraints at a padded opening

module _ (𝓢 : Statement) (𝓓 : Draws) (𝓣 : Transcript) (ν μ : ℕ) (o : List ℤ) where
  open 𝓢 use {relation, tz, κ, κ₁, κ₂, b, b₁, b₂, t₁, t₂, A, B, C, D}
  open relation use {d, n, r}
  open 𝓓 use {c}
  open R d use {Carrier as Rd, zero as 𝟘, add as ◌⊕◌, mul as ◌⊗◌, neg as ⊖◌}

  infixl 65 ◌⊕◌
  infixl 70 ◌⊗◌
  infix 75 ⊖◌
  abbrev rest : ℕ
  rest = rest_size r κ t₁ t₂

  abbrev widths : ℕ → ℕ
  widths = width tz n ν rest μ

  abbrev rank : ℕ
  rank = next_rank n ν rest μ

  abbrev parts : ℕ
  parts = next_parts tz ν μ

  -- the parts of the padded opening
  abbrev padded_part : ℕ → ℕ → Rd
  padded_part = part d rank (padded d tz n ν rest μ o)

  -- the value at the padded opening of the function with these a and this table
  abbrev pub value_of : (ℕ → ℕ → Rd) → List Rd → Rd
  value_of a table = value (R d) parts rank (record { a = a; φ = φ' d widths table }) padded_part

  module _ (some-ν : 0 < ν) (some-μ : 0 < μ) (sized : length o ≡ opening_size tz n r κ t₁ t₂ * d) where
    within : (s k : ℕ) → s < parts → k < widths s → padded_part s k ≡ el d o (start widths s + k)
    unfolding opening_size
    within = part-padded d tz n ν rest μ some-ν some-μ o sized

    past : (s k : ℕ) → s < parts → widths s ≤ k → k < rank → padded_part s k ≡ 𝟘
    unfolding opening_size
    past = part_padding d tz n ν rest μ some-ν some-μ o sized

    value-table : (a : ℕ → ℕ → Rd) (table : List Rd) → length table ≡ tz * n + rest
        → value_of a table ≡ rows (R d) parts (λ i j. a i j ⊗ inner (R d) rank (padded_part i) (padded_part j)) ⊕ dot (R d) table (el d o)
    unfolding value φ'
    value-table a table e =
        ap (λ x. rows (R d) parts (λ i j. a i j ⊗ inner (R d) rank (padded_part i) (padded_part j)) ⊕ x)
        (chunk_products (R d) parts rank widths (width-bound tz n ν rest μ) (el d o) padded_part within past table
        (e ∙ sym (widths_cover tz n ν rest μ some-ν some-μ)))

    -- a table by its four blocks, whose sums over those of the opening are u, v, y and z
    module _ {u v y z : Rd} {zs ts gs hs : List Rd}
        (zs-sums : Summed d (tz * n) (el d o) u zs) (ts-sums : Summed d (t_size r κ t₁) (t_block 𝓢 𝓓 𝓣 o) v ts)
        (gs-sums : Summed d (garbage_size r t₂) (g_block 𝓢 𝓓 𝓣 o) y gs) (hs-sums : Summed d (garbage_size r t₁) (h_block 𝓢 𝓓 𝓣 o) z hs) where
      length_blocks : length (zs ++ (ts ++ (gs ++ hs))) ≡ tz * n + rest
      unfolding rest_size
      length_blocks =
          length-append zs (ts ++ (gs ++ hs))
          ∙ ap₂ ◌+◌ zs-sums.long
          (length-append ts (gs ++ hs) ∙ ap₂ ◌+◌ ts-sums.long (length-append gs hs ∙ ap₂ ◌+◌ gs-sums.long hs-sums.long))

      -- t starts after z, g after t, h after g
      dot_blocks : dot (R d) (zs ++ (ts ++ (gs ++ hs))) (el d o) ≡ u ⊕ (v ⊕ (y ⊕ z))
      unfolding block t_place g_place h_place
      dot_blocks =
          dot-two (R d) zs (ts ++ (gs ++ hs)) (tz * n) (el d o) zs-sums.long
          ∙ ap₂ ◌⊕◌ zs-sums.sums (
          dot-two (R d) ts (gs ++ hs) (t_size r κ t₁) (λ p. el d o (tz * n + p)) ts-sums.long
          ∙ ap₂ ◌⊕◌ ts-sums.sums (
          dot-two (R d) gs hs (garbage_size r t₂) (λ p. el d o (tz * n + (t_size r κ t₁ + p))) gs-sums.long
          ∙ ap₂ ◌⊕◌
          (dot_cong (R d) gs _ _ (λ p _. ap (el d o) (sym (add_assoc (tz * n) (t_size r κ t₁) p))) ∙ gs-sums.sums)
          (dot_cong (R d) hs _ _ (λ p _. ap (el d o) (place p)) ∙ hs-sums.sums)))
        where
          place : (p : ℕ) → tz * n + (t_size r κ t₁ + (garbage_size r t₂ + p)) ≡ tz * n + t_size r κ t₁ + garbage_size r t₂ + p
          place p = omega arith

      value_blocks : (a : ℕ → ℕ → Rd) {x : Rd}
          → rows (R d) parts (λ i j. a i j ⊗ inner (R d) rank (padded_part i) (padded_part j)) ≡ x
          → value_of a (zs ++ (ts ++ (gs ++ hs))) ≡ x ⊕ (u ⊕ (v ⊕ (y ⊕ z)))
      value_blocks a e = value-table a (zs ++ (ts ++ (gs ++ hs))) length_blocks ∙ ap₂ ◌⊕◌ e dot_blocks

      value_linear : value_of (no-a d) (zs ++ (ts ++ (gs ++ hs))) ≡ u ⊕ (v ⊕ (y ⊕ z))
      value_linear =
          value_blocks (no-a d) (rows-zero (R d) parts (λ i j. inner (R d) rank (padded_part i) (padded_part j)))
          ∙ zero-add (R d) (u ⊕ (v ⊕ (y ⊕ z)))

    no-z : Summed d (tz * n) (el d o) 𝟘 (zeros d (tz * n))
    no-z = empty-sums d (tz * n) (el d o)

    no-t : Summed d (t_size r κ t₁) (t_block 𝓢 𝓓 𝓣 o) 𝟘 (zeros d (t_size r κ t₁))
    no-t = empty-sums d (t_size r κ t₁) (t_block 𝓢 𝓓 𝓣 o)

    no-g : Summed d (garbage_size r t₂) (g_block 𝓢 𝓓 𝓣 o) 𝟘 (zeros d (garbage_size r t₂))
    no-g = empty-sums d (garbage_size r t₂) (g_block 𝓢 𝓓 𝓣 o)

    no-h : Summed d (garbage_size r t₁) (h_block 𝓢 𝓓 𝓣 o) 𝟘 (zeros d (garbage_size r t₁))
    no-h = empty-sums d (garbage_size r t₁) (h_block 𝓢 𝓓 𝓣 o)

    -- ---- the checks

    -- the value of a constraint's function
    abbrev valued : Constraint d → Rd
    valued x = value_of x.a x.table

    -- A z - Σ c_i t_i
    pub value-five : (k : ℕ) → k < κ
        → valued (constraint₅ 𝓢 𝓓 𝓣 ν μ k)
        ≡ sub (R d) (times d n A k (zᵒ 𝓢 𝓓 𝓣 o)) (sum (R d) r (λ i. el d c i ⊗ tᵒ 𝓢 𝓓 𝓣 o i k))
    unfolding times
    value-five k l =
        value_linear
        (z_table-sums d n tz b (λ y. el d A (k * n + y)) (el d o)) (row-sums d r κ b₁ t₁ k (el d c) (t_block 𝓢 𝓓 𝓣 o) l) no-g no-h
        ∙ in_five (R d) _ _

    -- <z,z> - Σ g_ii c_i² - 2Σ g_ij c_i c_j
    pub value-six : valued (constraint₆ 𝓢 𝓓 𝓣 ν μ)
        ≡ sub (R d) (inner (R d) n (zᵒ 𝓢 𝓓 𝓣 o) (zᵒ 𝓢 𝓓 𝓣 o)) (mixed (R d) r (gᵒ 𝓢 𝓓 𝓣 o) (el d c))
    unfolding z_of joined
    value-six =
        value_blocks no-z no-t (mixed-sums d r b₂ t₂ (el d c) (g_block 𝓢 𝓓 𝓣 o)) no-h (squares d tz ν b)
        (self_product (R d) tz n ν rest μ some-ν (power d b) (el d o) padded_part within past (squares d tz ν b)
        (squares-once d tz ν b) (squares-twice d tz ν b))
        ∙ in_six (R d) _ _

    -- Σ <φ_i,z> c_i - Σ h_ii c_i² - 2Σ h_ij c_i c_j
    pub value-seven : valued (constraint₇ 𝓢 𝓓 𝓣 ν μ)
        ≡ sub (R d)
        (sum (R d) r (λ i. inner (R d) n ((aggregated 𝓢 𝓓).φ i) (zᵒ 𝓢 𝓓 𝓣 o) ⊗ el d c i))
        (mixed (R d) r (hᵒ 𝓢 𝓓 𝓣 o) (el d c))
    value-seven =
        value_linear (z_table-sums d n tz b _ (el d o)) no-t no-g (mixed-sums d r b₁ t₁ (el d c) (h_block 𝓢 𝓓 𝓣 o))
        ∙ in_seven (R d) _ _
        ∙ ap (λ x. sub (R d) x (mixed (R d) r (hᵒ 𝓢 𝓓 𝓣 o) (el d c)))
        (inner-aggregate (R d) r n (aggregated 𝓢 𝓓).φ (el d c) (zᵒ 𝓢 𝓓 𝓣 o))

    -- Σ a_ij g_ij + Σ h_ii
    pub value-eight : valued (constraint₈ 𝓢 𝓓 𝓣 ν μ)
        ≡ rows (R d) r (λ i j. (aggregated 𝓢 𝓓).a i j ⊗ gᵒ 𝓢 𝓓 𝓣 o i j) ⊕ sum (R d) r (λ i. hᵒ 𝓢 𝓓 𝓣 o i i)
    value-eight =
        value_linear no-z no-t (garbage_table-sums d r b₂ t₂ (aggregated 𝓢 𝓓).a (g_block 𝓢 𝓓 𝓣 o))
        (diagonal_sums d r b₁ t₁ (h_block 𝓢 𝓓 𝓣 o))
        ∙ in_eight (R d) _ _

    -- B·t + C·g
    pub value-three : (k : ℕ) → valued (constraint₃ 𝓢 𝓓 𝓣 ν μ k) ≡ outer₁ d r κ t₁ t₂ B C k (t_block 𝓢 𝓓 𝓣 o) (g_block 𝓢 𝓓 𝓣 o)
    unfolding outer₁ times
    value-three k =
        value_linear no-z (tab-sums d (t_size r κ t₁) _ (t_block 𝓢 𝓓 𝓣 o)) (tab-sums d (garbage_size r t₂) _ (g_block 𝓢 𝓓 𝓣 o)) no-h
        ∙ in_three (R d) _ _

    -- D·h
    pub value-four : (k : ℕ) → valued (constraint₄ 𝓢 𝓓 𝓣 ν μ k) ≡ outer₂ d r t₁ D k (h_block 𝓢 𝓓 𝓣 o)
    unfolding outer₂ times
    value-four k = value_linear no-z no-t no-g (tab-sums d (garbage_size r t₁) _ (h_block 𝓢 𝓓 𝓣 o)) ∙ in_four (R d) _
