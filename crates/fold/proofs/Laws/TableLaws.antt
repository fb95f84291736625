-- Laws of what constraints are made of: the weights 1, 2 and b^e, and the blocks of a table, which sum to the words of the checks.
--     once, twice, squares-..       weights on and off the diagonal
--     Summed                        a block of a table has this length and this sum
--     z_table-sums .. empty-sums     each kind of block
use Rattle.std.specs.Prelude.{◌≡◌, refl, Bool, true, false, List, ℕ, zero, suc, ◌+◌, ◌*◌, ◌/◌, ◌%◌, ◌^◌, ◌<◌, ltb, eqb, length, pos}
use Rattle.std.proofs.Common.{sym, ◌∙◌, add-zero, add-suc, mul-one, mul_assoc, pow-suc, arith, eq-eqb, ne_eqb}
use Rattle.std.proofs.Math.Path.{ap, ap₂}
use Rattle.std.proofs.Math.Bool.{cond}
use Rattle.std.proofs.Math.Nat.{pow-zero}
use Rattle.std.proofs.lemmas.List.{length-replicate}
use Rattle.integers.specs.Lists.{tab}
use Rattle.integers.specs.Laws.ListLaws.{length-tab}
use Rattle.algebra.specs.Laws.RingLaws.{one-mul, add-mul}
use Rattle.algebra.specs.Sum.{sum}
use Rattle.algebra.specs.Triangle.{rows}
use Rattle.algebra.specs.Laws.Tables.{dot, dot-tab, dot-zeros}
use Rattle.algebra.specs.DotProduct.{inner, mixed}
use Rattle.ring.specs.Element.{R, number}
use Rattle.ring.specs.Laws.Numbers.{number-one, number-add, number-mul}
use Rattle.ring.specs.Joined.{joined}
use Rattle.fold.specs.Sizes.{pairs, t_size, garbage_size}
use Rattle.fold.specs.Opening.{z_of, t_of, garbage_of}
use Rattle.fold.proofs.Laws.TableSums.{length_digits, length-parts, length_triangle, dot-digits, dot-parts, dot_triangle}
use Rattle.fold.proofs.Laws.TableSums.{rows-mixed, rows_diagonal, row_of_parts}
use Rattle.fold.proofs.Laws.SelfProduct.{weight}
use Rattle.fold.specs.NextInstance.{power, zeros, z_table, t_table, garbage_table, product, squares}

-- a block of `size` entries whose sum over x, entry by entry, is `total`
pub record Summed (d size : ℕ) (x : ℕ → (R d).Carrier) (total : (R d).Carrier) (entries : List (R d).Carrier) : Type 0 where
  pub long : length entries ≡ size
  pub sums : dot (R d) entries x ≡ total

-- ---- weights

pow_add : (b e f : ℕ) → b ^ (e + f) ≡ b ^ e * b ^ f
pow_add b e zero = rw (add-zero e, pow-zero b) (sym (mul-one (b ^ e)))
pow_add b e (suc f) = rw (add-suc e f, pow-suc b (e + f), pow-suc b f, pow_add b e f) (mul_assoc (b ^ e) (b ^ f) b)

module _ (d : ℕ) where
  infixl 70 ◌⊗◌
  infix 75 ⊖◌
  open R d use {Carrier as Rd, zero as 𝟘, one as 𝟙, mul as ◌⊗◌, neg as ⊖◌}

  power-add : (b e f : ℕ) → power d b (e + f) ≡ power d b e ⊗ power d b f
  power-add b e f = ap (λ x. number d (pos x)) (pow_add b e f) ∙ number-mul d (pos (b ^ e)) (pos (b ^ f))

  -- 1 on the diagonal, 2 off it
  pub once : (i : ℕ) → number d (cond (eqb i i) (pos 1) (pos 2)) ≡ (R d).one
  once i = ap (λ (t : Bool). number d (cond t (pos 1) (pos 2))) (eq-eqb i i refl) ∙ number-one d

  pub twice : (i j : ℕ) → i < j → number d (cond (eqb i j) (pos 1) (pos 2)) ≡ (R d).add (R d).one (R d).one
  twice i j l =
      ap (λ (t : Bool). number d (cond t (pos 1) (pos 2))) (ne_eqb i j (λ e. omega arith))
      ∙ number-add d (pos 1) (pos 1)
      ∙ ap₂ (R d).add (number-one d) (number-one d)

  pub squares-once : (tz ν b s : ℕ) → squares d tz ν b s s ≡ weight (R d) tz ν (power d b) s s
  unfolding squares weight
  squares-once tz ν b s =
      ap (λ x. cond (ltb s (tz * ν)) (cond (ltb s (tz * ν)) (cond (eqb (s % ν) (s % ν)) x 𝟘) 𝟘) 𝟘)
      (ap₂ (R d).mul (once s) (power-add b (s / ν) (s / ν)) ∙ one-mul (R d) _)

  pub squares-twice : (tz ν b s s' : ℕ) → s < s'
      → squares d tz ν b s s' ≡ (R d).add (weight (R d) tz ν (power d b) s s') (weight (R d) tz ν (power d b) s s')
  unfolding squares weight
  squares-twice tz ν b s s' l =
      ap (λ x. cond (ltb s (tz * ν)) (cond (ltb s' (tz * ν)) (cond (eqb (s % ν) (s' % ν)) x 𝟘) 𝟘) 𝟘)
      (ap₂ (R d).mul (twice s s' l) (power-add b (s / ν) (s' / ν)) ∙ two _)
      ∙ split (ltb s (tz * ν)) (ltb s' (tz * ν)) (eqb (s % ν) (s' % ν)) _
    where
      two : (x : Rd) → (R d).mul ((R d).add (R d).one (R d).one) x ≡ (R d).add x x
      two x = add-mul (R d) (R d).one (R d).one x ∙ ap₂ (R d).add (one-mul (R d) x) (one-mul (R d) x)

      none : 𝟘 ≡ (R d).add 𝟘 𝟘
      none = sym ((R d).add-zero 𝟘)

      split : (p q t : Bool) (x : Rd)
          → cond p (cond q (cond t ((R d).add x x) 𝟘) 𝟘) 𝟘
          ≡ (R d).add (cond p (cond q (cond t x 𝟘) 𝟘) 𝟘) (cond p (cond q (cond t x 𝟘) 𝟘) 𝟘)
      split true true true x = refl
      split true true false x = none
      split true false t x = none
      split false q t x = none

  -- ---- the blocks of a table, each over a block x of the opening

  pub z_table-sums : (n tz b : ℕ) (f x : ℕ → Rd) → Summed d (tz * n) x (inner (R d) n f (z_of d n tz b x)) (z_table d n tz b f)
  unfolding z_table z_of joined
  z_table-sums n tz b f x =
      record { long = length_digits tz n (λ e k. power d b e ⊗ f k); sums = dot-digits (R d) tz n (power d b) f x }

  pub garbage_table-sums : (r base t : ℕ) (f : ℕ → ℕ → Rd) (x : ℕ → Rd)
      → Summed d (garbage_size r t) x (rows (R d) r (λ i j. f i j ⊗ garbage_of d r base t x i j)) (garbage_table d r base t f)
  unfolding garbage_table garbage_of joined garbage_size pairs
  garbage_table-sums r base t f x =
      record { long = length_triangle r t (λ i j e. f i j ⊗ power d base e); sums = dot_triangle (R d) r t (power d base) f x }

  -- checks 6 and 7: minus Σ g_ii c_i² + 2Σ g_ij c_i c_j
  pub mixed-sums : (r base t : ℕ) (c x : ℕ → Rd)
      → Summed d (garbage_size r t) x (⊖ mixed (R d) r (garbage_of d r base t x) c) (garbage_table d r base t (λ i j. ⊖ product d c i j))
  unfolding product
  mixed-sums r base t c x =
      let g = garbage_of d r base t x in
      let table = garbage_table-sums r base t (λ i j. ⊖ product d c i j) x in
      record {
        long = table.long;
        sums = table.sums ∙ rows-mixed (R d) r (λ i j. number d (cond (eqb i j) (pos 1) (pos 2))) g c once twice;
      }

  -- check 5, row k: minus Σ c_i t_i
  pub row-sums : (r κ b₁ t₁ k : ℕ) (c x : ℕ → Rd) → k < κ
      → Summed d (t_size r κ t₁) x (⊖ sum (R d) r (λ i. c i ⊗ t_of d κ b₁ t₁ x i k))
      (t_table d r κ t₁ (λ i e k'. cond (eqb k' k) (⊖ (c i ⊗ power d b₁ e)) 𝟘))
  unfolding t_table t_of joined t_size
  row-sums r κ b₁ t₁ k c x l =
      record {
        long = length-parts r t₁ κ (λ i e k'. cond (eqb k' k) (⊖ (c i ⊗ power d b₁ e)) 𝟘);
        sums = dot-parts (R d) r t₁ κ _ x ∙ row_of_parts (R d) r t₁ κ k (power d b₁) c x l;
      }

  -- check 8: Σ h_ii
  pub diagonal_sums : (r base t : ℕ) (x : ℕ → Rd)
      → Summed d (garbage_size r t) x (sum (R d) r (λ i. garbage_of d r base t x i i)) (garbage_table d r base t (λ i j. cond (eqb i j) 𝟙 𝟘))
  diagonal_sums r base t x =
      let table = garbage_table-sums r base t (λ i j. cond (eqb i j) 𝟙 𝟘) x in
      record { long = table.long; sums = table.sums ∙ rows_diagonal (R d) r (garbage_of d r base t x) }

  -- checks 3 and 4: a row of a matrix
  pub tab-sums : (n : ℕ) (f x : ℕ → Rd) → Summed d n x (inner (R d) n f x) (tab n f)
  tab-sums n f x = record { long = length-tab n f; sums = dot-tab (R d) n f x }

  pub empty-sums : (n : ℕ) (x : ℕ → Rd) → Summed d n x 𝟘 (zeros d n)
  empty-sums n x = record { long = length-replicate n 𝟘; sums = dot-zeros (R d) n x }
