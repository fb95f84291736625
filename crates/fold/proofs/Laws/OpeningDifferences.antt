-- The difference of two openings, block by block: matrices are linear, so the difference of the t and g digits goes to the difference
-- of the outer commitments; recomposition is linear, so z - z' is recomposed from the difference of the z digits.
use Rattle.std.specs.Prelude.{◌≡◌, refl, true, List, ℕ, ◌+◌, ◌*◌, ◌^◌, ◌<◌, ◌≤◌, length, get_or, drop, ℤ, pos, nat_abs}
use Rattle.std.proofs.Math.Path.{sym, ap, ap₂}
use Rattle.std.proofs.Common.{◌∙◌, add_assoc, mul-le-mul, le_refl, le_trans, arith}
use Rattle.std.proofs.Math.ListN.{take, length-drop}
use Rattle.std.proofs.Math.Seq.{length-take-le, get_or-take, get_or-drop}
use Rattle.integers.specs.Laws.FlatLaws.{block-fits, flat_cong}
use Rattle.integers.specs.Sums.{total, norm_sq}
use Rattle.algebra.specs.CommRing.{CommRing, sub}
use Rattle.algebra.specs.Laws.RingLaws.{neg_distrib, add_interchange, mul-neg}
use Rattle.algebra.specs.Sum.{sum}
use Rattle.algebra.specs.Laws.SumLaws.{sum_cong, sum-add, sum-neg}
use Rattle.algebra.specs.DotProduct.{inner}
use Rattle.algebra.specs.Laws.DotProductLaws.{inner_cong, inner-add-right, inner-neg-right}
use Rattle.ring.specs.Element.{R, el, coeffs, number}
use Rattle.ring.specs.Laws.ElementPlaces.{block-before, el-take, el-part}
use Rattle.ring.specs.Joined.{joined}
use Rattle.ring.specs.Laws.DigitElements.{joined_cong}
use Rattle.residues.specs.Range.{coefficients}
use Rattle.residues.proofs.Laws.RangeLaws.{coefficients-at}
use Rattle.fold.specs.Sizes.{t_size, garbage_size, rest_size, opening_size}
use Rattle.fold.specs.Messages.{elements, times, outer₁}
use Rattle.fold.specs.Statement.{Statement}
use Rattle.fold.specs.Opening.{block, t_place, g_place, z_of, t_of, z_length}
use Rattle.fold.specs.Differences.{difference, tg_digits}
use Rattle.fold.proofs.Laws.DifferenceLaws.{length-difference, el-difference, difference-short}
use Rattle.fold.proofs.Laws.RecomposedLength.{recomposed-short}

-- ---- linear maps

sub-add : (𝓡 : CommRing) (a b c e : 𝓡.Carrier) → 𝓡.add (sub 𝓡 a b) (sub 𝓡 c e) ≡ sub 𝓡 (𝓡.add a c) (𝓡.add b e)
unfolding sub
sub-add 𝓡 a b c e = add_interchange 𝓡 a (𝓡.neg b) c (𝓡.neg e) ∙ ap (𝓡.add (𝓡.add a c)) (sym (neg_distrib 𝓡 b e))

pub times_cong : (d m : ℕ) (M : List ℤ) (k : ℕ) (x y : ℕ → (R d).Carrier) → ((p : ℕ) → p < m → x p ≡ y p) → times d m M k x ≡ times d m M k y
unfolding times
times_cong d m M k x y e = inner_cong (R d) m _ _ x y (λ p _. refl) e

pub times-sub : (d m : ℕ) (M : List ℤ) (k : ℕ) (x y : ℕ → (R d).Carrier)
    → times d m M k (λ p. sub (R d) (x p) (y p)) ≡ sub (R d) (times d m M k x) (times d m M k y)
unfolding times sub
times-sub d m M k x y =
    inner-add-right (R d) m (λ p. el d M (k * m + p)) x (λ p. (R d).neg (y p))
    ∙ ap ((R d).add (inner (R d) m (λ p. el d M (k * m + p)) x)) (inner-neg-right (R d) m (λ p. el d M (k * m + p)) y)

pub joined-sub : (d b t : ℕ) (x y : ℕ → (R d).Carrier)
    → joined d b t (λ e. sub (R d) (x e) (y e)) ≡ sub (R d) (joined d b t x) (joined d b t y)
unfolding joined sub
joined-sub d b t x y =
    let w : ℕ → (R d).Carrier = λ e. number d (pos (b ^ e)) in
    sum_cong (R d) t _ (λ e. (R d).add ((R d).mul (w e) (x e)) ((R d).neg ((R d).mul (w e) (y e))))
    (λ e _. (R d).mul-add (w e) (x e) ((R d).neg (y e)) ∙ ap ((R d).add ((R d).mul (w e) (x e))) (mul-neg (R d) (w e) (y e)))
    ∙ sum-add (R d) t (λ e. (R d).mul (w e) (x e)) (λ e. (R d).neg ((R d).mul (w e) (y e)))
    ∙ ap ((R d).add (sum (R d) t (λ e. (R d).mul (w e) (x e)))) (sym (sum-neg (R d) t (λ e. (R d).mul (w e) (y e))))

-- ---- one opening

module _ (𝓢 : Statement) (o : List ℤ) where
  open 𝓢 use {relation, tz, κ, t₁, t₂}
  open relation use {d, n, r}

  pub el_tg : (p : ℕ) → p < t_size r κ t₁ + garbage_size r t₂ → el d (tg_digits 𝓢 o) p ≡ el d o (t_place tz n + p)
  unfolding tg_digits
  el_tg p h = el-part d o (t_place tz n) (t_size r κ t₁ + garbage_size r t₂) p h

  pub length_tg : length o ≡ opening_size tz n r κ t₁ t₂ * d → length (tg_digits 𝓢 o) ≡ (t_size r κ t₁ + garbage_size r t₂) * d
  unfolding tg_digits opening_size rest_size t_place
  length_tg e = length-take-le _ _ (rw length-drop (omega arith))

  pub length-z : length o ≡ opening_size tz n r κ t₁ t₂ * d → length (take (tz * n * d) o) ≡ tz * n * d
  unfolding opening_size
  length-z e = length-take-le _ _ (omega arith)

  pub tg_small : length o ≡ opening_size tz n r κ t₁ t₂ * d → coefficients o ≡ true → (i : ℕ) → i < length (tg_digits 𝓢 o)
      → nat_abs (get_or (tg_digits 𝓢 o) i (pos 0)) ≤ 2147483598
  unfolding tg_digits
  tg_small e small i h =
      let below : i < (t_size r κ t₁ + garbage_size r t₂) * d = omega (arith, length_tg e) in
      rw (
        get_or-take ((t_size r κ t₁ + garbage_size r t₂) * d) (drop (t_place tz n * d) o) i (pos 0) below,
        get_or-drop (t_place tz n * d) o i (pos 0),
      )
      (coefficients-at o small (t_place tz n * d + i))

-- ---- two openings

module _ (𝓢 : Statement) (o o' : List ℤ) where
  open 𝓢 use {relation, tz, κ, b, b₁, t₁, t₂, B, C}
  open relation use {d, n, r}

  -- row k of t_i is the same where the digits are
  pub t_same : tg_digits 𝓢 o ≡ tg_digits 𝓢 o' → (i k : ℕ) → i < r → k < κ
      → t_of d κ b₁ t₁ (block d o (t_place tz n)) i k ≡ t_of d κ b₁ t₁ (block d o' (t_place tz n)) i k
  unfolding t_of block t_size
  t_same e i k h l = joined_cong d b₁ t₁ _ _ (λ f g. place ((i * t₁ + f) * κ + k) (inside f g))
    where
      inside : (f : ℕ) → f < t₁ → (i * t₁ + f) * κ + k < t_size r κ t₁ + garbage_size r t₂
      inside f g = omega (arith, block-fits (r * t₁) κ (i * t₁ + f) k (block-fits r t₁ i f h g) l)

      place : (p : ℕ) → p < t_size r κ t₁ + garbage_size r t₂ → el d o (t_place tz n + p) ≡ el d o' (t_place tz n + p)
      place p g = sym (el_tg 𝓢 o p g) ∙ ap (λ (xs : List ℤ). el d xs p) e ∙ el_tg 𝓢 o' p g

  module _ (sized : length o ≡ opening_size tz n r κ t₁ t₂ * d) (sized' : length o' ≡ opening_size tz n r κ t₁ t₂ * d) where
    el-apart : (p : ℕ) → p < t_size r κ t₁ + garbage_size r t₂
        → el d (difference (tg_digits 𝓢 o) (tg_digits 𝓢 o')) p ≡ sub (R d) (el d o (t_place tz n + p)) (el d o' (t_place tz n + p))
    el-apart p h =
        el-difference d (tg_digits 𝓢 o) (tg_digits 𝓢 o') p (rw (length_tg 𝓢 o sized) (block-before d p _ h))
        ∙ ap₂ (sub (R d)) (el_tg 𝓢 o p h) (el_tg 𝓢 o' p h)

    -- B and C send the difference of the digits to the difference of the commitments
    pub outer-difference : (k : ℕ)
        → outer₁ d r κ t₁ t₂ B C k (el d (difference (tg_digits 𝓢 o) (tg_digits 𝓢 o')))
        (block d (difference (tg_digits 𝓢 o) (tg_digits 𝓢 o')) (t_size r κ t₁))
        ≡ sub (R d) (outer₁ d r κ t₁ t₂ B C k (block d o (t_place tz n)) (block d o (g_place tz n r κ t₁)))
        (outer₁ d r κ t₁ t₂ B C k (block d o' (t_place tz n)) (block d o' (g_place tz n r κ t₁)))
    unfolding outer₁ block g_place
    outer-difference k =
        ap₂ (R d).add
        (times_cong d (t_size r κ t₁) B k _ _ (λ p h. el-apart p (omega arith)) ∙ times-sub d (t_size r κ t₁) B k _ _)
        (times_cong d (garbage_size r t₂) C k _ _ (λ p h. g-apart p h) ∙ times-sub d (garbage_size r t₂) C k _ _)
        ∙ sub-add (R d) _ _ _ _
      where
        g-apart : (p : ℕ) → p < garbage_size r t₂
            → el d (difference (tg_digits 𝓢 o) (tg_digits 𝓢 o')) (t_size r κ t₁ + p)
            ≡ sub (R d) (el d o (t_place tz n + t_size r κ t₁ + p)) (el d o' (t_place tz n + t_size r κ t₁ + p))
        g-apart p h = rw (add_assoc (t_place tz n) (t_size r κ t₁) p) (el-apart (t_size r κ t₁ + p) (omega arith))

    -- z - z' is recomposed from the difference of the z digits
    z-apart : (y : ℕ) → y < n
        → sub (R d) (z_of d n tz b (el d o) y) (z_of d n tz b (el d o') y)
        ≡ z_of d n tz b (el d (difference (take (tz * n * d) o) (take (tz * n * d) o'))) y
    unfolding z_of
    z-apart y h =
        sym (joined_cong d b tz _ _ (λ e l. entry (e * n + y) (block-fits tz n e y l h))
        ∙ joined-sub d b tz (λ e. el d o (e * n + y)) (λ e. el d o' (e * n + y)))
      where
        entry : (p : ℕ) → p < tz * n
            → el d (difference (take (tz * n * d) o) (take (tz * n * d) o')) p ≡ sub (R d) (el d o p) (el d o' p)
        entry p l =
            let fits = block-before d p (tz * n) l in
            el-difference d (take (tz * n * d) o) (take (tz * n * d) o') p (rw (length-z 𝓢 o sized) fits)
            ∙ ap₂ (sub (R d)) (el-take d o (tz * n * d) p fits) (el-take d o' (tz * n * d) p fits)

    pub z-difference-short : norm_sq (elements d n (λ y. sub (R d) (z_of d n tz b (el d o) y) (z_of d n tz b (el d o') y)))
        ≤ total tz (λ e. b ^ (2 * e)) * (2 * z_length d n tz o + 2 * z_length d n tz o')
    unfolding elements z_length
    z-difference-short =
        let zs = take (tz * n * d) o in
        let zs' = take (tz * n * d) o' in
        rw (flat_cong n _ (λ y. coeffs d (z_of d n tz b (el d (difference zs zs')) y)) (λ y h. ap (coeffs d) (z-apart y h)))
        (le_trans (recomposed-short d n tz b (difference zs zs') (length-difference zs zs' ∙ length-z 𝓢 o sized))
        (mul-le-mul (le_refl _) (difference-short zs zs' (length-z 𝓢 o sized ∙ sym (length-z 𝓢 o' sized')))))
