-- One row of checks 3, 4 and 5, from what its calls promise.
use Rattle.std.specs.Prelude.{◌≡◌, refl, Bool, List, ℕ, ◌+◌, ◌*◌, ◌<◌, ◌≤◌, ℤ}
use Rattle.std.proofs.Math.Path.{ap, ap₂}
use Rattle.std.proofs.Common.{◌∙◌, zero-add}
use Rattle.algebra.specs.Sum.{sum}
use Rattle.algebra.specs.Laws.SumLaws.{sum_cong}
use Rattle.algebra.specs.DotProduct.{inner, mixed}
use Rattle.ring.specs.Element.{R, lift, el, array, same}
use Rattle.ring.specs.Laws.ElementEquality.{every_cong}
use Rattle.fold.specs.declared.Sizes.{Sizes}
use Rattle.fold.specs.Sizes.{t_size, garbage_size}
use Rattle.fold.specs.Messages.{times, outer₁, outer₂}
use Rattle.fold.specs.Opening.{block, t_place, g_place, h_place}
use Rattle.fold.specs.Verdict.{check₅, check₆, check₇}
use Rattle.ring.specs.Laws.Loops.{held}
use Rattle.checks.specs.Known.Facts.{t_block_of, g_block_of, h_block_of}

module _ (tz : ℕ) (s : Sizes) (small : s.shape.d ≤ 64) (o U : List ℤ) (k : ℕ) where
  -- t digits and g digits, of the given numbers of elements, from the given places on
  pub first-row : (B C : List ℤ) (tcount tstart gcount gstart : ℕ) (tpart gpart row u : List ℤ) (r : Bool)
      → tcount ≡ t_size s.shape.r s.kappa s.t1 → tstart ≡ t_place tz s.shape.n
      → tpart ≡ array s.shape.d (times s.shape.d tcount B k (block s.shape.d o tstart))
      → gcount ≡ garbage_size s.shape.r s.t2 → gstart ≡ g_place tz s.shape.n s.shape.r s.kappa s.t1
      → gpart ≡ array s.shape.d (times s.shape.d gcount C k (block s.shape.d o gstart))
      → row ≡ array s.shape.d ((R s.shape.d).add (lift s.shape.d tpart) (lift s.shape.d gpart))
      → u ≡ array s.shape.d (el s.shape.d U k) → r ≡ same s.shape.d (lift s.shape.d u) (lift s.shape.d row)
      → r ≡ same s.shape.d (el s.shape.d U k) (outer₁ s.shape.d s.shape.r s.kappa s.t1 s.t2 B C k (t_block_of tz s o) (g_block_of tz s o))
  unfolding outer₁
  first-row B C tcount tstart gcount gstart tpart gpart row u r tc tp tx gc gp gx sums ux result =
      result ∙ ap₂ (same s.shape.d) (held small ux) (held small sums
      ∙ ap₂ (R s.shape.d).add (held small tx ∙ rw (tc, tp) refl) (held small gx ∙ rw (gc, gp) refl))

  pub second-row : (D : List ℤ) (count start : ℕ) (row u : List ℤ) (r : Bool) → count ≡ garbage_size s.shape.r s.t1
      → start ≡ h_place tz s.shape.n s.shape.r s.kappa s.t1 s.t2
      → row ≡ array s.shape.d (times s.shape.d count D k (block s.shape.d o start))
      → u ≡ array s.shape.d (el s.shape.d U k) → r ≡ same s.shape.d (lift s.shape.d u) (lift s.shape.d row)
      → r ≡ same s.shape.d (el s.shape.d U k) (outer₂ s.shape.d s.shape.r s.t1 D k (h_block_of tz s o))
  unfolding outer₂
  second-row D count start row u r hc hp hx ux result =
      result ∙ ap₂ (same s.shape.d) (held small ux) (held small hx ∙ rw (hc, hp) refl)

-- a matrix times vectors that agree
pub times_cong : (d m : ℕ) (M : List ℤ) (k : ℕ) (x y : ℕ → (R d).Carrier) → ((i : ℕ) → i < m → x i ≡ y i) → times d m M k x ≡ times d m M k y
unfolding times inner
times_cong d m M k x y h = sum_cong (R d) m _ _ (λ i l. ap ((R d).mul (el d M (k * m + i))) (h i l))

pub times-block : (d m : ℕ) (M : List ℤ) (k : ℕ) (z : List ℤ) → times d m M k (block d z 0) ≡ times d m M k (el d z)
unfolding block
times-block d m M k z = times_cong d m M k _ _ (λ i _. ap (el d z) (zero-add i))

-- checks 5 and 6 with z read from a list
module _ (d n r : ℕ) (c : List ℤ) (x y : ℕ → (R d).Carrier) (agree : (i : ℕ) → i < n → x i ≡ y i) where
  pub check_five_cong : (κ : ℕ) (A : List ℤ) (t : ℕ → ℕ → (R d).Carrier) → check₅ d n r κ A c x t ≡ check₅ d n r κ A c y t
  unfolding check₅
  check_five_cong κ A t = every_cong κ _ _ (λ k _. ap (λ u. same d u (sum (R d) r (λ i. (R d).mul (el d c i) (t i k))))
      (times_cong d n A k x y agree))

  pub check_six_cong : (g : ℕ → ℕ → (R d).Carrier) → check₆ d n r c x g ≡ check₆ d n r c y g
  unfolding check₆ inner
  check_six_cong g = ap (λ u. same d u (mixed (R d) r g (el d c))) (sum_cong (R d) n _ _ (λ i l. ap₂ (R d).mul (agree i l) (agree i l)))

-- row k of A z, with z at the start of a list, against a sum
pub amortized-row : (d n : ℕ) (A z : List ℤ) (k : ℕ) (total : (R d).Carrier) (left right : List ℤ) (r : Bool) → d ≤ 64
    → left ≡ array d (times d n A k (block d z 0)) → right ≡ array d total → r ≡ same d (lift d left) (lift d right)
    → r ≡ same d (times d n A k (el d z)) total
amortized-row d n A z k total left right r small e f result =
    result ∙ ap₂ (same d) (held small e ∙ times-block d n A k z) (held small f)

pub folded-summand : (d : ℕ) (x y : (R d).Carrier) (xs ys zs : List ℤ) → d ≤ 64 → xs ≡ array d x → ys ≡ array d y
    → zs ≡ array d ((R d).mul (lift d xs) (lift d ys)) → zs ≡ array d ((R d).mul x y)
folded-summand d x y xs ys zs small e f g = g ∙ ap (array d) (ap₂ (R d).mul (held small e) (held small f))

pub self_product : (d n r : ℕ) (c z : List ℤ) (g : ℕ → ℕ → (R d).Carrier) (left right : List ℤ) (t : Bool) → d ≤ 64
    → left ≡ array d (sum (R d) n (λ k. (R d).mul (el d z (0 + k)) (el d z (0 + k)))) → right ≡ array d (mixed (R d) r g (el d c))
    → t ≡ same d (lift d left) (lift d right) → t ≡ check₆ d n r c (el d z) g
unfolding check₆ inner
self_product d n r c z g left right t small e f result =
    let terms = sum_cong (R d) n _ (λ k. (R d).mul (el d z k) (el d z k)) (λ k _. ap (λ i. (R d).mul (el d z i) (el d z i)) (zero-add k)) in
    result ∙ ap₂ (same d) (held small e ∙ terms) (held small f)

pub check_seven_cong : (d n r : ℕ) (c : List ℤ) (x y : ℕ → (R d).Carrier) → ((i : ℕ) → i < n → x i ≡ y i) → (φ h : ℕ → ℕ → (R d).Carrier)
    → check₇ d n r c φ x h ≡ check₇ d n r c φ y h
unfolding check₇ inner
check_seven_cong d n r c x y agree φ h =
    ap (λ u. same d u (mixed (R d) r h (el d c))) (sum_cong (R d) r _ _ (λ i _. ap (λ u. (R d).mul u (el d c i))
    (sum_cong (R d) n _ _ (λ k l. ap ((R d).mul (φ i k)) (agree k l)))))
