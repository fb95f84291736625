-- A map that keeps zero and sums of two keeps every sum; sums of integers and of natural numbers modulo m.
use Rattle.std.specs.Prelude.{◌≡◌, T, ltb, ℤ}
use Rattle.std.proofs.Math.Path.{refl, ap}
use Rattle.std.proofs.Common.{◌∙◌}
use Prim.Native.Nat.{ℕ, zero, suc}
use Rattle.integers.specs.Sums.{total}
use Rattle.algebra.specs.CommRing.{CommRing}
use Rattle.algebra.specs.IntegersModulo.{Zmod}
use Rattle.algebra.specs.Residue.{make, reduce}
use Rattle.algebra.specs.Laws.ResidueLaws.{make-add, reduce-zero, reduce-add}
use Rattle.algebra.specs.Sum.{sum}
use Rattle.algebra.specs.Integers.{ℤ-ring}

-- a map that keeps zero and sums of two keeps every sum
module _ (𝓡 𝓢 : CommRing) (h : 𝓡.Carrier → 𝓢.Carrier) (h-zero : h 𝓡.zero ≡ 𝓢.zero)
    (h-add : (a b : 𝓡.Carrier) → h (𝓡.add a b) ≡ 𝓢.add (h a) (h b)) where
  pub sum-map : (n : ℕ) (f : ℕ → 𝓡.Carrier) → h (sum 𝓡 n f) ≡ sum 𝓢 n (λ i. h (f i))
  unfolding sum
  sum-map zero f = h-zero
  sum-map (suc n) f = h-add (sum 𝓡 n f) (f n) ∙ ap (λ x. 𝓢.add x (h (f n))) (sum-map n f)

module _ (m : ℕ) (m>0 : T (ltb 0 m)) where
  pub reduce-sum : (n : ℕ) (f : ℕ → ℤ) → reduce m m>0 (sum ℤ-ring n f) ≡ sum (Zmod m m>0) n (λ i. reduce m m>0 (f i))
  reduce-sum = sum-map ℤ-ring (Zmod m m>0) (reduce m m>0) (reduce-zero m m>0) (reduce-add m m>0)

  -- the same from the sums of natural numbers
  pub make-total : (n : ℕ) (f : ℕ → ℕ) → make m m>0 (total n f) ≡ sum (Zmod m m>0) n (λ i. make m m>0 (f i))
  unfolding sum total
  make-total zero f = refl
  make-total (suc n) f = make-add m m>0 (total n f) (f n) ∙ ap (λ x. (Zmod m m>0).add x (make m m>0 (f n))) (make-total n f)
