-- Constraints laid out one after the other, read back (LaidOut): φ of each is the one that was laid out, and so is the value of its function.
use Rattle.std.specs.Prelude.{◌≡◌, refl, List, ◌++◌, ℤ, pos}
use Rattle.std.proofs.Math.Path.{ap}
use Rattle.std.proofs.Common.{◌∙◌}
use Prim.Native.Nat.{ℕ, ◌+◌, ◌*◌, ◌<◌}
use native.Mathlib.Omega.{arith}
use Rattle.std.proofs.Math.ListN.{get_or}
use Rattle.integers.specs.Flat.{flat}
use Rattle.integers.specs.Laws.FlatLaws.{get_d_flat, block-fits}
use Rattle.algebra.specs.DotProduct.{value}
use Rattle.algebra.specs.Laws.DotProductLaws.{value_cong}
use Rattle.ring.specs.Element.{R, el}
use Rattle.ring.specs.Laws.ElementPlaces.{el_cong, el-flat-coeffs}
use Rattle.fold.specs.Sizes.{pairs}
use Rattle.fold.specs.Statement.{function, whole_at}
use Rattle.fold.specs.Messages.{elements}
use Rattle.fold.specs.Constraint.{Constraint, φ', laid_out}
use Rattle.fold.proofs.Laws.LaidOut.{length-elements, φpart, within-φ, all, rest, from-there, a-written}

module _ (d n r : ℕ) (w : ℕ → ℕ) (x : Constraint d) where
  el-φ : (i k : ℕ) → i < r → k < n → el d (φpart d n r w x) (i * n + k) ≡ φ' d w x.table i k
  unfolding φpart elements
  el-φ i k h l =
      el_cong d _ (elements d n (φ' d w x.table i)) (i * n + k) k number
      ∙ el-flat-coeffs d n (φ' d w x.table i) k l
    where
      number : (y : ℕ) → y < d
          → get_or (φpart d n r w x) ((i * n + k) * d + y) (pos 0) ≡ get_or (elements d n (φ' d w x.table i)) (k * d + y) (pos 0)
      number y b =
          let place : (i * n + k) * d + y ≡ i * (n * d) + (k * d + y) = omega arith in
          ap (λ p. get_or (φpart d n r w x) p (pos 0)) place
          ∙ get_d_flat r (n * d) _ (λ s _. length-elements d n (φ' d w x.table s)) i (k * d + y) (pos 0) h (block-fits n d k y l b)

  module _ (rest : List ℤ) where
    pub laid_out-φ : (i k : ℕ) → i < r → k < n → el d (laid_out d n r w x ++ rest) (pairs r + (i * n + k)) ≡ φ' d w x.table i k
    laid_out-φ i k h l = within-φ d n r w x rest i k h l ∙ el-φ i k h l

module _ (d n r : ℕ) (w : ℕ → ℕ) (count : ℕ) (F : ℕ → Constraint d) where
  module _ (x : ℕ) (h : x < count) where
    pub value_written : (s : ℕ → ℕ → (R d).Carrier)
        → value (R d) r n (function d n r (whole_at d n r (flat count (λ y. laid_out d n r w (F y))) x)) s
        ≡ value (R d) r n (record { a = (F x).a; φ = φ' d w (F x).table }) s
    unfolding all
    value_written s =
        value_cong (R d) r n _ _ s s
        (a-written d n r w count F x h)
        (λ i k l b. ap (λ xs. el d xs (pairs r + (i * n + k))) (from-there d n r w count F x h) ∙ laid_out-φ d n r w (F x) (rest d n r w count F x h) i k l b)
        (λ i k _ _. refl)
