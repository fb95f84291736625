-- The lists of the bare level: their lengths, and what stands at each place of them. SPECIFICATION 14.4 to 14.6.
--     el_blocks                              lists of m elements each, laid out one after the other
--     length-bare_t, el-bare_t                 t
--     length-bare_phi, part-bare_phi           φ, as the turns read it
--     length-turn, el-turn, turn_cong, element_cong     a turn reads φ_j and s_j for j ≤ i, and c_j for j < i
--     turn_of_phi, el-before                 so it is made from the φ that `bare_phi` writes and from the challenges before it
--     length_turns, el_turns                 all turns
--     length-bare_opening, opening-t, opening-z, opening-turn, opening-z_numbers     the bare opening
use Rattle.std.specs.Prelude.{◌≡◌, List, ◌++◌, length, get_or, take, ℤ, pos}
use Rattle.std.proofs.Math.Path.{refl, ap, ap₂}
use Rattle.std.proofs.Common.{◌∙◌, add_assoc, le_refl, arith, drop_at}
use Prim.Native.Nat.{ℕ, zero, suc, ◌+◌, ◌*◌, ◌≤◌, ◌<◌}
use Rattle.std.proofs.Math.ListN.{length-append}
use Rattle.std.proofs.Math.Seq.{take_at}
use Rattle.integers.specs.Flat.{flat}
use Rattle.integers.specs.Laws.FlatLaws.{length-flat, get_d_flat, flat_cong, block-fits}
use Rattle.algebra.specs.Laws.SumLaws.{sum_cong}
use Rattle.algebra.specs.Laws.DotProductLaws.{inner_cong}
use Rattle.ring.specs.Element.{R, el, coeffs}
use Rattle.ring.specs.Laws.ElementPlaces.{block-before, el_cong, el-take}
use Rattle.fold.specs.Statement.{part}
use Rattle.fold.specs.Messages.{elements, t, g}
use Rattle.fold.proofs.Laws.Layout.{el-append, el-after}
use Rattle.fold.proofs.Laws.MessageLaws.{length-elements, el-elements}
use Rattle.bare.specs.Messages.{four, bare_t, bare_phi, mixedΦ, ownΦ, earlier_z, mixed_z, own_z, turn_element, turn, bare_opening}
use Rattle.bare.specs.Opening.{z_place, turns_place, bare_size, t_at, z_at, turn_at, z_numbers}

-- ---- lists of m elements each

module _ (d m n : ℕ) (F : ℕ → List ℤ) (wide : (i : ℕ) → i < n → length (F i) ≡ m * d) where
  pub length_blocks : length (flat n F) ≡ n * m * d
  length_blocks = omega (arith, length-flat n (m * d) F wide)

  el_blocks : (i k : ℕ) → i < n → k < m → el d (flat n F) (i * m + k) ≡ el d (F i) k
  el_blocks i k h l = el_cong d (flat n F) (F i) (i * m + k) k entry
    where
      entry : (j : ℕ) → j < d → get_or (flat n F) ((i * m + k) * d + j) (pos 0) ≡ get_or (F i) (k * d + j) (pos 0)
      entry j b =
          let place : (i * m + k) * d + j ≡ i * (m * d) + (k * d + j) = omega arith in
          ap (λ p. get_or (flat n F) p (pos 0)) place ∙ get_d_flat n (m * d) F wide i (k * d + j) (pos 0) h (block-fits m d k j l b)

-- ---- t and φ

module _ (d n r κ : ℕ) (A s : List ℤ) where
  pub length-bare_t : length (bare_t d n r κ A s) ≡ r * κ * d
  unfolding bare_t
  length-bare_t = length_blocks d κ r _ (λ i _. length-elements d κ (t d n A s i))

  pub el-bare_t : (i k : ℕ) → i < r → k < κ → el d (bare_t d n r κ A s) (i * κ + k) ≡ t d n A s i k
  unfolding bare_t
  el-bare_t i k h l = el_blocks d κ r _ (λ i _. length-elements d κ (t d n A s i)) i k h l ∙ el-elements d κ (t d n A s i) k l

module _ (d n r : ℕ) (φ : ℕ → ℕ → (R d).Carrier) where
  pub length-bare_phi : length (bare_phi d n r φ) ≡ r * n * d
  unfolding bare_phi
  length-bare_phi = length_blocks d n r _ (λ i _. length-elements d n (φ i))

  part-bare_phi : (i k : ℕ) → i < r → k < n → part d n (bare_phi d n r φ) i k ≡ φ i k
  unfolding bare_phi part
  part-bare_phi i k h l = el_blocks d n r _ (λ i _. length-elements d n (φ i)) i k h l ∙ el-elements d n (φ i) k l

-- ---- a turn

module _ (d n : ℕ) (φ : ℕ → ℕ → (R d).Carrier) (c s : List ℤ) (i : ℕ) where
  pub length-turn : length (turn d n φ c s i) ≡ four * d
  unfolding turn
  length-turn = length-elements d four (turn_element d n φ c s i)

  pub el-turn : (e : ℕ) → e < four → el d (turn d n φ c s i) e ≡ turn_element d n φ c s i e
  unfolding turn
  el-turn e h = el-elements d four (turn_element d n φ c s i) e h

module _ (d n : ℕ) (φ φ' : ℕ → ℕ → (R d).Carrier) (c c' s : List ℤ) (i : ℕ)
    (φ-same : (j k : ℕ) → j ≤ i → k < n → φ j k ≡ φ' j k) (c-same : (j : ℕ) → j < i → el d c j ≡ el d c' j) where
  pub element_cong : (e : ℕ) → turn_element d n φ c s i e ≡ turn_element d n φ' c' s i e
  unfolding turn_element mixedΦ ownΦ mixed_z earlier_z own_z
  element_cong zero =
      sum_cong (R d) i _ _ (λ j h. ap₂ (R d).mul
      (ap₂ (R d).add
      (inner_cong (R d) n _ _ _ _ (λ k. φ-same j k (omega arith)) (λ _ _. refl))
      (inner_cong (R d) n _ _ _ _ (λ k. φ-same i k (le_refl i)) (λ _ _. refl)))
      (c-same j h))
  element_cong (suc zero) = inner_cong (R d) n _ _ _ _ (λ k. φ-same i k (le_refl i)) (λ _ _. refl)
  element_cong (suc (suc zero)) =
      let earlier = sum_cong (R d) i _ _ (λ j h. ap ((R d).mul (g d n s i j)) (c-same j h)) in ap₂ (R d).add earlier earlier
  element_cong (suc (suc (suc e))) = refl

  turn_cong : turn d n φ c s i ≡ turn d n φ' c' s i
  unfolding turn elements
  turn_cong = flat_cong four _ _ (λ e _. ap (coeffs d) (element_cong e))

-- with the φ that is written, and the challenges before it
pub turn_of_phi : (d n r : ℕ) (φ : ℕ → ℕ → (R d).Carrier) (c s : List ℤ) (i : ℕ) → i < r
    → turn d n (part d n (bare_phi d n r φ)) c s i ≡ turn d n φ c s i
turn_of_phi d n r φ c s i h =
    turn_cong d n (part d n (bare_phi d n r φ)) φ c c s i (λ j k l b. part-bare_phi d n r φ j k (omega arith) b) (λ _ _. refl)

pub el-before : (d : ℕ) (c : List ℤ) (i j : ℕ) → j < i → el d (take (i * d) c) j ≡ el d c j
el-before d c i j h = el-take d c (i * d) j (block-before d j i h)

-- all turns, with challenges c i before turn i
module _ (d n r : ℕ) (φ : ℕ → ℕ → (R d).Carrier) (c : ℕ → List ℤ) (s : List ℤ) where
  pub length_turns : length (flat r (λ i. turn d n φ (c i) s i)) ≡ r * four * d
  length_turns = length_blocks d four r _ (λ i _. length-turn d n φ (c i) s i)

  pub el_turns : (e i : ℕ) → i < r → e < four → el d (flat r (λ i. turn d n φ (c i) s i)) (i * four + e) ≡ turn_element d n φ (c i) s i e
  el_turns e i h l = el_blocks d four r _ (λ i _. length-turn d n φ (c i) s i) i e h l ∙ el-turn d n φ (c i) s i e l

-- ---- the bare opening

module _ (d n r κ : ℕ) (ts zs turns : List ℤ) (t-length : length ts ≡ r * κ * d) (z-length : length zs ≡ n * d) where
  pub length-bare_opening : length turns ≡ r * four * d → length (bare_opening ts zs turns) ≡ bare_size n r κ * d
  unfolding bare_opening bare_size
  length-bare_opening turns-length = simp length-append (omega arith)

  pub opening-t : (i k : ℕ) → i < r → k < κ → t_at d n r κ (bare_opening ts zs turns) i k ≡ el d ts (i * κ + k)
  unfolding bare_opening t_at
  opening-t i k h l = el-append d ts (zs ++ turns) (r * κ) (i * κ + k) t-length (block-fits r κ i k h l)

  pub opening-z : (k : ℕ) → k < n → z_at d n r κ (bare_opening ts zs turns) k ≡ el d zs k
  unfolding bare_opening z_at z_place
  opening-z k h = el-after d ts (zs ++ turns) (r * κ) k t-length ∙ el-append d zs turns n k z-length h

  pub opening-turn : (e i : ℕ) → turn_at d n r κ (bare_opening ts zs turns) e i ≡ el d turns (i * four + e)
  unfolding bare_opening turn_at turns_place
  opening-turn e i =
      ap (el d (ts ++ (zs ++ turns))) (add_assoc (r * κ) n (i * four + e))
      ∙ el-after d ts (zs ++ turns) (r * κ) (n + (i * four + e)) t-length
      ∙ el-after d zs turns n (i * four + e) z-length

  pub opening-z_numbers : z_numbers d n r κ (bare_opening ts zs turns) ≡ zs
  unfolding bare_opening z_numbers z_place
  opening-z_numbers = ap (take (n * d)) (drop_at ts (zs ++ turns) (r * κ * d) t-length) ∙ take_at zs turns (n * d) z-length
