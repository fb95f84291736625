-- Laws of a list o cut into chunks of w 0, w 1, .. elements, each padded with zeros to n' elements.
--     flat_cuts                     the chunks follow one another
--     part-within, part-past        element k of part s is element start w s + k of o, or zero; number_past: its numbers
--     norm_sq_padded_cuts            zeros add nothing to the squared norm
--     block_cuts, trimmed_cuts      each part read back, and all of them with the padding cut off
use Rattle.std.specs.Prelude.{◌≡◌, refl, drop, pos}
use Rattle.std.proofs.Math.Path.{sym, ap, ap₂}
use Rattle.std.proofs.Common.{◌∙◌, zero-mul, mul_assoc, length-take, length-drop, take-add, take-take}
use mathlib.Core.List.{List, ◌++◌}
use Prim.Native.Nat.{ℕ, zero, suc, ◌+◌, ◌-◌, ◌*◌, ◌≤◌, ◌<◌}
use Rattle.std.proofs.Math.Nat.{add-mul, mul-le-mul_right}
use native.Mathlib.Omega.{arith}
use Rattle.std.proofs.Math.ListN.{length, get_or, take, replicate, length-append, get_or-replicate, get_or-append}
use Rattle.std.proofs.lemmas.List.{length-replicate}
use Rattle.std.proofs.Math.Seq.{take_all, get_or-take, get_or-drop, get_or-append-add, take_at}
use Rattle.std.proofs.Math.IntN.{ℤ}
use Rattle.integers.specs.Laws.SumLaws.{total_cong, norm_sq-append}
use Rattle.integers.specs.Sums.{sq, norm_sq}
use Rattle.integers.specs.Flat.{flat}
use Rattle.integers.specs.Laws.FlatLaws.{block-flat, get_d_flat, norm_sq-flat, block-fits, flat_cong, length-flat}
use Rattle.algebra.specs.Triangle.{start}
use Rattle.algebra.specs.Laws.TriangleLaws.{start_mono}
use Rattle.algebra.specs.Laws.PolynomialLaws.{coeff-zero}
use Rattle.residues.specs.Modulus.{Zq, red}
use Rattle.residues.proofs.Laws.ModulusLaws.{red-zero}
use Rattle.ring.specs.Element.{R, el}
use Rattle.ring.specs.Laws.ElementLaws.{element-ext}
use Rattle.ring.specs.Laws.ElementPlaces.{coeff-el, el_cong}
use Rattle.fold.specs.Chunks.{cut, cut_padded, trimmed}

norm_sq-zeros : (k : ℕ) → norm_sq (replicate k (pos 0)) ≡ 0
unfolding norm_sq sq
norm_sq-zeros zero = refl
norm_sq-zeros (suc k) = omega (arith, norm_sq-zeros k)

el-zeros : (d : ℕ) (xs : List ℤ) (p : ℕ) → ((x : ℕ) → x < d → get_or xs (p * d + x) (pos 0) ≡ pos 0) → el d xs p ≡ (R d).zero
el-zeros d xs p h =
    element-ext d (el d xs p) (R d).zero (λ k l. coeff-el d xs p k l ∙ ap red (h k l) ∙ red-zero ∙ sym (coeff-zero Zq d k))

-- the chunks of a list, laid out again
pub flat_cuts : (d r : ℕ) (w : ℕ → ℕ) (o : List ℤ) → flat r (cut d w o) ≡ take (start w r * d) o
unfolding flat start cut
flat_cuts d zero w o = rw zero-mul
flat_cuts d (suc r) w o =
    ap (λ (l : List ℤ). l ++ take (w r * d) (drop (start w r * d) o)) (flat_cuts d r w o)
    ∙ sym (take-add (start w r * d) (w r * d) o)
    ∙ ap (λ k. take k o) (sym (add-mul (start w r) (w r) d))

-- the numbers of a chunk and of its padding
pub padded-width : (d n' w : ℕ) → w ≤ n' → w * d + (n' - w) * d ≡ n' * d
padded-width d n' w h = let e : w + (n' - w) ≡ n' = omega arith in sym (add-mul w (n' - w) d) ∙ ap (λ x. x * d) e

module _ (d r n' : ℕ) (w : ℕ → ℕ) (fits : (s : ℕ) → w s ≤ n') (o : List ℤ) (sized : length o ≡ start w r * d) where
  length_cut : (s : ℕ) → s < r → length (cut d w o s) ≡ w s * d
  unfolding cut
  length_cut s h =
      let inside : (start w s + w s) * d ≤ start w r * d = mul-le-mul_right d (start_mono w s r h) in
      simp (length-take, length-drop) (omega (arith, add-mul (start w s) (w s) d))

  length-cut_padded : (s : ℕ) → s < r → length (cut_padded d n' w o s) ≡ n' * d
  unfolding cut_padded
  length-cut_padded s h =
      length-append (cut d w o s) (replicate ((n' - w s) * d) (pos 0))
      ∙ ap₂ ◌+◌ (length_cut s h) (length-replicate ((n' - w s) * d) (pos 0))
      ∙ padded-width d n' (w s) (fits s)

  get_d_cut_padded : (s k x : ℕ) → s < r → k < n' → x < d
      → get_or (flat r (cut_padded d n' w o)) ((s * n' + k) * d + x) (pos 0) ≡ get_or (cut_padded d n' w o s) (k * d + x) (pos 0)
  get_d_cut_padded s k x h l b =
      let place : (s * n' + k) * d + x ≡ s * (n' * d) + (k * d + x) = omega arith in
      ap (λ p. get_or (flat r (cut_padded d n' w o)) p (pos 0)) place
      ∙ get_d_flat r (n' * d) (cut_padded d n' w o) length-cut_padded s (k * d + x) (pos 0) h (block-fits n' d k x l b)

  pub part-within : (s k : ℕ) → s < r → k < w s → el d (flat r (cut_padded d n' w o)) (s * n' + k) ≡ el d o (start w s + k)
  unfolding cut_padded cut
  part-within s k h l = el_cong d _ o (s * n' + k) (start w s + k) number
    where
      number : (x : ℕ) → x < d
          → get_or (flat r (cut_padded d n' w o)) ((s * n' + k) * d + x) (pos 0) ≡ get_or o ((start w s + k) * d + x) (pos 0)
      number x b =
          let inside : k * d + x < w s * d = block-fits (w s) d k x l b in
          let place : start w s * d + (k * d + x) ≡ (start w s + k) * d + x = omega arith in
          get_d_cut_padded s k x h (omega (arith, fits s)) b
          ∙ get_or-append (cut d w o s) (replicate ((n' - w s) * d) (pos 0)) (pos 0) (k * d + x) (omega (arith, length_cut s h))
          ∙ get_or-take (w s * d) (drop (start w s * d) o) (k * d + x) (pos 0) inside
          ∙ get_or-drop (start w s * d) o (k * d + x) (pos 0)
          ∙ ap (λ p. get_or o p (pos 0)) place

  -- number x of element k past the end of chunk s
  pub number_past : (s k x : ℕ) → s < r → w s ≤ k → k < n' → x < d
      → get_or (flat r (cut_padded d n' w o)) ((s * n' + k) * d + x) (pos 0) ≡ pos 0
  unfolding cut_padded
  number_past s k x h g l b =
      let past : k - w s < n' - w s = omega arith in
      let inside : (k - w s) * d + x < (n' - w s) * d = block-fits (n' - w s) d (k - w s) x past b in
      let whole : w s + (k - w s) ≡ k = omega arith in
      let place : k * d + x ≡ length (cut d w o s) + ((k - w s) * d + x) =
      rw (length_cut s h) (omega (arith, ap (λ y. y * d) whole, add-mul (w s) (k - w s) d)) in
      get_d_cut_padded s k x h l b
      ∙ ap (λ p. get_or (cut d w o s ++ zeros) p (pos 0)) place
      ∙ get_or-append-add (cut d w o s) zeros ((k - w s) * d + x) (pos 0)
      ∙ get_or-replicate ((n' - w s) * d) ((k - w s) * d + x) (pos 0) (pos 0) inside
    where
      zeros : List ℤ
      zeros = replicate ((n' - w s) * d) (pos 0)

  pub part-past : (s k : ℕ) → s < r → w s ≤ k → k < n' → el d (flat r (cut_padded d n' w o)) (s * n' + k) ≡ (R d).zero
  part-past s k h g l = el-zeros d _ (s * n' + k) (λ x b. number_past s k x h g l b)

  pub length_padded_cuts : length (flat r (cut_padded d n' w o)) ≡ r * (n' * d)
  length_padded_cuts = length-flat r (n' * d) (cut_padded d n' w o) length-cut_padded

  pub norm_sq_padded_cuts : norm_sq (flat r (cut_padded d n' w o)) ≡ norm_sq o
  unfolding cut_padded
  norm_sq_padded_cuts =
      norm_sq-flat r (cut_padded d n' w o)
      ∙ total_cong r _ _ (λ s _. one s)
      ∙ sym (norm_sq-flat r (cut d w o))
      ∙ ap norm_sq (flat_cuts d r w o ∙ take_all (start w r * d) o (omega arith))
    where
      one : (s : ℕ) → norm_sq (cut_padded d n' w o s) ≡ norm_sq (cut d w o s)
      one s = omega (arith, norm_sq-append (cut d w o s) (replicate ((n' - w s) * d) (pos 0)), norm_sq-zeros ((n' - w s) * d))

  -- one part, and the chunk in it
  pub block_cuts : (s : ℕ) → s < r → take (n' * d) (drop (s * (n' * d)) (flat r (cut_padded d n' w o))) ≡ cut_padded d n' w o s
  block_cuts = block-flat r (n' * d) (cut_padded d n' w o) length-cut_padded

  pub trimmed_cuts : flat r (trimmed d n' w (flat r (cut_padded d n' w o))) ≡ o
  unfolding cut_padded trimmed
  trimmed_cuts = flat_cong r _ (cut d w o) one ∙ flat_cuts d r w o ∙ take_all (start w r * d) o (omega arith)
    where
      one : (s : ℕ) → s < r → trimmed d n' w (flat r (cut_padded d n' w o)) s ≡ cut d w o s
      one s h =
          ap (λ p. take (w s * d) (drop p (flat r (cut_padded d n' w o)))) (mul_assoc s n' d)
          ∙ sym (take-take (w s * d) (n' * d) _ (mul-le-mul_right d (fits s)))
          ∙ ap (take (w s * d)) (block_cuts s h)
          ∙ take_at (cut d w o s) (replicate ((n' - w s) * d) (pos 0)) (w s * d) (length_cut s h)
