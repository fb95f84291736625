-- From padded parts back: a list xs of r parts of n' elements is cut off, part i after its first w i elements.
--     length-all-trimmed         how many numbers are left
--     el-trimmed                 which element each is of
--     norm_sq-trimmed             their squared length is at most the list's
--     trimmed-padded             padded again, they are the list, where it has zeros after the first w i elements of part i
use Rattle.std.specs.Prelude.{◌≡◌, get_or, drop, ℤ, pos}
use Rattle.std.proofs.Math.Path.{sym, ap, ap₂}
use Rattle.std.proofs.Common.{◌∙◌, mul_assoc, mod-lt, div-add-mod', div-lt_iff_lt-mul, length-take, length-drop, drop_at, take-take, get_or-take, get_or-drop, ext_get_or}
use mathlib.Core.List.{List, ◌++◌}
use Prim.Native.Nat.{ℕ, zero, suc, ◌+◌, ◌-◌, ◌*◌, ◌/◌, ◌%◌, ◌≤◌, ◌<◌}
use Rattle.std.proofs.Math.Nat.{mul-le-mul_right}
use native.Mathlib.Omega.{arith}
use Rattle.std.proofs.Math.ListN.{length, take, replicate, take-append-drop}
use Rattle.std.proofs.lemmas.List.{length-replicate, get_or-replicate}
use Rattle.std.proofs.Math.Seq.{take_at}
use Rattle.integers.specs.Sums.{norm_sq}
use Rattle.integers.specs.Laws.SumLaws.{total_mono, norm_sq-take-le}
use Rattle.integers.specs.Flat.{flat}
use Rattle.integers.specs.Laws.FlatLaws.{flat_cong, flat-at, flat-cut, norm_sq-flat}
use Rattle.algebra.specs.Triangle.{start}
use Rattle.algebra.specs.Laws.Tables.{length-flat-start}
use Rattle.ring.specs.Element.{el}
use Rattle.ring.specs.Laws.ElementPlaces.{el-part}
use Rattle.fold.specs.Chunks.{cut, cut_padded, trimmed}
use Rattle.fold.specs.Laws.ChunkLaws.{start-scale}
use Rattle.fold.proofs.Laws.CutLaws.{padded-width}

module _ (d r n' : ℕ) (w : ℕ → ℕ) (fits : (s : ℕ) → w s ≤ n') (xs : List ℤ) (sized : length xs ≡ r * (n' * d)) where
  length-trimmed : (i : ℕ) → i < r → length (trimmed d n' w xs i) ≡ w i * d
  unfolding trimmed
  length-trimmed i h =
      let inside : i * (n' * d) + n' * d ≤ r * (n' * d) = omega (arith, mul-le-mul_right (n' * d) h) in
      simp (length-take, length-drop) (omega (arith, mul-le-mul_right d (fits i)))

  pub length-all-trimmed : length (flat r (trimmed d n' w xs)) ≡ start w r * d
  length-all-trimmed = length-flat-start r (λ i. w i * d) (trimmed d n' w xs) length-trimmed ∙ start-scale w d r

  cut-trimmed : (i : ℕ) → i < r → cut d w (flat r (trimmed d n' w xs)) i ≡ trimmed d n' w xs i
  unfolding cut
  cut-trimmed i h =
      let rest = flat (r - suc i) (λ j. trimmed d n' w xs (suc i + j)) in
      let before : length (flat i (trimmed d n' w xs)) ≡ start w i * d =
      length-flat-start i (λ j. w j * d) (trimmed d n' w xs) (λ j l. length-trimmed j (omega arith)) ∙ start-scale w d i in
      ap (λ l. take (w i * d) (drop (start w i * d) l)) (flat-at r i (trimmed d n' w xs) h)
      ∙ ap (take (w i * d)) (drop_at (flat i (trimmed d n' w xs)) (trimmed d n' w xs i ++ rest) (start w i * d) before)
      ∙ take_at (trimmed d n' w xs i) rest (w i * d) (length-trimmed i h)

  -- the whole part
  block : ℕ → List ℤ
  block i = take (n' * d) (drop (i * (n' * d)) xs)

  trimmed-block : (i : ℕ) → trimmed d n' w xs i ≡ take (w i * d) (block i)
  unfolding trimmed block
  trimmed-block i =
      ap (λ p. take (w i * d) (drop p xs)) (mul_assoc i n' d)
      ∙ sym (take-take (w i * d) (n' * d) (drop (i * (n' * d)) xs) (mul-le-mul_right d (fits i)))

  pub el-trimmed : (i k : ℕ) → i < r → k < w i → el d (flat r (trimmed d n' w xs)) (start w i + k) ≡ el d xs (i * n' + k)
  unfolding cut trimmed
  el-trimmed i k h l =
      sym (el-part d (flat r (trimmed d n' w xs)) (start w i) (w i) k l)
      ∙ ap (λ part. el d part k) (cut-trimmed i h)
      ∙ el-part d xs (i * n') (w i) k l

  pub norm_sq-trimmed : norm_sq (flat r (trimmed d n' w xs)) ≤ norm_sq xs
  unfolding block
  norm_sq-trimmed =
      omega (
        arith,
        norm_sq-flat r (trimmed d n' w xs),
        total_mono r _ _ (λ i _. shorter i),
        norm_sq-flat r block,
        ap norm_sq (flat-cut r (n' * d) xs sized),
      )
    where
      shorter : (i : ℕ) → norm_sq (trimmed d n' w xs i) ≤ norm_sq (block i)
      shorter i = rw (trimmed-block i) (norm_sq-take-le (block i) (w i * d))

  module _ (zero-past : (i k x : ℕ) → i < r → w i ≤ k → k < n' → x < d → get_or xs ((i * n' + k) * d + x) (pos 0) ≡ pos 0) where
    -- number x past the end of a chunk
    past_end : (i x : ℕ) → i < r → x < (n' - w i) * d → get_or xs (i * (n' * d) + (w i * d + x)) (pos 0) ≡ pos 0
    past_end i x h l =
        let some : 0 < d = positive d l in
        let before : x / d < n' - w i = (div-lt_iff_lt-mul some).1 l in
        let place : i * (n' * d) + (w i * d + x) ≡ (i * n' + (w i + x / d)) * d + x % d = omega (arith, div-add-mod' x d) in
        ap (λ p. get_or xs p (pos 0)) place ∙ zero-past i (w i + x / d) (x % d) h (omega arith) (omega arith) (mod-lt x some)
      where
        positive : (d : ℕ) → x < (n' - w i) * d → 0 < d
        positive zero l = let no : ⊥ = omega arith in absurd no
        positive (suc d) l = omega arith

    block-padded : (i : ℕ) → i < r → trimmed d n' w xs i ++ replicate ((n' - w i) * d) (pos 0) ≡ block i
    unfolding trimmed block
    block-padded i h = ap₂ ◌++◌ (trimmed-block i) (sym last) ∙ take-append-drop (w i * d) (block i)
      where
        length_last : length (drop (w i * d) (block i)) ≡ (n' - w i) * d
        length_last =
            let inside : i * (n' * d) + n' * d ≤ r * (n' * d) = omega (arith, mul-le-mul_right (n' * d) h) in
            let widths = padded-width d n' (w i) (fits i) in
            simp (length-take, length-drop) (omega arith)

        last : drop (w i * d) (block i) ≡ replicate ((n' - w i) * d) (pos 0)
        last = ext_get_or (pos 0) _ _ (length_last ∙ sym (length-replicate ((n' - w i) * d) (pos 0))) number
          where
            number : (x : ℕ) → x < length (drop (w i * d) (block i))
                → get_or (drop (w i * d) (block i)) x (pos 0) ≡ get_or (replicate ((n' - w i) * d) (pos 0)) x (pos 0)
            number x b =
                let l : x < (n' - w i) * d = omega (arith, length_last) in
                get_or-drop (w i * d) (block i) x (pos 0)
                ∙ get_or-take (n' * d) (drop (i * (n' * d)) xs) (w i * d + x) (pos 0) (omega (arith, padded-width d n' (w i) (fits i)))
                ∙ get_or-drop (i * (n' * d)) xs (w i * d + x) (pos 0)
                ∙ past_end i x h l
                ∙ sym (get_or-replicate ((n' - w i) * d) x (pos 0) (pos 0) l)

    pub trimmed-padded : flat r (cut_padded d n' w (flat r (trimmed d n' w xs))) ≡ xs
    unfolding cut_padded block
    trimmed-padded =
        flat_cong r _ block
        (λ i h. ap (λ l. l ++ replicate ((n' - w i) * d) (pos 0)) (cut-trimmed i h) ∙ block-padded i h)
        ∙ flat-cut r (n' * d) xs sized
