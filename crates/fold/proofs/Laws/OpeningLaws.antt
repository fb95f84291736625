-- The blocks of an opening: what is read from each place is what was laid out there, and the three squared lengths of check 9 are
-- together that of the opening.
use Rattle.std.specs.Prelude.{◌≡◌, List, ◌++◌, ℕ, ◌+◌, ◌*◌, ◌<◌, length, take, ℤ}
use Rattle.std.proofs.Math.Path.{sym, ap}
use Rattle.std.proofs.Common.{◌∙◌, add_assoc, add-mul, length-drop, take-append-drop, drop-drop, take_all}
use native.Mathlib.Omega.{arith}
use Rattle.std.proofs.Math.ListN.{drop, length-append}
use Rattle.std.proofs.Math.Seq.{drop_at}
use Rattle.integers.specs.Sums.{norm_sq}
use Rattle.integers.specs.Laws.SumLaws.{norm_sq-append}
use Rattle.ring.specs.Element.{el}
use Rattle.fold.specs.Sizes.{t_size, garbage_size, rest_size, opening_size}
use Rattle.fold.proofs.Laws.Layout.{el-append, el-after}
use Rattle.fold.specs.Messages.{opening}
use Rattle.fold.specs.Opening.{block, t_place, g_place, h_place, z_length, tg_length, h_length, digits_length}

-- a list cut at two places
norm_sq-cut : (xs : List ℤ) (a k : ℕ) → norm_sq xs ≡ norm_sq (take a xs) + (norm_sq (take k (drop a xs)) + norm_sq (drop (a + k) xs))
norm_sq-cut xs a k =
    let all = ap norm_sq (take-append-drop a xs) in
    let after = ap norm_sq (take-append-drop k (drop a xs)) in
    let rest = ap norm_sq (drop-drop k a xs) in
    omega (arith, norm_sq-append (take a xs) (drop a xs), norm_sq-append (take k (drop a xs)) (drop k (drop a xs)))

-- check 9 counts every number of an opening once
pub digits-length : (d n r tz κ t₁ t₂ : ℕ) (o : List ℤ) → length o ≡ opening_size tz n r κ t₁ t₂ * d → digits_length d n r tz κ t₁ t₂ o ≡ norm_sq o
unfolding opening_size rest_size z_length tg_length h_length t_place g_place h_place
digits-length d n r tz κ t₁ t₂ o sized =
    let tg = t_size r κ t₁ + garbage_size r t₂ in
    let end : tz * n * d + tg * d ≡ (tz * n + t_size r κ t₁ + garbage_size r t₂) * d = omega arith in
    let last : take (garbage_size r t₁ * d) (drop (tz * n * d + tg * d) o) ≡ drop (tz * n * d + tg * d) o =
    take_all (garbage_size r t₁ * d) (drop (tz * n * d + tg * d) o) (omega (arith, length-drop (tz * n * d + tg * d) o)) in
    let h-part = ap norm_sq (sym last) ∙ ap (λ k. norm_sq (take (garbage_size r t₁ * d) (drop k o))) end in
    omega (arith, norm_sq-cut o (tz * n * d) (tg * d), h-part)

module _ (d n r tz κ t₁ t₂ : ℕ) (zs ts gs hs : List ℤ) (z-length : length zs ≡ tz * n * d) (t-length : length ts ≡ t_size r κ t₁ * d)
    (g-length : length gs ≡ garbage_size r t₂ * d) (h-length : length hs ≡ garbage_size r t₁ * d) where
  pub length-opening : length (opening zs ts gs hs) ≡ opening_size tz n r κ t₁ t₂ * d
  unfolding opening opening_size rest_size
  length-opening = simp length-append (omega arith)

  pub opening-z : (y : ℕ) → y < tz * n → el d (opening zs ts gs hs) y ≡ el d zs y
  unfolding opening
  opening-z y h = el-append d zs (ts ++ (gs ++ hs)) (tz * n) y z-length h

  pub opening-t : (y : ℕ) → y < t_size r κ t₁ → block d (opening zs ts gs hs) (t_place tz n) y ≡ el d ts y
  unfolding opening block t_place
  opening-t y h = el-after d zs (ts ++ (gs ++ hs)) (tz * n) y z-length ∙ el-append d ts (gs ++ hs) (t_size r κ t₁) y t-length h

  pub opening-g : (y : ℕ) → y < garbage_size r t₂ → block d (opening zs ts gs hs) (g_place tz n r κ t₁) y ≡ el d gs y
  unfolding opening block g_place t_place
  opening-g y h =
      ap (el d (zs ++ (ts ++ (gs ++ hs)))) (add_assoc (tz * n) (t_size r κ t₁) y)
      ∙ el-after d zs (ts ++ (gs ++ hs)) (tz * n) (t_size r κ t₁ + y) z-length
      ∙ el-after d ts (gs ++ hs) (t_size r κ t₁) y t-length
      ∙ el-append d gs hs (garbage_size r t₂) y g-length h

  pub opening-h : (y : ℕ) → block d (opening zs ts gs hs) (h_place tz n r κ t₁ t₂) y ≡ el d hs y
  unfolding opening block h_place g_place t_place
  opening-h y =
      let place : tz * n + t_size r κ t₁ + garbage_size r t₂ + y ≡ tz * n + (t_size r κ t₁ + (garbage_size r t₂ + y)) = omega arith in
      ap (el d (zs ++ (ts ++ (gs ++ hs)))) place
      ∙ el-after d zs (ts ++ (gs ++ hs)) (tz * n) (t_size r κ t₁ + (garbage_size r t₂ + y)) z-length
      ∙ el-after d ts (gs ++ hs) (t_size r κ t₁) (garbage_size r t₂ + y) t-length
      ∙ el-after d gs hs (garbage_size r t₂) y g-length

  -- the opening from the place of t on, from that of g, from that of h
  pub from-t : drop (t_place tz n * d) (opening zs ts gs hs) ≡ ts ++ (gs ++ hs)
  unfolding opening t_place
  from-t = drop_at zs (ts ++ (gs ++ hs)) (tz * n * d) z-length

  pub from-g : drop (g_place tz n r κ t₁ * d) (opening zs ts gs hs) ≡ gs ++ hs
  unfolding g_place
  from-g =
      ap (λ k. drop k (opening zs ts gs hs)) (add-mul (t_place tz n) (t_size r κ t₁) d)
      ∙ sym (drop-drop (t_size r κ t₁ * d) (t_place tz n * d) (opening zs ts gs hs))
      ∙ ap (drop (t_size r κ t₁ * d)) from-t
      ∙ drop_at ts (gs ++ hs) (t_size r κ t₁ * d) t-length

  pub from-h : drop (h_place tz n r κ t₁ t₂ * d) (opening zs ts gs hs) ≡ hs
  unfolding h_place
  from-h =
      ap (λ k. drop k (opening zs ts gs hs)) (add-mul (g_place tz n r κ t₁) (garbage_size r t₂) d)
      ∙ sym (drop-drop (garbage_size r t₂ * d) (g_place tz n r κ t₁ * d) (opening zs ts gs hs))
      ∙ ap (drop (garbage_size r t₂ * d)) from-g
      ∙ drop_at gs hs (garbage_size r t₂ * d) g-length
