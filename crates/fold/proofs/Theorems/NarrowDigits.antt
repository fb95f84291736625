-- Row 15 (SPECIFICATION 7.i): "each low digit x of the opening, of a base B, has 2·|x| ≤ B. B is b for z low, b1 for the t and h digits, b2 for the g
-- digits." "The top digit of each value .. is free". By index, as recomposition reads the digits (z_of, t_of, garbage_of; Opening.antt): digit e is low
-- where e + 1 is below the number of digits.
--     NarrowOpening, narrow-exactly    the test of the row holds exactly where each low digit is narrow
--     WideOpening, wide-exactly        it fails "exactly when the absolute value of a low digit is more than half its base"
use Rattle.std.specs.Prelude.{◌≡◌, false, ◌↔◌, ◌⊎◌, List, [], ◌∷◌, ℕ, ◌+◌, ◌*◌, ◌≤◌, ◌<◌, get_or, drop, ℤ, pos, nat_abs}
use Rattle.std.proofs.Math.Bool.{true}
use Rattle.std.proofs.Math.Logic.{inl, inr}
use native.Mathlib.Omega.{arith}
use Rattle.std.proofs.Common.{get_or-drop}
use Rattle.algebra.specs.Triangle.{pair}
use Rattle.algebra.specs.Laws.TriangleLaws.{pair-bound, PairOf, pair_of}
use Rattle.fold.specs.Sizes.{pairs}
use Rattle.fold.specs.Statement.{Statement}
use Rattle.fold.specs.Opening.{t_place, g_place, h_place}
use Rattle.fold.specs.Refusals.{low_narrow, narrow_digits, narrow}
use Rattle.fold.specs.Laws.RefusalLaws.{◌&◌, never_true, all_of_all, all_all_of, SomeFails, all_of_false}
use Rattle.fold.proofs.Laws.NarrowLaws.{LowNarrow, low_narrow-at}
use Rattle.fold.proofs.Laws.NarrowTests.{low_narrow_of, WideDigit, low_narrow_false}

module _ (𝓢 : Statement) (o : List ℤ) where
  open 𝓢 use {relation, tz, κ, b, b₁, b₂, t₁, t₂}
  open relation use {d, n, r}

  -- number x of element y of the digits that start at a place
  abbrev pub coefficient_at : (place y x : ℕ) → ℤ
  coefficient_at place y x = get_or o ((place + y) * d + x) (pos 0)

  pub record NarrowOpening : Type 0 where
    pub z : (e k x : ℕ) → e + 1 < tz → k < n → x < d → nat_abs (coefficient_at 0 (e * n + k) x) * 2 ≤ b
    pub t : (i e k x : ℕ) → i < r → e + 1 < t₁ → k < κ → x < d → nat_abs (coefficient_at (t_place tz n) ((i * t₁ + e) * κ + k) x) * 2 ≤ b₁
    pub g : (i j e x : ℕ) → i ≤ j → j < r → e + 1 < t₂ → x < d → nat_abs (coefficient_at (g_place tz n r κ t₁) (pair r i j * t₂ + e) x) * 2 ≤ b₂
    pub h : (i j e x : ℕ) → i ≤ j → j < r → e + 1 < t₁ → x < d → nat_abs (coefficient_at (h_place tz n r κ t₁ t₂) (pair r i j * t₁ + e) x) * 2 ≤ b₁

  -- a low digit of more than half its base: of z, of t, of the g or h digits from a place on
  pub record WideZ : Type 0 where
    pub e : ℕ
    pub k : ℕ
    pub x : ℕ
    pub low : e + 1 < tz
    pub row : k < n
    pub number : x < d
    pub wide : b < nat_abs (coefficient_at 0 (e * n + k) x) * 2

  pub record WideT : Type 0 where
    pub i : ℕ
    pub e : ℕ
    pub k : ℕ
    pub x : ℕ
    pub part : i < r
    pub low : e + 1 < t₁
    pub row : k < κ
    pub number : x < d
    pub wide : b₁ < nat_abs (coefficient_at (t_place tz n) ((i * t₁ + e) * κ + k) x) * 2

  pub record WideGarbage (place t base : ℕ) : Type 0 where
    pub i : ℕ
    pub j : ℕ
    pub e : ℕ
    pub x : ℕ
    pub ordered : i ≤ j
    pub below : j < r
    pub low : e + 1 < t
    pub number : x < d
    pub wide : base < nat_abs (coefficient_at place (pair r i j * t + e) x) * 2

  abbrev pub WideOpening : Type 0
  WideOpening = WideZ ⊎ (WideT ⊎ (WideGarbage (g_place tz n r κ t₁) t₂ b₂ ⊎ WideGarbage (h_place tz n r κ t₁ t₂) t₁ b₁))

  -- ---- from the test's groups to the digits, and back

  -- what stands after a place
  after : (place y x : ℕ) → get_or (drop (place * d) o) (y * d + x) (pos 0) ≡ coefficient_at place y x
  after place y x =
      let same : place * d + (y * d + x) ≡ (place + y) * d + x = omega arith in
      rw (← same) (get_or-drop (place * d) o (y * d + x) (pos 0))

  -- z is one group
  z-place : (i e k x : ℕ) → i < 1 → ((i * tz + e) * n + k) * d + x ≡ (0 + (e * n + k)) * d + x
  z-place i e k x h = let first : i ≡ 0 = omega (arith, h) in rw first (omega arith)

  -- g and h have one element a digit, for each pair
  garbage-place : (t p e k x : ℕ) (one : PairOf r p) → k < 1 → ((p * t + e) * 1 + k) * d + x ≡ (pair r one.i one.j * t + e) * d + x
  garbage-place t p e k x one m = let first : k ≡ 0 = omega (arith, m) in rw (one.is, first) (omega arith)

  module _ (place t base : ℕ) where
    abbrev NarrowGarbage : Type 0
    NarrowGarbage = (i j e x : ℕ) → i ≤ j → j < r → e + 1 < t → x < d → nat_abs (coefficient_at place (pair r i j * t + e) x) * 2 ≤ base

    garbage-at : low_narrow d (pairs r) t 1 base (drop (place * d) o) ≡ true → NarrowGarbage
    unfolding pairs
    garbage-at all i j e x h l m g =
        let same : ((pair r i j * t + e) * 1 + 0) * d + x ≡ (pair r i j * t + e) * d + x = omega arith in
        rw (same, after place (pair r i j * t + e) x) at
        (low_narrow-at d _ t 1 base _ all (pair r i j) e 0 x (pair-bound r i j h l) m (omega arith) g)

    garbage_of_lem : NarrowGarbage → low_narrow d (pairs r) t 1 base (drop (place * d) o) ≡ true
    unfolding pairs
    garbage_of_lem all = low_narrow_of d _ t 1 base _ number
      where
        number : LowNarrow d (pairs r) t 1 base (drop (place * d) o)
        number p e k x h l m g =
            let one = pair_of r p h in
            rw (garbage-place t p e k x one m, after place (pair r one.i one.j * t + e) x)
            (all one.i one.j e x one.ordered one.below l g)

    garbage-wide : WideDigit d (pairs r) t 1 base (drop (place * d) o) → WideGarbage place t base
    unfolding pairs
    garbage-wide w =
        let one = pair_of r w.i w.group in
        record {
          i = one.i;
          j = one.j;
          e = w.e;
          x = w.x;
          ordered = one.ordered;
          below = one.below;
          low = w.low;
          number = w.number;
          wide = rw (garbage-place t w.i w.e w.k w.x one w.row, after place (pair r one.i one.j * t + w.e) w.x) at w.wide;
        }

  z-wide : WideDigit d 1 tz n b o → WideZ
  z-wide w =
      record {
        e = w.e;
        k = w.k;
        x = w.x;
        low = w.low;
        row = w.row;
        number = w.number;
        wide = rw (z-place w.i w.e w.k w.x w.group) at w.wide;
      }

  t-wide : WideDigit d r t₁ κ b₁ (drop (t_place tz n * d) o) → WideT
  t-wide w =
      record {
        i = w.i;
        e = w.e;
        k = w.k;
        x = w.x;
        part = w.group;
        low = w.low;
        row = w.row;
        number = w.number;
        wide = rw (after (t_place tz n) ((w.i * t₁ + w.e) * κ + w.k) w.x) at w.wide;
      }

  -- ---- the row

  pub narrow-exactly : (narrow 𝓢 o ≡ true) ↔ NarrowOpening
  unfolding narrow_digits
  narrow-exactly = (to, back)
    where
      to : narrow 𝓢 o ≡ true → NarrowOpening
      to all =
          let (zs, (ts, (gs, (hs, _)))) = all_of_all _ all in
          record {
            z = λ e k x l m g. rw (z-place 0 e k x (omega arith)) at (low_narrow-at d 1 tz n b o zs 0 e k x (omega arith) l m g);
            t = λ i e k x h l m g.
                rw (after (t_place tz n) ((i * t₁ + e) * κ + k) x) at (low_narrow-at d r t₁ κ b₁ _ ts i e k x h l m g);
            g = garbage-at (g_place tz n r κ t₁) t₂ b₂ gs;
            h = garbage-at (h_place tz n r κ t₁ t₂) t₁ b₁ hs;
          }

      back : NarrowOpening → narrow 𝓢 o ≡ true
      back all =
          all_all_of _ (low_narrow_of d 1 tz n b o (λ i e k x h l m g. rw (z-place i e k x h) (all.z e k x l m g))
          & low_narrow_of d r t₁ κ b₁ _ (λ i e k x h l m g. rw (after (t_place tz n) ((i * t₁ + e) * κ + k) x) (all.t i e k x h l m g))
          & garbage_of_lem (g_place tz n r κ t₁) t₂ b₂ all.g
          & garbage_of_lem (h_place tz n r κ t₁ t₂) t₁ b₁ all.h
          & tt)

  not_both : NarrowOpening → WideOpening → ⊥
  not_both all (inl w) = omega (arith, w.wide, all.z w.e w.k w.x w.low w.row w.number)
  not_both all (inr (inl w)) = omega (arith, w.wide, all.t w.i w.e w.k w.x w.part w.low w.row w.number)
  not_both all (inr (inr (inl w))) = omega (arith, w.wide, all.g w.i w.j w.e w.x w.ordered w.below w.low w.number)
  not_both all (inr (inr (inr w))) = omega (arith, w.wide, all.h w.i w.j w.e w.x w.ordered w.below w.low w.number)

  pub wide-exactly : (narrow 𝓢 o ≡ false) ↔ WideOpening
  unfolding narrow_digits
  wide-exactly = (λ f. to (all_of_false _ f), λ w. never_true (narrow 𝓢 o) (λ e. not_both (narrow-exactly.0 e) w))
    where
      to : SomeFails (
          low_narrow d 1 tz n b o
          ∷ low_narrow d r t₁ κ b₁ (drop (t_place tz n * d) o)
          ∷ low_narrow d (pairs r) t₂ 1 b₂ (drop (g_place tz n r κ t₁ * d) o)
          ∷ low_narrow d (pairs r) t₁ 1 b₁ (drop (h_place tz n r κ t₁ t₂ * d) o)
          ∷ []) → WideOpening
      to (inl f) = inl (z-wide (low_narrow_false d 1 tz n b o f))
      to (inr (inl f)) = inr (inl (t-wide (low_narrow_false d r t₁ κ b₁ _ f)))
      to (inr (inr (inl f))) = inr (inr (inl (garbage-wide (g_place tz n r κ t₁) t₂ b₂ (low_narrow_false d (pairs r) t₂ 1 b₂ _ f))))
      to (inr (inr (inr (inl f)))) = inr (inr (inr (garbage-wide (h_place tz n r κ t₁ t₂) t₁ b₁ (low_narrow_false d (pairs r) t₁ 1 b₁ _ f))))
      to (inr (inr (inr (inr f)))) = elim f [ ]
