-- Laws of the next witness put together from its parts.
use Rattle.std.specs.Prelude.{◌≡◌, Bool, true, false, cond, ℕ, suc, ◌+◌, ◌*◌, ◌-◌, ◌≤◌, ◌<◌, min, ltb, leb, ℤ, pos, take, get_or}
use Rattle.std.proofs.Math.Path.{refl, sym, ap}
use Rattle.std.proofs.Common.{◌∙◌, mul-le-mul, arith, take_all, ltb-true, ltb-false, le-leb, leb-true}
use mathlib.Core.List.{List, ◌++◌, append-nil}
use Rattle.std.proofs.Math.Numerals.{add-one}
use Rattle.std.proofs.Math.ListN.{length, length-take}
use Rattle.std.proofs.Math.Seq.{take-nil, take-append-add}
use Rattle.std.proofs.lemmas.List.{take-append-le}
use Rattle.std.proofs.lemmas.Bool.{lt-leb}
use Rattle.integers.specs.Lists.{tab}
use Rattle.integers.specs.Laws.ListLaws.{length-tab, take-tab}
use Rattle.integers.specs.Flat.{flat}
use Rattle.integers.specs.Laws.FlatLaws.{flat-suc, length-flat}
use Rattle.integers.specs.Over.{over}
use Rattle.integers.specs.Laws.OverLaws.{over-nil, over-over, length_over}
use Rattle.capi.specs.Codes.{part_sizes_from}
use Rattle.capi.specs.declared.sizes.CPartSizes.{CPartSizes}
use Rattle.fold.specs.Arguments.{next_part_of}
use Rattle.cases.specs.Numbers.{padded, size_of}
use Rattle.next_cases.specs.Laws.MessageLaws.{take_min}
use Rattle.next_cases.specs.Witness.{next_witness}

-- ---- sizes up to the longest list

pub fitting_large : (most n : ℕ) → most < n → 0 ≡ size_of most (pos n)
unfolding size_of
fitting_large most n h = rw (lt-leb n most h) refl

pub fitting-small : (most n : ℕ) → n ≤ most → n ≡ size_of most (pos n)
unfolding size_of
fitting-small most n h = rw (le-leb n most h) refl

pub fitting-bound : (most n : ℕ) → size_of most (pos n) ≤ most
unfolding size_of
fitting-bound most n = either (leb n most) refl
  where
    either : (t : Bool) → leb n most ≡ t → cond t n 0 ≤ most
    either true e = leb-true n most e
    either false e = omega arith

pub fitting-inside : (most k : ℕ) {n : ℕ} → n ≡ size_of most (pos k) → n ≤ most
fitting-inside most k e = omega (arith, e, fitting-bound most k)

pub product-bound : (x y : ℕ) → size_of 32768 (pos x) * size_of 32768 (pos y) ≤ 1073741824
product-bound x y = mul-le-mul (fitting-bound 32768 x) (fitting-bound 32768 y)

-- ---- the front of a list that is padded or joined

take-append : (n : ℕ) (xs ys : List ℤ) → take n (xs ++ ys) ≡ take n xs ++ take (n - length xs) ys
take-append n xs ys = either (ltb n (length xs)) refl
  where
    either : (t : Bool) → ltb n (length xs) ≡ t → take n (xs ++ ys) ≡ take n xs ++ take (n - length xs) ys
    either true e =
        let h : n ≤ length xs = omega (arith, ltb-true n (length xs) e) in
        let none : n - length xs ≡ 0 = omega arith in
        take-append-le n xs ys h ∙ sym (rw none (append-nil (take n xs)))
    either false e =
        let h : length xs ≤ n = ltb-false n (length xs) e in
        let split : n ≡ length xs + (n - length xs) = omega arith in
        ap (λ (k : ℕ). take k (xs ++ ys)) split ∙ take-append-add xs ys (n - length xs)
        ∙ ap (λ (l : List ℤ). l ++ take (n - length xs) ys) (sym (take_all n xs h))

take-padded : (k w : ℕ) (xs : List ℤ) → take k (padded w xs) ≡ padded (min w k) xs
unfolding padded
take-padded k w xs =
    let h : min w k ≤ w = omega arith in
    sym (take_min k (tab w (λ i. get_or xs i (pos 0))))
    ∙ ap (λ (n : ℕ). take (min n k) (tab w (λ i. get_or xs i (pos 0)))) (length-tab w (λ i. get_or xs i (pos 0)))
    ∙ take-tab (min w k) w (λ i. get_or xs i (pos 0)) h

-- ---- part after part: i of them are written, up to the place `at`

pub record Writing (m : CPartSizes) (parts width : ℕ) (o out₀ out : List ℤ) (at i : ℕ) : Type 0 where
  pub within : i ≤ parts
  pub place : at ≡ min (length out₀) (i * width)
  pub new : out ≡ over out₀ 0 (take (length out₀) (next_witness m i width o))

pub writing_start : (m : CPartSizes) (parts width : ℕ) (o out : List ℤ) → Writing m parts width o out out 0 0
unfolding next_witness flat
writing_start m parts width o out = record {
  within = omega arith;
  place = omega arith;
  new = sym (rw (take-nil {A = ℤ} (length out)) (over-nil out 0));
}

length-witness : (m : CPartSizes) (width : ℕ) (o : List ℤ) (i : ℕ) → length (next_witness m i width o) ≡ i * width
unfolding next_witness padded
length-witness m width o i = length-flat i width _ (λ j h. length-tab width (λ k. get_or (next_part_of (part_sizes_from m) (suc j) o) k (pos 0)))

module _ {m : CPartSizes} {parts width : ℕ} {o out₀ out : List ℤ} {at i : ℕ} (w : Writing m parts width o out₀ out at i) where
  before : List ℤ
  before = take (length out₀) (next_witness m i width o)

  long : length before ≡ at
  unfolding before
  long = length-take (length out₀) (next_witness m i width o) ∙ ap (min (length out₀)) (length-witness m width o i) ∙ sym w.place

  pub writing_length : length out ≡ length out₀
  unfolding before
  writing_length =
      ap (λ (l : List ℤ). length l) w.new
      ∙ length_over out₀ 0 (take (length out₀) (next_witness m i width o)) (omega (arith, long, w.place))

  pub place_inside : at ≤ length out
  place_inside = omega (arith, writing_length, w.place)

  next : {part : List ℤ} → part ≡ next_part_of (part_sizes_from m) (i + 1) o
      → take (length out₀) (next_witness m (i + 1) width o) ≡ before ++ padded (min width (length out₀ - at)) part
  unfolding before next_witness
  next {part} e =
      let room : length out₀ - length (next_witness m i width o) ≡ length out₀ - at = omega (arith, length-witness m width o i, w.place) in
      rw (add-one i, flat-suc, take-append, room, take-padded, e, add-one i) refl

  pub writing_next : i < parts → {part out' : List ℤ} {at' : ℕ} → part ≡ next_part_of (part_sizes_from m) (i + 1) o → at' ≡ at + min width (length out - at)
      → out' ≡ over out at (padded (min width (length out - at)) part) → Writing m parts width o out₀ out' at' (i + 1)
  unfolding before
  writing_next h {part} {out'} {at'} e place_is New-is =
      let k = length out₀ - at in
      let start : at ≡ 0 + length before = omega (arith, long) in
      record {
        within = omega arith;
        place = omega (arith, place_is, writing_length, w.place);
        new =
            New-is
            ∙ rw (writing_length, w.new) (ap (λ (a : ℕ). over (over out₀ 0 before) a (padded (min width k) part)) start
            ∙ over-over out₀ 0 before (padded (min width k) part) (omega arith)
            ∙ ap (λ (l : List ℤ). over out₀ 0 l) (sym (next e)));
      }

  pub writing_end : parts ≤ i → out ≡ over out₀ 0 (take (length out₀) (next_witness m parts width o))
  writing_end h =
      let e : i ≡ parts = omega (arith, w.within) in
      w.new ∙ ap (λ (k : ℕ). over out₀ 0 (take (length out₀) (next_witness m k width o))) e
