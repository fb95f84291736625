-- Laws of the results.
use Rattle.std.specs.Prelude.{◌≡◌, refl, List, [], ◌∷◌, ◌++◌, map, ℕ, ◌+◌, ◌*◌, ◌-◌, ◌≤◌, ◌<◌, min, ℤ, pos, length, get_or, take, drop, set, replicate}
use Rattle.std.proofs.Common.{sym, ap, ◌∙◌, append_assoc, zero-add, add-zero, zero-mul, mul-one, mul-le-mul, arith, length-append, length-drop, take_all, take_at, drop_at, length-take-le}
use Rattle.std.proofs.Math.Nat.{sub-zero}
use Rattle.std.proofs.lemmas.List.{length-replicate}
use Rattle.integers.specs.Lists.{tab}
use Rattle.integers.specs.Laws.ListLaws.{length-tab}
use Rattle.integers.specs.Over.{over}
use Rattle.integers.specs.Laws.OverLaws.{over-is, over-nil, over-all, over-over, over-step, drop-over, length_over}
use Rattle.residues.specs.Digits.{Base, split}
use Rattle.residues.proofs.Laws.DigitLaws.{length-split}
use Rattle.residues.proofs.Laws.DigitBlockLaws.{last_fits}
use Rattle.ring.specs.Element.{Degree, el, array, coeffs}
use Rattle.ring.specs.Laws.ElementLaws.{take-array, length-coeffs}
use Rattle.capi.specs.declared.types.CProduct.{CProduct}
use Rattle.cases.specs.Numbers.{padded, word, size_at}
use Rattle.cases.specs.Laws.NumberLaws.{size-bound}
use Rattle.cases.specs.Text.{line_numbers}
use Rattle.ring_cases.specs.Input.{degree_at, base_at, count_at}
use Rattle.ring_cases.specs.Results.{Results, element_of, element_numbers, number_digits, element_digits, list_at}
use Rattle.ring_cases.specs.Results.{product_numbers, results_of, line_results}

padded-length : (n : ℕ) (xs : List ℤ) → length (padded n xs) ≡ n
unfolding padded
padded-length n xs = length-tab n (λ i. get_or xs i (pos 0))

padded-two : (a b : ℤ) → padded 2 (a ∷ b ∷ []) ≡ a ∷ b ∷ []
unfolding padded tab
padded-two a b = refl

-- ---- sizes

pub degree-fits : (xs : List ℤ) {d : ℕ} → d ≡ degree_at xs → Degree d
unfolding degree_at
degree-fits xs e = record { positive = omega (arith, e); small = omega (arith, e, size-bound 64 xs 1) }

pub base-fits : (xs : List ℤ) (k : ℕ) {b : ℕ} → b ≡ base_at xs k → Base b
unfolding base_at
base-fits xs k e = record { least = omega (arith, e); most = omega (arith, e, size-bound 65536 xs k) }

pub count_fits : (xs : List ℤ) (k : ℕ) {t : ℕ} → t ≡ count_at xs k → (1 ≤ t) × (t ≤ 8)
unfolding count_at
count_fits xs k e = (omega (arith, e), omega (arith, e, size-bound 8 xs k))

-- the numbers from one on
pub rest-length : (xs : List ℤ) (k : ℕ) {rest : List ℤ} → length xs ≡ 2048 → rest ≡ drop k xs → length rest ≡ 2048 - k
rest-length xs k e f = ap (λ (l : List ℤ). length l) f ∙ length-drop k xs ∙ ap (λ (n : ℕ). n - k) e

-- a list that ends early
pub list-short : (n k : ℕ) (xs : List ℤ) {rest : List ℤ} → rest ≡ drop k xs → length rest < n → rest ≡ list_at n k xs
unfolding list_at
list-short n k xs {rest} e h = let fits : length rest ≤ n = omega arith in rw (← e) (sym (take_all n rest fits))

pub list-whole : (n k : ℕ) (xs : List ℤ) {rest : List ℤ} → rest ≡ drop k xs → take (n - 0) rest ≡ list_at n k xs
unfolding list_at
list-whole n k xs e = rw (e, sub-zero)

-- ---- written numbers

pub one_out : (x : ℤ) (out : List ℤ) → 0 < length out → Results (x ∷ []) out (set out 0 x) 1
one_out x out h =
    let step : set (over out 0 []) (0 + length {A = ℤ} []) x ≡ over out 0 ([] ++ (x ∷ [])) = over-step out 0 [] x h in
    record { count-is = refl; out-is = rw (over-nil out 0) at step }

pub results_fit : {l out out' : List ℤ} {n : ℕ} → Results l out out' n → n ≤ length out'
unfolding over
results_fit {l} {out} r = omega (
  arith,
  r.count-is,
  ap (λ (k : List ℤ). length k) r.out-is,
  length-append (take 0 out) (l ++ drop (0 + length l) out),
  length-append l (drop (0 + length l) out),
)

pub results_length : {l out out' : List ℤ} {n : ℕ} → Results l out out' n → n ≤ length out → length out' ≡ length out
results_length {l} {out} r h = ap (λ (k : List ℤ). length k) r.out-is ∙ length_over out 0 l (omega (arith, r.count-is))

pub element-out : (op : ℕ) (xs out out' numbers : List ℤ) {d : ℕ} → d ≡ degree_at xs → numbers ≡ array d (element_of op d xs)
    → out' ≡ over out (0 * d) (take d numbers) → Results (element_numbers op xs) out out' d
unfolding element_numbers
element-out op xs out out' numbers {d} e f g =
    let small : d ≤ 64 = (degree-fits xs e).small in
    let l : take d numbers ≡ coeffs d (element_of op d xs) = ap (λ (k : List ℤ). take d k) f ∙ take-array d (element_of op d xs) small in
    rw (← e) (record {
      count-is = sym (length-coeffs d (element_of op d xs));
      out-is = g ∙ rw (zero-mul d, l);
    })

-- ---- the block to be split has t parts of w numbers

pub block-fits : (t w : ℕ) → t ≤ 8 → w ≤ 64 → t * w ≤ 512
block-fits t w h k = mul-le-mul {n₁ = t} {n₂ = 8} h k

pub block-length : (out : List ℤ) (n : ℕ) → n ≤ length out → length (take (n - 0) out) ≡ n
block-length out n h = rw (sub-zero n) (length-take-le n out h)

-- ---- digits: the numbers l stand in the last of t parts, and the block is split

module _ (out out₁ l block : List ℤ) (b t w n : ℕ) (some : 1 ≤ t) (wide : length l ≡ w) (all : n ≡ t * w) (fits : n ≤ length out)
    (stored : out₁ ≡ over out ((t - 1) * w) l) where
  last : (t - 1) * w + length l ≡ n
  last = omega (arith, last_fits t w some, wide, all)

  part-is : drop ((t - 1) * w) (take n out₁) ≡ l
  part-is =
      let a = (t - 1) * w in
      let before : length (take a out) ≡ a = length-take-le a out (omega (arith, last)) in
      let front : length (take a out ++ l) ≡ n = omega (arith, length-append (take a out) l, before, last) in
      let whole : out₁ ≡ (take a out ++ l) ++ drop (a + length l) out = stored ∙ over-is out a l ∙ sym (append_assoc (take a out) l _) in
      rw (whole, take_at (take a out ++ l) (drop (a + length l) out) n front) (drop_at (take a out) l a before)

  rest-is : drop n out₁ ≡ drop n out
  rest-is = rw (← last, stored) (drop-over out ((t - 1) * w) l (omega (arith, last)))

  pub digits-out : block ≡ split b t (drop ((t - 1) * w) (take (n - 0) (drop 0 out₁)))
      → Results (split b t l) out (block ++ drop (n - 0) out₁) n
  digits-out e =
      let is : block ≡ split b t l = e ∙ ap (λ (k : List ℤ). split b t k) (rw (sub-zero n) part-is) in
      let size : length (split b t l) ≡ n = length-split b t l ∙ ap (λ (k : ℕ). t * k) wide ∙ sym all in
      record {
        count-is = sym size;
        out-is = rw (sub-zero n, rest-is, is, over-is out 0 (split b t l), zero-add (length (split b t l)), size);
      }

pub set-over : (out : List ℤ) (k : ℕ) (x : ℤ) → k < length out → set out k x ≡ over out (k * 1) (x ∷ [])
set-over out k x h =
    let step : set (over out k []) (k + length {A = ℤ} []) x ≡ over out k ([] ++ (x ∷ [])) = over-step out k [] x (omega arith) in
    rw (mul-one k) (rw (over-nil out k, add-zero k) at step)

pub number-digits-out : (xs out block : List ℤ) {b t : ℕ} {x : ℤ} → length out ≡ 512 → b ≡ base_at xs 1
    → t ≡ count_at xs 2 → x ≡ get_or xs 3 (pos 0)
    → block ≡ split b t (drop ((t - 1) * 1) (take (t - 0) (set out (t - 1) x)))
    → Results (number_digits xs) out (block ++ drop (t - 0) (set out (t - 1) x)) t
unfolding number_digits
number-digits-out xs out block {b} {t} {x} size base count number e =
    let some = (count_fits xs 2 count).0 in
    let fits : t ≤ length out = omega (arith, (count_fits xs 2 count).1, size) in
    rw (← base, ← count, ← number)
    (digits-out out (set out (t - 1) x) (x ∷ []) block b t 1 t some refl (sym (mul-one t)) fits
    (set-over out (t - 1) x (omega (arith, some, fits))) e)

pub element-digits-out : (xs out out₁ block numbers rest : List ℤ) {d b t : ℕ} → length out ≡ 512 → d ≡ degree_at xs
    → b ≡ base_at xs 2 → t ≡ count_at xs 3 → rest ≡ drop 4 xs → numbers ≡ array d (el d rest 0)
    → out₁ ≡ over out ((t - 1) * d) (take d numbers)
    → block ≡ split b t (drop ((t - 1) * d) (take (t * d - 0) out₁))
    → Results (element_digits xs) out (block ++ drop (t * d - 0) out₁) (t * d)
unfolding element_digits
element-digits-out xs out out₁ block numbers rest {d} {b} {t} size degree base count past held stored e =
    let small : d ≤ 64 = (degree-fits xs degree).small in
    let l : take d numbers ≡ coeffs d (el d rest 0) = ap (λ (k : List ℤ). take d k) held ∙ take-array d (el d rest 0) small in
    let range = count_fits xs 3 count in
    let fits : t * d ≤ length out = omega (arith, block-fits t d range.1 small, size) in
    rw (← degree, ← base, ← count, ← past)
    (digits-out out out₁ (coeffs d (el d rest 0)) block b t d (t * d) range.0 (length-coeffs d (el d rest 0)) refl fits (rw l at stored) e)

-- ---- inner products

pub inner-fits : (n d m : ℕ) → n ≤ 8 → d ≤ 64 → m ≡ 2045 → ((0 + n) * d ≤ m) × ((n + n) * d ≤ m)
inner-fits n d m h k e =
    let both : (n + n) * d ≤ 1024 = mul-le-mul {n₁ = n + n} {n₂ = 16} (omega arith) k in
    let one : (0 + n) * d ≤ 512 = mul-le-mul {n₁ = 0 + n} {n₂ = 8} (omega arith) k in
    (omega arith, omega arith)

-- ---- the product for C

pub element-is : (n : ℕ) (xs new : List ℤ) → new ≡ over (replicate n (pos 0)) 0 (padded (min n (length (replicate n (pos 0)) - 0)) xs)
    → new ≡ padded n xs
element-is n xs new e =
    let size : min n (length (replicate n (pos 0)) - 0) ≡ n = omega (arith, length-replicate n (pos 0)) in
    let whole : length (padded n xs) ≡ length (replicate n (pos 0)) = padded-length n xs ∙ sym (length-replicate n (pos 0)) in
    e ∙ rw size (over-all (replicate n (pos 0)) (padded n xs) whole)

pub product-out : (x : CProduct) (out out₁ out₂ : List ℤ) {r : ℕ} → length out ≡ 512
    → out₁ ≡ over out 0 (padded (min 2 (length out - 0)) (pos x.kind ∷ pos (min x.number 2147483647) ∷ []))
    → r ≡ 2 + min 64 (length out₁ - 2)
    → out₂ ≡ over out₁ 2 (padded (min 64 (length out₁ - 2)) x.element.coefficients) → Results (product_numbers x) out out₂ r
unfolding product_numbers
product-out x out out₁ out₂ {r} size e f g =
    let head : List ℤ = pos x.kind ∷ pos (min x.number 2147483647) ∷ [] in
    let tail : List ℤ = padded 64 x.element.coefficients in
    let two : min 2 (length out - 0) ≡ 2 = omega arith in
    let begun : out₁ ≡ over out 0 head = e ∙ rw two (ap (λ (l : List ℤ). over out 0 l) (padded-two (pos x.kind) (pos (min x.number 2147483647)))) in
    let long : length out₁ ≡ 512 = ap (λ (l : List ℤ). length l) begun ∙ length_over out 0 head (omega (arith, size)) ∙ size in
    let rest : min 64 (length out₁ - 2) ≡ 64 = omega (arith, long) in
    record {
      count-is = omega (arith, f, rest, padded-length 64 x.element.coefficients);
      out-is = g ∙ rw (rest, begun) (over-over out 0 head tail (omega arith));
    }

-- ---- the case of a line, over arrays of zeros whose length stands for 2048

pub line_results_lem : (n : ℕ) → n ≡ 2048 → (line : List ℕ) (wides words : List ℤ) {op : ℕ}
    → wides ≡ padded (length (replicate n (pos 0))) (line_numbers line) → words ≡ map word wides → op ≡ size_at 19 words 0
    → results_of op words wides ≡ line_results line
unfolding line_results
line_results_lem n size line wides words e f g =
    let numbers : wides ≡ padded 2048 (line_numbers line) =
    e ∙ ap (λ (k : ℕ). padded k (line_numbers line)) (length-replicate n (pos 0) ∙ size) in
    rw (g, f, numbers)
