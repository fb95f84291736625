-- The low digit and what is left as the machine computes them: each step is in range, and together they give `low` and `rest`.
use Rattle.std.specs.Prelude.{◌≡◌, ℕ, ◌+◌, ◌-◌, ◌*◌, ◌/◌, ◌%◌, ◌≤◌, ◌<◌, ℤ, pos, neg_ℤ, nat_abs, ◌+ℤ◌, ◌-ℤ◌, ◌*ℤ◌}
use Rattle.std.proofs.Common.{sym, ap, ◌∙◌, mul-le-mul_left, mod-lt, div-add-mod', div-lt_iff_lt-mul, arith, SFits, to_z, of_z, to_z-of_z}
use Rattle.std.proofs.Math.Decide.{dec_le}
use Rattle.std.specs.Int.Signed.{quot_z, rem_z}
use Rattle.std.specs.Int.{w32, w64}
use Rattle.std.proofs.Math.Facts.{to_z_pos}
use Rattle.integers.specs.Laws.Bridge.{P, N, pn_min, nat_abs_pn, bnd, abs_bnd, add_pn, neg_pn, sub_pn, mul_pn, mul-bnd, zarith}
use Rattle.residues.specs.Digits.{Base, low, rest}
use Rattle.residues.proofs.Laws.DigitRest.{rest_from}
use Rattle.residues.proofs.Laws.QuotientSteps.{bases_added, raised, upward, dividend, down, remainder}
use Rattle.residues.proofs.Laws.DigitLaws.{low-bound, rest-low, rest-size}
use Rattle.residues.proofs.Laws.Words.{held, wide}
use Rattle.residues.proofs.Laws.Centring.{quot_z_fits, remainder-fits}

module _ {b : ℕ} (base : Base b) where
  above : 0 < b
  above = omega (arith, base.least)

  limit : b ≤ 4294967296
  limit = omega (arith, base.most)

  pub base-held : to_z w64 b ≡ pos b
  base-held = to_z_pos w64 (omega (arith, base.most))

  added-fits : SFits w64 (pos (b * bases_added))
  added-fits = omega (zarith, base.most)

  pub added-product-fits : SFits w64 (to_z w64 b *ℤ pos bases_added)
  added-product-fits = rw base-held added-fits

  pub added-held : held (to_z w64 b *ℤ pos bases_added) ≡ pos (b * bases_added)
  added-held = rw base-held (to_z-of_z added-fits)

  -- ---- what is left: rounded down, then up

  upward-small : (k r : ℕ) → r < b → upward b k r ≤ 1
  upward-small k r h = omega (arith, base.most)

  module _ (x : ℤ) (k r : ℕ) (below : r < b) (whole : x +ℤ pos (b * bases_added) ≡ pos (k * b + r)) where
    rounded-down : x ≡ (pos k -ℤ pos bases_added) *ℤ pos b +ℤ pos r
    rounded-down =
        let left = pos k -ℤ pos bases_added in
        omega (
          zarith,
          whole,
          add_pn x (pos (b * bases_added)),
          add_pn (left *ℤ pos b) (pos r),
          mul_pn left (pos b),
          ap (λ (t : ℕ). t * b) (sub_pn (pos k) (pos bases_added)),
        )

    rounded_up : x ≡ (pos (k + 1) -ℤ pos bases_added) *ℤ pos b +ℤ neg_ℤ (pos (b - r))
    rounded_up =
        let left = pos (k + 1) -ℤ pos bases_added in
        omega (
          zarith,
          whole,
          add_pn x (pos (b * bases_added)),
          add_pn (left *ℤ pos b) (neg_ℤ (pos (b - r))),
          neg_pn (pos (b - r)),
          mul_pn left (pos b),
          ap (λ (t : ℕ). t * b) (sub_pn (pos (k + 1)) (pos bases_added)),
        )

    rounded : rest b x ≡ pos (k + upward b k r) -ℤ pos bases_added
    rounded = cases (dec_le (2 * r + k % 2) b)
      where
        cases : Dec (2 * r + k % 2 ≤ b) → rest b x ≡ pos (k + upward b k r) -ℤ pos bases_added
        cases (yes h) =
            let none : k + upward b k r ≡ k = omega (arith, base.most) in
            let left = pos k -ℤ pos bases_added in
            rw none (rest_from b base.least x left (pos r) rounded-down (omega arith)
            (λ e. omega (arith, e, nat_abs_pn left, pn_min left, sub_pn (pos k) (pos bases_added))))
        cases (no h) =
            let one : k + upward b k r ≡ k + 1 = omega (arith, base.most) in
            let left = pos (k + 1) -ℤ pos bases_added in
            let size = nat_abs_pn (neg_ℤ (pos (b - r))) in
            rw one (rest_from b base.least x left (neg_ℤ (pos (b - r))) rounded_up (omega (arith, size, neg_pn (pos (b - r))))
            (λ e. omega (arith, e, size, neg_pn (pos (b - r)), nat_abs_pn left, pn_min left, sub_pn (pos (k + 1)) (pos bases_added))))

  pub rest-fits : {x : ℤ} → SFits w32 x → SFits w32 (rest b x)
  rest-fits {x} f = omega (
    zarith,
    bnd x,
    nat_abs_pn x,
    pn_min x,
    nat_abs_pn (rest b x),
    rest-size b base.least x,
    low-bound b base.least x,
    base.most,
    mul-le-mul_left (nat_abs (rest b x)) base.least,
  )

  module _ {x : ℤ} (fits : SFits w32 x) where
    raised-natural : x +ℤ pos (b * bases_added) ≡ pos (raised b x)
    raised-natural =
        let y = x +ℤ pos (b * bases_added) in
        omega (zarith, bnd x, add_pn x (pos (b * bases_added)), nat_abs_pn y, pn_min y, base.least)

    pub sum_fits : SFits w64 (x +ℤ pos (b * bases_added))
    sum_fits = omega (zarith, bnd x, add_pn x (pos (b * bases_added)), base.most)

    dividend-held : dividend b x ≡ pos (raised b x)
    dividend-held = rw (wide fits, added-held) (to_z-of_z sum_fits ∙ raised-natural)

    raised-fits : SFits w64 (pos (raised b x))
    raised-fits = rw (← raised-natural) sum_fits

    -- below 2^32 bases
    raised-bound : raised b x < 4294967296 * b
    raised-bound =
        let y = x +ℤ pos (b * bases_added) in
        omega (zarith, bnd x, add_pn x (pos (b * bases_added)), nat_abs_pn y, pn_min y, base.least)

    down-bound : raised b x / b < 4294967296
    down-bound = (div-lt_iff_lt-mul above).1 raised-bound

    pub down_fits : SFits w64 (quot_z (dividend b x) (to_z w64 b))
    down_fits = rw (dividend-held, base-held) (quot_z_fits b (pos (raised b x)) raised-fits)

    pub down-held : held (quot_z (dividend b x) (to_z w64 b)) ≡ pos (raised b x / b)
    down-held = rw (dividend-held, base-held) (to_z-of_z (quot_z_fits b (pos (raised b x)) raised-fits))

    pub remainder-held : held (rem_z (dividend b x) (to_z w64 b)) ≡ pos (raised b x % b)
    remainder-held = rw (dividend-held, base-held) (to_z-of_z (remainder-fits b above limit (pos (raised b x))))

    pub down-small : down b x < 4294967296
    down-small = rw down-held down-bound

    pub remainder-small : remainder b x < b
    remainder-small = rw remainder-held (mod-lt (raised b x) above)

    pub up_small : upward b (down b x) (remainder b x) ≤ 1
    up_small = upward-small (down b x) (remainder b x) remainder-small

    -- all the steps
    pub rest-held : to_z w64 (down b x + upward b (down b x) (remainder b x)) -ℤ pos bases_added ≡ rest b x
    rest-held =
        let n = raised b x in
        rw (down-held, remainder-held, to_z_pos w64 {n = n / b + upward b (n / b) (n % b)} (omega (arith, upward-small (n / b) (n % b) (mod-lt n above), down-bound)))
        (sym (rounded x (n / b) (n % b) (mod-lt n above) (raised-natural ∙ ap pos (sym (div-add-mod' n b)))))

  -- ---- a step of Horner's rule

  base-size : P (pos b) + N (pos b) ≤ 65536
  base-size = omega (arith, base.most)

  pub base-product-fits : {x : ℤ} → SFits w32 x → SFits w64 (x *ℤ pos b)
  base-product-fits {x} f = omega (zarith, mul-bnd x (pos b) (abs_bnd f) base-size)

  pub horner-fits : {x y : ℤ} → SFits w32 x → SFits w32 y → SFits w64 (x *ℤ pos b +ℤ y)
  horner-fits {x} {y} f g = omega (zarith, mul-bnd x (pos b) (abs_bnd f) base-size, bnd y, add_pn (x *ℤ pos b) y)

  -- ---- the low digit

  pub low_fits : (x : ℤ) → SFits w32 (low b x)
  low_fits x = omega (zarith, low-bound b base.least x, nat_abs_pn (low b x), base.most)

  module _ {x r : ℤ} (fits : SFits w32 x) (r-fits : SFits w32 r) (learnt : r ≡ rest b (to_z w32 (of_z w32 x))) where
    is-rest : r ≡ rest b x
    is-rest = rw (to_z-of_z fits) at learnt

    pub left-product-fits : SFits w64 (held (to_z w32 (of_z w32 r)) *ℤ to_z w64 b)
    left-product-fits = rw (wide r-fits, base-held) (base-product-fits r-fits)

    -- all the steps
    pub digit-held : held (to_z w32 (of_z w32 x)) -ℤ held (held (to_z w32 (of_z w32 r)) *ℤ to_z w64 b) ≡ low b x
    digit-held =
        rw (wide fits, wide r-fits, base-held, to_z-of_z (base-product-fits r-fits), is-rest) (omega (
          zarith,
          rest-low b base.least x,
          add_pn (rest b x *ℤ pos b) (low b x),
          sub_pn x (rest b x *ℤ pos b),
        ))
