-- Laws of what ConstantTerms.antt defines.
use Rattle.std.specs.Prelude.{◌≡◌, refl, List, ℕ, ◌+◌, ◌*◌, ◌<◌, ◌≤◌, eqb, get_or, drop, ℤ, pos, ◌+ℤ◌, ◌*ℤ◌}
use Rattle.std.proofs.Common.{sym, ap₂, ◌∙◌, mul-le-mul_right, arith, get_or-drop, to_z, of_z, to_z-of_z}
use Rattle.std.proofs.Math.Path.{ap}
use Rattle.std.specs.Int.Signed.{mag}
use Rattle.std.specs.Int.{w32}
use Rattle.integers.specs.Remainder.{emod}
use Rattle.algebra.specs.Sum.{sum}
use Rattle.algebra.specs.Laws.SumLaws.{sum-one-more, sum_cong}
use Rattle.algebra.specs.Conjugation.{ct}
use Rattle.residues.specs.Modulus.{q, Zq, red, cent, centred}
use Rattle.residues.proofs.Laws.ModulusLaws.{red-zero, red-add, red-mul, red_residue, red-cent, red-centred, cent-red, cent-fits, centred_fixed}
use Rattle.ring.specs.Element.{el, array, every}
use Rattle.ring.specs.Laws.ElementLaws.{get_d_array}
use Rattle.ring.specs.Laws.ElementSteps.{bits32, bits32-small, bits32-centred}
use Rattle.fold.specs.Sizes.{function_size}
use Rattle.fold.specs.Statement.{term_at, term_constant}
use Rattle.fold.specs.Verdict.{check₂}
use Rattle.fold.specs.Refusals.{constant_terms_length}
use Rattle.checks.specs.ConstantTerms.{weighted, term_holds}

pub check_two : (d n r L w : ℕ) (constant_terms ψ ω p b'' : List ℤ) → every 5 (term_holds d n r L w constant_terms ψ ω p b'') ≡ check₂ d n r L w constant_terms ψ ω p b''
unfolding check₂ term_holds
check_two d n r L w constant_terms ψ ω p b'' = refl

-- ---- the loop of a weighted sum

pub record Weighed (count : ℕ) (f : ℕ → Zq.Carrier) (l acc : ℕ) : Type 0 where
  pub within : l ≤ count
  pub so_far : acc ≡ of_z w32 (cent (sum Zq l f))

module _ (count : ℕ) (f : ℕ → Zq.Carrier) where
  pub weighed-start : Weighed count f 0 0
  unfolding sum
  weighed-start = record {
    within = omega arith;
    so_far = ap (of_z w32) (sym (ap cent (sym red-zero) ∙ cent-red (pos 0) ∙ centred_fixed
        (omega arith)));
  }

  pub weighed-end : {l acc : ℕ} → Weighed count f l acc → count ≤ l → to_z w32 acc ≡ cent (sum Zq count f)
  weighed-end {l} done h =
      let end : l ≡ count = omega (arith, done.within) in
      ap (to_z w32) done.so_far ∙ to_z-of_z (cent-fits (sum Zq l f)) ∙ ap (λ (i : ℕ). cent (sum Zq i f)) end

-- the next product and the next sum, as the leaves of modulus.rt give them
pub weighed-step : (count : ℕ) (weights : List ℤ) (at : ℕ) (xs : List ℤ) (first step l acc : ℕ) (product total : ℤ)
    → Weighed count (weighted weights at xs first step) l acc → l < count
    → mag (get_or weights (at + l) (pos 0)) < 2147483648 → mag (get_or xs (first + l * step) (pos 0)) < 2147483648
    → product ≡ centred (bits32 (get_or weights (at + l) (pos 0)) *ℤ bits32 (get_or xs (first + l * step) (pos 0)))
    → total ≡ centred (to_z w32 acc +ℤ bits32 product)
    → Weighed count (weighted weights at xs first step) (l + 1) (of_z w32 total)
unfolding weighted
weighed-step count weights at xs first step l acc product total before h small-x small-y e sums =
    record { within = omega arith; so_far = ap (of_z w32) next }
  where
    f : ℕ → Zq.Carrier
    f = weighted weights at xs first step

    x : ℤ
    x = get_or weights (at + l) (pos 0)

    y : ℤ
    y = get_or xs (first + l * step) (pos 0)

    running : to_z w32 acc ≡ cent (sum Zq l f)
    running = ap (to_z w32) before.so_far ∙ to_z-of_z (cent-fits (sum Zq l f))

    summand : bits32 product ≡ centred (x *ℤ y)
    summand = bits32-centred product (bits32 x *ℤ bits32 y) e ∙ ap centred (ap₂ ◌*ℤ◌ (bits32-small x small-x) (bits32-small y small-y))

    value : red (cent (sum Zq l f) +ℤ centred (x *ℤ y)) ≡ sum Zq (l + 1) f
    value =
        red-add (cent (sum Zq l f)) (centred (x *ℤ y))
        ∙ ap₂ Zq.add (red-cent (sum Zq l f)) (red-centred (x *ℤ y) ∙ red-mul x y)
        ∙ sym (sum-one-more Zq l f)

    next : total ≡ cent (sum Zq (l + 1) f)
    next = sums ∙ ap centred (ap₂ ◌+ℤ◌ running summand) ∙ sym (cent-red (cent (sum Zq l f) +ℤ centred (x *ℤ y))) ∙ ap cent value

-- ---- the sums of check 2

pub terms-sum : (d n r L k last at : ℕ) (constant_terms ψ : List ℤ) → last ≡ function_size n r * d → at ≡ k * L
    → sum Zq L (weighted ψ at constant_terms last (last + 1)) ≡ sum Zq L (λ l. Zq.mul (red (get_or ψ (k * L + l) (pos 0))) (red
    (term_constant d n r constant_terms l)))
unfolding weighted term_constant term_at
terms-sum d n r L k last at constant_terms ψ e f = rw (e, f) (sum_cong Zq L _ _ (λ l _. ap (λ z. Zq.mul (red (get_or ψ (k * L + l) (pos 0)))
    (red z)) (entry l)))
  where
    size : ℕ
    size = function_size n r * d

    entry : (l : ℕ) → get_or constant_terms (function_size n r * d + l * (function_size n r * d + 1)) (pos 0) ≡ get_or (drop (l *
        (function_size n r * d + 1)) constant_terms) (function_size n r * d) (pos 0)
    entry l =
        let place : function_size n r * d + l * (function_size n r * d + 1) ≡ l *
        (function_size n r * d + 1) + function_size n r * d = omega arith in
        ap (λ i. get_or constant_terms i (pos 0)) place ∙ sym (get_or-drop (l * (function_size n r * d + 1)) constant_terms (function_size n r * d) (pos 0))

pub projections-sum : (w k at : ℕ) (ω p : List ℤ) → at ≡ k * w
    → sum Zq w (weighted ω at p 0 1) ≡ sum Zq w (λ j. Zq.mul (red (get_or ω (k * w + j) (pos 0))) (red (get_or p j (pos 0))))
unfolding weighted
projections-sum w k at ω p e = rw e (sum_cong Zq w _ _ (λ j _. ap (λ i. Zq.mul (red (get_or ω (k * w + j) (pos 0))) (red (get_or p i
    (pos 0)))) (place j)))
  where
    place : (j : ℕ) → 0 + j * 1 ≡ j
    place j = omega arith

-- ---- one test of check 2

pub term_holds_lem : (d n r L w k last at₁ at₂ : ℕ) (constant_terms ψ ω p b'' u : List ℤ) (terms projected expected given : ℤ) (x y : ℕ) → d ≤ 64 → 0 < d
    → last ≡ function_size n r * d → at₁ ≡ k * L → at₂ ≡ k * w
    → terms ≡ cent (sum Zq L (weighted ψ at₁ constant_terms last (last + 1))) → projected ≡ cent (sum Zq w (weighted ω at₂ p 0 1))
    → expected ≡ centred (bits32 terms +ℤ bits32 projected) → u ≡ array d (el d b'' k) → given ≡ centred (get_or u 0 (pos 0))
    → x ≡ emod (bits32 given) q → y ≡ emod (bits32 expected) q → eqb x y ≡ term_holds d n r L w constant_terms ψ ω p b'' k
unfolding term_holds
term_holds_lem d n r L w k last at₁ at₂ constant_terms ψ ω p b'' u terms projected expected given x y small above e f g et ep ee eu eg ex ey = ap₂ eqb
    left right
  where
    value : Zq.Carrier
    value = ct Zq (el d b'' k)

    left : x ≡ value.val
    left =
        ex ∙ ap (λ z. emod z q) (bits32-centred given (get_or u 0 (pos 0)) eg ∙ ap (λ (xs : List ℤ). centred (get_or xs 0 (pos 0))) eu
        ∙ ap centred (get_d_array d (el d b'' k) 0 (omega arith)) ∙ sym (cent-red (cent value)) ∙ ap cent (red-cent value))
        ∙ sym (red_residue (cent value)) ∙ ap (λ v. v.val) (red-cent value)

    read : (z : ℤ) (v : Zq.Carrier) → z ≡ cent v → bits32 z ≡ cent v
    read z v i = ap bits32 i ∙ to_z-of_z (cent-fits v)

    T : Zq.Carrier
    T = sum Zq L (λ l. Zq.mul (red (get_or ψ (k * L + l) (pos 0))) (red (term_constant d n r constant_terms l)))

    P : Zq.Carrier
    P = sum Zq w (λ j. Zq.mul (red (get_or ω (k * w + j) (pos 0))) (red (get_or p j (pos 0))))

    total : red (bits32 expected) ≡ Zq.add T P
    total =
        ap red (bits32-centred expected (bits32 terms +ℤ bits32 projected) ee ∙ ap centred (ap₂ ◌+ℤ◌ (read terms _ et ∙ ap cent
        (terms-sum d n r L k last at₁ constant_terms ψ e f)) (read projected _ ep ∙ ap cent (projections-sum w k at₂ ω p g))))
        ∙ red-centred (cent T +ℤ cent P)
        ∙ red-add (cent T) (cent P)
        ∙ ap₂ Zq.add (red-cent T) (red-cent P)

    right : y ≡ (Zq.add T P).val
    right = ey ∙ sym (red_residue (bits32 expected)) ∙ ap (λ v. v.val) total

-- ---- lengths

-- weights k * m .. of a list of 5 * m
pub step_fits : (count first step l len : ℕ) → l < count → first + count * step < len + step → first + l * step < len
step_fits count first step l len h fits = omega (arith, mul-le-mul_right step h)

pub weights-fit : (k m l : ℕ) → k < 5 → l ≡ 5 * m → k * m + m ≤ l
weights-fit k m l h e = omega (arith, mul-le-mul_right m h)

-- the last number of each of L constraints
pub constants-fit : (d n r L l last : ℕ) → last ≡ function_size n r * d → l ≡ constant_terms_length d n r L → last + L * (last + 1) < l + (last + 1)
unfolding constant_terms_length
constants-fit d n r L l last e f = rw (e, f) (omega arith)
