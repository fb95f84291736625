-- SPECIFICATION 2.9: "Where it is compared with a bound, the yes carries the bound minus the squared length." The promise of `compare` is
-- `margin ≡ remaining bound (norm_sq xs)`; n stands for the squared length.
--     within-exactly    yes with m exactly if m and the squared length are together the bound
--     above-exactly     no exactly if the squared length is above the bound
use Rattle.std.specs.Prelude.{◌≡◌, refl, ◌↔◌, Bool, true, false, ℕ, ◌+◌, ◌-◌, ◌<◌, leb, Some, None}
use Rattle.std.proofs.Common.{sym, ap, ◌∙◌, arith, leb-true, leb-false}
use Rattle.residues.specs.Length.{remaining}
use Rattle.residues.proofs.Laws.LengthLaws.{remaining-within, remaining-above}

module _ (bound n : ℕ) where
  pub within-exactly : (m : ℕ) → (remaining bound n ≡ Some m) ↔ (m + n ≡ bound)
  within-exactly m = (
    to (leb n bound) refl,
    λ whole. let left : bound - n ≡ m = omega (arith, whole) in remaining-within bound n (omega (arith, whole)) ∙ ap Some left,
  )
    where
      to : (t : Bool) → leb n bound ≡ t → remaining bound n ≡ Some m → m + n ≡ bound
      to true e f =
          let fits = leb-true n bound e in
          let same : Some (bound - n) ≡ Some m = sym (remaining-within bound n fits) ∙ f in
          let left : bound - n ≡ m = cc in
          omega (arith, fits, left)
      to false e f =
          let no : None ≡ Some m = sym (remaining-above bound n (leb-false n bound e)) ∙ f in
          let z : ◌≡◌ {A = ℕ} 0 1 = cc in absurd (omega arith)

  pub above-exactly : (remaining bound n ≡ None) ↔ (bound < n)
  above-exactly = (to (leb n bound) refl, remaining-above bound n)
    where
      to : (t : Bool) → leb n bound ≡ t → remaining bound n ≡ None → bound < n
      to true e f =
          let no : Some (bound - n) ≡ None = sym (remaining-within bound n (leb-true n bound e)) ∙ f in
          let z : ◌≡◌ {A = ℕ} 0 1 = cc in absurd (omega arith)
      to false e f = leb-false n bound e
