-- The a of check 6 as it is formed: 0, 1, 2b or b² modulo q.
use Rattle.std.specs.Prelude.{◌≡◌, Bool, List, ℕ, ◌+◌, ◌*◌, ◌/◌, ◌%◌, ◌^◌, ◌≤◌, ◌<◌, eqb, ℤ, pos, ◌*ℤ◌}
use Rattle.std.proofs.Common.{sym, ap, ◌∙◌, to_z, of_z, to_z-of_z}
use Rattle.std.proofs.Math.Bool.{cond}
use Rattle.std.specs.Int.{w32}
use borrow.Author.Tests.{lt-ltb, le-ltb, eq-eqb, ne_eqb}
use Rattle.integers.specs.Laws.Identities.{*ℤ_idl}
use Rattle.residues.specs.Modulus.{Zq, red, centred}
use Rattle.residues.proofs.Laws.ModulusLaws.{red-mul, red-centred, centred-eq, centred-fits}
use Rattle.ring.specs.Element.{R, array, number}
use Rattle.ring.specs.Laws.Numbers.{number-mul}
use Rattle.fold.specs.NextInstance.{power, squares}
use Rattle.next_constraints.specs.Laws.Powers.{number-centred}

-- ---- the number

module _ (s s₂ : ℕ) (z : ℤ) where
  abbrev times : ℤ
  times = cond (eqb s s₂) (pos 1) (pos 2)

  pub weight-once : (r : ℤ) → s ≡ s₂ → r ≡ centred z → to_z w32 (of_z w32 r) ≡ centred (times *ℤ z)
  weight-once r same e =
      ap (λ x. to_z w32 (of_z w32 x)) e
      ∙ to_z-of_z (centred-fits z)
      ∙ ap centred (sym (*ℤ_idl z))
      ∙ ap (λ (t : Bool). centred (cond t (pos 1) (pos 2) *ℤ z)) (sym (eq-eqb s s₂ same))

  pub weight-twice : (once r : ℤ) → (s ≡ s₂ → ⊥) → once ≡ centred z → r ≡ centred (pos 2 *ℤ to_z w32 (of_z w32 once))
      → to_z w32 (of_z w32 r) ≡ centred (times *ℤ z)
  weight-twice once r apart e f =
      let held : to_z w32 (of_z w32 once) ≡ centred z = ap (λ x. to_z w32 (of_z w32 x)) e ∙ to_z-of_z (centred-fits z) in
      let value : r ≡ centred (pos 2 *ℤ z) =
      f ∙ ap (λ x. centred (pos 2 *ℤ x)) held ∙ centred-eq (pos 2 *ℤ centred z) (pos 2 *ℤ z)
      (red-mul (pos 2) (centred z) ∙ ap (Zq.mul (red (pos 2))) (red-centred z) ∙ sym (red-mul (pos 2) z)) in
      ap (λ x. to_z w32 (of_z w32 x)) value
      ∙ to_z-of_z (centred-fits (pos 2 *ℤ z))
      ∙ ap (λ (t : Bool). centred (cond t (pos 1) (pos 2) *ℤ z)) (sym (ne_eqb s s₂ apart))

-- ---- the element

-- sixty-four numbers that hold u hold v
pub holds_as : (d : ℕ) {u v : (R d).Carrier} {xs : List ℤ} → v ≡ u → xs ≡ array d u → xs ≡ array d v
holds_as d e h = h ∙ ap (array d) (sym e)

module _ (d tz ν b s s₂ : ℕ) where
  pub square-first : tz * ν ≤ s → squares d tz ν b s s₂ ≡ (R d).zero
  unfolding squares
  square-first h = rw (le-ltb s (tz * ν) h)

  pub square-second : s < tz * ν → tz * ν ≤ s₂ → squares d tz ν b s s₂ ≡ (R d).zero
  unfolding squares
  square-second l h = rw (lt-ltb s (tz * ν) l, le-ltb s₂ (tz * ν) h)

  pub square-apart : s < tz * ν → s₂ < tz * ν → (s % ν ≡ s₂ % ν → ⊥) → squares d tz ν b s s₂ ≡ (R d).zero
  unfolding squares
  square-apart l h e = rw (lt-ltb s (tz * ν) l, lt-ltb s₂ (tz * ν) h, ne_eqb (s % ν) (s₂ % ν) e)

  pub square-same : s < tz * ν → s₂ < tz * ν → s % ν ≡ s₂ % ν
      → squares d tz ν b s s₂ ≡ (R d).mul (number d (cond (eqb s s₂) (pos 1) (pos 2))) (power d b (s / ν + s₂ / ν))
  unfolding squares
  square-same l h e =
      rw (lt-ltb s (tz * ν) l, lt-ltb s₂ (tz * ν) h)
      (ap (λ (t : Bool). cond t ((R d).mul (number d (cond (eqb s s₂) (pos 1) (pos 2))) (power d b (s / ν + s₂ / ν))) (R d).zero)
      (eq-eqb (s % ν) (s₂ % ν) e))

  pub square-end : (r : ℤ) (xs : List ℤ) → s < tz * ν → s₂ < tz * ν → s % ν ≡ s₂ % ν
      → r ≡ centred (cond (eqb s s₂) (pos 1) (pos 2) *ℤ pos (b ^ (s / ν + s₂ / ν)))
      → xs ≡ array d (number d (to_z w32 (of_z w32 r))) → xs ≡ array d (squares d tz ν b s s₂)
  square-end r xs l h e f o =
      let t : ℤ = cond (eqb s s₂) (pos 1) (pos 2) in
      let z : ℤ = pos (b ^ (s / ν + s₂ / ν)) in
      let held : to_z w32 (of_z w32 r) ≡ centred (t *ℤ z) = ap (λ x. to_z w32 (of_z w32 x)) f ∙ to_z-of_z (centred-fits (t *ℤ z)) in
      o
      ∙ ap (λ x. array d (number d x)) held
      ∙ ap (array d) (number-centred d (t *ℤ z) ∙ number-mul d t z ∙ sym (square-same l h e))
