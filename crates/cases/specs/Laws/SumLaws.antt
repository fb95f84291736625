-- Laws of the checksum.
use Rattle.std.specs.Prelude.{◌≡◌, refl, true, false, List, ℕ, suc, ◌+◌, ◌*◌, ◌-◌, ◌%◌, ◌<◌, ℤ, pos, negsuc, nat_abs, ◌+ℤ◌, ◌*ℤ◌, length, get_or}
use Rattle.std.proofs.Common.{sym, ap, ◌∙◌, add-one, arith}
use Rattle.std.proofs.Math.Nat.{add-mod-mod, mod-add-mod}
use Rattle.std.specs.Int.Signed.{lt_z}
use Rattle.integers.specs.Laws.Bridge.{lt_z-true, lt_z_false}
use Rattle.integers.specs.Remainder.{emod}
use Rattle.integers.specs.Laws.RemainderLaws.{emod-lt, emod-pos, emod-neg, emod-add, emod-mul, emod_add_cong, emod-emod}
use Rattle.cases.specs.Sums.{weighted, checksum}

module _ (m : ℕ) (m>0 : 0 < m) where
  pub residue_negative : (x : ℤ) → lt_z x (pos 0) ≡ true → (m - nat_abs x % m) % m ≡ emod x m
  residue_negative (pos n) h = let no : ⊥ = omega (arith, lt_z-true (pos n) (pos 0) h) in absurd no
  residue_negative (negsuc n) h = ap (λ (k : ℕ). (m - k) % m) (sym (emod-pos m m>0 (suc n))) ∙ sym (emod-neg m m>0 (pos (suc n)))

  pub residue_positive : (x : ℤ) → lt_z x (pos 0) ≡ false → nat_abs x % m ≡ emod x m
  residue_positive (pos n) h = sym (emod-pos m m>0 n)
  residue_positive (negsuc n) h = let no : ⊥ = omega (arith, lt_z_false (negsuc n) (pos 0) h) in absurd no

  pub one_more : (sum times : ℕ) (x : ℤ) → (sum + times % m * emod x m) % m ≡ emod (pos sum +ℤ pos times *ℤ x) m
  one_more sum times x =
      let product : emod (pos times *ℤ x) m ≡ (times % m * emod x m) % m =
      emod-mul m m>0 (pos times) x ∙ ap (λ (k : ℕ). (k * emod x m) % m) (emod-pos m m>0 times) in
      let all : emod (pos sum +ℤ pos times *ℤ x) m ≡ (sum % m + (times % m * emod x m) % m) % m =
      rw (emod-add m m>0 (pos sum) (pos times *ℤ x), product, emod-pos m m>0 sum) refl in
      sym (all ∙ add-mod-mod (sum % m) (times % m * emod x m) m ∙ mod-add-mod sum m (times % m * emod x m))

pub checksum-start : (xs : List ℤ) → 0 ≡ emod (weighted 0 xs) 2147483647
unfolding weighted emod
checksum-start xs = refl

pub checksum-step : (xs : List ℤ) (i sum : ℕ) {r : ℕ} → sum ≡ emod (weighted i xs) 2147483647
    → r ≡ emod (pos sum +ℤ pos (i + 1) *ℤ get_or xs i (pos 0)) 2147483647 → r ≡ emod (weighted (i + 1) xs) 2147483647
unfolding weighted
checksum-step xs i sum e f =
    let summand = pos (suc i) *ℤ get_or xs i (pos 0) in
    f ∙ rw (add-one i) (emod_add_cong 2147483647 (omega arith) (pos sum) summand (weighted i xs) summand
    (ap (λ (k : ℕ). emod (pos k) 2147483647) e ∙ emod-emod 2147483647 (omega arith) (weighted i xs)) refl)

pub checksum-below : (xs : List ℤ) (i : ℕ) {sum : ℕ} → sum ≡ emod (weighted i xs) 2147483647 → sum < 2147483647
checksum-below xs i e = omega (arith, emod-lt 2147483647 (omega arith) (weighted i xs))

pub checksum-end : (xs : List ℤ) (i : ℕ) {sum : ℕ} → i ≡ length xs → sum ≡ emod (weighted i xs) 2147483647 → sum ≡ checksum xs
unfolding checksum
checksum-end xs i e f = f ∙ ap (λ (k : ℕ). emod (weighted k xs) 2147483647) e
