-- C's flag for one z digit, where it is not 0.
use Rattle.std.specs.Prelude.{◌≡◌, refl, true, ℕ, zero, suc}
use Rattle.fold.specs.declared.ZDigits.TheVariants.{One}
use Rattle.capi.specs.Codes.{z_from, one_from}

pub flag_digits : (n b : ℕ) → (n ≡ 0 → ⊥) → One ≡ z_from n b
flag_digits zero b some = absurd (some refl)
flag_digits (suc n) b some = refl

pub flag_one : (n : ℕ) → (n ≡ 0 → ⊥) → true ≡ one_from n
flag_one zero some = absurd (some refl)
flag_one (suc n) some = refl
