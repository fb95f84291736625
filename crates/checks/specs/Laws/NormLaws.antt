-- Laws of what Norms.antt defines.
use Rattle.std.specs.Prelude.{◌≡◌, refl, Bool, List, ℕ, ◌+◌, ◌*◌, ◌-◌, length, ℤ, Option}
use Rattle.std.proofs.Common.{ap, ◌∙◌, arith}
use Rattle.integers.specs.Sums.{norm_sq}
use Rattle.residues.specs.Length.{remaining, lessened, holds}
use Rattle.residues.proofs.Laws.LengthLaws.{lessened-remaining, holds-remaining}
use Rattle.fold.specs.Sizes.{t_size, garbage_size, rest_size, opening_size}
use Rattle.fold.specs.Verdict.{check₁}
use Rattle.fold.specs.Opening.{z_length, tg_length, h_length, digits_length, t_place, g_place, h_place}
use Rattle.checks.specs.Norms.{three_lengths}

pub check_one : (w β² budget : ℕ) (p : List ℤ) (once twice : Option ℕ) (r : Bool) → budget ≡ w * β²
    → once ≡ remaining budget (norm_sq p) → twice ≡ lessened once (norm_sq p) → r ≡ holds twice → r ≡ check₁ w β² p
unfolding check₁
check_one w β² budget p once twice r e first second result =
    let double : norm_sq p + norm_sq p ≡ 2 * norm_sq p = omega arith in
    result
    ∙ ap holds (second ∙ ap (λ (m : Option ℕ). lessened m (norm_sq p)) first ∙ lessened-remaining budget (norm_sq p) (norm_sq p))
    ∙ holds-remaining budget (norm_sq p + norm_sq p)
    ∙ rw (double, e) refl

-- three lengths against one bound
pub three-lengths : (x y z target : ℕ) (one two three : Option ℕ) → one ≡ remaining target x → two ≡ lessened one y
    → three ≡ lessened two z → three ≡ remaining target (x + y + z)
three-lengths x y z target one two three first second third =
    third
    ∙ ap (λ (m : Option ℕ). lessened m z) (second ∙ ap (λ (m : Option ℕ). lessened m y) first ∙ lessened-remaining target x y)
    ∙ lessened-remaining target (x + y) z

-- the digits' length with the opening cut where t and h start
pub lengths_of_opening : (d n r tz κ t₁ t₂ first second : ℕ) (o : List ℤ) → length o ≡ opening_size tz n r κ t₁ t₂ * d
    → first ≡ t_place tz n * d → second ≡ h_place tz n r κ t₁ t₂ * d
    → three_lengths first second o ≡ digits_length d n r tz κ t₁ t₂ o
unfolding three_lengths z_length tg_length h_length opening_size rest_size h_place g_place t_place
lengths_of_opening d n r tz κ t₁ t₂ first second o whole e f =
    let middle : (tz * n + t_size r κ t₁ + garbage_size r t₂) * d - tz * n * d ≡ (t_size r κ t₁ + garbage_size r t₂) * d = omega arith in
    let last : length o - (tz * n + t_size r κ t₁ + garbage_size r t₂) * d ≡ garbage_size r t₁ * d = omega arith in
    rw (e, f, middle, last) refl
