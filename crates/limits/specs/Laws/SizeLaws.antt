-- Numbers of elements that code has computed: those of a constraint's functions, and others within the columns that `flat_length` takes.
use Rattle.std.specs.Prelude.{◌≡◌, ℕ, ◌≤◌}
use Rattle.std.proofs.Common.{arith}
use Rattle.fold.specs.Sizes.{function_size, t_size, garbage_size, opening_size}
use Rattle.fold.specs.Laws.SizeBounds.{function_size-bound, t_size-bound, garbage_size-bound, opening_size-bound}
use Rattle.fold.specs.Limits.{most_commitment_rank, most_digits, most_parts, most_rank}

pub function-within : (n r : ℕ) {k : ℕ} → k ≡ function_size n r → n ≤ most_rank → r ≤ most_parts → k ≤ 4232
function-within n r e h l = omega (arith, function_size-bound n r h l)

pub t_within : (r κ t₁ : ℕ) {k : ℕ} → k ≡ t_size r κ t₁ → r ≤ most_parts → κ ≤ most_commitment_rank → t₁ ≤ most_digits → k ≤ 8192
t_within r κ t₁ e h l u = omega (arith, t_size-bound r κ t₁ h l u)

pub garbage-within : (r t : ℕ) {k : ℕ} → k ≡ garbage_size r t → r ≤ most_parts → t ≤ most_digits → k ≤ 8192
garbage-within r t e h u = omega (arith, garbage_size-bound r t h u)

pub opening-within : (tz n r κ t₁ t₂ : ℕ) {k : ℕ} → k ≡ opening_size tz n r κ t₁ t₂ → tz ≤ 2 → n ≤ most_rank → r ≤ most_parts → κ ≤ most_commitment_rank → t₁ ≤ most_digits → t₂ ≤ most_digits → k ≤ 8192
opening-within tz n r κ t₁ t₂ e few h l u v x = omega (arith, opening_size-bound tz n r κ t₁ t₂ few h l u v x)
