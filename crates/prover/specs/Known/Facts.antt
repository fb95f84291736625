-- What follows of what the work functions of messages 1 and 2 are lent (WorkFacts and CallFacts of crate fold).
--     PartFacts                    A times one part of the witness
--     last-room, t-length, projections-length, witness-short
use Rattle.std.specs.Prelude.{◌≡◌, List, ℕ, ◌+◌, ◌*◌, ◌-◌, ◌<◌, ◌≤◌, length, ℤ}
use Rattle.std.proofs.Common.{sym, ap, ◌∙◌, mul-le-mul, le_refl, arith}
use Rattle.fold.specs.declared.CommitSizes.{CommitSizes}
use Rattle.fold.specs.declared.Shape.{Shape}
use Rattle.fold.specs.Known.WorkFacts.{TFacts}
use Rattle.fold.specs.Known.CallFacts.{ProjectFacts}
use Rattle.fold.specs.Sizes.{t_size}
use Rattle.fold.specs.Refusals.{projection_length}
use Rattle.fold.specs.Limits.{most_rank}

pub record PartFacts (d n κ i : ℕ) (A s : List ℤ) : Type 0 where
  pub rank-small : n ≤ most_rank
  pub matrix : κ * n * d ≤ length A
  pub part : (i * n + n) * d ≤ length s

-- z has room in the last of its places
pub last-room : (d n tz : ℕ) {size : ℕ} → 0 < tz → size ≡ tz * n * d → ((tz - 1) * n + n) * d ≤ size
last-room d n tz some e =
    let last : tz ≡ (tz - 1) + 1 = omega (arith, some) in
    let whole : (tz - 1) * n + n ≡ tz * n = omega (arith, ap (λ (t : ℕ). t * n) last) in
    rw (whole, e) (le_refl (tz * n * d))

pub t-length : {sizes : CommitSizes} {A s ts : List ℤ} → TFacts sizes A s ts
    → length ts ≡ sizes.shape.r * (sizes.t1 * (sizes.kappa * sizes.shape.d))
unfolding t_size
t-length facts = omega (arith, facts.ts_length)

pub projections-length : {shape : Shape} {w : ℕ} {projections s p : List ℤ} → ProjectFacts shape w projections s p → length projections ≡ w * length s
unfolding projection_length
projections-length {w = w} facts = facts.projections-length ∙ ap (λ (k : ℕ). w * k) (sym facts.s-length)

pub witness-short : {shape : Shape} {w : ℕ} {projections s p : List ℤ} → ProjectFacts shape w projections s p → length s ≤ 262144
witness-short facts =
    let shape = facts.limits.shaped in
    omega (arith, facts.s-length, mul-le-mul (mul-le-mul shape.parts-small shape.rank-small) shape.degree.small)
