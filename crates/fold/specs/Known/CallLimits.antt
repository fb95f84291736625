-- What rows 1 to 6 leave known of the sizes of each call, as plain bounds. Each law takes a call's tests of those rows by their numbers, and
-- finds each bound by what it says: a test more in a row or a row more leaves it as it is.
--     CommitLimits, ProjectLimits, AggregateLimits, GarbageLimits, AmortizeLimits, VerifyLimits, ChunkLimits, PartLimits
use Rattle.std.specs.Prelude.{◌≡◌, true, ℕ, ◌+◌, ◌*◌, ◌≤◌, ◌<◌, pos}
use Rattle.residues.specs.Digits.{Base}
use Rattle.fold.specs.Sizes.{next_parts}
use Rattle.fold.specs.Known.Facts.{Shaped}
use Rattle.fold.specs.Answers.{test_of}
use Rattle.fold.specs.Refusals.{commit_bounds, project_bounds, aggregate_bounds, garbage_bounds, amortize_bounds}
use Rattle.fold.specs.Refusals.{size_rows, bound_rows, part_bounds, chunks}
use Rattle.fold.specs.Laws.RefusalLaws.{all_of_all, chunks_iff, tested}
use Rattle.fold.specs.Laws.TestLaws.{Rows}
use Rattle.fold.specs.declared.CommitSizes.{CommitSizes}
use Rattle.fold.specs.declared.GarbageSizes.{GarbageSizes}
use Rattle.fold.specs.declared.Sizes.{Sizes}
use Rattle.fold.specs.declared.PartSizes.{PartSizes}
use Rattle.fold.specs.Limits.{most_bound, most_commitment_rank, most_constraints, most_digits, most_projections, most_chunks}

pub record CommitLimits (d n r κ κ₁ b₁ b₂ t₁ t₂ : ℕ) : Type 0 where
  pub shaped : Shaped d n r
  pub κ-positive : 1 ≤ κ
  pub κ-small : κ ≤ most_commitment_rank
  pub κ₁-positive : 1 ≤ κ₁
  pub κ₁-small : κ₁ ≤ most_commitment_rank
  pub base₁ : Base b₁
  pub base₂ : Base b₂
  pub t₁-least : 2 ≤ t₁
  pub t₁-most : t₁ ≤ most_digits
  pub t₂-least : 2 ≤ t₂
  pub t₂-most : t₂ ≤ most_digits

pub record ProjectLimits (d n r w : ℕ) : Type 0 where
  pub shaped : Shaped d n r
  pub w-small : w ≤ most_projections

pub record AggregateLimits (d n r L w : ℕ) : Type 0 where
  pub shaped : Shaped d n r
  pub L-small : L ≤ most_constraints
  pub w-small : w ≤ most_projections

pub record GarbageLimits (d n r K L w κ₂ b₁ t₁ : ℕ) : Type 0 where
  pub shaped : Shaped d n r
  pub K-small : K ≤ most_constraints
  pub L-small : L ≤ most_constraints
  pub w-small : w ≤ most_projections
  pub κ₂-positive : 1 ≤ κ₂
  pub κ₂-small : κ₂ ≤ most_commitment_rank
  pub base₁ : Base b₁
  pub t₁-least : 2 ≤ t₁
  pub t₁-most : t₁ ≤ most_digits

pub record AmortizeLimits (d n r b : ℕ) : Type 0 where
  pub shaped : Shaped d n r
  pub base : Base b

pub record VerifyLimits (d n r K L w κ κ₁ κ₂ b b₁ b₂ t₁ t₂ bound target : ℕ) : Type 0 where
  pub shaped : Shaped d n r
  pub K-small : K ≤ most_constraints
  pub L-small : L ≤ most_constraints
  pub w-small : w ≤ most_projections
  pub κ-positive : 1 ≤ κ
  pub κ-small : κ ≤ most_commitment_rank
  pub κ₁-positive : 1 ≤ κ₁
  pub κ₁-small : κ₁ ≤ most_commitment_rank
  pub κ₂-positive : 1 ≤ κ₂
  pub κ₂-small : κ₂ ≤ most_commitment_rank
  pub base : Base b
  pub base₁ : Base b₁
  pub base₂ : Base b₂
  pub t₁-least : 2 ≤ t₁
  pub t₁-most : t₁ ≤ most_digits
  pub t₂-least : 2 ≤ t₂
  pub t₂-most : t₂ ≤ most_digits
  pub bound-small : bound ≤ most_bound
  pub target_small : target ≤ most_bound

-- row 5
pub record ChunkLimits (tz ν μ : ℕ) : Type 0 where
  pub ν-positive : 0 < ν
  pub μ-positive : 0 < μ
  pub parts-small : tz * ν + μ ≤ most_chunks

-- the question for part i of the next witness
pub record PartLimits (d n r κ t₁ t₂ tz ν μ i : ℕ) : Type 0 where
  pub shaped : Shaped d n r
  pub κ-small : κ ≤ most_commitment_rank
  pub t₁-most : t₁ ≤ most_digits
  pub t₂-most : t₂ ≤ most_digits
  pub cut : ChunkLimits tz ν μ
  pub from_one : 1 ≤ i
  pub up_to_parts : i ≤ next_parts tz ν μ

-- ---- from the tests

pub commit-limits : (d n r κ κ₁ b₁ b₂ t₁ t₂ : ℕ) → Rows (commit_bounds d n r κ κ₁ b₁ b₂ t₁ t₂) → CommitLimits d n r κ κ₁ b₁ b₂ t₁ t₂
commit-limits d n r κ κ₁ b₁ b₂ t₁ t₂ row = search (tested, row 1, all_of_all _ (row 2), all_of_all _ (row 3), all_of_all _ (row 4))

pub project-limits : (d n r w : ℕ) → Rows (project_bounds d n r w) → ProjectLimits d n r w
project-limits d n r w row = search (tested, row 1, all_of_all _ (row 2))

pub aggregate-limits : (d n r L w : ℕ) → Rows (aggregate_bounds d n r L w) → AggregateLimits d n r L w
aggregate-limits d n r L w row = search (tested, row 1, all_of_all _ (row 2))

pub garbage-limits : (d n r K L w κ₂ b₁ t₁ : ℕ) → Rows (garbage_bounds d n r K L w κ₂ b₁ t₁) → GarbageLimits d n r K L w κ₂ b₁ t₁
garbage-limits d n r K L w κ₂ b₁ t₁ row = search (tested, row 1, all_of_all _ (row 2), row 3, all_of_all _ (row 4))

pub amortize-limits : (d n r b : ℕ) → Rows (amortize_bounds d n r b) → AmortizeLimits d n r b
amortize-limits d n r b row = search (tested, row 1, all_of_all _ (row 2), row 4)

-- the verifier, the next instance and the header test these rows
pub verify-limits : (d n r K L w κ κ₁ κ₂ b b₁ b₂ t₁ t₂ bound target : ℕ)
    → Rows (size_rows (pos d) (pos n) (pos r) (pos K) (pos L) (pos w) (pos κ) (pos κ₁) (pos κ₂) (pos b) (pos b₁) (pos b₂) (pos t₁) (pos t₂))
    → test_of 6 (bound_rows (pos bound) (pos target)) ≡ true → VerifyLimits d n r K L w κ κ₁ κ₂ b b₁ b₂ t₁ t₂ bound target
verify-limits d n r K L w κ κ₁ κ₂ b b₁ b₂ t₁ t₂ bound target row six =
    search (tested, row 1, all_of_all _ (row 2), all_of_all _ (row 3), all_of_all _ (row 4), all_of_all _ six)

pub chunk-limits : (tz ν μ : ℕ) → chunks tz (pos ν) (pos μ) ≡ true → ChunkLimits tz ν μ
chunk-limits tz ν μ e = search ((chunks_iff tz ν μ).0 e)

pub part-limits : (d n r κ t₁ t₂ tz ν μ i : ℕ) → Rows (part_bounds d n r κ t₁ t₂ tz ν μ i) → PartLimits d n r κ t₁ t₂ tz ν μ i
part-limits d n r κ t₁ t₂ tz ν μ i row =
    search (tested, chunk-limits, row 1, all_of_all _ (row 2), row 3, all_of_all _ (row 4), row 5)

-- ---- the limits of sizes that stand in a struct

abbrev pub CommitSized : CommitSizes → Type 0
CommitSized m = CommitLimits m.shape.d m.shape.n m.shape.r m.kappa m.kappa1 m.b1 m.b2 m.t1 m.t2

abbrev pub GarbageSized : GarbageSizes → Type 0
GarbageSized m = GarbageLimits m.shape.d m.shape.n m.shape.r m.k m.l m.w m.kappa2 m.b1 m.t1

abbrev pub VerifySized : Sizes → Type 0
VerifySized m =
    VerifyLimits m.shape.d m.shape.n m.shape.r m.k m.l m.w m.kappa m.kappa1 m.kappa2 m.b m.b1 m.b2 m.t1 m.t2
    m.bound m.target

-- for tz digits of z
abbrev pub PartSizedWith : (tz : ℕ) → PartSizes → (i : ℕ) → Type 0
PartSizedWith tz m i = PartLimits m.shape.d m.shape.n m.shape.r m.kappa m.t1 m.t2 tz m.nu m.mu i
