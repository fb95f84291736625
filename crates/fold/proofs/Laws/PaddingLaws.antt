-- Laws of the padded opening, for ν and μ above 0 and an opening of tz · n + m elements.
--     part-padded, part_padding     part s holds its chunk of the opening, then zeros
--     zero_padding                  its padding is zero, as ZeroPadding says
--     chunk-padded                the same as a list
--     norm_sq-padded                 its squared length is the opening's
--     unpadded-padded, padded-unpadded     padding is undone, and done again where it is zero
--     part-unpadded, norm_sq-unpadded       whatever is cut off: padding again keeps the chunks, and the squared length is at most the list's
use Rattle.std.specs.Prelude.{◌≡◌, List, ◌++◌, ℕ, ◌+◌, ◌-◌, ◌*◌, ◌≤◌, ◌<◌, length, take, drop, replicate, ℤ, pos}
use Rattle.std.proofs.Common.{sym, ◌∙◌}
use Rattle.std.proofs.Math.Path.{ap}
use Rattle.integers.specs.Sums.{norm_sq}
use Rattle.algebra.specs.Triangle.{start}
use Rattle.ring.specs.Element.{R, el}
use Rattle.fold.specs.Sizes.{next_rank, next_parts}
use Rattle.fold.specs.Statement.{part}
use Rattle.fold.specs.Chunks.{width, cut, cut_padded, padded, unpadded, ZeroPadding}
use Rattle.fold.specs.Laws.ChunkLaws.{width-bound, widths_cover}
use Rattle.fold.proofs.Laws.CutLaws.{part-within, part-past, number_past, norm_sq_padded_cuts, block_cuts, length_padded_cuts, trimmed_cuts}
use Rattle.fold.proofs.Laws.TrimLaws.{length-all-trimmed, el-trimmed, norm_sq-trimmed, trimmed-padded}

module _ (d tz n ν m μ : ℕ) (some-ν : 0 < ν) (some-μ : 0 < μ) where
  fitting : (s : ℕ) → width tz n ν m μ s ≤ next_rank n ν m μ
  fitting = width-bound tz n ν m μ

  all : start (width tz n ν m μ) (next_parts tz ν μ) ≡ tz * n + m
  all = widths_cover tz n ν m μ some-ν some-μ

  module _ (o : List ℤ) (sized : length o ≡ (tz * n + m) * d) where
    covered : length o ≡ start (width tz n ν m μ) (next_parts tz ν μ) * d
    covered = sized ∙ ap (λ x. x * d) (sym all)

    pub length-padded : length (padded d tz n ν m μ o) ≡ next_parts tz ν μ * (next_rank n ν m μ * d)
    unfolding padded
    length-padded = length_padded_cuts d (next_parts tz ν μ) (next_rank n ν m μ) (width tz n ν m μ) fitting o covered

    pub part-padded : (s k : ℕ) → s < next_parts tz ν μ → k < width tz n ν m μ s
        → part d (next_rank n ν m μ) (padded d tz n ν m μ o) s k ≡ el d o (start (width tz n ν m μ) s + k)
    unfolding part padded
    part-padded = part-within d (next_parts tz ν μ) (next_rank n ν m μ) (width tz n ν m μ) fitting o covered

    pub part_padding : (s k : ℕ) → s < next_parts tz ν μ → width tz n ν m μ s ≤ k → k < next_rank n ν m μ
        → part d (next_rank n ν m μ) (padded d tz n ν m μ o) s k ≡ (R d).zero
    unfolding part padded
    part_padding = part-past d (next_parts tz ν μ) (next_rank n ν m μ) (width tz n ν m μ) fitting o covered

    pub zero_padding : ZeroPadding d tz n ν m μ (padded d tz n ν m μ o)
    unfolding padded
    zero_padding =
        record { zero-past = number_past d (next_parts tz ν μ) (next_rank n ν m μ) (width tz n ν m μ) fitting o covered }

    -- "the library hands back that chunk of the caller's own slice": with zeros after it, it is that part of the padded opening
    pub chunk-padded : (s : ℕ) → s < next_parts tz ν μ
        → take (next_rank n ν m μ * d) (drop (s * (next_rank n ν m μ * d)) (padded d tz n ν m μ o))
        ≡ cut d (width tz n ν m μ) o s ++ replicate ((next_rank n ν m μ - width tz n ν m μ s) * d) (pos 0)
    unfolding padded cut_padded
    chunk-padded = block_cuts d (next_parts tz ν μ) (next_rank n ν m μ) (width tz n ν m μ) fitting o covered

    pub norm_sq-padded : norm_sq (padded d tz n ν m μ o) ≡ norm_sq o
    unfolding padded
    norm_sq-padded = norm_sq_padded_cuts d (next_parts tz ν μ) (next_rank n ν m μ) (width tz n ν m μ) fitting o covered

    pub unpadded-padded : unpadded d tz n ν m μ (padded d tz n ν m μ o) ≡ o
    unfolding padded unpadded
    unpadded-padded = trimmed_cuts d (next_parts tz ν μ) (next_rank n ν m μ) (width tz n ν m μ) fitting o covered

  module _ (s : List ℤ) (sized : length s ≡ next_parts tz ν μ * (next_rank n ν m μ * d)) where
    pub length-unpadded : length (unpadded d tz n ν m μ s) ≡ (tz * n + m) * d
    unfolding unpadded
    length-unpadded =
        length-all-trimmed d (next_parts tz ν μ) (next_rank n ν m μ) (width tz n ν m μ) fitting s sized ∙ ap (λ x. x * d) all

    pub part-unpadded : (i k : ℕ) → i < next_parts tz ν μ → k < width tz n ν m μ i
        → part d (next_rank n ν m μ) (padded d tz n ν m μ (unpadded d tz n ν m μ s)) i k ≡ part d (next_rank n ν m μ) s i k
    unfolding part unpadded
    part-unpadded i k h l =
        part-padded (unpadded d tz n ν m μ s) length-unpadded i k h l
        ∙ el-trimmed d (next_parts tz ν μ) (next_rank n ν m μ) (width tz n ν m μ) fitting s sized i k h l

    pub norm_sq-unpadded : norm_sq (unpadded d tz n ν m μ s) ≤ norm_sq s
    unfolding unpadded
    norm_sq-unpadded = norm_sq-trimmed d (next_parts tz ν μ) (next_rank n ν m μ) (width tz n ν m μ) fitting s sized

    pub padded-unpadded : ZeroPadding d tz n ν m μ s → padded d tz n ν m μ (unpadded d tz n ν m μ s) ≡ s
    unfolding padded unpadded
    padded-unpadded zeros = trimmed-padded d (next_parts tz ν μ) (next_rank n ν m μ) (width tz n ν m μ) fitting s sized zeros.zero-past
