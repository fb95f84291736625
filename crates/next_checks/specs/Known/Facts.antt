-- What the writers of the constraints ask of the cut.
--     CutFacts         at most two digits of z, ν and μ within row 5, and m, n', r' and the places of the blocks as they follow from the sizes
use Rattle.std.specs.Prelude.{◌≡◌, ◌+◌, ◌*◌, ◌<◌, ◌≤◌}
use Rattle.fold.specs.declared.Sizes.{Sizes}
use Rattle.fold.specs.Sizes.{pairs, function_size, t_size, garbage_size, rest_size, next_rank, next_parts}
use Rattle.next_checks.specs.declared.cut.Cut.{Cut}
use Rattle.fold.specs.Limits.{most_rank, most_chunks}

pub record CutFacts (s : Sizes) (cut : Cut) : Type 0 where
  pub tz-positive : 0 < cut.tz
  pub tz-small : cut.tz ≤ 2
  pub ν-positive : 0 < cut.nu
  pub μ-positive : 0 < cut.mu
  pub parts-small : cut.tz * cut.nu + cut.mu ≤ most_chunks
  pub rest-is : cut.m ≡ rest_size s.shape.r s.kappa s.t1 s.t2
  pub rank_is : cut.rank ≡ next_rank s.shape.n cut.nu cut.m cut.mu
  pub rank-small : cut.rank ≤ most_rank
  pub parts_is : cut.parts ≡ next_parts cut.tz cut.nu cut.mu
  pub pairs_is : cut.pairs ≡ pairs cut.parts
  pub size_is : cut.size ≡ function_size cut.rank cut.parts
  pub z-is : cut.z + (cut.tz * s.shape.n + cut.m) ≡ cut.size
  pub t-is : cut.t ≡ cut.z + cut.tz * s.shape.n
  pub g-is : cut.g ≡ cut.t + t_size s.shape.r s.kappa s.t1
  pub h-is : cut.h ≡ cut.g + garbage_size s.shape.r s.t2
