-- SPECIFICATION 8: the opening cut into chunks. "z low and z high are cut into ν chunks each of n/ν
-- elements, the rest into μ chunks of m/μ elements, both rounded up; the last chunks may be short or empty."
use Rattle.std.specs.Prelude.{◌≡◌, cond, List, ◌++◌, ℕ, ◌+◌, ◌*◌, ◌-◌, ◌%◌, ◌≤◌, ◌<◌, min, ltb, get_or, take, drop, replicate, ℤ, pos}
use Rattle.integers.specs.Flat.{flat}
use Rattle.algebra.specs.Triangle.{start}
use Rattle.fold.specs.Sizes.{ceiling, next_rank, next_parts}

-- elements of chunk i where `whole` elements are cut into `count` chunks
unfoldable pub chunk : (whole count i : ℕ) → ℕ
chunk whole count i = min (ceiling whole count) (whole - i * ceiling whole count)

-- elements of part s of the next witness: ν chunks of each z digit, then μ chunks of the rest
unfoldable pub width : (tz n ν m μ : ℕ) → ℕ → ℕ
width tz n ν m μ s = cond (ltb s (tz * ν)) (chunk n ν (s % ν)) (chunk m μ (s - tz * ν))

-- chunk s of a list that is cut into chunks of w 0, w 1, .. elements: "that chunk of the caller's own slice"
unfoldable pub cut : (d : ℕ) → (ℕ → ℕ) → (o : List ℤ) → ℕ → List ℤ
cut d w o s = take (w s * d) (drop (start w s * d) o)

-- "every chunk is padded with zeros at its end to n'"
unfoldable pub cut_padded : (d n' : ℕ) → (ℕ → ℕ) → (o : List ℤ) → ℕ → List ℤ
cut_padded d n' w o s = cut d w o s ++ replicate ((n' - w s) * d) (pos 0)

unfoldable pub padded : (d tz n ν m μ : ℕ) (o : List ℤ) → List ℤ
padded d tz n ν m μ o = flat (next_parts tz ν μ) (cut_padded d (next_rank n ν m μ) (width tz n ν m μ) o)

-- "with the padding cut off": part i of a next witness, and the opening that the parts hold
unfoldable pub trimmed : (d n' : ℕ) → (ℕ → ℕ) → (s : List ℤ) → ℕ → List ℤ
trimmed d n' w s i = take (w i * d) (drop (i * n' * d) s)

unfoldable pub unpadded : (d tz n ν m μ : ℕ) (s : List ℤ) → List ℤ
unpadded d tz n ν m μ s = flat (next_parts tz ν μ) (trimmed d (next_rank n ν m μ) (width tz n ν m μ) s)

-- "A solution of the next instance whose padding is zero": number x of element k of part i is zero past the end of chunk i
pub record ZeroPadding (d tz n ν m μ : ℕ) (s : List ℤ) : Type 0 where
  pub zero-past : (i k x : ℕ) → i < next_parts tz ν μ → width tz n ν m μ i ≤ k → k < next_rank n ν m μ → x < d
      → get_or s ((i * next_rank n ν m μ + k) * d + x) (pos 0) ≡ pos 0
