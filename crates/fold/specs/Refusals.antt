-- SPECIFICATION 7.a: "Lowest number first; a call tests only what it takes." Each row's test by name, and for each call
-- the list of its tests with their numbers, in the order in which they are tried. Sizes are integers here, since a sheet may hold any.
use Rattle.std.specs.Prelude.{Bool, true, false, cond, List, [], ◌∷◌, ◌++◌, map, ℕ, ◌+◌, ◌*◌, ◌-◌, leb, eqb, length, take, drop, ℤ, pos, negsuc}
use Rattle.ring.specs.Element.{every}
use Rattle.residues.specs.Range.{all_within, coefficients, projection_entries, challenge, all_narrow}
use Rattle.residues.specs.Digits.{least_base, most_base}
use Rattle.fold.specs.Limits.{most_rank, most_parts, most_constraints, most_projections, most_commitment_rank, most_digits, most_chunks, most_bound}
use Rattle.fold.specs.Sizes.{five, pairs, function_size, t_size, garbage_size, rest_size, opening_size, next_rank, next_parts, next_count}
use Rattle.fold.specs.Opening.{t_place, g_place, h_place}
use Rattle.fold.specs.Statement.{Statement, Draws, Transcript}

-- all of these
unfoldable pub all_of : List Bool → Bool
all_of [] = true
all_of (t ∷ ts) = cond t (all_of ts) false

-- low ≤ x ≤ high
unfoldable pub between : ℕ → ℕ → ℤ → Bool
between low high (pos n) = cond (leb low n) (leb n high) false
between low high (negsuc n) = false

-- one of these
unfoldable pub any_of : List Bool → Bool
any_of [] = false
any_of (t ∷ ts) = cond t true (any_of ts)

-- row 1: "d not listed": "Degree d is 2, 4, 8, 16, 32 or 64"
unfoldable pub degree : ℤ → Bool
degree (pos d) = any_of (eqb d 2 ∷ eqb d 4 ∷ eqb d 8 ∷ eqb d 16 ∷ eqb d 32 ∷ eqb d 64 ∷ [])
degree (negsuc d) = false

-- row 2: "n not 1..256, r not 1..16, K or L not 0..32, w not 0..256, a part or turn number outside its range"
unfoldable pub rank : ℤ → Bool
rank n = between 1 most_rank n

unfoldable pub parts : ℤ → Bool
parts r = between 1 most_parts r

unfoldable pub constraint_count : ℤ → Bool
constraint_count k = between 0 most_constraints k

unfoldable pub projection_count : ℤ → Bool
projection_count w = between 0 most_projections w

-- row 3: "κ, κ1 or κ2 not 1..8"
unfoldable pub commitment_rank : ℤ → Bool
commitment_rank κ = between 1 most_commitment_rank κ

-- row 4: "b, b1, b2 not 2..65536; t1, t2 not 2..8"
unfoldable pub base : ℤ → Bool
base b = between least_base most_base b

unfoldable pub digit_count : ℤ → Bool
digit_count t = between 2 most_digits t

-- row 5: "ν or μ below 1, 2ν+μ above 16; with one z digit ν+μ above 16"; tz digits of z are cut into ν chunks each
unfoldable pub chunks : ℕ → ℤ → ℤ → Bool
chunks tz (pos ν) (pos μ) = all_of (leb 1 ν ∷ leb 1 μ ∷ leb (tz * ν + μ) most_chunks ∷ [])
chunks tz (pos ν) (negsuc μ) = false
chunks tz (negsuc ν) μ = false

-- row 6: "β², β'² or the bound on z negative or above 999999999999999"
unfoldable pub length_bound : ℤ → Bool
length_bound β² = between 0 most_bound β²

-- row 7: "a slice's length is not what the sizes give"
unfoldable pub sized : {A : Type 0} (xs : List A) → ℕ → Bool
sized xs k = eqb (length xs) k

-- row 10: "challenge outside the rule", for each of the r elements of c
unfoldable pub challenges : (d r : ℕ) (c : List ℤ) → Bool
challenges d r c = every r (λ i. challenge (take d (drop (i * d) c)))

-- row 15: "the absolute value of a low digit is more than half its base". So many groups stand one after the other; each holds the t digits, lowest
-- first, of as many elements as there are rows. "The top digit of each value .. is free": a group's last digit is not looked at.
unfoldable pub low_narrow : (d count t rows base : ℕ) (xs : List ℤ) → Bool
low_narrow d count t rows base xs =
    every count (λ i. all_narrow base (take ((t - 1) * (rows * d)) (drop (i * (t * (rows * d))) xs)))

-- "B is b for z low, b1 for the t and h digits, b2 for the g digits": z is one group, t has one for each part, g and h have one for each pair
unfoldable pub narrow_digits : (d n r tz κ b b₁ b₂ t₁ t₂ : ℕ) (o : List ℤ) → Bool
narrow_digits d n r tz κ b b₁ b₂ t₁ t₂ o =
    all_of
    (low_narrow d 1 tz n b o
    ∷ low_narrow d r t₁ κ b₁ (drop (t_place tz n * d) o)
    ∷ low_narrow d (pairs r) t₂ 1 b₂ (drop (g_place tz n r κ t₁ * d) o)
    ∷ low_narrow d (pairs r) t₁ 1 b₁ (drop (h_place tz n r κ t₁ t₂ * d) o)
    ∷ [])

-- ---- the lengths that the sizes give, in numbers

unfoldable pub whole_length : (d n r K : ℕ) → ℕ
whole_length d n r K = K * ((function_size n r + 1) * d)

unfoldable pub constant_terms_length : (d n r L : ℕ) → ℕ
constant_terms_length d n r L = L * (function_size n r * d + 1)

unfoldable pub projection_length : (d n r w : ℕ) → ℕ
projection_length d n r w = w * (r * n * d)

-- ---- rows 1 to 6: the sizes. The tests that several calls take stand in groups

-- n and r, of row 2
abbrev pub shape : (n r : ℤ) → List Bool
shape n r = rank n ∷ parts r ∷ []

-- K, L and w, of row 2
abbrev pub counts : (K L w : ℤ) → List Bool
counts K L w = constraint_count K ∷ constraint_count L ∷ projection_count w ∷ []

-- κ and κ1, of row 3
abbrev pub ranks : (κ κ₁ : ℤ) → List Bool
ranks κ κ₁ = commitment_rank κ ∷ commitment_rank κ₁ ∷ []

-- b1, b2, t1 and t2, of row 4
abbrev pub digits : (b₁ b₂ t₁ t₂ : ℤ) → List Bool
digits b₁ b₂ t₁ t₂ = base b₁ ∷ base b₂ ∷ digit_count t₁ ∷ digit_count t₂ ∷ []

-- message 1
abbrev pub commit_bounds : (d n r κ κ₁ b₁ b₂ t₁ t₂ : ℕ) → List (ℕ × Bool)
commit_bounds d n r κ κ₁ b₁ b₂ t₁ t₂ =
    (1, degree (pos d))
    ∷ (2, all_of (shape (pos n) (pos r)))
    ∷ (3, all_of (ranks (pos κ) (pos κ₁)))
    ∷ (4, all_of (digits (pos b₁) (pos b₂) (pos t₁) (pos t₂)))
    ∷ []

-- message 2
abbrev pub project_bounds : (d n r w : ℕ) → List (ℕ × Bool)
project_bounds d n r w = (1, degree (pos d)) ∷ (2, all_of (shape (pos n) (pos r) ++ (projection_count (pos w) ∷ []))) ∷ []

-- message 3
abbrev pub aggregate_bounds : (d n r L w : ℕ) → List (ℕ × Bool)
aggregate_bounds d n r L w =
    (1, degree (pos d)) ∷ (2, all_of (shape (pos n) (pos r) ++ (constraint_count (pos L) ∷ projection_count (pos w) ∷ []))) ∷ []

-- message 4
abbrev pub garbage_bounds : (d n r K L w κ₂ b₁ t₁ : ℕ) → List (ℕ × Bool)
garbage_bounds d n r K L w κ₂ b₁ t₁ =
    (1, degree (pos d))
    ∷ (2, all_of (shape (pos n) (pos r) ++ counts (pos K) (pos L) (pos w)))
    ∷ (3, commitment_rank (pos κ₂))
    ∷ (4, all_of (base (pos b₁) ∷ digit_count (pos t₁) ∷ []))
    ∷ []

-- message 5
abbrev pub amortize_bounds : (d n r b : ℕ) → List (ℕ × Bool)
amortize_bounds d n r b = (1, degree (pos d)) ∷ (2, all_of (shape (pos n) (pos r))) ∷ (4, base (pos b)) ∷ []

-- rows 1 to 4, and row 6, of a statement; integers, since a sheet's header holds them
abbrev pub size_rows : (d n r K L w κ κ₁ κ₂ b b₁ b₂ t₁ t₂ : ℤ) → List (ℕ × Bool)
size_rows d n r K L w κ κ₁ κ₂ b b₁ b₂ t₁ t₂ =
    (1, degree d)
    ∷ (2, all_of (shape n r ++ counts K L w))
    ∷ (3, all_of (ranks κ κ₁ ++ (commitment_rank κ₂ ∷ [])))
    ∷ (4, all_of (base b ∷ digits b₁ b₂ t₁ t₂))
    ∷ []

abbrev pub bound_rows : (bound target : ℤ) → List (ℕ × Bool)
bound_rows bound target = (6, all_of (length_bound bound ∷ length_bound target ∷ [])) ∷ []

-- the question for part i (from 1) of the next witness
abbrev pub part_bounds : (d n r κ t₁ t₂ tz ν μ i : ℕ) → List (ℕ × Bool)
part_bounds d n r κ t₁ t₂ tz ν μ i =
    (1, degree (pos d))
    ∷ (2, all_of (shape (pos n) (pos r) ++ (between 1 (next_parts tz ν μ) (pos i) ∷ [])))
    ∷ (3, commitment_rank (pos κ))
    ∷ (4, all_of (digit_count (pos t₁) ∷ digit_count (pos t₂) ∷ []))
    ∷ (5, chunks tz (pos ν) (pos μ))
    ∷ []

-- ---- row 7: the lengths

-- message 1
abbrev pub commit_lengths : (d n r κ κ₁ t₁ t₂ : ℕ) (A B C s ts gs u₁ : List ℤ) → List Bool
commit_lengths d n r κ κ₁ t₁ t₂ A B C s ts gs u₁ =
    sized A (κ * n * d)
    ∷ sized B (κ₁ * t_size r κ t₁ * d)
    ∷ sized C (κ₁ * garbage_size r t₂ * d)
    ∷ sized s (r * n * d)
    ∷ sized ts (t_size r κ t₁ * d)
    ∷ sized gs (garbage_size r t₂ * d)
    ∷ sized u₁ (κ₁ * d)
    ∷ []

-- message 2
abbrev pub project_lengths : (d n r w : ℕ) (projections s p : List ℤ) → List Bool
project_lengths d n r w projections s p = sized projections (projection_length d n r w) ∷ sized s (r * n * d) ∷ sized p w ∷ []

-- message 3
abbrev pub aggregate_lengths : (d n r L w : ℕ) (constant_terms projections ψ ω s b'' : List ℤ) → List Bool
aggregate_lengths d n r L w constant_terms projections ψ ω s b'' =
    sized constant_terms (constant_terms_length d n r L)
    ∷ sized projections (projection_length d n r w)
    ∷ sized ψ (five * L)
    ∷ sized ω (five * w)
    ∷ sized s (r * n * d)
    ∷ sized b'' (five * d)
    ∷ []

-- both kinds of constraints and what is lent to aggregate them
abbrev pub constraint_lengths : (d n r K L w : ℕ) (whole constant_terms projections ψ ω α δ : List ℤ) → List Bool
constraint_lengths d n r K L w whole constant_terms projections ψ ω α δ =
    sized whole (whole_length d n r K)
    ∷ sized constant_terms (constant_terms_length d n r L)
    ∷ sized projections (projection_length d n r w)
    ∷ sized ψ (five * L)
    ∷ sized ω (five * w)
    ∷ sized α (K * d)
    ∷ sized δ (five * d)
    ∷ []

-- the other lists of message 4
abbrev pub garbage_lengths : (d n r κ₂ t₁ : ℕ) (D s hs u₂ : List ℤ) → List Bool
garbage_lengths d n r κ₂ t₁ D s hs u₂ =
    sized D (κ₂ * garbage_size r t₁ * d) ∷ sized s (r * n * d) ∷ sized hs (garbage_size r t₁ * d) ∷ sized u₂ (κ₂ * d) ∷ []

-- message 5
abbrev pub amortize_lengths : (d n r tz : ℕ) (c s zs : List ℤ) → List Bool
amortize_lengths d n r tz c s zs = sized c (r * d) ∷ sized s (r * n * d) ∷ sized zs (tz * n * d) ∷ []

-- all matrices
abbrev pub matrix_lengths : (d n r κ κ₁ κ₂ t₁ t₂ : ℕ) (A B C D : List ℤ) → List Bool
matrix_lengths d n r κ κ₁ κ₂ t₁ t₂ A B C D =
    sized A (κ * n * d)
    ∷ sized B (κ₁ * t_size r κ t₁ * d)
    ∷ sized C (κ₁ * garbage_size r t₂ * d)
    ∷ sized D (κ₂ * garbage_size r t₁ * d)
    ∷ []

-- the messages before the opening
abbrev pub message_lengths : (d w κ₁ κ₂ : ℕ) (u₁ p b'' u₂ : List ℤ) → List Bool
message_lengths d w κ₁ κ₂ u₁ p b'' u₂ = sized u₁ (κ₁ * d) ∷ sized p w ∷ sized b'' (five * d) ∷ sized u₂ (κ₂ * d) ∷ []

-- ---- row 8: every number of these lists is in range

abbrev pub in_range : List (List ℤ) → List Bool
in_range lists = map coefficients lists

-- ---- the tests of each call

-- message 1: A, B, C, the witness s; out: t digits, g digits, u1
unfoldable pub commit_tests : (d n r κ κ₁ b₁ b₂ t₁ t₂ : ℕ) (A B C s ts gs u₁ : List ℤ) → List (ℕ × Bool)
commit_tests d n r κ κ₁ b₁ b₂ t₁ t₂ A B C s ts gs u₁ =
    commit_bounds d n r κ κ₁ b₁ b₂ t₁ t₂
    ++ ((7, all_of (commit_lengths d n r κ κ₁ t₁ t₂ A B C s ts gs u₁))
    ∷ (8, all_of (in_range (A ∷ B ∷ C ∷ s ∷ [])))
    ∷ [])

-- message 2: projection rows, the witness; out: p
unfoldable pub project_tests : (d n r w : ℕ) (projections s p : List ℤ) → List (ℕ × Bool)
project_tests d n r w projections s p =
    project_bounds d n r w
    ++ ((7, all_of (project_lengths d n r w projections s p)) ∷ (8, all_of (in_range (projections ∷ s ∷ []))) ∷ (9, projection_entries projections) ∷ [])

-- message 3: constant-term constraints, projection rows, ψ, ω, the witness; out: b''
unfoldable pub aggregate_tests : (d n r L w : ℕ) (constant_terms projections ψ ω s b'' : List ℤ) → List (ℕ × Bool)
aggregate_tests d n r L w constant_terms projections ψ ω s b'' =
    aggregate_bounds d n r L w
    ++ ((7, all_of (aggregate_lengths d n r L w constant_terms projections ψ ω s b''))
    ∷ (8, all_of (in_range (constant_terms ∷ projections ∷ ψ ∷ ω ∷ s ∷ [])))
    ∷ (9, projection_entries projections)
    ∷ [])

-- message 4: both kinds of constraints, projection rows, ψ, ω, α, δ, D, the witness; out: h digits, u2
unfoldable pub garbage_tests : (d n r K L w κ₂ b₁ t₁ : ℕ) (whole constant_terms projections ψ ω α δ D s hs u₂ : List ℤ) → List (ℕ × Bool)
garbage_tests d n r K L w κ₂ b₁ t₁ whole constant_terms projections ψ ω α δ D s hs u₂ =
    garbage_bounds d n r K L w κ₂ b₁ t₁
    ++ ((7, all_of (constraint_lengths d n r K L w whole constant_terms projections ψ ω α δ ++ garbage_lengths d n r κ₂ t₁ D s hs u₂))
    ∷ (8, all_of (in_range (whole ∷ constant_terms ∷ projections ∷ ψ ∷ ω ∷ α ∷ δ ∷ D ∷ s ∷ [])))
    ∷ (9, projection_entries projections)
    ∷ [])

-- message 5: challenges, the witness; out: the tz digits of z
unfoldable pub amortize_tests : (d n r tz b : ℕ) (c s zs : List ℤ) → List (ℕ × Bool)
amortize_tests d n r tz b c s zs =
    amortize_bounds d n r b
    ++ ((7, all_of (amortize_lengths d n r tz c s zs)) ∷ (8, all_of (in_range (c ∷ s ∷ []))) ∷ (10, challenges d r c) ∷ [])

-- every low digit of the opening o is narrow
abbrev pub narrow : Statement → (o : List ℤ) → Bool
narrow 𝓢 o =
    narrow_digits 𝓢.relation.d 𝓢.relation.n 𝓢.relation.r 𝓢.tz 𝓢.κ 𝓢.b 𝓢.b₁ 𝓢.b₂ 𝓢.t₁ 𝓢.t₂ o

-- what is lent beside the messages: the statement and the draws
module _ (𝓢 : Statement) (𝓓 : Draws) where
  open 𝓢 use {relation, w, tz, κ, κ₁, κ₂, b, b₁, b₂, t₁, t₂, target, A, B, C, D}
  open relation use {d, n, r, K, L, bound, whole, constant_terms}
  open 𝓓 use {projections, ψ, ω, α, δ, c}

  abbrev pub size_tests : List (ℕ × Bool)
  size_tests =
      size_rows (pos d) (pos n) (pos r) (pos K) (pos L) (pos w) (pos κ) (pos κ₁) (pos κ₂) (pos b) (pos b₁) (pos b₂) (pos t₁) (pos t₂)

  abbrev pub bound_tests : List (ℕ × Bool)
  bound_tests = bound_rows (pos bound) (pos target)

  abbrev pub given_lengths : List Bool
  given_lengths =
      matrix_lengths d n r κ κ₁ κ₂ t₁ t₂ A B C D
      ++ (constraint_lengths d n r K L w whole constant_terms projections ψ ω α δ ++ (sized c (r * d) ∷ []))

  abbrev pub given_ranges : List Bool
  given_ranges = in_range (A ∷ B ∷ C ∷ D ∷ whole ∷ constant_terms ∷ projections ∷ ψ ∷ ω ∷ α ∷ δ ∷ c ∷ [])

  abbrev pub draw_tests : List (ℕ × Bool)
  draw_tests = (9, projection_entries projections) ∷ (10, challenges d r c) ∷ []

  -- the statement, the draws and a witness: what the five messages are made from
  unfoldable pub prover_tests : (s : List ℤ) → List (ℕ × Bool)
  prover_tests s =
      size_tests
      ++ (bound_tests
      ++ ((7, all_of (sized s (r * n * d) ∷ given_lengths))
      ∷ (8, all_of (coefficients s ∷ given_ranges))
      ∷ draw_tests))

-- the verifier and the next instance take the messages too
module _ (𝓢 : Statement) (𝓓 : Draws) (𝓣 : Transcript) where
  open 𝓢 use {relation, w, tz, κ, κ₁, κ₂, t₁, t₂}
  open relation use {d, n, r}
  open 𝓣 use {u₁, p, b'', u₂}

  abbrev pub lengths : List Bool
  lengths = message_lengths d w κ₁ κ₂ u₁ p b'' u₂ ++ given_lengths 𝓢 𝓓

  abbrev pub ranges : List Bool
  ranges = in_range (u₁ ∷ p ∷ b'' ∷ u₂ ∷ []) ++ given_ranges 𝓢 𝓓

  -- the verifier, with the opening o
  unfoldable pub verify_tests : (o : List ℤ) → List (ℕ × Bool)
  verify_tests o =
      size_tests 𝓢 𝓓
      ++ (bound_tests 𝓢 𝓓
      ++ ((7, all_of (sized o (opening_size tz n r κ t₁ t₂ * d) ∷ lengths))
      ∷ (8, all_of (coefficients o ∷ ranges))
      ∷ (draw_tests 𝓢 𝓓 ++ ((15, narrow 𝓢 o) ∷ []))))

  -- the next instance, cut into ν and μ chunks and written to out; "11: n' above 256"
  unfoldable pub next_tests : (ν μ : ℕ) (out : List ℤ) → List (ℕ × Bool)
  next_tests ν μ out =
      size_tests 𝓢 𝓓
      ++ ((5, chunks tz (pos ν) (pos μ))
      ∷ (bound_tests 𝓢 𝓓
      ++ ((7, all_of (sized out (whole_length d n' (next_parts tz ν μ) (next_count κ κ₁ κ₂)) ∷ lengths))
      ∷ (8, all_of ranges)
      ∷ (draw_tests 𝓢 𝓓 ++ ((11, leb n' most_rank) ∷ [])))))
    where
      n' : ℕ
      n' = next_rank n ν (rest_size r κ t₁ t₂) μ

-- a part of the next witness; the opening o is looked at only for its length
unfoldable pub part_tests : (d n r κ t₁ t₂ tz ν μ i : ℕ) (o : List ℤ) → List (ℕ × Bool)
part_tests d n r κ t₁ t₂ tz ν μ i o = part_bounds d n r κ t₁ t₂ tz ν μ i ++ ((7, sized o (opening_size tz n r κ t₁ t₂ * d)) ∷ [])

-- row 8 for "sixty-four numbers; those past d are zero": "coefficient .. out of range; a ring element with a nonzero number past d"
unfoldable pub is_element : ℕ → (xs : List ℤ) → Bool
is_element d xs = all_of (coefficients xs ∷ all_within 0 (drop d xs) ∷ [])

-- the ring product, of elements by value
unfoldable pub product_tests : ℕ → (x y : List ℤ) → List (ℕ × Bool)
product_tests d x y = (1, degree (pos d)) ∷ (8, all_of (is_element d x ∷ is_element d y ∷ [])) ∷ []
