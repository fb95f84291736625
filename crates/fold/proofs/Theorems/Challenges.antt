-- Row 10 (SPECIFICATION 5.1, 7.b): "challenge outside the rule". In every call that takes c its test is `challenges d r c`, asked where row 7 has
-- found d numbers for each of the r parts.
--     row_10_64         at degree 64, each challenge has the counts of the drawing
--     row_10_smaller    at each smaller degree, each has coefficients -2 to 2 and squared length at most 71
--     row_10_narrows    a list that passes passes by the rule of the smaller degrees too, so that nothing that this rule refuses is taken
use Rattle.std.specs.Prelude.{◌≡◌, true, ◌↔◌, List, ℕ, ◌*◌, ◌≤◌, ◌<◌, length, get_or, take, drop, ℤ, pos, nat_abs}
use Rattle.std.proofs.Common.{arith, length-take, length-drop, length-take-le}
use Rattle.integers.specs.Sums.{norm_sq}
use Rattle.residues.specs.Range.{short_challenge}
use Rattle.residues.proofs.Theorems.ChallengeRules.{Counts, degree_64, smaller-degree}
use Rattle.residues.proofs.Theorems.Challenge.{challenge-short}
use Rattle.ring.specs.Laws.ElementPlaces.{block-before}
use Rattle.fold.specs.Refusals.{challenges}
use Rattle.fold.specs.Laws.RefusalLaws.{challenges_iff}

-- the numbers of challenge i
abbrev pub numbers_of : (d : ℕ) (c : List ℤ) (i : ℕ) → List ℤ
numbers_of d c i = take d (drop (i * d) c)

sized_64 : (r : ℕ) (c : List ℤ) → length c ≡ r * 64 → (i : ℕ) → i < r → length (numbers_of 64 c i) ≡ 64
sized_64 r c size i h = length-take-le 64 (drop (i * 64) c) (omega (arith, length-drop (i * 64) c, size, block-before 64 i r h))

pub row_10_64 : (r : ℕ) (c : List ℤ) → length c ≡ r * 64 → (challenges 64 r c ≡ true) ↔ ((i : ℕ) → i < r → Counts (numbers_of 64 c i))
row_10_64 r c size = (
  λ e i h. (degree_64 _ (sized_64 r c size i h)).0 ((challenges_iff 64 r c).0 e i h),
  λ f. (challenges_iff 64 r c).1 (λ i h. (degree_64 _ (sized_64 r c size i h)).1 (f i h)),
)

smaller : (d : ℕ) → d < 64 → (c : List ℤ) (i : ℕ) → length (numbers_of d c i) < 64
smaller d h c i = omega (arith, length-take d (drop (i * d) c))

pub row_10_smaller : (d r : ℕ) (c : List ℤ) → d < 64
    → (challenges d r c ≡ true)
    ↔ ((i : ℕ) → i < r → ((k : ℕ) → nat_abs (get_or (numbers_of d c i) k (pos 0)) ≤ 2) × (norm_sq (numbers_of d c i) ≤ 71))
row_10_smaller d r c small = (
  λ e i h. (smaller-degree _ (smaller d small c i)).0 ((challenges_iff d r c).0 e i h),
  λ f. (challenges_iff d r c).1 (λ i h. (smaller-degree _ (smaller d small c i)).1 (f i h)),
)

pub row_10_narrows : (d r : ℕ) (c : List ℤ) → challenges d r c ≡ true → (i : ℕ) → i < r → short_challenge (numbers_of d c i) ≡ true
row_10_narrows d r c e i h = challenge-short _ ((challenges_iff d r c).0 e i h)
