-- Laws of the refusals: a call is not refused exactly when each of its tests holds, and what each test says.
--     Passes, numbered, refusal_iff     the list of tests of a call
--     passes-join, -front, -back, early-passes     lists of tests joined
--     All, all_of_iff, SomeFails, all_of_false, Any, any_of_iff    the tests of one row
--     between_iff, degree-fits, ..      the tests by name
--     tested                            what each test says: `search (tested, ..)` finds a record of facts among tests that hold
use Rattle.std.specs.Prelude.{◌≡◌, refl, Bool, true, false, cond, ◌↔◌, ◌⊎◌, List, [], ◌∷◌, ◌++◌, ℕ, zero, suc, ◌+◌, ◌*◌, ◌<◌, ◌≤◌, T, leb, ltb, eqb, length, drop, take, ℤ, pos}
use Rattle.std.proofs.Common.{sym, subst, inl, inr, arith, ltb→lt, le-leb, leb-true, eq-eqb, eqb-true}
pub use Rattle.integers.specs.Laws.AllLaws.{both_left, both_right, both_true}
use Rattle.ring.specs.Element.{Degree}
use Rattle.residues.specs.Digits.{Base, least_base, most_base}
use Rattle.fold.specs.Answers.{first_failing}
use Rattle.fold.specs.Refusals.{all_of, any_of, between, degree, rank, parts, constraint_count, projection_count, commitment_rank, base, challenges}
use Rattle.fold.specs.Refusals.{digit_count, chunks, length_bound, sized}
use Rattle.ring.specs.Laws.ElementEquality.{every_true, true-every}
use Rattle.residues.specs.Range.{challenge}
use Rattle.fold.specs.Limits.{most_bound, most_commitment_rank, most_constraints, most_parts, most_projections, most_rank, most_digits, most_chunks}

pub false_true : {A : Type 0} → false ≡ true → A
false_true e = absurd (subst T (sym e) tt)

pub never_true : (t : Bool) → (t ≡ true → ⊥) → t ≡ false
never_true true never = absurd (never refl)
never_true false never = refl

-- ---- the tests of a call

-- each test of a list holds
abbrev pub Passes : List (ℕ × Bool) → Type 0
Passes [] = Unit {0}
Passes (test ∷ tests) = (test.1 ≡ true) × Passes tests

-- a test that holds, before others that do
infixr 60 ◌&◌
pub ◌&◌ : {A B : Type 0} → A → B → A × B
a & b = (a, b)

-- no test has the number 0, which says that there is no refusal; computes on the calls' lists
abbrev pub numbered : List (ℕ × Bool) → Bool
numbered [] = true
numbered (test ∷ tests) = cond (ltb 0 test.0) (numbered tests) false

pub passes_refusal : (tests : List (ℕ × Bool)) → Passes tests → first_failing tests ≡ 0
unfolding first_failing
passes_refusal [] p = refl
passes_refusal (test ∷ tests) p = rw p.0 (passes_refusal tests p.1)

pub refusal_passes : (tests : List (ℕ × Bool)) → numbered tests ≡ true → first_failing tests ≡ 0 → Passes tests
unfolding first_failing
refusal_passes [] l e = tt
refusal_passes (test ∷ tests) l e =
    step test.1 refl e (refusal_passes tests (both_right (ltb 0 test.0) (numbered tests) l))
  where
    positive : 0 < test.0
    positive = ltb→lt 0 test.0 (subst T (sym (both_left (ltb 0 test.0) (numbered tests) l)) tt)

    step : (t : Bool) → test.1 ≡ t → cond t (first_failing tests) test.0 ≡ 0
        → (first_failing tests ≡ 0 → Passes tests) → (test.1 ≡ true) × Passes tests
    step true q e next = (q, next e)
    step false q e next = let none : test.0 ≡ 0 = e in absurd (omega (arith, positive))

pub refusal_iff : (tests : List (ℕ × Bool)) → numbered tests ≡ true → (first_failing tests ≡ 0) ↔ Passes tests
refusal_iff tests l = (refusal_passes tests l, passes_refusal tests)

-- the tests of two lists, one after the other
pub passes-join : (xs ys : List (ℕ × Bool)) → Passes xs → Passes ys → Passes (xs ++ ys)
passes-join [] ys p q = q
passes-join (x ∷ xs) ys p q = (p.0, passes-join xs ys p.1 q)

pub passes-front : (xs ys : List (ℕ × Bool)) → Passes (xs ++ ys) → Passes xs
passes-front [] ys p = tt
passes-front (x ∷ xs) ys p = (p.0, passes-front xs ys p.1)

pub passes-back : (xs ys : List (ℕ × Bool)) → Passes (xs ++ ys) → Passes ys
passes-back [] ys p = p
passes-back (x ∷ xs) ys p = passes-back xs ys p.1

-- the first tests of a call that is not refused
pub early-passes : (xs ys : List (ℕ × Bool)) → numbered (xs ++ ys) ≡ true → first_failing (xs ++ ys) ≡ 0 → Passes xs
early-passes xs ys l e = passes-front xs ys (refusal_passes (xs ++ ys) l e)

-- ---- the tests of one row

abbrev pub All : List Bool → Type 0
All [] = Unit {0}
All (t ∷ ts) = (t ≡ true) × All ts

pub all_of_head : (t : Bool) (ts : List Bool) → all_of (t ∷ ts) ≡ true → t ≡ true
unfolding all_of
all_of_head t ts e = both_left t (all_of ts) e

pub all_of_tail : (t : Bool) (ts : List Bool) → all_of (t ∷ ts) ≡ true → all_of ts ≡ true
unfolding all_of
all_of_tail t ts e = both_right t (all_of ts) e

-- without the first k of them
pub all_of_drop : (k : ℕ) (ts : List Bool) → all_of ts ≡ true → all_of (drop k ts) ≡ true
all_of_drop zero ts e = e
all_of_drop (suc k) [] e = e
all_of_drop (suc k) (t ∷ ts) e = all_of_drop k ts (all_of_tail t ts e)

pub all_of_cons : (t : Bool) (ts : List Bool) → t ≡ true → all_of ts ≡ true → all_of (t ∷ ts) ≡ true
unfolding all_of
all_of_cons t ts e h = both_true t (all_of ts) e h

pub all_of_all : (ts : List Bool) → all_of ts ≡ true → All ts
all_of_all [] e = tt
all_of_all (t ∷ ts) e = (all_of_head t ts e, all_of_all ts (all_of_tail t ts e))

pub all_all_of : (ts : List Bool) → All ts → all_of ts ≡ true
unfolding all_of
all_all_of [] a = refl
all_all_of (t ∷ ts) a = both_true t (all_of ts) a.0 (all_all_of ts a.1)

pub all_of_iff : (ts : List Bool) → (all_of ts ≡ true) ↔ All ts
all_of_iff ts = (all_of_all ts, all_all_of ts)

-- one that fails
abbrev pub SomeFails : List Bool → Type 0
SomeFails [] = ⊥
SomeFails (t ∷ ts) = (t ≡ false) ⊎ SomeFails ts

pub all_of_false : (ts : List Bool) → all_of ts ≡ false → SomeFails ts
unfolding all_of
all_of_false [] e = false_true (sym e)
all_of_false (true ∷ ts) e = inr (all_of_false ts e)
all_of_false (false ∷ ts) e = inl refl

pub all_join : (ts us : List Bool) → All ts → All us → All (ts ++ us)
all_join [] us a b = b
all_join (t ∷ ts) us a b = (a.0, all_join ts us a.1 b)

abbrev pub Any : List Bool → Type 0
Any [] = ⊥
Any (t ∷ ts) = (t ≡ true) ⊎ Any ts

pub any_of_any : (ts : List Bool) → any_of ts ≡ true → Any ts
unfolding any_of
any_of_any [] e = false_true e
any_of_any (true ∷ ts) e = inl refl
any_of_any (false ∷ ts) e = inr (any_of_any ts e)

pub any_any_of : (ts : List Bool) → Any ts → any_of ts ≡ true
unfolding any_of
any_any_of [] a = elim a [ ]
any_any_of (true ∷ ts) a = refl
any_any_of (false ∷ ts) (inl e) = false_true e
any_any_of (false ∷ ts) (inr a) = any_any_of ts a

pub any_of_iff : (ts : List Bool) → (any_of ts ≡ true) ↔ Any ts
any_of_iff ts = (any_of_any ts, any_any_of ts)

-- ---- the tests by name

pub between_iff : (low high n : ℕ) → (between low high (pos n) ≡ true) ↔ ((low ≤ n) × (n ≤ high))
unfolding between
between_iff low high n = (
  λ e. (leb-true low n (both_left (leb low n) (leb n high) e), leb-true n high (both_right (leb low n) (leb n high) e)),
  λ h. both_true (leb low n) (leb n high) (le-leb low n h.0) (le-leb n high h.1),
)

pub degree_iff : (d : ℕ) → (degree (pos d) ≡ true) ↔ Any (eqb d 2 ∷ eqb d 4 ∷ eqb d 8 ∷ eqb d 16 ∷ eqb d 32 ∷ eqb d 64 ∷ [])
unfolding degree
degree_iff d = any_of_iff _

pub degree-fits : (d : ℕ) → degree (pos d) ≡ true → Degree d
degree-fits d e = cases ((degree_iff d).0 e)
  where
    at : (m : ℕ) → 0 < m → m ≤ 64 → eqb d m ≡ true → Degree d
    at m h l e = record { positive = omega (arith, eqb-true d m e); small = omega (arith, eqb-true d m e) }

    cases : Any (eqb d 2 ∷ eqb d 4 ∷ eqb d 8 ∷ eqb d 16 ∷ eqb d 32 ∷ eqb d 64 ∷ []) → Degree d
    cases (inl e) = at 2 (omega arith) (omega arith) e
    cases (inr (inl e)) = at 4 (omega arith) (omega arith) e
    cases (inr (inr (inl e))) = at 8 (omega arith) (omega arith) e
    cases (inr (inr (inr (inl e)))) = at 16 (omega arith) (omega arith) e
    cases (inr (inr (inr (inr (inl e))))) = at 32 (omega arith) (omega arith) e
    cases (inr (inr (inr (inr (inr (inl e)))))) = at 64 (omega arith) (omega arith) e
    cases (inr (inr (inr (inr (inr (inr e)))))) = elim e [ ]

pub rank_iff : (n : ℕ) → (rank (pos n) ≡ true) ↔ ((1 ≤ n) × (n ≤ most_rank))
unfolding rank
rank_iff n = between_iff 1 most_rank n

pub parts_iff : (r : ℕ) → (parts (pos r) ≡ true) ↔ ((1 ≤ r) × (r ≤ most_parts))
unfolding parts
parts_iff r = between_iff 1 most_parts r

pub constraint_count_iff : (k : ℕ) → (constraint_count (pos k) ≡ true) ↔ ((0 ≤ k) × (k ≤ most_constraints))
unfolding constraint_count
constraint_count_iff k = between_iff 0 most_constraints k

pub projection_count_iff : (w : ℕ) → (projection_count (pos w) ≡ true) ↔ ((0 ≤ w) × (w ≤ most_projections))
unfolding projection_count
projection_count_iff w = between_iff 0 most_projections w

pub commitment_rank_iff : (κ : ℕ) → (commitment_rank (pos κ) ≡ true) ↔ ((1 ≤ κ) × (κ ≤ most_commitment_rank))
unfolding commitment_rank
commitment_rank_iff κ = between_iff 1 most_commitment_rank κ

pub base_iff : (b : ℕ) → (base (pos b) ≡ true) ↔ ((least_base ≤ b) × (b ≤ most_base))
unfolding base
base_iff b = between_iff least_base most_base b

pub base-fits : (b : ℕ) → base (pos b) ≡ true → Base b
base-fits b e = record { least = ((base_iff b).0 e).0; most = ((base_iff b).0 e).1 }

pub digit_count_iff : (t : ℕ) → (digit_count (pos t) ≡ true) ↔ ((2 ≤ t) × (t ≤ most_digits))
unfolding digit_count
digit_count_iff t = between_iff 2 most_digits t

pub length_bound_iff : (β² : ℕ) → (length_bound (pos β²) ≡ true) ↔ ((0 ≤ β²) × (β² ≤ most_bound))
unfolding length_bound
length_bound_iff β² = between_iff 0 most_bound β²

pub sized_iff : {A : Type 0} (xs : List A) (k : ℕ) → (sized xs k ≡ true) ↔ (length xs ≡ k)
unfolding sized
sized_iff xs k = (eqb-true (length xs) k, eq-eqb (length xs) k)

pub chunks_iff : (tz ν μ : ℕ) → (chunks tz (pos ν) (pos μ) ≡ true) ↔ ((1 ≤ ν) × ((1 ≤ μ) × (tz * ν + μ ≤ most_chunks)))
unfolding chunks
chunks_iff tz ν μ = (
  λ e. search (leb-true, all_of_all _ e),
  λ h. all_all_of _ (search (le-leb, h)),
)

pub challenges_iff : (d r : ℕ) (c : List ℤ)
    → (challenges d r c ≡ true) ↔ ((i : ℕ) → i < r → challenge (take d (drop (i * d) c)) ≡ true)
unfolding challenges
challenges_iff d r c = (every_true r _, true-every r _)

-- ---- what a test says, one law a fact: a record of facts is found by these, whatever stands before or after the tests that it needs

pub rank-least : (n : ℕ) → rank (pos n) ≡ true → 0 < n
rank-least n e = ((rank_iff n).0 e).0

pub rank_most : (n : ℕ) → rank (pos n) ≡ true → n ≤ most_rank
rank_most n e = ((rank_iff n).0 e).1

pub parts-least : (r : ℕ) → parts (pos r) ≡ true → 0 < r
parts-least r e = ((parts_iff r).0 e).0

pub parts-most : (r : ℕ) → parts (pos r) ≡ true → r ≤ most_parts
parts-most r e = ((parts_iff r).0 e).1

pub constraint_count-most : (k : ℕ) → constraint_count (pos k) ≡ true → k ≤ most_constraints
constraint_count-most k e = ((constraint_count_iff k).0 e).1

pub projection_count-most : (w : ℕ) → projection_count (pos w) ≡ true → w ≤ most_projections
projection_count-most w e = ((projection_count_iff w).0 e).1

pub commitment_rank-least : (κ : ℕ) → commitment_rank (pos κ) ≡ true → 1 ≤ κ
commitment_rank-least κ e = ((commitment_rank_iff κ).0 e).0

pub commitment_rank-most : (κ : ℕ) → commitment_rank (pos κ) ≡ true → κ ≤ most_commitment_rank
commitment_rank-most κ e = ((commitment_rank_iff κ).0 e).1

pub base-least : (b : ℕ) → base (pos b) ≡ true → 2 ≤ b
base-least b e = ((base_iff b).0 e).0

pub digit_count-least : (t : ℕ) → digit_count (pos t) ≡ true → 2 ≤ t
digit_count-least t e = ((digit_count_iff t).0 e).0

pub digit_count-most : (t : ℕ) → digit_count (pos t) ≡ true → t ≤ most_digits
digit_count-most t e = ((digit_count_iff t).0 e).1

pub length_bound-most : (β² : ℕ) → length_bound (pos β²) ≡ true → β² ≤ most_bound
length_bound-most β² e = ((length_bound_iff β²).0 e).1

pub between-least : (low high n : ℕ) → between low high (pos n) ≡ true → low ≤ n
between-least low high n e = ((between_iff low high n).0 e).0

pub between-most : (low high n : ℕ) → between low high (pos n) ≡ true → n ≤ high
between-most low high n e = ((between_iff low high n).0 e).1

pub sized-length : {A : Type 0} (xs : List A) (k : ℕ) → sized xs k ≡ true → length xs ≡ k
sized-length xs k = (sized_iff xs k).0

pub length-sized : {A : Type 0} (xs : List A) (k : ℕ) → length xs ≡ k → sized xs k ≡ true
length-sized xs k = (sized_iff xs k).1

pub between-tested : (low high n : ℕ) → low ≤ n → n ≤ high → between low high (pos n) ≡ true
between-tested low high n h l = (between_iff low high n).1 (h, l)

pub ruleset tested = (
  degree-fits,
  rank-least,
  rank_most,
  parts-least,
  parts-most,
  constraint_count-most,
  projection_count-most,
  commitment_rank-least,
  commitment_rank-most,
  base-fits,
  base-least,
  digit_count-least,
  digit_count-most,
  length_bound-most,
  between-least,
  between-most,
  sized-length,
)
