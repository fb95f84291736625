-- SPECIFICATION 5.1, a challenge: what holds of a challenge at every degree; the rule of each degree is in ChallengeRules.antt.
--     squared_length_71    "31 + 10·4 = 71 is that of every challenge of degree 64"
--     challenge-short      "Every challenge of degree 64 passes the rule of the smaller degrees too"
--     challenge-within     "no coefficient of a challenge has an absolute value above 2"
--     challenge-sum        "the absolute values sum to at most 71"
use Rattle.std.specs.Prelude.{◌≡◌, refl, Bool, true, false, List, ℕ, ◌≤◌, eqb, length, get_or, ℤ, pos, nat_abs}
use Rattle.std.proofs.Common.{sym, ◌∙◌, arith, eqb-true}
use Rattle.std.proofs.lemmas.Bool.{eqb-false}
use Rattle.integers.specs.Sums.{total, norm_sq}
use Rattle.residues.specs.Range.{short_challenge, challenge}
use Rattle.residues.proofs.Laws.RangeLaws.{all_within-at, challenge-other}
use Rattle.residues.proofs.Laws.CountLaws.{all_small, norm_sq-counts, total-short}
use Rattle.residues.proofs.Theorems.ChallengeRules.{short-exactly, degree_64}

pub squared_length_71 : (c : List ℤ) → length c ≡ 64 → challenge c ≡ true → norm_sq c ≡ 71
squared_length_71 c size e =
    let (zeros, ones, twos) = (degree_64 c size).0 e in
    omega (arith, norm_sq-counts c (omega arith))

-- ---- at every degree

pub challenge-short : (c : List ℤ) → challenge c ≡ true → short_challenge c ≡ true
challenge-short c e = cases (eqb (length c) 64) refl
  where
    cases : (t : Bool) → eqb (length c) 64 ≡ t → short_challenge c ≡ true
    cases false other = sym (challenge-other c (eqb-false (length c) 64 other)) ∙ e
    cases true same =
        let size = eqb-true (length c) 64 same in
        let (zeros, ones, twos) = (degree_64 c size).0 e in
        (short-exactly c).1 (all_within-at 2 c (all_small c (omega arith)), omega (arith, squared_length_71 c size e))

pub challenge-within : (c : List ℤ) → challenge c ≡ true → (k : ℕ) → nat_abs (get_or c k (pos 0)) ≤ 2
challenge-within c e = ((short-exactly c).0 (challenge-short c e)).0

pub challenge-sum : (c : List ℤ) → challenge c ≡ true → total (length c) (λ k. nat_abs (get_or c k (pos 0))) ≤ 71
challenge-sum c e = omega (arith, total-short c, ((short-exactly c).0 (challenge-short c e)).1)
