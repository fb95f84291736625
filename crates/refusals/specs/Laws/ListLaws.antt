-- The tests of rows 8 to 10 on a list, as code makes them.
use Rattle.std.specs.Prelude.{◌≡◌, Bool, true, ◌&&◌, List, ℕ, ◌+◌, ◌-◌, ◌*◌, ◌<◌, ◌≤◌, take, drop, ℤ}
use Rattle.std.proofs.Common.{sym, ap, ◌∙◌, arith, lit≤}
use Rattle.residues.specs.Range.{coefficients, projection_entries, challenge}
use Rattle.residues.proofs.Laws.RangeLaws.{all_within_mono}
use Rattle.ring.specs.Laws.ElementEquality.{every-zero, every-next}
use Rattle.fold.specs.Refusals.{challenges}

-- -1, 0 and 1 are in coefficient range: row 9 gives row 8
pub projection-entries-coefficients : (xs : List ℤ) → projection_entries xs ≡ true → coefficients xs ≡ true
unfolding projection_entries coefficients
projection-entries-coefficients xs e = all_within_mono 1 2147483598 xs (lit≤ tt) e

-- ---- the loop of `challenges`: all says that the first i elements keep the rule, and one is the test of the next

pub record Kept (d r : ℕ) (c : List ℤ) (all : Bool) (i : ℕ) : Type 0 where
  pub below : i ≤ r
  pub kept : all ≡ challenges d i c

pub kept-start : (d r : ℕ) (c : List ℤ) → Kept d r c true 0
unfolding challenges
kept-start d r c = record { below = omega arith; kept = sym (every-zero _) }

pub kept_step : (d r : ℕ) (c : List ℤ) (all one : Bool) (i : ℕ) → Kept d r c all i → i < r
    → one ≡ challenge (take (i * d + d - i * d) (drop (i * d) c)) → Kept d r c (all && one) (i + 1)
unfolding challenges
kept_step d r c all one i k h e =
    record { below = omega arith; kept = every-next i _ all one k.kept (e ∙ ap (λ x. challenge (take x (drop (i * d) c))) width) }
  where
    width : i * d + d - i * d ≡ d
    width = omega arith

pub kept-end : (d r : ℕ) (c : List ℤ) (all : Bool) (i : ℕ) → Kept d r c all i → r ≤ i → all ≡ challenges d r c
kept-end d r c all i k h = let e : i ≡ r = omega arith in k.kept ∙ ap (λ x. challenges d x c) e
