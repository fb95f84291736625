-- The number of a refusal, stage by stage.
--     single, row, none        one row of a nest of `first`, and its end
--     after-rows               the first rows, then the later ones
--     joined-tests, append-rows     the tests of a row, and a row in two parts
use Rattle.std.specs.Prelude.{◌≡◌, refl, Bool, true, false, cond, ◌&&◌, List, [], ◌∷◌, ◌++◌, ℕ, eqb}
use Rattle.std.proofs.Common.{sym, ◌∙◌, eqb-true}
use Rattle.std.proofs.lemmas.Bool.{eqb-false}
use Rattle.fold.specs.Answers.{first_failing}
use Rattle.fold.specs.Refusals.{all_of}
use Rattle.fold.specs.Laws.RefusalLaws.{numbered, refusal_passes}
use Rattle.fold.specs.Laws.TestLaws.{stops, after-passes}
use Rattle.limits.specs.Laws.RowLaws.{joined, Alike, joined-row, all_of_append}

-- a row of one test, then the later ones
pub single : (m : ℕ) (later : List (ℕ × Bool)) {s t : Bool} {x y : ℕ} → s ≡ t → x ≡ cond s y m → y ≡ first_failing later
    → x ≡ first_failing ((m, t) ∷ later)
unfolding first_failing
single m later e f g = f ∙ rw (e, g) refl

-- a row of several tests joined by `&`, then the later ones
pub row : (m : ℕ) (later : List (ℕ × Bool)) {s : Bool} {ss ts : List Bool} {x y : ℕ} → Alike (s ∷ ss) ts
    → x ≡ cond (joined s ss) y m → y ≡ first_failing later → x ≡ first_failing ((m, all_of ts) ∷ later)
unfolding first_failing
row m later a f g = f ∙ rw (joined-row a, g) refl

pub none : 0 ≡ first_failing []
unfolding first_failing
none = refl

-- ---- a call's list in stages

-- first(x == 0, x, y), where x is the number of the first rows and y that of the later ones
pub after-rows : (early later : List (ℕ × Bool)) {x y z : ℕ} → numbered early ≡ true → x ≡ first_failing early → y ≡ first_failing later
    → z ≡ cond (eqb x 0) y x → z ≡ first_failing (early ++ later)
after-rows early later {x} {y} {z} l e f g = by (eqb x 0) refl
  where
    by : (t : Bool) → eqb x 0 ≡ t → z ≡ first_failing (early ++ later)
    by true h = (rw h at g) ∙ f ∙ sym (after-passes early later (refusal_passes early l (sym e ∙ eqb-true x 0 h)))
    by false h = (rw h at g) ∙ stops early later e (eqb-false x 0 h)

-- ---- the tests of a row, in the goal's direction: x is what the code computes

pub joined-tests : {x s : Bool} {ss ts : List Bool} → Alike (s ∷ ss) ts → x ≡ joined s ss → x ≡ all_of ts
joined-tests a e = e ∙ joined-row a

pub append-rows : (ss ts : List Bool) {s t : Bool} → s ≡ all_of ss → t ≡ all_of ts → (s && t) ≡ all_of (ss ++ ts)
append-rows ss ts e f = rw (e, f) (all_of_append ss ts)
