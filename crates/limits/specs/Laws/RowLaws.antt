-- Tests as code makes them, against those of the table: `&` and `|` of bools as `all_of` and `any_of`, a range as two comparisons.
use Rattle.std.specs.Prelude.{◌≡◌, refl, Bool, true, false, cond, ◌&&◌, ◌||◌, List, [], ◌∷◌, ◌++◌, ℕ, leb, eqb, pos}
use Rattle.std.proofs.Common.{◌∙◌, arith, le-leb}
use Rattle.fold.specs.Refusals.{all_of, any_of, between, degree}

-- s & t₁ & t₂ & ..
abbrev pub joined : Bool → List Bool → Bool
joined s [] = s
joined s (t ∷ ts) = joined (s && t) ts

pub joined_all_of : (s : Bool) (ts : List Bool) → joined s ts ≡ all_of (s ∷ ts)
unfolding all_of
joined_all_of true [] = refl
joined_all_of false [] = refl
joined_all_of true (t ∷ ts) = joined_all_of t ts
joined_all_of false (t ∷ ts) = joined_all_of false ts

-- s | t₁ | t₂ | ..
abbrev pub either : Bool → List Bool → Bool
either s [] = s
either s (t ∷ ts) = either (s || t) ts

pub either_any_of : (s : Bool) (ts : List Bool) → either s ts ≡ any_of (s ∷ ts)
unfolding any_of
either_any_of true [] = refl
either_any_of false [] = refl
either_any_of true (t ∷ ts) = either_any_of true ts
either_any_of false (t ∷ ts) = either_any_of t ts

-- the tests s, one by one, are those of the row t
infixr 45 ◌&◌
pub data Alike : List Bool → List Bool → Type 0 where
  end : Alike [] []
  ◌&◌ : {s t : Bool} {ss ts : List Bool} → s ≡ t → Alike ss ts → Alike (s ∷ ss) (t ∷ ts)

alike_all_of : {ss ts : List Bool} → Alike ss ts → all_of ss ≡ all_of ts
unfolding all_of
alike_all_of end = refl
alike_all_of (e & a) = rw (e, alike_all_of a)

pub joined-row : {s : Bool} {ss ts : List Bool} → Alike (s ∷ ss) ts → joined s ss ≡ all_of ts
joined-row a = joined_all_of _ _ ∙ alike_all_of a

-- rows in two parts
pub all_of_append : (ss ts : List Bool) → all_of ss && all_of ts ≡ all_of (ss ++ ts)
unfolding all_of
all_of_append [] ts = refl
all_of_append (true ∷ ss) ts = all_of_append ss ts
all_of_append (false ∷ ss) ts = refl

-- low <= n & n <= high
pub between-tests : (low high n : ℕ) → leb low n && leb n high ≡ between low high (pos n)
unfolding between
between-tests low high n = both (leb low n) (leb n high)
  where
    both : (s t : Bool) → s && t ≡ cond s t false
    both true t = refl
    both false t = refl

pub between-test : (high n : ℕ) → leb n high ≡ between 0 high (pos n)
unfolding between
between-test high n = rw (le-leb 0 n (omega arith)) refl

pub degree-tests : (d : ℕ) → eqb d 2 || eqb d 4 || eqb d 8 || eqb d 16 || eqb d 32 || eqb d 64 ≡ degree (pos d)
unfolding degree
degree-tests d = either_any_of (eqb d 2) (eqb d 4 ∷ eqb d 8 ∷ eqb d 16 ∷ eqb d 32 ∷ eqb d 64 ∷ [])
