-- Demand 3, two openings (SPECIFICATION 9.6): "For every two openings accepted for the same statement and the same u1, whatever else came with them,
-- and every part i such that their challenges c are equal at all other parts: if their t or g digits differ anywhere, the difference is a nonzero
-- vector that B and C together send to zero, of squared length at most 4 times the target bound; if these digits are all equal,
-- A(z - z') = (c_i - c'_i) t_i, and the squared length of z - z' is at most 4(1 + b²) times that bound, with one z digit at most 4 times it."
-- For two answers of `verify` of kind 0, from its promise alone. ShortKernel and ShortPreimage (crates/fold/proofs/Theorems/TwoOpenings.antt) are the two
-- cases. Parts are counted from 0. The same u1 is asked in the first case only.
--     two-accepted              where z has two digits
--     two-accepted-one-digit    where it has one
use Rattle.std.specs.Prelude.{◌≡◌, ◌≢◌, List, ℕ, ◌+◌, ◌*◌, ◌<◌, ℤ}
use Rattle.std.proofs.Common.{sym, ap, ◌∙◌}
use Rattle.fold.specs.Answers.{Answer}
use Rattle.fold.specs.Answers.{kind_of}
use Rattle.fold.specs.Statement.{Statement, Draws, Transcript}
use Rattle.fold.specs.Verification.{verification}
use Rattle.fold.specs.Differences.{difference, tg_digits}
use Rattle.fold.proofs.Theorems.TwoOpenings.{ShortKernel, ShortPreimage, two_openings, one_digit_openings}
use Rattle.ring.specs.Element.{el}

pub two-accepted : (𝓢 : Statement) → 𝓢.tz ≡ 2 → (𝓓 𝓓' : Draws) (𝓣 𝓣' : Transcript) (o o' : List ℤ) (answer answer' : Answer)
    → answer ≡ verification 𝓢 𝓓 𝓣 o → answer' ≡ verification 𝓢 𝓓' 𝓣' o' → kind_of answer ≡ 0 → kind_of answer' ≡ 0
    → (i : ℕ) → i < 𝓢.relation.r → ((j : ℕ) → j < 𝓢.relation.r → j ≢ i → el 𝓢.relation.d 𝓓.c j ≡ el 𝓢.relation.d 𝓓'.c j)
    → (𝓣.u₁ ≡ 𝓣'.u₁ → tg_digits 𝓢 o ≢ tg_digits 𝓢 o' → ShortKernel 𝓢 (difference (tg_digits 𝓢 o) (tg_digits 𝓢 o')))
    × (tg_digits 𝓢 o ≡ tg_digits 𝓢 o' → ShortPreimage 𝓢 𝓓 𝓓' 𝓣 𝓣' o o' i (1 + 𝓢.b * 𝓢.b))
two-accepted 𝓢 two 𝓓 𝓓' 𝓣 𝓣' o o' answer answer' is is' e e' = two_openings 𝓢 𝓓 𝓓' 𝓣 𝓣' o o' (ap kind_of (sym is) ∙ e) (ap kind_of (sym is') ∙ e') two

pub two-accepted-one-digit : (𝓢 : Statement) → 𝓢.tz ≡ 1 → (𝓓 𝓓' : Draws) (𝓣 𝓣' : Transcript) (o o' : List ℤ) (answer answer' : Answer)
    → answer ≡ verification 𝓢 𝓓 𝓣 o → answer' ≡ verification 𝓢 𝓓' 𝓣' o' → kind_of answer ≡ 0 → kind_of answer' ≡ 0
    → (i : ℕ) → i < 𝓢.relation.r → ((j : ℕ) → j < 𝓢.relation.r → j ≢ i → el 𝓢.relation.d 𝓓.c j ≡ el 𝓢.relation.d 𝓓'.c j)
    → (𝓣.u₁ ≡ 𝓣'.u₁ → tg_digits 𝓢 o ≢ tg_digits 𝓢 o' → ShortKernel 𝓢 (difference (tg_digits 𝓢 o) (tg_digits 𝓢 o')))
    × (tg_digits 𝓢 o ≡ tg_digits 𝓢 o' → ShortPreimage 𝓢 𝓓 𝓓' 𝓣 𝓣' o o' i 1)
two-accepted-one-digit 𝓢 one 𝓓 𝓓' 𝓣 𝓣' o o' answer answer' is is' e e' =
    one_digit_openings 𝓢 𝓓 𝓓' 𝓣 𝓣' o o' (ap kind_of (sym is) ∙ e) (ap kind_of (sym is') ∙ e') one
