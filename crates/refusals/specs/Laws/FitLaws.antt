-- The tests of one row.
--     fitting, fitting-last    what a row says that holds, and its last test
--     four-fit                 a row of four stages, of which the first is one test
use Rattle.std.specs.Prelude.{◌≡◌, refl, Bool, true, ◌&&◌, List, [], ◌∷◌, ◌++◌}
use Rattle.std.proofs.Math.Path.{sym}
use Rattle.std.proofs.Common.{◌∙◌}
use Rattle.fold.specs.Refusals.{all_of}
use Rattle.fold.specs.Laws.RefusalLaws.{All, all_of_all}
use Rattle.limits.specs.Laws.RowLaws.{end, ◌&◌, joined-row}
use Rattle.limits.specs.Laws.StageLaws.{append-rows}

-- the tests of a row that has passed
pub fitting : (ts : List Bool) {s : Bool} → s ≡ all_of ts → s ≡ true → All ts
fitting ts q f = all_of_all ts (sym q ∙ f)

-- the last of them, whatever stands before it
abbrev pub last_of : Bool → List Bool → Bool
last_of t [] = t
last_of t (u ∷ ts) = last_of u ts

last-holds : (t : Bool) (ts : List Bool) → All (t ∷ ts) → last_of t ts ≡ true
last-holds t [] a = a.0
last-holds t (u ∷ ts) a = last-holds u ts a.1

pub fitting-last : (ts : List Bool) {s : Bool} → s ≡ all_of ts → s ≡ true → last_of true ts ≡ true
fitting-last ts q f = last-holds true ts (refl, fitting ts q f)

pub four-fit : {s t u v w : Bool} (ts us vs : List Bool) → s ≡ t → u ≡ all_of ts → v ≡ all_of us → w ≡ all_of vs
    → s && u && v && w ≡ all_of (((t ∷ ts) ++ us) ++ vs)
four-fit ts us vs one two three four = append-rows _ vs (append-rows _ us (append-rows _ ts (joined-row (one & end)) two) three) four
