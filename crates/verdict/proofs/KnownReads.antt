-- What reads do to the bytes that the input has left, one after the other.
--     took_put        a read into the part of a text from a place on
--     took_more       the next read, after the text's front was taken
use Rattle.std.proofs.Common.{◌≡◌, ℕ, ◌+◌, ◌-◌, ◌≤◌, ◌<◌, ℤ, pos, negsuc, List, ◌++◌, length, take, drop, Option, None, Some, sym, ap, ◌∙◌, subst, arith, append_assoc, length-drop, length-take-le}
use Rattle.std.specs.Io.KnownBytes.{Consumes}
use borrow.Rule.Slice.PartMut.{post_of, put_mid}
use Rattle.std.proofs.lemmas.List.{drop_at}
use Rattle.std.proofs.Math.Seq.{take-add, take-append-le}
use Rattle.verdict.specs.Reads.{TookInto, TookBetween, place_after}

consumes_both : (a b c : Option (List ℕ)) (xs ys : List ℕ) → Consumes a b xs → Consumes b c ys → Consumes a c (xs ++ ys)
consumes_both None b c xs ys p q = tt
consumes_both (Some x) None c xs ys p q = absurd p
consumes_both (Some x) (Some y) None xs ys p q = absurd q
consumes_both (Some x) (Some y) (Some z) xs ys p q = p ∙ ap (λ l. xs ++ l) q ∙ sym (append_assoc xs ys z)

took_between : (a b : Option (List ℕ)) (got : ℤ) (from size : ℕ) (part rest text : List ℕ) → from < size → place_after got from size < size
    → length part ≡ size - from → drop from text ≡ part ++ rest → TookInto a b got part → TookBetween a b from (place_after got from size) text
unfolding place_after
took_between a b (pos n) from size part rest text f h len e p =
    let count : place_after (pos n) from size - from ≡ n = omega (arith, h) in
    let front : take n (drop from text) ≡ take n part = ap (take n) e ∙ take-append-le n part rest (omega (arith, h, len)) in (
      subst (λ k. Consumes a b (take k (drop from text))) (sym count) (subst (Consumes a b) (sym front) p.0),
      λ same. p.1 (omega (arith, same, count)) (omega (arith, len, f)),
    )
took_between a b (negsuc k) from size part rest text f h len e p = let no : ⊥ = omega (arith, h) in absurd no

pub took_put : (a b : Option (List ℕ)) (r : ℕ) (got : ℤ) (from : ℕ) (text part : List ℕ) → from ≤ length text → r ≡ place_after got from (length text)
    → length part ≡ length (take (length text - from) (drop from text)) → TookInto a b got part → from < length text → r < length text
    → TookBetween a b from r (put_mid from (length text - from) text part)
took_put a b r got from text part inside place len read f h =
    let room = length-take-le (length text - from) (drop from text) (omega (arith, length-drop from text)) in
    let rest = post_of from (length text - from) text in
    let front = drop_at (take from text) (part ++ rest) from (length-take-le from text inside) in
    let before : place_after got from (length text) < length text = subst (λ k. k < length text) place h in
    let taken = took_between a b got from (length text) part rest (put_mid from (length text - from) text part) f before (len ∙ room) front read in
    subst (λ k. TookBetween a b from k (put_mid from (length text - from) text part)) (sym place) taken

pub took_more : (a b c : Option (List ℕ)) (old new : List ℕ) (from to : ℕ) → from ≤ to → take from new ≡ take from old
    → Consumes a b (take from old) → TookBetween b c from to new → Consumes a c (take to new)
took_more a b c old new from to le same before read =
    let both = consumes_both a b c (take from old) (take (to - from) (drop from new)) before read.0 in
    let joined : take from old ++ take (to - from) (drop from new) ≡ take (from + (to - from)) new =
    ap (λ l. l ++ take (to - from) (drop from new)) (sym same) ∙ sym (take-add from (to - from) new) in
    let end : from + (to - from) ≡ to = omega arith in
    subst (λ k. Consumes a c (take k new)) end (subst (Consumes a c) joined both)
