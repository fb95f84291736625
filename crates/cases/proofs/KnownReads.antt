-- What reads into a buffer take of the bytes that the input has left, one after the other.
use Rattle.std.proofs.Common.{◌≡◌, ℕ, ◌+◌, ◌-◌, ◌≤◌, List, ◌++◌, length, take, drop, Option, None, Some, sym, ap, ◌∙◌, subst, append_assoc, length-take-le}
use Rattle.std.specs.Io.KnownBytes.{Consumes}
use borrow.Rule.Slice.PartMut.{post_of, put_mid}
use Rattle.std.proofs.lemmas.List.{drop_at, take_at}
use Rattle.std.proofs.Math.Seq.{take-add, take-append-le}

consumes_both : (a b c : Option (List ℕ)) (xs ys : List ℕ) → Consumes a b xs → Consumes b c ys → Consumes a c (xs ++ ys)
consumes_both None b c xs ys p q = tt
consumes_both (Some x) None c xs ys p q = absurd p
consumes_both (Some x) (Some y) None xs ys p q = absurd q
consumes_both (Some x) (Some y) (Some z) xs ys p q = p ∙ ap (λ l. xs ++ l) q ∙ sym (append_assoc xs ys z)

-- the front of the buffer was taken, and then n bytes into the part that follows it
pub taken_more : (a b c : Option (List ℕ)) (buffer part : List ℕ) (from n : ℕ) → from ≤ length buffer → n ≤ length part
    → Consumes a b (take from buffer) → Consumes b c (take n part) → Consumes a c (take (from + n) (put_mid from (length buffer - from) buffer part))
taken_more a b c buffer part from n inside fits before read =
    let all = put_mid from (length buffer - from) buffer part in
    let rest = post_of from (length buffer - from) buffer in
    let front : take from all ≡ take from buffer = take_at (take from buffer) (part ++ rest) from (length-take-le from buffer inside) in
    let more : take n (drop from all) ≡ take n part =
    ap (take n) (drop_at (take from buffer) (part ++ rest) from (length-take-le from buffer inside)) ∙ take-append-le n part rest fits in
    let joined : take (from + n) all ≡ take from buffer ++ take n part =
    take-add from n all ∙ ap (λ l. l ++ take n (drop from all)) front ∙ ap (λ l. take from buffer ++ l) more in
    subst (Consumes a c) (sym joined) (consumes_both a b c _ _ before read)
