-- What one step of a loop over an element's numbers stores: the result r of a leaf of modulus.rt, on numbers x and y of 32 bits that
-- a local holds as bits.
use Rattle.std.specs.Prelude.{◌≡◌, ℕ, ◌+◌, ◌<◌, ◌≤◌, List, length, get_or, take, ℤ, pos, ◌+ℤ◌, ◌*ℤ◌, slice_index_or, slice_set}
use Rattle.std.proofs.Common.{ap, ◌∙◌, length-take-le, get_or-take, to_z, of_z, to_z-of_z}
use Rattle.std.specs.Int.Signed.{mag}
use Rattle.std.specs.Int.{w32}
use Rattle.integers.specs.Laws.Bridge.{add_pn, zarith}
use Rattle.integers.specs.Lists.{tab}
use Rattle.integers.specs.Laws.ListLaws.{tab_unique}
use Rattle.integers.specs.Over.{over}
use Rattle.integers.specs.Laws.OverLaws.{over-tab}
use Rattle.residues.specs.Modulus.{centred}
use Rattle.residues.proofs.Laws.ModulusLaws.{centred-fits}

-- a number as a 32-bit signed local holds it
abbrev pub bits32 : ℤ → ℤ
bits32 z = to_z w32 (of_z w32 z)

pub bits32-small : (x : ℤ) → mag x < 2147483648 → bits32 x ≡ x
bits32-small x h = to_z-of_z {w = w32} {z = x} (record { sfits = h })

pub bits32-centred : (r z : ℤ) → r ≡ centred z → bits32 r ≡ centred z
bits32-centred r z e = ap bits32 e ∙ to_z-of_z (centred-fits z)

pub stored-sum : (r x y : ℤ) → mag x < 2147483648 → mag y < 2147483648 → r ≡ centred (bits32 x +ℤ bits32 y) → bits32 r ≡ centred (x +ℤ y)
stored-sum r x y h k e = bits32-centred r (bits32 x +ℤ bits32 y) e ∙ ap centred (rw (bits32-small x h, bits32-small y k))

pub stored-number : (r x : ℤ) → mag x < 2147483648 → r ≡ centred (bits32 x +ℤ pos 0) → bits32 r ≡ centred x
stored-number r x h e =
    bits32-centred r (bits32 x +ℤ pos 0) e ∙ ap centred (rw (bits32-small x h) (omega (zarith, add_pn x (pos 0))))

pub stored-product : (r z x : ℤ) → mag x < 2147483648 → r ≡ centred (z *ℤ bits32 x) → bits32 r ≡ centred (z *ℤ x)
stored-product r z x h e = bits32-centred r (z *ℤ bits32 x) e ∙ ap centred (rw (bits32-small x h))

-- the first n numbers of a list
pub take-numbers : (xs : List ℤ) (n : ℕ) → n ≤ length xs → take n xs ≡ tab n (λ i. get_or xs i (pos 0))
take-numbers xs n h = tab_unique (take n xs) n _ (pos 0) (length-take-le n xs h) (λ i l. get_or-take n xs i (pos 0) l)

-- one more number of a list written at a place of another
pub stored_next : (before out xs : List ℤ) (a k : ℕ) → out ≡ over before a (tab k (λ i. get_or xs i (pos 0))) → a + k < length before
    → mag (slice_index_or xs k (pos 0)) < 2147483648
    → slice_set out (a + k) (bits32 (slice_index_or xs k (pos 0))) ≡ over before a (tab (k + 1) (λ i. get_or xs i (pos 0)))
stored_next before out xs a k e h small = rw e (over-tab before a k _ _ h (bits32-small (slice_index_or xs k (pos 0)) small))
