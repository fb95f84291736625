-- What the tests of rows 1 to 7 (SPECIFICATION 7) leave known of the verifier's sizes and slices, and names for the blocks of its opening.
use Rattle.std.specs.Prelude.{◌≡◌, List, ℕ, ◌*◌, length, ℤ}
use Rattle.ring.specs.Element.{R, el}
use Rattle.fold.specs.declared.Sizes.{Sizes}
use Rattle.fold.specs.Sizes.{opening_size}
use Rattle.fold.specs.Opening.{block, t_place, g_place, h_place, z_of, t_of, garbage_of}
use Rattle.fold.specs.Arguments.{VerifySized}

-- rows 1 to 6
abbrev pub Fits : Sizes → Type 0
Fits s = VerifySized s

-- row 7: a list of m elements
abbrev pub Holds : (d m : ℕ) (xs : List ℤ) → Type 0
Holds d m xs = length xs ≡ m * d

-- the verifier's opening, whose z has tz digits
abbrev pub Opening : (tz : ℕ) → Sizes → List ℤ → Type 0
Opening tz s o = Holds s.shape.d (opening_size tz s.shape.n s.shape.r s.kappa s.t1 s.t2) o

module _ (tz : ℕ) (s : Sizes) (o : List ℤ) where
  abbrev pub t_block_of : ℕ → (R s.shape.d).Carrier
  t_block_of = block s.shape.d o (t_place tz s.shape.n)

  abbrev pub g_block_of : ℕ → (R s.shape.d).Carrier
  g_block_of = block s.shape.d o (g_place tz s.shape.n s.shape.r s.kappa s.t1)

  abbrev pub h_block_of : ℕ → (R s.shape.d).Carrier
  h_block_of = block s.shape.d o (h_place tz s.shape.n s.shape.r s.kappa s.t1 s.t2)

  abbrev pub z_value : ℕ → (R s.shape.d).Carrier
  z_value = z_of s.shape.d s.shape.n tz s.b (el s.shape.d o)

  abbrev pub t_value : ℕ → ℕ → (R s.shape.d).Carrier
  t_value = t_of s.shape.d s.kappa s.b1 s.t1 t_block_of

  abbrev pub g_value : ℕ → ℕ → (R s.shape.d).Carrier
  g_value = garbage_of s.shape.d s.shape.r s.b2 s.t2 g_block_of

  abbrev pub h_value : ℕ → ℕ → (R s.shape.d).Carrier
  h_value = garbage_of s.shape.d s.shape.r s.b1 s.t1 h_block_of
