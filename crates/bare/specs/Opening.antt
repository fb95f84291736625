-- SPECIFICATION 14.6: "The bare opening is t, z, then these four by turn: (r·κ + n + 4·r) elements." Where each stands, and how it is read.
use Rattle.std.specs.Prelude.{List, ℕ, ◌+◌, ◌*◌, take, drop, ℤ}
use Rattle.ring.specs.Element.{R, el}
use Rattle.bare.specs.Messages.{four}

unfoldable pub z_place : (r κ : ℕ) → ℕ
z_place r κ = r * κ

unfoldable pub turns_place : (n r κ : ℕ) → ℕ
turns_place n r κ = r * κ + n

unfoldable pub bare_size : (n r κ : ℕ) → ℕ
bare_size n r κ = r * κ + n + r * four

module _ (d n r κ : ℕ) (o : List ℤ) where
  -- row k of t_i, and element k of z
  unfoldable pub t_at : ℕ → ℕ → (R d).Carrier
  t_at i k = el d o (i * κ + k)

  unfoldable pub z_at : ℕ → (R d).Carrier
  z_at k = el d o (z_place r κ + k)

  -- element e of turn i, and the four by name
  unfoldable pub turn_at : (e : ℕ) → ℕ → (R d).Carrier
  turn_at e i = el d o (turns_place n r κ + (i * four + e))

  abbrev pub mixedΦat : ℕ → (R d).Carrier
  mixedΦat = turn_at 0

  abbrev pub ownΦat : ℕ → (R d).Carrier
  ownΦat = turn_at 1

  abbrev pub mixed_zat : ℕ → (R d).Carrier
  mixed_zat = turn_at 2

  abbrev pub own_zat : ℕ → (R d).Carrier
  own_zat = turn_at 3

  -- the numbers of z
  unfoldable pub z_numbers : List ℤ
  z_numbers = take (n * d) (drop (z_place r κ * d) o)
