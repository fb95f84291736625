-- Elements at places of an opening: the digits that recompose to t_i, g_ij, h_ij and z, and the rows of a matrix against a block.
use Rattle.std.specs.Prelude.{ℕ, ◌+◌, ◌*◌}
use Rattle.ring.specs.Element.{R}
use Rattle.ring.specs.Joined.{joined}

-- garbage element number q, of digits x
unfoldable pub garbage_at : (d b t : ℕ) → (ℕ → (R d).Carrier) → ℕ → (R d).Carrier
garbage_at d b t x q = joined d b t (λ e. x (q * t + e))
