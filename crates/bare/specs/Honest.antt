-- SPECIFICATION 14.9: "the honest messages and bare opening": from one statement, one witness and one set of draws.
use Rattle.std.specs.Prelude.{List, ℕ, ◌*◌, take, ℤ}
use Rattle.integers.specs.Flat.{flat}
use Rattle.fold.specs.Statement.{Draws}
use Rattle.fold.specs.Messages.{elements, p, b'', z}
use Rattle.bare.specs.Statement.{BareStatement, BareTranscript, bare_aggregate}
use Rattle.bare.specs.Messages.{bare_t, turn, bare_opening}

module _ (𝓢 : BareStatement) (𝓓 : Draws) (s : List ℤ) where
  open 𝓢 use {relation, w, κ, A}
  open relation use {d, n, r, L, constant_terms}
  open 𝓓 use {projections, ψ, ω, c}

  abbrev pub honest_t : List ℤ
  honest_t = bare_t d n r κ A s

  -- "z = Σ c_i s_i, whole"
  abbrev pub honest_z : List ℤ
  honest_z = elements d n (z d n r c s)

  -- "Turn i .. is made from c_1..c_(i-1) alone"
  abbrev pub honest_turn : ℕ → List ℤ
  honest_turn i = turn d n (bare_aggregate 𝓢 𝓓).φ (take (i * d) c) s i

  abbrev pub honest_turns : List ℤ
  honest_turns = flat r honest_turn

  abbrev pub honest_transcript : BareTranscript
  honest_transcript = record { p = p d n r w projections s; b'' = b'' d n r L w constant_terms projections ψ ω s }

  abbrev pub honest_opening : List ℤ
  honest_opening = bare_opening honest_t honest_z honest_turns
