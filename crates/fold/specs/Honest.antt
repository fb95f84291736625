-- SPECIFICATION 9.2: "The honest messages and opening are those of messages 1 to 5, all from one statement, one witness and one set of lent
-- projection rows, ψ, ω, α, δ and c."
use Rattle.std.specs.Prelude.{List, ℤ}
use Rattle.fold.specs.Messages as Messages
use Rattle.fold.specs.Statement.{Statement, Draws, Transcript}

module _ (𝓢 : Statement) (𝓓 : Draws) (s : List ℤ) where
  open 𝓢 use {relation, w, tz, κ, κ₁, κ₂, b, b₁, b₂, t₁, t₂, A, B, C, D}
  open relation use {d, n, r, K, L, whole, constant_terms}
  open 𝓓 use {projections, ψ, ω, α, δ, c}

  abbrev pub honest_t : List ℤ
  honest_t = Messages.t_digits d n r κ b₁ t₁ A s

  abbrev pub honest_g : List ℤ
  honest_g = Messages.g_digits d n r b₂ t₂ s

  abbrev pub honest_h : List ℤ
  honest_h = Messages.h_digits d n r b₁ t₁ (Messages.aggregated 𝓢 𝓓).φ s

  abbrev pub honest_transcript : Transcript
  honest_transcript =
      record {
        u₁ = Messages.u₁ d r κ κ₁ t₁ t₂ B C honest_t honest_g;
        p = Messages.p d n r w projections s;
        b'' = Messages.b'' d n r L w constant_terms projections ψ ω s;
        u₂ = Messages.u₂ d r κ₂ t₁ D honest_h;
      }

  abbrev pub honest_opening : List ℤ
  honest_opening = Messages.opening (Messages.z_digits d n r tz b c s) honest_t honest_g honest_h
