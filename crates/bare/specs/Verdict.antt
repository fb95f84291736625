-- SPECIFICATION 14.7 and 14.8: the bare level's checks 1 to 7, the first that fails, and the margin.
use Rattle.std.specs.Prelude.{Bool, List, [], ◌∷◌, ◌++◌, ℕ, ◌-◌, leb, ℤ}
use Rattle.integers.specs.Sums.{norm_sq}
use Rattle.algebra.specs.CommRing.{CommRing}
use Rattle.algebra.specs.Sum.{sum}
use Rattle.algebra.specs.DotProduct.{inner}
use Rattle.ring.specs.Element.{R, el, same}
use Rattle.fold.specs.Answers.{Verdict}
use Rattle.fold.specs.Answers.{first_failing, judged}
use Rattle.fold.specs.Statement.{Draws}
use Rattle.fold.specs.Messages.{aggregate_constant}
use Rattle.fold.specs.Verdict.{check₁, check₂, check₅}
use Rattle.bare.specs.Statement.{BareStatement, BareTranscript, bare_aggregate}
use Rattle.bare.specs.Opening.{t_at, z_at, mixedΦat, ownΦat, mixed_zat, own_zat, z_numbers}

-- "the sum over all turns of" the mixed one times c_i and the own one times c_i²
module _ (𝓡 : CommRing) where
  open 𝓡 use {Carrier, add, mul}

  unfoldable pub in_turn : (r : ℕ) (mixed own c : ℕ → Carrier) → Carrier
  in_turn r mixed own c = sum 𝓡 r (λ i. add (mul (mixed i) (c i)) (mul (own i) (mul (c i) (c i))))

-- "<z,z> = the sum over all turns of (mixed z)·c_i + (own z)·c_i²"
unfoldable pub garbage_of_z : (d n r : ℕ) (c : List ℤ) → (z mixed own : ℕ → (R d).Carrier) → Bool
garbage_of_z d n r c z mixed own = same d (inner (R d) n z z) (in_turn (R d) r mixed own (el d c))

-- "Σ<φ_i,z>c_i = the sum over all turns of (mixed φ)·c_i + (own φ)·c_i²"
unfoldable pub garbage_ofΦ : (d n r : ℕ) (c : List ℤ) → (φ : ℕ → ℕ → (R d).Carrier) → (z mixed own : ℕ → (R d).Carrier) → Bool
garbage_ofΦ d n r c φ z mixed own =
    same d (sum (R d) r (λ i. (R d).mul (inner (R d) n (φ i) z) (el d c i))) (in_turn (R d) r mixed own (el d c))

-- "Σ a_ii·(own z of turn i) + Σ (own φ of turn i) = b"
unfoldable pub aggregate_holds : (d r : ℕ) → (a : ℕ → ℕ → (R d).Carrier) → (b : (R d).Carrier) → (own_z ownΦ : ℕ → (R d).Carrier) → Bool
aggregate_holds d r a b own_z ownΦ = same d ((R d).add (sum (R d) r (λ i. (R d).mul (a i i) (own_z i))) (sum (R d) r ownΦ)) b

-- "|z|² ≤ the bound on z", and "the bound on z minus |z|²"
unfoldable pub z_short : (z_bound : ℕ) (zs : List ℤ) → Bool
z_short z_bound zs = leb (norm_sq zs) z_bound

unfoldable pub z_margin : (z_bound : ℕ) (zs : List ℤ) → ℕ
z_margin z_bound zs = z_bound - norm_sq zs

module _ (𝓢 : BareStatement) (𝓓 : Draws) (𝓣 : BareTranscript) (o : List ℤ) where
  open 𝓢 use {relation, w, κ, z_bound, A}
  open relation use {d, n, r, K, L, bound, whole, constant_terms}
  open 𝓓 use {ψ, ω, α, δ, c}
  open 𝓣 use {p, b''}

  -- checks 1 and 2, which need no opening
  abbrev pub bare_message_checks : List (ℕ × Bool)
  bare_message_checks = (1, check₁ w bound p) ∷ (2, check₂ d n r L w constant_terms ψ ω p b'') ∷ []

  -- "A z = Σ c_i t_i", the garbage of z
  abbrev pub folded_checks : List (ℕ × Bool)
  folded_checks =
      (3, check₅ d n r κ A c (z_at d n r κ o) (t_at d n r κ o))
      ∷ (4, garbage_of_z d n r c (z_at d n r κ o) (mixed_zat d n r κ o) (own_zat d n r κ o))
      ∷ []

  -- the garbage of φ, the aggregate, the length of z
  abbrev pub aggregate_checks : List (ℕ × Bool)
  aggregate_checks =
      (5, garbage_ofΦ d n r c (bare_aggregate 𝓢 𝓓).φ (z_at d n r κ o) (mixedΦat d n r κ o) (ownΦat d n r κ o))
      ∷ (6, aggregate_holds d r (bare_aggregate 𝓢 𝓓).a (aggregate_constant d n r K whole α δ b'') (own_zat d n r κ o) (ownΦat d n r κ o))
      ∷ (7, z_short z_bound (z_numbers d n r κ o))
      ∷ []

  abbrev pub bare_checks : List (ℕ × Bool)
  bare_checks = bare_message_checks ++ (folded_checks ++ aggregate_checks)

  abbrev pub bare_margin : ℕ
  bare_margin = z_margin z_bound (z_numbers d n r κ o)

  -- "the first that fails is named"; "Accepted carries the margin of check 7"
  unfoldable pub bare_verdict : Verdict
  bare_verdict = judged (first_failing bare_checks) bare_margin
