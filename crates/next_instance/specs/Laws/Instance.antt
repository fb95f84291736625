-- The room that the writer's functions ask for, and what they have written in the end.
--     table-room, minus-room, all_room, out-room     the room that the writer gives its lists, and that `out` has
--     length-laid                          every constraint takes as many numbers
--     middle-written                       checks 6, 7 and 8, one after the other
--     groups_written                       the groups of checks, one after the other, are the next instance
use Rattle.std.specs.Prelude.{◌≡◌, refl, List, ◌++◌, ℕ, ◌+◌, ◌*◌, ◌≤◌, ◌<◌, length, ℤ}
use Rattle.std.proofs.Common.{sym, ap, ap₂, ◌∙◌, append_assoc, mul-le-mul, arith, length-append}
use Rattle.integers.specs.Over.{over}
use Rattle.integers.specs.Laws.OverLaws.{over-over, over-all}
use Rattle.integers.specs.Flat.{flat}
use Rattle.integers.specs.Laws.FlatLaws.{flat_cong, length-flat}
use Rattle.ring.specs.Element.{R, el, lift, array}
use Rattle.ring.specs.Laws.Loops.{held}
use Rattle.fold.specs.declared.Sizes.{Sizes}
use Rattle.fold.specs.Statement.{Statement, Draws, Transcript}
use Rattle.fold.specs.Arguments.{statement_with, draws_of, transcript_of, VerifySized}
use Rattle.fold.specs.Sizes.{next_count}
use Rattle.fold.specs.Chunks.{width}
use Rattle.fold.specs.Refusals.{whole_length}
use Rattle.fold.specs.Messages.{aggregate_constant}
use Rattle.fold.specs.Constraint.{Constraint, laid_out}
use Rattle.fold.specs.NextInstance.{next_whole, m, n', r', constraint₃, constraint₄, constraint₅, constraint₆, constraint₇, constraint₈}
use Rattle.fold.specs.Laws.SizeBounds.{pairs-bound}
use Rattle.fold.proofs.Laws.LaidOut.{length-laid_out}
use Rattle.fold.specs.Known.NextFacts.{NextFacts}
use Rattle.next_checks.specs.declared.cut.Cut.{Cut}
use Rattle.next_checks.specs.Known.Facts.{CutFacts}
use Rattle.next_constraints.specs.Tables.{TableRoom, Tables}
use Rattle.next_checks.specs.Spread.{widths}
use Rattle.next_checks.specs.Checks.{laid, check5, check6, check7, check8, check3, check4}
use Rattle.next_checks.specs.Laws.CutLaws.{size_small}
use Rattle.next_checks.specs.Laws.CheckLaws.{check_3, check_4, check_5, check_6, check_7, check_8}
use Rattle.next_instance.specs.Laws.Order.{check_by_check}

-- the room that the writer gives its lists
pub table-room : (s : Sizes) {folded products aggregated_a diagonal : List ℤ} → VerifySized s → 16384 ≤ length folded → 8704 ≤ length products
    → 8704 ≤ length aggregated_a → 8704 ≤ length diagonal → TableRoom s.shape.d s.shape.n s.shape.r folded products aggregated_a diagonal
table-room s limits e₁ e₂ e₃ e₄ =
    let shaped = limits.shaped in
    let elements = mul-le-mul shaped.rank-small shaped.degree.small in
    let pair-elements = mul-le-mul (pairs-bound s.shape.r shaped.parts-small) shaped.degree.small in
    record {
      folded-length = omega (arith, elements, e₁);
      products_length = omega (arith, pair-elements, e₂);
      aggregate-a-length = omega (arith, pair-elements, e₃);
      diagonal_length = omega (arith, pair-elements, e₄);
    }

pub minus-room : (s : Sizes) → VerifySized s → s.shape.r * s.shape.d ≤ 1024
minus-room s limits = omega (arith, mul-le-mul limits.shaped.parts-small limits.shaped.degree.small)

module _ (s : Sizes) (cut : Cut) (facts : CutFacts s cut) where
  pub length-laid : (x : Constraint s.shape.d) → length (laid s cut x) ≡ (cut.size + 1) * s.shape.d
  length-laid x = rw facts.size_is (length-laid_out s.shape.d cut.rank cut.parts (widths s cut) x)

  length-rows : (n : ℕ) (f : ℕ → Constraint s.shape.d) → length (flat n (λ k. laid s cut (f k))) ≡ n * ((cut.size + 1) * s.shape.d)
  length-rows n f = length-flat n ((cut.size + 1) * s.shape.d) (λ k. laid s cut (f k)) (λ k _. length-laid (f k))

  -- three constraints, one after the other
  pub middle-written : (x y z : Constraint s.shape.d) (old : List ℤ) (at : ℕ) {first second third : List ℤ} {p q : ℕ}
      → (at + 3 * (cut.size + 1)) * s.shape.d ≤ length old → p ≡ at + (cut.size + 1) → q ≡ p + (cut.size + 1)
      → first ≡ over old (at * s.shape.d) (laid s cut x) → second ≡ over first (p * s.shape.d) (laid s cut y)
      → third ≡ over second (q * s.shape.d) (laid s cut z)
      → third ≡ over old (at * s.shape.d) (laid s cut x ++ (laid s cut y ++ laid s cut z))
  middle-written x y z old at {p = p} {q} room here there one two three =
      let d = s.shape.d in
      let begins : at * d ≤ length old = omega (arith, room) in
      let place : p * d ≡ at * d + length (laid s cut x) = rw here (omega (arith, length-laid x)) in
      let next : q * d ≡ at * d + length (laid s cut x ++ laid s cut y) =
      rw (there, here) (omega (arith, length-append (laid s cut x) (laid s cut y), length-laid x, length-laid y)) in
      three
      ∙ ap (λ (xs : List ℤ). over xs (q * d) (laid s cut z)) (two ∙ ap₂ (λ (xs : List ℤ) (k : ℕ). over xs k (laid s cut y)) one place
      ∙ over-over old (at * d) (laid s cut x) (laid s cut y) begins)
      ∙ ap (λ (k : ℕ). over (over old (at * d) (laid s cut x ++ laid s cut y)) k (laid s cut z)) next
      ∙ over-over old (at * d) (laid s cut x ++ laid s cut y) (laid s cut z) begins
      ∙ ap (over old (at * d)) (append_assoc (laid s cut x) (laid s cut y) (laid s cut z))

  -- the room of `out`
  pub all_room : {len : ℕ} → len ≡ whole_length s.shape.d cut.rank cut.parts (next_count s.kappa s.kappa1 s.kappa2)
      → len ≡ (s.kappa * (cut.size + 1) + 3 * (cut.size + 1) + s.kappa1 * (cut.size + 1) + s.kappa2 * (cut.size + 1)) * s.shape.d
  unfolding whole_length next_count
  all_room {len} e =
      let counted : len ≡ (s.kappa + s.kappa1 + s.kappa2 + 3) * ((cut.size + 1) * s.shape.d) = rw facts.size_is e in
      omega (arith, counted)

-- the places of the groups are small
pub groups_small : (s : Sizes) (cut : Cut) → VerifySized s → CutFacts s cut
    → (cut.size + 1 ≤ 4233) × (s.kappa * (cut.size + 1) ≤ 33864) × (s.kappa1 * (cut.size + 1) ≤ 33864)
groups_small s cut limits facts =
    let small : cut.size + 1 ≤ 4233 = omega (arith, size_small s cut facts) in
    (small, mul-le-mul limits.κ-small small, mul-le-mul limits.κ₁-small small)

-- an element's sixty-four numbers, from what they stand for
pub canonical : {d : ℕ} (u : (R d).Carrier) {xs : List ℤ} → d ≤ 64 → xs ≡ array d u → xs ≡ array d (lift d xs)
canonical {d} u small e = e ∙ ap (array d) (sym (held small e))

module _ (s : Sizes) (cut : Cut) (facts : CutFacts s cut) (A B C D whole constant_terms projections ψ ω α δ c u₁ p b'' u₂ : List ℤ) where
  abbrev d : ℕ
  d = s.shape.d

  abbrev 𝓢 : Statement
  𝓢 = statement_with cut.tz s A B C D whole constant_terms

  abbrev 𝓓 : Draws
  𝓓 = draws_of projections ψ ω α δ c

  abbrev 𝓣 : Transcript
  𝓣 = transcript_of u₁ p b'' u₂

  abbrev ν : ℕ
  ν = cut.nu

  abbrev μ : ℕ
  μ = cut.mu

  abbrev lay : Constraint d → List ℤ
  lay x = laid_out d (n' 𝓢 𝓓 𝓣 ν μ) (r' 𝓢 𝓓 𝓣 ν μ) (width cut.tz s.shape.n ν (m 𝓢 𝓓 𝓣 ν μ) μ) x

  lay-is : {x y : Constraint d} → x ≡ y → laid s cut x ≡ lay y
  lay-is {x} e = (rw (facts.rank_is, facts.parts_is, facts.rest-is) refl) ∙ ap lay e

  module _ (minus folded products aggregated_a diagonal : List ℤ) (b : (R d).Carrier)
      (held : (i : ℕ) → i < s.shape.r → el d minus i ≡ (R d).neg (el d c i))
      (tables : Tables d s.shape.n s.shape.r s.k s.l s.w whole constant_terms projections ψ ω α δ c folded products aggregated_a diagonal)
      (b-is : b ≡ aggregate_constant d s.shape.n s.shape.r s.k whole α δ b'') where
    abbrev fives : List ℤ
    fives = flat s.kappa (λ k. laid s cut (check5 s cut.tz A minus k))

    abbrev middle : List ℤ
    middle =
        laid s cut (check6 s cut.tz ν products)
        ++ (laid s cut (check7 s cut.tz folded products) ++ laid s cut (check8 s cut.tz aggregated_a diagonal b))

    abbrev threes : List ℤ
    threes = flat s.kappa1 (λ k. laid s cut (check3 s cut.tz B C u₁ k))

    abbrev fours : List ℤ
    fours = flat s.kappa2 (λ k. laid s cut (check4 s cut.tz D u₂ k))

    length-middle : length middle ≡ 3 * ((cut.size + 1) * d)
    length-middle =
        omega (
          arith,
          length-append (laid s cut (check6 s cut.tz ν products)) (laid s cut (check7 s cut.tz folded products) ++ laid s cut (check8 s cut.tz aggregated_a diagonal b)),
          length-append (laid s cut (check7 s cut.tz folded products)) (laid s cut (check8 s cut.tz aggregated_a diagonal b)),
          length-laid s cut facts (check6 s cut.tz ν products),
          length-laid s cut facts (check7 s cut.tz folded products),
          length-laid s cut facts (check8 s cut.tz aggregated_a diagonal b),
        )

    is_whole : fives ++ (middle ++ (threes ++ fours)) ≡ next_whole 𝓢 𝓓 𝓣 ν μ
    is_whole =
        ap₂ ◌++◌ (flat_cong s.kappa _ _ (λ k _. lay-is (check_5 s cut.tz A B C D whole constant_terms projections ψ ω α δ c u₁ p b'' u₂ ν μ minus held k)))
        (ap₂ ◌++◌
        (ap₂ ◌++◌ (lay-is (check_6 s cut.tz A B C D whole constant_terms projections ψ ω α δ c u₁ p b'' u₂ ν μ folded products aggregated_a diagonal tables))
        (ap₂ ◌++◌ (lay-is (check_7 s cut.tz A B C D whole constant_terms projections ψ ω α δ c u₁ p b'' u₂ ν μ folded products aggregated_a diagonal tables))
        (lay-is (check_8 s cut.tz A B C D whole constant_terms projections ψ ω α δ c u₁ p b'' u₂ ν μ folded products aggregated_a diagonal tables b b-is))))
        (ap₂ ◌++◌ (flat_cong s.kappa1 _ _ (λ k _. lay-is (check_3 s cut.tz A B C D whole constant_terms projections ψ ω α δ c u₁ p b'' u₂ ν μ k)))
        (flat_cong s.kappa2 _ _ (λ k _. lay-is (check_4 s cut.tz A B C D whole constant_terms projections ψ ω α δ c u₁ p b'' u₂ ν μ k)))))
        ∙ regroup
        ∙ sym (check_by_check 𝓢 𝓓 𝓣 ν μ)
      where
        regroup : flat s.kappa (λ k. lay (constraint₅ 𝓢 𝓓 𝓣 ν μ k))
            ++ ((lay (constraint₆ 𝓢 𝓓 𝓣 ν μ) ++ (lay (constraint₇ 𝓢 𝓓 𝓣 ν μ) ++ lay (constraint₈ 𝓢 𝓓 𝓣 ν μ)))
            ++ (flat s.kappa1 (λ k. lay (constraint₃ 𝓢 𝓓 𝓣 ν μ k)) ++ flat s.kappa2 (λ k. lay (constraint₄ 𝓢 𝓓 𝓣 ν μ k))))
            ≡ flat s.kappa (λ k. lay (constraint₅ 𝓢 𝓓 𝓣 ν μ k))
            ++ (lay (constraint₆ 𝓢 𝓓 𝓣 ν μ) ++ (lay (constraint₇ 𝓢 𝓓 𝓣 ν μ) ++ (lay (constraint₈ 𝓢 𝓓 𝓣 ν μ)
            ++ (flat s.kappa1 (λ k. lay (constraint₃ 𝓢 𝓓 𝓣 ν μ k)) ++ flat s.kappa2 (λ k. lay (constraint₄ 𝓢 𝓓 𝓣 ν μ k))))))
        regroup = simp append_assoc

    module _ (out : List ℤ) (size : length out ≡ whole_length d cut.rank cut.parts (next_count s.kappa s.kappa1 s.kappa2)) where
      -- the four groups, each written where the one before it ends
      pub groups_written : {with-5 with-8 with-3 with-4 : List ℤ} {sixth third fourth : ℕ}
          → sixth ≡ s.kappa * (cut.size + 1) → third ≡ sixth + 3 * (cut.size + 1) → fourth ≡ third + s.kappa1 * (cut.size + 1)
          → with-5 ≡ over out (0 * d) fives → with-8 ≡ over with-5 (sixth * d) middle → with-3 ≡ over with-8 (third * d) threes
          → with-4 ≡ over with-3 (fourth * d) fours → with-4 ≡ next_whole 𝓢 𝓓 𝓣 ν μ
      groups_written {with-5} {with-8} {with-3} {with-4} {sixth} {third} {fourth} e₆ e₃ e₄ five eight three four =
          let none : 0 * d ≡ 0 = omega arith in
          let long₅ = length-rows s cut facts s.kappa (check5 s cut.tz A minus) in
          let long₃ = length-rows s cut facts s.kappa1 (check3 s cut.tz B C u₁) in
          let long₄ = length-rows s cut facts s.kappa2 (check4 s cut.tz D u₂) in
          let at₆ : sixth * d ≡ 0 + length fives = rw e₆ (omega (arith, long₅)) in
          let at₃ : third * d ≡ 0 + length (fives ++ middle) = rw (e₃, e₆) (omega (arith, long₅, length-append fives middle, length-middle)) in
          let at₄ : fourth * d ≡ 0 + length ((fives ++ middle) ++ threes) =
          rw (e₄, e₃, e₆) (omega (arith, long₅, long₃, length-append fives middle, length-middle, length-append (fives ++ middle) threes)) in
          let first : with-5 ≡ over out 0 fives = rw none at five in
          let second : with-8 ≡ over out 0 (fives ++ middle) = eight ∙ rw (first, at₆) (over-over out 0 fives middle (omega arith)) in
          let next : with-3 ≡ over out 0 ((fives ++ middle) ++ threes) = three ∙ rw (second, at₃) (over-over out 0 (fives ++ middle) threes (omega arith)) in
          let last : with-4 ≡ over out 0 (((fives ++ middle) ++ threes) ++ fours) =
          four ∙ rw (next, at₄) (over-over out 0 ((fives ++ middle) ++ threes) fours (omega arith)) in
          let all : ((fives ++ middle) ++ threes) ++ fours ≡ fives ++ (middle ++ (threes ++ fours)) =
          append_assoc (fives ++ middle) threes fours ∙ append_assoc fives middle (threes ++ fours) in
          let whole_length : length (((fives ++ middle) ++ threes) ++ fours) ≡ length out =
          omega (
            arith,
            length-append ((fives ++ middle) ++ threes) fours,
            length-append (fives ++ middle) threes,
            length-append fives middle,
            length-middle,
            long₅,
            long₃,
            long₄,
            all_room s cut facts size,
          ) in
          last ∙ over-all out (((fives ++ middle) ++ threes) ++ fours) whole_length ∙ all ∙ is_whole

pub same-instance : (s : Sizes) (cut : Cut) (A B C D whole constant_terms projections ψ ω α δ c u₁ p b'' u₂ : List ℤ) {tz ν μ : ℕ} → cut.tz ≡ tz → cut.nu ≡ ν → cut.mu ≡ μ
    → next_whole (statement_with cut.tz s A B C D whole constant_terms) (draws_of projections ψ ω α δ c) (transcript_of u₁ p b'' u₂) cut.nu cut.mu
    ≡ next_whole (statement_with tz s A B C D whole constant_terms) (draws_of projections ψ ω α δ c) (transcript_of u₁ p b'' u₂) ν μ
same-instance s cut A B C D whole constant_terms projections ψ ω α δ c u₁ p b'' u₂ e f g = rw (e, f, g) refl

-- the room of `out`, where the call is not refused
pub out-room : (tz : ℕ) (s : Sizes) (A B C D whole constant_terms projections ψ ω α δ c u₁ p b'' u₂ : List ℤ) (ν μ : ℕ) (out : List ℤ)
    → NextFacts tz s A B C D whole constant_terms projections ψ ω α δ c u₁ p b'' u₂ ν μ out → (cut : Cut) → CutFacts s cut → cut.tz ≡ tz → cut.nu ≡ ν → cut.mu ≡ μ
    → length out ≡ whole_length s.shape.d cut.rank cut.parts (next_count s.kappa s.kappa1 s.kappa2)
out-room tz s A B C D whole constant_terms projections ψ ω α δ c u₁ p b'' u₂ ν μ out facts cut known etz eν eμ =
    rw (known.rank_is, known.parts_is, known.rest-is, etz, eν, eμ) facts.out-length
