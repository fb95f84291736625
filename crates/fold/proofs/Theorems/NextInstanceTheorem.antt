-- Demand 2 (SPECIFICATION 8.8): "When the checks on projection and constant terms pass and the next instance is not too large, an opening that gets
-- past row 15 is accepted exactly if, padded, it solves the next instance." SPECIFICATION 8.9: "A solution of the next instance whose padding is zero
-- is, with the padding cut off, an accepted opening if its digits are narrow too." For any number tz of z digits.
--     next-instance                    of the verdict, whatever the digits' width
--     next-instance-judged             of the verifier's answer, where the low digits are narrow
--     next-instance-past               the same where the answer is not refused 15
--     solving_refused                  with a wide low digit an opening that, padded, solves it is refused by 15
--     next_padding                     a padded opening has zero padding
--     next_solution, solution_accepted the same of solutions with zero padding
--     some-ν, some-μ, length-s, length-cut_off   what the tests leave known, for FullChunks too
use Rattle.std.specs.Prelude.{◌≡◌, ◌↔◌, Bool, true, false, ℕ, ◌*◌, ◌≤◌, ◌<◌, ltb, length, get_or, take, drop, ℤ, pos, nat_abs}
use Rattle.std.proofs.Math.Path.{refl}
use Rattle.std.proofs.Common.{sym, subst, ◌∙◌, mul_assoc, mul-le-mul, arith, ltb-true, ltb-false}
use mathlib.Core.List.{List, [], ◌∷◌}
use Rattle.integers.specs.Sums.{sq, norm_sq}
use Rattle.integers.specs.Laws.SumLaws.{norm_sq-summand}
use Rattle.residues.specs.Range.{coefficients}
use Rattle.residues.proofs.Laws.RangeLaws.{coefficients_of}
use Rattle.fold.specs.Answers.{Judged, Refused}
use Rattle.fold.specs.Answers.{kind_of, first_failing, test_of, answered}
use Rattle.fold.specs.Sizes.{opening_size}
use Rattle.fold.specs.Statement.{Solves}
use Rattle.fold.specs.Statement.{Statement, Draws, Transcript}
use Rattle.fold.specs.Verdict.{verdict}
use Rattle.fold.proofs.Laws.Accepted.{accepts, accepted_iff}
use Rattle.fold.specs.Refusals.{narrow, verify_tests, next_tests}
use Rattle.fold.specs.Laws.RefusalLaws.{◌&◌, passes_refusal, all_of_all, all_of_cons, all_of_tail, sized_iff, length_bound-most}
use Rattle.fold.specs.Known.CallLimits.{chunk-limits}
use Rattle.fold.specs.Laws.TestLaws.{holds, failed, after-passes}
use Rattle.fold.specs.Verification.{verification}
use Rattle.fold.proofs.Laws.VerificationLaws.{judged-accepted}
use Rattle.fold.specs.Chunks.{ZeroPadding}
use Rattle.fold.proofs.Laws.PaddingLaws.{zero_padding, norm_sq-padded, length-unpadded, padded-unpadded}
use Rattle.fold.specs.NextInstance.{m, n', r', next_witness, cut_off, next_relation}
use Rattle.fold.proofs.Laws.NextSolves.{FirstChecks, solved, accepts_of}
use Rattle.fold.specs.Limits.{most_bound}

-- a list of at most that squared length is in range
short-coefficients : (xs : List ℤ) → norm_sq xs ≤ 999999999999999 → coefficients xs ≡ true
unfolding sq
short-coefficients xs h = coefficients_of xs (λ i l. small (nat_abs (get_or xs i (pos 0))) (omega (arith, norm_sq-summand xs i l)))
  where
    small : (x : ℕ) → x * x ≤ 999999999999999 → x ≤ 2147483598
    small x b = pick (ltb 2147483598 x) refl
      where
        pick : (t : Bool) → ltb 2147483598 x ≡ t → x ≤ 2147483598
        pick false e = ltb-false 2147483598 x e
        pick true e =
            let above : 2147483599 ≤ x = omega (arith, ltb-true 2147483598 x e) in
            absurd (omega (arith, mul-le-mul above above))

-- the next instance is not refused, so that n' is at most 256, and checks 1 and 2 pass
module _ (𝓢 : Statement) (𝓓 : Draws) (𝓣 : Transcript) (ν μ : ℕ) (out : List ℤ) (unrefused : first_failing (next_tests 𝓢 𝓓 𝓣 ν μ out) ≡ 0)
    (pass : FirstChecks 𝓢 𝓓 𝓣) where
  open 𝓢 use {relation, tz, κ, t₁, t₂, target}
  open relation use {d, n, r}

  row : (k : ℕ) → test_of k (next_tests 𝓢 𝓓 𝓣 ν μ out) ≡ true
  unfolding next_tests
  row = holds (next_tests 𝓢 𝓓 𝓣 ν μ out) refl unrefused

  pub some-ν : 0 < ν
  unfolding next_tests
  some-ν = (chunk-limits tz ν μ (row 5)).ν-positive

  pub some-μ : 0 < μ
  unfolding next_tests
  some-μ = (chunk-limits tz ν μ (row 5)).μ-positive

  small-target : target ≤ most_bound
  unfolding next_tests
  small-target = length_bound-most target (search (all_of_all _ (row 6)))

  -- an opening whose length and range are right is refused by row 15 or not at all
  opening_refusal_lem : (o : List ℤ) → length o ≡ opening_size tz n r κ t₁ t₂ * d → coefficients o ≡ true
      → first_failing (verify_tests 𝓢 𝓓 𝓣 o) ≡ first_failing ((15, narrow 𝓢 o) ∷ [])
  unfolding next_tests verify_tests
  opening_refusal_lem o size range =
      let row₇ = all_of_cons _ _ ((sized_iff o _).1 size) (all_of_tail _ _ (row 7)) in
      let row₈ = all_of_cons _ _ range (row 8) in
      after-passes (take 9 (verify_tests 𝓢 𝓓 𝓣 o)) (drop 9 (verify_tests 𝓢 𝓓 𝓣 o))
      (row 1 & row 2 & row 3 & row 4 & row 6 & row₇ & row₈ & row 9 & row 10 & tt)

  unrefused-opening : (o : List ℤ) → length o ≡ opening_size tz n r κ t₁ t₂ * d → coefficients o ≡ true → narrow 𝓢 o ≡ true
      → first_failing (verify_tests 𝓢 𝓓 𝓣 o) ≡ 0
  unrefused-opening o size range thin = opening_refusal_lem o size range ∙ passes_refusal ((15, narrow 𝓢 o) ∷ []) (thin & tt)

  -- "is accepted exactly if, padded, it solves the next instance": its verdict, and the verifier's answer. An opening has its length;
  -- numbers out of range are refused, and are longer than any bound.
  module _ (o : List ℤ) (size : length o ≡ opening_size tz n r κ t₁ t₂ * d) where
    pub next-instance : (kind_of (Judged (verdict 𝓢 𝓓 𝓣 o)) ≡ 0) ↔ Solves (next_relation 𝓢 𝓓 𝓣 ν μ) (next_witness 𝓢 𝓓 𝓣 ν μ o)
    next-instance = (
      λ v. solved 𝓢 𝓓 𝓣 ν μ o some-ν some-μ size (accepts 𝓢 𝓓 𝓣 o v),
      λ h. (accepted_iff 𝓢 𝓓 𝓣 o).1 (accepts_of 𝓢 𝓓 𝓣 ν μ o some-ν some-μ size pass h),
    )

    solving_range : Solves (next_relation 𝓢 𝓓 𝓣 ν μ) (next_witness 𝓢 𝓓 𝓣 ν μ o) → coefficients o ≡ true
    unfolding opening_size
    solving_range h =
        short-coefficients o (omega (arith, norm_sq-padded d tz n ν (m 𝓢 𝓓 𝓣 ν μ) μ some-ν some-μ o size, h.short, small-target))

    accepted-solves : kind_of (verification 𝓢 𝓓 𝓣 o) ≡ 0 → Solves (next_relation 𝓢 𝓓 𝓣 ν μ) (next_witness 𝓢 𝓓 𝓣 ν μ o)
    accepted-solves e = next-instance.0 (judged-accepted (first_failing (verify_tests 𝓢 𝓓 𝓣 o)) (verdict 𝓢 𝓓 𝓣 o) e).1

    pub next-instance-judged : narrow 𝓢 o ≡ true
        → (kind_of (verification 𝓢 𝓓 𝓣 o) ≡ 0) ↔ Solves (next_relation 𝓢 𝓓 𝓣 ν μ) (next_witness 𝓢 𝓓 𝓣 ν μ o)
    unfolding answered
    next-instance-judged thin = (accepted-solves, λ h. rw (unrefused-opening o size (solving_range h) thin) (next-instance.1 h))

    -- with a wide low digit the answer is 15, though the padded opening solves the next instance
    pub solving_refused : Solves (next_relation 𝓢 𝓓 𝓣 ν μ) (next_witness 𝓢 𝓓 𝓣 ν μ o) → narrow 𝓢 o ≡ false → verification 𝓢 𝓓 𝓣 o ≡ Refused 15
    unfolding answered
    solving_refused h wide = rw (opening_refusal_lem o size (solving_range h) ∙ failed (15, narrow 𝓢 o) [] wide)

    pub next-instance-past : (verification 𝓢 𝓓 𝓣 o ≡ Refused 15 → ⊥)
        → (kind_of (verification 𝓢 𝓓 𝓣 o) ≡ 0) ↔ Solves (next_relation 𝓢 𝓓 𝓣 ν μ) (next_witness 𝓢 𝓓 𝓣 ν μ o)
    next-instance-past past = pick (narrow 𝓢 o) refl
      where
        pick : (t : Bool) → narrow 𝓢 o ≡ t → (kind_of (verification 𝓢 𝓓 𝓣 o) ≡ 0) ↔ Solves (next_relation 𝓢 𝓓 𝓣 ν μ) (next_witness 𝓢 𝓓 𝓣 ν μ o)
        pick true e = next-instance-judged e
        pick false e = (accepted-solves, λ h. absurd (past (solving_refused h e)))

    -- a padded opening has zero padding, so that what is said of such solutions below is said of it
    pub next_padding : ZeroPadding d tz n ν (m 𝓢 𝓓 𝓣 ν μ) μ (next_witness 𝓢 𝓓 𝓣 ν μ o)
    unfolding opening_size
    next_padding = zero_padding d tz n ν (m 𝓢 𝓓 𝓣 ν μ) μ some-ν some-μ o size

  -- a list of r' parts of n' elements
  module _ (s : List ℤ) (sized : length s ≡ r' 𝓢 𝓓 𝓣 ν μ * n' 𝓢 𝓓 𝓣 ν μ * d) where
    pub length-s : length s ≡ r' 𝓢 𝓓 𝓣 ν μ * (n' 𝓢 𝓓 𝓣 ν μ * d)
    length-s = sized ∙ mul_assoc (r' 𝓢 𝓓 𝓣 ν μ) (n' 𝓢 𝓓 𝓣 ν μ) d

    pub length-cut_off : length (cut_off 𝓢 𝓓 𝓣 ν μ s) ≡ opening_size tz n r κ t₁ t₂ * d
    unfolding opening_size
    length-cut_off = length-unpadded d tz n ν (m 𝓢 𝓓 𝓣 ν μ) μ some-ν some-μ s length-s

    -- with zeros past the end of each chunk it is the cut-off list, padded again
    module _ (zeros : ZeroPadding d tz n ν (m 𝓢 𝓓 𝓣 ν μ) μ s) where
      padded_again : Solves (next_relation 𝓢 𝓓 𝓣 ν μ) s → Solves (next_relation 𝓢 𝓓 𝓣 ν μ) (next_witness 𝓢 𝓓 𝓣 ν μ (cut_off 𝓢 𝓓 𝓣 ν μ s))
      padded_again =
          subst (Solves (next_relation 𝓢 𝓓 𝓣 ν μ)) (sym (padded-unpadded d tz n ν (m 𝓢 𝓓 𝓣 ν μ) μ some-ν some-μ s length-s zeros))

      -- "A solution of the next instance whose padding is zero is, with the padding cut off, an accepted opening": its verdict
      pub next_solution : Solves (next_relation 𝓢 𝓓 𝓣 ν μ) s → kind_of (Judged (verdict 𝓢 𝓓 𝓣 (cut_off 𝓢 𝓓 𝓣 ν μ s))) ≡ 0
      next_solution h = (next-instance (cut_off 𝓢 𝓓 𝓣 ν μ s) length-cut_off).1 (padded_again h)

      -- and the verifier accepts it "if its digits are narrow too"
      pub solution_accepted : narrow 𝓢 (cut_off 𝓢 𝓓 𝓣 ν μ s) ≡ true → Solves (next_relation 𝓢 𝓓 𝓣 ν μ) s
          → kind_of (verification 𝓢 𝓓 𝓣 (cut_off 𝓢 𝓓 𝓣 ν μ s)) ≡ 0
      solution_accepted thin h = (next-instance-judged (cut_off 𝓢 𝓓 𝓣 ν μ s) length-cut_off thin).1 (padded_again h)
