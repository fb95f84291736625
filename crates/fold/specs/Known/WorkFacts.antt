-- What the work functions ask of their arguments: sizes within their limits, the length of each list, and that projection entries were tested.
-- Each record is a field, or a field's field, of what a call that is not refused knows (CallFacts, NextFacts), so a caller hands it on by name.
--     TermFacts, ProjectionFacts, SecondFacts, WholeFacts, AggregateFacts     the functions of the constraints
--     TFacts, GFacts, U₁Facts          message 1
--     PairFacts, ValueFacts            message 3
--     HFacts, U₂Facts                  message 4
--     ConstantTermFacts                check 2, of a fold and of the bare level
--     MessageFacts, FirstOuterFacts, SecondOuterFacts, OuterFacts              the verifier's checks 1 to 4
--     FoldedFacts, AmortizedFacts, RelationFacts, OpeningFacts                 and 5 to 9
--     EntryFacts, ConstantFacts        the next constraints
use Rattle.std.specs.Prelude.{◌≡◌, true, List, ℕ, ◌*◌, ◌≤◌, length, ℤ}
use Rattle.residues.specs.Range.{projection_entries}
use Rattle.fold.specs.declared.CommitSizes.{CommitSizes}
use Rattle.fold.specs.declared.GarbageSizes.{GarbageSizes}
use Rattle.fold.specs.declared.Sizes.{Sizes}
use Rattle.fold.specs.Sizes.{five, t_size, garbage_size, opening_size}
use Rattle.fold.specs.Refusals.{whole_length, constant_terms_length, projection_length}
use Rattle.fold.specs.Known.Facts.{Shaped}
use Rattle.fold.specs.Known.CallLimits.{CommitSized, GarbageSized, VerifySized}
use Rattle.fold.specs.Limits.{most_constraints, most_projections}

-- ---- the second functions and the aggregate

-- the constant-term constraints and ψ
pub record TermFacts (d n r L : ℕ) (constant_terms ψ : List ℤ) : Type 0 where
  pub shaped : Shaped d n r
  pub term_count : L ≤ most_constraints
  pub constant-terms-length : length constant_terms ≡ constant_terms_length d n r L
  pub ψ-length : length ψ ≡ five * L

-- the projection rows and ω
pub record ProjectionFacts (d n r w : ℕ) (projections ω : List ℤ) : Type 0 where
  pub shaped : Shaped d n r
  pub row_count : w ≤ most_projections
  pub projections-length : length projections ≡ projection_length d n r w
  pub ω-length : length ω ≡ five * w
  pub tested : projection_entries projections ≡ true

-- the second functions
pub record SecondFacts (d n r L w : ℕ) (constant_terms projections ψ ω : List ℤ) : Type 0 where
  pub terms : TermFacts d n r L constant_terms ψ
  pub projected : ProjectionFacts d n r w projections ω

-- the whole constraints and α
pub record WholeFacts (d n r K : ℕ) (whole α : List ℤ) : Type 0 where
  pub shaped : Shaped d n r
  pub whole-count : K ≤ most_constraints
  pub whole_length : length whole ≡ whole_length d n r K
  pub α-length : length α ≡ K * d

-- the aggregate
pub record AggregateFacts (d n r K L w : ℕ) (whole constant_terms projections ψ ω α δ : List ℤ) : Type 0 where
  pub wholes : WholeFacts d n r K whole α
  pub seconds : SecondFacts d n r L w constant_terms projections ψ ω
  pub δ-length : length δ ≡ five * d

-- check 2
pub record ConstantTermFacts (d n r L w : ℕ) (constant_terms ψ ω p b'' : List ℤ) : Type 0 where
  pub shaped : Shaped d n r
  pub constant-terms-length : length constant_terms ≡ constant_terms_length d n r L
  pub ψ-length : length ψ ≡ five * L
  pub ω-length : length ω ≡ five * w
  pub p-length : length p ≡ w
  pub b''-length : length b'' ≡ five * d

-- ---- message 1

module _ (sizes : CommitSizes) where
  open sizes use {shape, kappa, kappa1, t1, t2}
  open shape use {d, n, r}

  -- the t digits
  pub record TFacts (A s ts : List ℤ) : Type 0 where
    pub limits : CommitSized sizes
    pub A-length : length A ≡ kappa * n * d
    pub s-length : length s ≡ r * n * d
    pub ts_length : length ts ≡ t_size r kappa t1 * d

  -- the g digits
  pub record GFacts (s gs : List ℤ) : Type 0 where
    pub limits : CommitSized sizes
    pub s-length : length s ≡ r * n * d
    pub gs_length : length gs ≡ garbage_size r t2 * d

  -- u1, from the digits that were written
  pub record U₁Facts (B C ts gs u₁ : List ℤ) : Type 0 where
    pub limits : CommitSized sizes
    pub B-length : length B ≡ kappa1 * t_size r kappa t1 * d
    pub C-length : length C ≡ kappa1 * garbage_size r t2 * d
    pub ts_length : length ts ≡ t_size r kappa t1 * d
    pub gs_length : length gs ≡ garbage_size r t2 * d
    pub u₁-length : length u₁ ≡ kappa1 * d

-- ---- message 3

-- the pairs
pub record PairFacts (d n r L : ℕ) (constant_terms ψ s : List ℤ) : Type 0 where
  pub terms : TermFacts d n r L constant_terms ψ
  pub s-length : length s ≡ r * n * d

-- b''
pub record ValueFacts (d n r L w : ℕ) (constant_terms projections ψ ω s : List ℤ) : Type 0 where
  pub seconds : SecondFacts d n r L w constant_terms projections ψ ω
  pub pairs : PairFacts d n r L constant_terms ψ s

-- ---- message 4

module _ (sizes : GarbageSizes) where
  open sizes use {shape, k, l, w, kappa2, t1}
  open shape use {d, n, r}

  -- the h digits
  pub record HFacts (whole constant_terms projections ψ ω α δ s hs : List ℤ) : Type 0 where
    pub limits : GarbageSized sizes
    pub aggregated : AggregateFacts d n r k l w whole constant_terms projections ψ ω α δ
    pub s-length : length s ≡ r * n * d
    pub hs_length : length hs ≡ garbage_size r t1 * d

  -- u2, from the digits that were written
  pub record U₂Facts (D hs u₂ : List ℤ) : Type 0 where
    pub limits : GarbageSized sizes
    pub D-length : length D ≡ kappa2 * garbage_size r t1 * d
    pub hs_length : length hs ≡ garbage_size r t1 * d
    pub u₂-length : length u₂ ≡ kappa2 * d

-- ---- the verifier and the next instance

module _ (sizes : Sizes) where
  open sizes use {shape, k, l, w, kappa, kappa1, kappa2, t1, t2}
  open shape use {d, n, r}

  -- checks 1 and 2
  pub record MessageFacts (constant_terms ψ ω p b'' : List ℤ) : Type 0 where
    pub limits : VerifySized sizes
    pub constant_term : ConstantTermFacts d n r l w constant_terms ψ ω p b''

  -- the coefficients of the next constraints
  pub record EntryFacts (A B C D c : List ℤ) : Type 0 where
    pub limits : VerifySized sizes
    pub A-length : length A ≡ kappa * n * d
    pub B-length : length B ≡ kappa1 * t_size r kappa t1 * d
    pub C-length : length C ≡ kappa1 * garbage_size r t2 * d
    pub D-length : length D ≡ kappa2 * garbage_size r t1 * d
    pub c-length : length c ≡ r * d

  -- and their constants
  pub record ConstantFacts (whole α δ b'' u₁ u₂ : List ℤ) : Type 0 where
    pub limits : VerifySized sizes
    pub wholes : WholeFacts d n r k whole α
    pub δ-length : length δ ≡ five * d
    pub b''-length : length b'' ≡ five * d
    pub u₁-length : length u₁ ≡ kappa1 * d
    pub u₂-length : length u₂ ≡ kappa2 * d

-- an opening whose z has tz digits
module _ (tz : ℕ) (sizes : Sizes) where
  open sizes use {shape, k, l, w, kappa, kappa1, kappa2, t1, t2}
  open shape use {d, n, r}

  -- check 3
  pub record FirstOuterFacts (B C u₁ o : List ℤ) : Type 0 where
    pub limits : VerifySized sizes
    pub B-length : length B ≡ kappa1 * t_size r kappa t1 * d
    pub C-length : length C ≡ kappa1 * garbage_size r t2 * d
    pub u₁-length : length u₁ ≡ kappa1 * d
    pub o-length : length o ≡ opening_size tz n r kappa t1 t2 * d

  -- check 4
  pub record SecondOuterFacts (D u₂ o : List ℤ) : Type 0 where
    pub limits : VerifySized sizes
    pub D-length : length D ≡ kappa2 * garbage_size r t1 * d
    pub u₂-length : length u₂ ≡ kappa2 * d
    pub o-length : length o ≡ opening_size tz n r kappa t1 t2 * d

  pub record OuterFacts (B C D u₁ u₂ o : List ℤ) : Type 0 where
    pub first : FirstOuterFacts B C u₁ o
    pub second : SecondOuterFacts D u₂ o

  -- check 6, and the right side of check 5
  pub record FoldedFacts (c o : List ℤ) : Type 0 where
    pub limits : VerifySized sizes
    pub c-length : length c ≡ r * d
    pub o-length : length o ≡ opening_size tz n r kappa t1 t2 * d

  -- check 5
  pub record AmortizedFacts (A c o : List ℤ) : Type 0 where
    pub folded : FoldedFacts c o
    pub A-length : length A ≡ kappa * n * d

  -- check 8
  pub record RelationFacts (whole constant_terms ψ α δ b'' o : List ℤ) : Type 0 where
    pub limits : VerifySized sizes
    pub wholes : WholeFacts d n r k whole α
    pub terms : TermFacts d n r l constant_terms ψ
    pub δ-length : length δ ≡ five * d
    pub b''-length : length b'' ≡ five * d
    pub o-length : length o ≡ opening_size tz n r kappa t1 t2 * d

  -- checks 5 to 9
  pub record OpeningFacts (A whole constant_terms projections ψ ω b'' α δ c o : List ℤ) : Type 0 where
    pub amortized : AmortizedFacts A c o
    pub aggregated : AggregateFacts d n r k l w whole constant_terms projections ψ ω α δ
    pub relation : RelationFacts whole constant_terms ψ α δ b'' o
