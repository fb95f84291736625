-- The arguments of the calls as the definitions take them: sizes stand in a struct, each slice is the list of its numbers. What depends on the
-- number tz of z digits is defined `With` it, and again for the digits that a call is given. Below, the number with which each call refuses, 0 where it does not.
use Rattle.std.specs.Prelude.{Bool, true, false, List, ℕ, ℤ}
use Rattle.fold.specs.declared.Shape.{Shape}
use Rattle.fold.specs.declared.CommitSizes.{CommitSizes}
use Rattle.fold.specs.declared.GarbageSizes.{GarbageSizes}
use Rattle.fold.specs.declared.Sizes.{Sizes}
use Rattle.fold.specs.declared.StatementSizes.{StatementSizes}
use Rattle.fold.specs.declared.ZDigits.{ZDigits}
use Rattle.fold.specs.declared.ZDigits.TheVariants.{One, Two}
use Rattle.fold.specs.declared.PartSizes.{PartSizes}
use Rattle.residues.specs.Digits.{least_base}
use Rattle.fold.specs.Answers.{first_failing}
use Rattle.fold.specs.Sizes.{count_if}
use Rattle.fold.specs.Statement.{Statement, Draws, Transcript}
use Rattle.fold.specs.NextCall.{part_refusal, next_part}
pub use Rattle.fold.specs.Known.CallLimits.{CommitSized, GarbageSized, VerifySized, PartSizedWith}
use Rattle.fold.specs.Refusals.{commit_tests, project_tests, aggregate_tests, garbage_tests, amortize_tests, verify_tests, product_tests}

-- SPECIFICATION 3.6: "A statement keeps z in two digits to base b, or in one". How many there are, and their base. "With one, b is neither taken nor
-- tested": the least base stands where a definition has b, and no answer depends on it (Theorems/OneDigit.antt)
abbrev pub count_of : ZDigits → ℕ
count_of One = 1
count_of (Two b) = 2

-- whether there is one
abbrev pub is_one : ZDigits → Bool
is_one One = true
is_one (Two b) = false

abbrev pub base_of : ZDigits → ℕ
base_of One = least_base
base_of (Two b) = b

-- the sizes of a statement with that base
abbrev pub based_sizes : StatementSizes → Sizes
based_sizes m =
    record {
      shape = m.shape;
      k = m.k;
      l = m.l;
      w = m.w;
      kappa = m.kappa;
      kappa1 = m.kappa1;
      kappa2 = m.kappa2;
      b = base_of m.z;
      b1 = m.b1;
      b2 = m.b2;
      t1 = m.t1;
      t2 = m.t2;
      bound = m.bound;
      target = m.target;
    }

-- sizes with a base b as those of a statement: z has two digits to base b
abbrev pub in_two_digits : Sizes → StatementSizes
in_two_digits m =
    record {
      shape = m.shape;
      k = m.k;
      l = m.l;
      w = m.w;
      kappa = m.kappa;
      kappa1 = m.kappa1;
      kappa2 = m.kappa2;
      z = Two m.b;
      b1 = m.b1;
      b2 = m.b2;
      t1 = m.t1;
      t2 = m.t2;
      bound = m.bound;
      target = m.target;
    }

abbrev pub statement_with : (tz : ℕ) → Sizes → (A B C D whole constant_terms : List ℤ) → Statement
statement_with tz sizes A B C D whole constant_terms =
    record {
      relation = record { d = sizes.shape.d; n = sizes.shape.n; r = sizes.shape.r; K = sizes.k; L = sizes.l; bound = sizes.bound; whole = whole; constant_terms = constant_terms };
      w = sizes.w;
      tz = tz;
      κ = sizes.kappa;
      κ₁ = sizes.kappa1;
      κ₂ = sizes.kappa2;
      b = sizes.b;
      b₁ = sizes.b1;
      b₂ = sizes.b2;
      t₁ = sizes.t1;
      t₂ = sizes.t2;
      target = sizes.target;
      A = A;
      B = B;
      C = C;
      D = D;
    }

abbrev pub statement_of : StatementSizes → (A B C D whole constant_terms : List ℤ) → Statement
statement_of sizes A B C D whole constant_terms = statement_with (count_of sizes.z) (based_sizes sizes) A B C D whole constant_terms

-- the structs that the messages take, from the sizes of a statement
abbrev pub commit_sizes_of : StatementSizes → CommitSizes
commit_sizes_of m =
    record { shape = m.shape; kappa = m.kappa; kappa1 = m.kappa1; b1 = m.b1; b2 = m.b2; t1 = m.t1; t2 = m.t2 }

abbrev pub garbage_sizes_of : StatementSizes → GarbageSizes
garbage_sizes_of m =
    record { shape = m.shape; k = m.k; l = m.l; w = m.w; kappa2 = m.kappa2; b1 = m.b1; t1 = m.t1 }

-- and the struct of a part of the next witness, cut by ν and μ
abbrev pub part_sizes_of : StatementSizes → (ν μ : ℕ) → PartSizes
part_sizes_of m ν μ =
    record { shape = m.shape; kappa = m.kappa; t1 = m.t1; t2 = m.t2; nu = ν; mu = μ; one_digit = is_one m.z }

abbrev pub draws_of : (projections ψ ω α δ c : List ℤ) → Draws
draws_of projections ψ ω α δ c = record { projections = projections; ψ = ψ; ω = ω; α = α; δ = δ; c = c }

abbrev pub transcript_of : (u₁ p b'' u₂ : List ℤ) → Transcript
transcript_of u₁ p b'' u₂ = record { u₁ = u₁; p = p; b'' = b''; u₂ = u₂ }

-- ---- the number of each call's refusal

abbrev pub commit_refusal : CommitSizes → (A B C s ts gs u₁ : List ℤ) → ℕ
commit_refusal m A B C s ts gs u₁ =
    first_failing
    (commit_tests m.shape.d m.shape.n m.shape.r m.kappa m.kappa1 m.b1 m.b2 m.t1 m.t2 A B C s ts gs u₁)

abbrev pub project_refusal : Shape → (w : ℕ) (projections s p : List ℤ) → ℕ
project_refusal m w projections s p = first_failing (project_tests m.d m.n m.r w projections s p)

abbrev pub aggregate_refusal : Shape → (L w : ℕ) (constant_terms projections ψ ω s b'' : List ℤ) → ℕ
aggregate_refusal m L w constant_terms projections ψ ω s b'' = first_failing (aggregate_tests m.d m.n m.r L w constant_terms projections ψ ω s b'')

abbrev pub garbage_refusal : GarbageSizes → (whole constant_terms projections ψ ω α δ D s hs u₂ : List ℤ) → ℕ
garbage_refusal m whole constant_terms projections ψ ω α δ D s hs u₂ =
    first_failing
    (garbage_tests m.shape.d m.shape.n m.shape.r m.k m.l m.w m.kappa2 m.b1 m.t1 whole constant_terms projections ψ ω α δ D s hs u₂)

abbrev pub amortize_refusal_with : (tz : ℕ) → Shape → (b : ℕ) (c s zs : List ℤ) → ℕ
amortize_refusal_with tz m b c s zs = first_failing (amortize_tests m.d m.n m.r tz b c s zs)

abbrev pub amortize_refusal : Shape → ZDigits → (c s zs : List ℤ) → ℕ
amortize_refusal m z c s zs = amortize_refusal_with (count_of z) m (base_of z) c s zs

abbrev pub verify_refusal : Statement → Draws → Transcript → (o : List ℤ) → ℕ
verify_refusal 𝓢 𝓓 𝓣 o = first_failing (verify_tests 𝓢 𝓓 𝓣 o)

abbrev pub product_refusal : ℕ → (x y : List ℤ) → ℕ
product_refusal d x y = first_failing (product_tests d x y)

-- ---- a part of the next witness: its refusal, and the chunk handed back

abbrev pub part_refusal_with : (tz : ℕ) → PartSizes → (i : ℕ) → List ℤ → ℕ
part_refusal_with tz m i o = part_refusal m.shape.d m.shape.n m.shape.r m.kappa m.t1 m.t2 tz m.nu m.mu i o

abbrev pub part_refusal_of : PartSizes → (i : ℕ) → List ℤ → ℕ
part_refusal_of m i o = part_refusal_with (count_if m.one_digit) m i o

abbrev pub next_part_with : (tz : ℕ) → PartSizes → (i : ℕ) → List ℤ → List ℤ
next_part_with tz m i o = next_part m.shape.d m.shape.n m.shape.r m.kappa m.t1 m.t2 tz m.nu m.mu i o

abbrev pub next_part_of : PartSizes → (i : ℕ) → List ℤ → List ℤ
next_part_of m i o = next_part_with (count_if m.one_digit) m i o
