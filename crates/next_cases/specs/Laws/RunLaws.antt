-- From what a call promises over the lists that it was handed to what is promised over the numbers of the case: each list is moved along the
-- equation that says which numbers it is.
use Rattle.std.specs.Prelude.{◌≡◌, refl, List, map, ℕ, zero, suc, ◌-◌, ◌≤◌, ℤ, pos, length, take, drop, replicate}
use Rattle.std.proofs.Common.{sym, ap, ◌∙◌, arith, length-drop}
use Rattle.std.proofs.lemmas.List.{length-replicate}
use Rattle.integers.specs.Over.{over}
use Rattle.capi.specs.declared.sizes.CSizes.{CSizes}
use Rattle.fold.specs.Arguments.{statement_of, draws_of, transcript_of, commit_sizes_of, garbage_sizes_of}
use Rattle.fold.specs.Verification.{verification}
use Rattle.lizkarg.specs.Calls.{Committed, Projected, Aggregated, GarbageCommitted, Amortized}
use Rattle.capi.specs.declared.sizes.CPartSizes.{CPartSizes}
use Rattle.fold.specs.Arguments.{part_refusal_of}
use Rattle.next_instance.specs.Calls.{NextCalled}
use Rattle.capi.specs.declared.types.CAnswer.{CAnswer}
use Rattle.capi.specs.Codes.{Coded, code_of, shape_from, z_from, sizes_from, part_sizes_from}
use Rattle.cases.specs.Numbers.{padded, word, size_at, size_of, two_digits, one_digit}
use Rattle.cases.specs.Lists.{first_width, past_list, past_lists, nth_list}
use Rattle.cases.specs.Text.{line_numbers}
use Rattle.cases.specs.Input.{wide_size}
use Rattle.next_cases.specs.Input.{sizes_of, part_sizes_of}
use Rattle.next_cases.specs.Messages.{filled, message_of, opening_of, kept}
use Rattle.next_cases.specs.Laws.MessageLaws.{front-filled, length-filled, blank-is}
use Rattle.next_cases.specs.Witness.{next_witness, product_of, width_for, count_for, witness_of}
use Rattle.next_cases.specs.Laws.WitnessLaws.{fitting-inside}
use Rattle.next_cases.specs.Runs.{NextOfLists, InstanceRun, Committing, Projecting, Aggregating, GarbageCommitting, Amortizing}
use Rattle.next_cases.specs.Runs.{verdict_of, Folded, NextOfFold, FirstRun, SecondRun, lengths_in, second_in, second_sizes, TwiceRun}
use Rattle.next_cases.specs.Runs.{case_sizes, CaseRun, LineRun}

-- an array to write, up to n
abbrev front : ℕ → List ℤ
front n = take n (replicate 32768 (pos 77))

-- ---- kind 1

module _ (sizes : CSizes) {ν μ : ℕ} {code : CAnswer} {out' : List ℤ} where
  pub next_of_lists : (lists : List ℤ) {out A B C D whole constant_terms u₁ projections p ψ ω b'' α δ u₂ c : List ℤ}
      → A ≡ nth_list 0 lists → B ≡ nth_list 1 lists → C ≡ nth_list 2 lists → D ≡ nth_list 3 lists
      → whole ≡ nth_list 4 lists → constant_terms ≡ nth_list 5 lists → u₁ ≡ nth_list 6 lists → projections ≡ nth_list 7 lists
      → p ≡ nth_list 8 lists → ψ ≡ nth_list 9 lists → ω ≡ nth_list 10 lists → b'' ≡ nth_list 11 lists
      → α ≡ nth_list 12 lists → δ ≡ nth_list 13 lists → u₂ ≡ nth_list 14 lists → c ≡ nth_list 15 lists
      → Coded
      (λ answer. NextCalled (statement_of (sizes_from sizes) A B C D whole constant_terms) (draws_of projections ψ ω α δ c) (transcript_of u₁ p b'' u₂) ν μ out answer out') code
      → NextOfLists sizes ν μ lists out code out'
  next_of_lists lists {out = out} A B C D whole constant_terms u₁ projections p ψ ω b'' α δ u₂ c called =
      coe 0 1
      (i. Coded
      (λ answer. NextCalled (statement_of (sizes_from sizes) (A i) (B i) (C i) (D i) (whole i) (constant_terms i)) (draws_of (projections i) (ψ i) (ω i) (α i) (δ i) (c i))
      (transcript_of (u₁ i) (p i) (b'' i) (u₂ i)) ν μ out answer out')
      code)
      called

  pub instance_run : {xs lists rest : List ℤ} {n : ℕ} → lists ≡ drop 19 xs → rest ≡ past_lists 16 lists → n ≡ size_at 32768 rest 0
      → NextOfLists sizes ν μ lists (front n) code out' → InstanceRun sizes ν μ xs code
  instance_run {xs} {lists} {rest} {n} e f count called =
      let blank : front n ≡ filled (size_at 32768 rest 0) = blank-is 32768 rest 0 count in
      let out : front n ≡ filled (size_at 32768 (past_lists 16 (drop 19 xs)) 0) =
      blank ∙ ap (λ (l : List ℤ). filled (size_at 32768 l 0)) (f ∙ ap (λ (l : List ℤ). past_lists 16 l) e) in
      record { out' = out'; called = coe 0 1 (i. NextOfLists sizes ν μ (e i) (out i) code out') called }

-- ---- a fold

module _ {sizes : CSizes} {s lengths m : List ℤ} {code : CAnswer} {m' : List ℤ} where
  pub committing : {lists A B C t' g' u' : List ℤ} {k l n : ℕ}
      → A ≡ nth_list 0 lists → B ≡ nth_list 1 lists → C ≡ nth_list 2 lists
      → k ≡ size_at 32768 lengths 1 → l ≡ size_at 32768 lengths 2 → n ≡ size_at 32768 lengths 4
      → Coded (λ answer. Committed (commit_sizes_of (sizes_from sizes)) A B C s (front k) (front l) (front n) answer t' g' u') code
      → m' ≡ kept (kept (kept m lengths 1 t') lengths 2 g') lengths 4 u' → Committing sizes lists s lengths m code m'
  committing {t' = t'} {g' = g'} {u' = u'} A B C k l n called keeps =
      let t = blank-is 32768 lengths 1 k in
      let g = blank-is 32768 lengths 2 l in
      let u = blank-is 32768 lengths 4 n in
      record {
        t' = t';
        g' = g';
        u' = u';
        called = coe 0 1 (i. Coded (λ answer. Committed (commit_sizes_of (sizes_from sizes)) (A i) (B i) (C i) s (t i) (g i) (u i) answer t' g' u') code) called;
        keeps = keeps;
      }

  pub projecting : {lists projections p' : List ℤ} {n : ℕ} → projections ≡ nth_list 6 lists → n ≡ size_at 32768 lengths 5
      → Coded (λ answer. Projected (shape_from sizes.shape) sizes.w projections s (front n) answer p') code → m' ≡ kept m lengths 5 p'
      → Projecting sizes lists s lengths m code m'
  projecting {p' = p'} projections n called keeps =
      let p = blank-is 32768 lengths 5 n in
      record {
        p' = p';
        called = coe 0 1 (i. Coded (λ answer. Projected (shape_from sizes.shape) sizes.w (projections i) s (p i) answer p') code) called;
        keeps = keeps;
      }

  pub aggregating : {lists constant_terms projections ψ ω b' : List ℤ} {n : ℕ}
      → constant_terms ≡ nth_list 5 lists → projections ≡ nth_list 6 lists → ψ ≡ nth_list 7 lists → ω ≡ nth_list 8 lists
      → n ≡ size_at 32768 lengths 6
      → Coded (λ answer. Aggregated (shape_from sizes.shape) sizes.l sizes.w constant_terms projections ψ ω s (front n) answer b') code → m' ≡ kept m lengths 6 b'
      → Aggregating sizes lists s lengths m code m'
  aggregating {b' = b'} constant_terms projections ψ ω n called keeps =
      let b = blank-is 32768 lengths 6 n in
      record {
        b' = b';
        called =
            coe 0 1
            (i. Coded (λ answer. Aggregated (shape_from sizes.shape) sizes.l sizes.w (constant_terms i) (projections i) (ψ i) (ω i) s (b i) answer b') code)
            called;
        keeps = keeps;
      }

  pub garbage-committing : {lists whole constant_terms projections ψ ω α δ D h' u' : List ℤ} {k n : ℕ}
      → constant_terms ≡ nth_list 5 lists → projections ≡ nth_list 6 lists → ψ ≡ nth_list 7 lists
      → ω ≡ nth_list 8 lists → α ≡ nth_list 9 lists → δ ≡ nth_list 10 lists → D ≡ nth_list 3 lists
      → k ≡ size_at 32768 lengths 3 → n ≡ size_at 32768 lengths 7
      → Coded (λ answer. GarbageCommitted (garbage_sizes_of (sizes_from sizes)) whole constant_terms projections ψ ω α δ D s (front k) (front n) answer h' u') code
      → m' ≡ kept (kept m lengths 3 h') lengths 7 u' → GarbageCommitting sizes lists whole s lengths m code m'
  garbage-committing {whole = whole} {h' = h'} {u' = u'} constant_terms projections ψ ω α δ D k n called keeps =
      let h = blank-is 32768 lengths 3 k in
      let u = blank-is 32768 lengths 7 n in
      record {
        h' = h';
        u' = u';
        called =
            coe 0 1
            (i. Coded
            (λ answer. GarbageCommitted (garbage_sizes_of (sizes_from sizes)) whole (constant_terms i) (projections i) (ψ i) (ω i) (α i) (δ i) (D i) s (h i) (u i) answer h' u')
            code)
            called;
        keeps = keeps;
      }

  pub amortizing : {lists c z' : List ℤ} {n : ℕ} → c ≡ nth_list 11 lists
      → n ≡ size_at 32768 lengths 0 → Coded (λ answer. Amortized (shape_from sizes.shape) (z_from sizes.one_digit sizes.b) c s (front n) answer z') code
      → m' ≡ kept m lengths 0 z' → Amortizing sizes lists s lengths m code m'
  amortizing {z' = z'} c n called keeps =
      let z = blank-is 32768 lengths 0 n in
      record {
        z' = z';
        called = coe 0 1 (i. Coded (λ answer. Amortized (shape_from sizes.shape) (z_from sizes.one_digit sizes.b) (c i) s (z i) answer z') code) called;
        keeps = keeps;
      }

-- what the verifier and the next instance are given after a fold
module _ (sizes : CSizes) (lists whole lengths m : List ℤ) {A B C D constant_terms u₁ projections p ψ ω b'' α δ u₂ c : List ℤ}
    (A-is : A ≡ nth_list 0 lists) (B-is : B ≡ nth_list 1 lists) (C-is : C ≡ nth_list 2 lists) (D-is : D ≡ nth_list 3 lists)
    (constant_terms-is : constant_terms ≡ nth_list 5 lists) (u₁-is : u₁ ≡ message_of m lengths 4) (projections-is : projections ≡ nth_list 6 lists)
    (p-is : p ≡ message_of m lengths 5) (ψ-is : ψ ≡ nth_list 7 lists) (ω-is : ω ≡ nth_list 8 lists) (b''-is : b'' ≡ message_of m lengths 6)
    (α-is : α ≡ nth_list 9 lists) (δ-is : δ ≡ nth_list 10 lists) (u₂-is : u₂ ≡ message_of m lengths 7) (c-is : c ≡ nth_list 11 lists) where
  pub verdict_of_lem : {opening : List ℤ} {code : CAnswer} → opening ≡ opening_of m lengths
      → code
      ≡ code_of (verification (statement_of (sizes_from sizes) A B C D whole constant_terms) (draws_of projections ψ ω α δ c) (transcript_of u₁ p b'' u₂) opening)
      → code ≡ verdict_of sizes lists whole lengths m
  verdict_of_lem opening-is e =
      e
      ∙ (λ i. code_of
      (verification (statement_of (sizes_from sizes) (A-is i) (B-is i) (C-is i) (D-is i) whole (constant_terms-is i))
      (draws_of (projections-is i) (ψ-is i) (ω-is i) (α-is i) (δ-is i) (c-is i)) (transcript_of (u₁-is i) (p-is i) (b''-is i) (u₂-is i)) (opening-is i)))

  pub next_of_fold : {ν μ : ℕ} {out out' : List ℤ} {code : CAnswer}
      → Coded
      (λ answer. NextCalled (statement_of (sizes_from sizes) A B C D whole constant_terms) (draws_of projections ψ ω α δ c) (transcript_of u₁ p b'' u₂) ν μ out answer out') code
      → NextOfFold sizes ν μ lists whole lengths m out code out'
  next_of_fold {ν} {μ} {out} {out'} {code} called =
      coe 0 1
      (i. Coded
      (λ answer. NextCalled (statement_of (sizes_from sizes) (A-is i) (B-is i) (C-is i) (D-is i) whole (constant_terms-is i))
      (draws_of (projections-is i) (ψ-is i) (ω-is i) (α-is i) (δ-is i) (c-is i)) (transcript_of (u₁-is i) (p-is i) (b''-is i) (u₂-is i)) ν μ out answer out')
      code)
      called

-- ---- kind 3

pub first_run : {sizes : CSizes} {ν μ : ℕ} {lists lengths m m' out out' whole s : List ℤ} {verdict code : CAnswer}
    → whole ≡ nth_list 4 lists → s ≡ nth_list 12 lists → Folded sizes lists whole s lengths m verdict m'
    → NextOfFold sizes ν μ lists whole lengths m' out code out' → FirstRun sizes ν μ lists lengths m m' out out'
first_run {sizes} {ν} {μ} {lists} {lengths} {m} {m'} {out} {out'} {verdict = verdict} {code = code} whole s folded called =
    record {
      verdict = verdict;
      folded = coe 0 1 (i. Folded sizes lists (whole i) (s i) lengths m verdict m') folded;
      code = code;
      called = coe 0 1 (i. NextOfFold sizes ν μ lists (whole i) lengths m' out code out') called;
    }

-- an array that is filled whole
all-filled : replicate 32768 (pos 77) ≡ filled 32768
unfolding filled
all-filled = refl

pub second_run : {sizes : CSizes} {whole s lists lengths m' : List ℤ} {verdict : CAnswer} → lengths ≡ past_lists 13 lists
    → Folded sizes lists whole s lengths (replicate 32768 (pos 77)) verdict m' → SecondRun sizes whole s lists verdict
second_run {sizes} {whole} {s} {lists} {m' = m'} {verdict = verdict} lengths folded =
    record { m' = m'; folded = coe 0 1 (i. Folded sizes lists whole s (lengths i) (all-filled i) verdict m') folded }

-- the witness as it is written
pub witness-is : (m : CPartSizes) (second : CSizes) (o : List ℤ) {s : List ℤ} {width all count : ℕ} → width ≡ width_for second
    → all ≡ product_of second.shape.r width → count ≡ size_of 32768 (pos all)
    → s ≡ over (front count) 0 (take (length (front count)) (next_witness m second.shape.r width o)) → s ≡ witness_of m second o
unfolding witness_of
witness-is m second o {s} {width} {all} {count} width_is all-is count-is e =
    let number : count ≡ count_for second =
    count-is ∙ ap (λ (k : ℕ). size_of 32768 (pos k)) (all-is ∙ ap (λ (k : ℕ). product_of second.shape.r k) width_is) in
    let small : count ≤ 32768 = fitting-inside 32768 all count-is in
    let blank : front count ≡ filled (count_for second) = front-filled 32768 count small ∙ ap filled number in
    let long : length (front count) ≡ count_for second = ap (λ (l : List ℤ). length l) blank ∙ length-filled (count_for second) in
    e ∙ (λ i. over (blank i) 0 (take (long i) (next_witness m second.shape.r (width_is i) o)))

pub second_of : {sizes : CSizes} {whole s s₂ lists : List ℤ} {verdict : CAnswer} → s ≡ s₂ → SecondRun sizes whole s lists verdict
    → SecondRun sizes whole s₂ lists verdict
second_of {sizes} {whole} {lists = lists} {verdict = verdict} e ran = coe 0 1 (i. SecondRun sizes whole (e i) lists verdict) ran

past-short : (n : ℕ) (xs : List ℤ) → length (past_lists n xs) ≤ length xs
unfolding past_lists past_list
past-short zero xs = omega arith
past-short (suc n) xs = omega (arith, past-short n xs, length-drop (first_width (past_lists n xs)) (past_lists n xs))

module _ (xs : List ℤ) {lists lengths second : List ℤ} (lists-is : lists ≡ drop 19 xs) (lengths-is : lengths ≡ past_lists 13 lists)
    (second_is : second ≡ drop 9 lengths) where
  lengths_in_lem : lengths ≡ lengths_in xs
  lengths_in_lem = lengths-is ∙ ap (λ (l : List ℤ). past_lists 13 l) lists-is

  second_in_lem : second ≡ second_in xs
  second_in_lem = second_is ∙ ap (λ (l : List ℤ). drop 9 l) lengths_in_lem

  pub second-inside : length second ≤ length xs
  second-inside =
      omega (
        arith,
        ap (λ (l : List ℤ). length l) second_in_lem,
        length-drop 9 (lengths_in xs),
        past-short 13 (drop 19 xs),
        length-drop 19 xs,
      )

  pub twice_run : {sizes its : CSizes} {parts : CPartSizes} {ν μ n : ℕ} {wides ws m' whole opening rest : List ℤ} {verdict : CAnswer}
      → n ≡ size_at 32768 lengths 8 → ws ≡ drop (length xs - length second) wides → its ≡ sizes_of ws 0 → parts ≡ part_sizes_of sizes ν μ
      → opening ≡ opening_of m' lengths → rest ≡ drop 18 second
      → FirstRun sizes ν μ lists lengths (replicate 32768 (pos 77)) m' (front n) whole
      → SecondRun its whole (witness_of parts its opening) rest verdict → TwiceRun sizes ν μ wides xs verdict
  twice_run {sizes} {its} {ν = ν} {μ = μ} {n = n} {wides = wides} {ws = ws} {m' = m'} {whole = whole} {opening = opening} {rest = rest}
      {verdict = verdict} n-is ws-is its-is parts opening-is rest-is first second' =
      let wide : ws ≡ drop (length xs - length (second_in xs)) wides =
      ws-is ∙ ap (λ (l : List ℤ). drop (length xs - length l) wides) second_in_lem in
      let sized : its ≡ second_sizes wides xs = its-is ∙ ap (λ (l : List ℤ). sizes_of l 0) wide in
      let out : front n ≡ filled (size_at 32768 (lengths_in xs) 8) =
      blank-is 32768 lengths 8 n-is ∙ ap (λ (l : List ℤ). filled (size_at 32768 l 8)) lengths_in_lem in
      let found : opening ≡ opening_of m' (lengths_in xs) = opening-is ∙ ap (λ (l : List ℤ). opening_of m' l) lengths_in_lem in
      let after : rest ≡ drop 18 (second_in xs) = rest-is ∙ ap (λ (l : List ℤ). drop 18 l) second_in_lem in
      record {
        m' = m';
        whole = whole;
        first = coe 0 1 (i. FirstRun sizes ν μ (lists-is i) (lengths_in_lem i) (all-filled i) m' (out i) whole) first;
        second = coe 0 1 (i. SecondRun (sized i) whole (witness_of (parts i) (sized i) (found i)) (after i) verdict) second';
      }

-- ---- a case

pub part-number : (sizes : CSizes) (ν μ n : ℕ) (xs : List ℤ) {parts : CPartSizes} {r : ℕ} {rest opening : List ℤ} → parts ≡ part_sizes_of sizes ν μ
    → rest ≡ drop 20 xs → opening ≡ nth_list 0 rest → r ≡ part_refusal_of (part_sizes_from parts) n opening
    → r ≡ part_refusal_of (part_sizes_from (part_sizes_of sizes ν μ)) n (nth_list 0 (drop 20 xs))
part-number sizes ν μ n xs {opening = opening} parts rest opening-is e =
    let found : opening ≡ nth_list 0 (drop 20 xs) = opening-is ∙ ap (λ (l : List ℤ). nth_list 0 l) rest in
    e ∙ (λ i. part_refusal_of (part_sizes_from (parts i)) n (found i))

sized : (wides : List ℤ) (one : ℕ) {ws : List ℤ} {its : CSizes} → ws ≡ drop 1 wides → its ≡ sizes_of ws one → its ≡ case_sizes wides one
sized wides one ws-is its-is = its-is ∙ ap (λ (l : List ℤ). sizes_of l one) ws-is

module _ (wides : List ℤ) (one : ℕ) {xs ws : List ℤ} {its : CSizes} {ν μ kind : ℕ} (ws-is : ws ≡ drop 1 wides) (its-is : its ≡ sizes_of ws one)
    (ν-is : ν ≡ wide_size wides 15) (μ-is : μ ≡ wide_size wides 16) where
  pub case-instance : {code : CAnswer} → kind ≡ 1 → InstanceRun its ν μ xs code → CaseRun wides xs kind one code.number
  case-instance {code} e ran =
      record {
        instance = λ _. record {
          code = code;
          ran = coe 0 1 (i. InstanceRun (sized wides one ws-is its-is i) (ν-is i) (μ-is i) xs code) ran;
          number_is = refl;
        };
        part = λ f. let no : ⊥ = omega arith in absurd no;
        twice = λ f. let no : ⊥ = omega arith in absurd no;
      }

  pub case-part : {n r : ℕ} → kind ≡ 2 → n ≡ wide_size wides 19 → r ≡ part_refusal_of (part_sizes_from (part_sizes_of its ν μ)) n (nth_list 0 (drop 20 xs))
      → CaseRun wides xs kind one r
  case-part e n-is r-is =
      record {
        instance = λ f. let no : ⊥ = omega arith in absurd no;
        part = λ _. r-is ∙ (λ i. part_refusal_of (part_sizes_from (part_sizes_of (sized wides one ws-is its-is i) (ν-is i) (μ-is i))) (n-is i) (nth_list 0 (drop 20 xs)));
        twice = λ f. let no : ⊥ = omega arith in absurd no;
      }

  pub case_twice : {code : CAnswer} → kind ≡ 3 → TwiceRun its ν μ wides xs code → CaseRun wides xs kind one code.number
  case_twice {code} e ran =
      record {
        instance = λ f. let no : ⊥ = omega arith in absurd no;
        part = λ f. let no : ⊥ = omega arith in absurd no;
        twice = λ _. record {
          code = code;
          ran = coe 0 1 (i. TwiceRun (sized wides one ws-is its-is i) (ν-is i) (μ-is i) wides xs code) ran;
          number_is = refl;
        };
      }

pub case-none : {wides xs : List ℤ} {kind one : ℕ} → (kind ≡ 1 → ⊥) → (kind ≡ 2 → ⊥) → (kind ≡ 3 → ⊥) → CaseRun wides xs kind one 0
case-none first two three = record { instance = λ f. absurd (first f); part = λ f. absurd (two f); twice = λ f. absurd (three f) }

-- ---- a line

pub zeros_are : (n : ℕ) → replicate n (pos 0) ≡ replicate (length (replicate n (pos 0))) (pos 0)
zeros_are n = ap (λ (k : ℕ). replicate k (pos 0)) (sym (length-replicate n (pos 0)))

pub line_run : (line : List ℕ) {wides xs : List ℤ} {number kind one r : ℕ} → wides ≡ padded 4096 (line_numbers line) → xs ≡ map word wides
    → number ≡ size_at 6 xs 0 → kind ≡ two_digits 3 3 number → one ≡ one_digit 3 number → CaseRun wides xs kind one r → LineRun line r
line_run line {wides} {xs} {number} {kind} {one} {r} wides-is xs-is number_is kind-is one-is ran =
    let words : xs ≡ map word (padded 4096 (line_numbers line)) = xs-is ∙ ap (λ (l : List ℤ). map word l) wides-is in
    let found : number ≡ size_at 6 (map word (padded 4096 (line_numbers line))) 0 = number_is ∙ ap (λ (l : List ℤ). size_at 6 l 0) words in
    let its-kind = kind-is ∙ ap (two_digits 3 3) found in
    let its-one = one-is ∙ ap (one_digit 3) found in
    coe 0 1 (i. CaseRun (wides-is i) (words i) (its-kind i) (its-one i) r) ran
