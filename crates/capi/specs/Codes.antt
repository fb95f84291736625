-- The library's answers for C, as the program prints them: kind and number; and its sizes from those that C gives.
use Rattle.std.specs.Prelude.{◌≡◌, List, Bool, true, false, ℕ, zero, suc, length, ℤ}
use Rattle.integers.specs.Over.{over}
use Rattle.fold.specs.Answers.{Answer}
use Rattle.fold.specs.declared.answers.Code.{Code}
use Rattle.fold.specs.Codes.{coded}
use Rattle.fold.specs.Answers.{kind_of, number_of, written}
use Rattle.fold.specs.declared.Shape.{Shape}
use Rattle.fold.specs.declared.CommitSizes.{CommitSizes}
use Rattle.fold.specs.declared.ConstraintSizes.{ConstraintSizes}
use Rattle.fold.specs.declared.GarbageSizes.{GarbageSizes}
use Rattle.fold.specs.declared.ZDigits.{ZDigits}
use Rattle.fold.specs.declared.ZDigits.TheVariants.{One, Two}
use Rattle.fold.specs.declared.StatementSizes.{StatementSizes}
use Rattle.fold.specs.declared.Sizes.{Sizes}
use Rattle.fold.specs.declared.PartSizes.{PartSizes}
use Rattle.bare.specs.declared.BareSizes.{BareSizes}
use Rattle.next_instance.specs.declared.part.Place.{Place}
use Rattle.sheet.specs.declared.header.SheetSizes.{SheetSizes}
use Rattle.sheet.specs.SheetAnswer.{SheetAnswer}
use Rattle.sheet.specs.Reading.{header_numbers, sizes_of, body_numbers, reading, reading_refusal, answer_of, header_of}
use Rattle.writer.specs.WriteAnswer.{WriteAnswer}
use Rattle.writer.specs.Writing.{written_text, writing_refusal, length_answer, length_of}
use Rattle.writer.specs.Writing as writing
use Rattle.lizkarg.specs.Calls.{Product}
use Rattle.capi.specs.declared.sizes.CShape.{CShape}
use Rattle.capi.specs.declared.sizes.CCommitSizes.{CCommitSizes}
use Rattle.capi.specs.declared.sizes.CGarbageSizes.{CGarbageSizes}
use Rattle.capi.specs.declared.sizes.CConstraintSizes.{CConstraintSizes}
use Rattle.capi.specs.declared.sizes.CBareSizes.{CBareSizes}
use Rattle.capi.specs.declared.sizes.CSizes.{CSizes}
use Rattle.capi.specs.declared.sizes.CPartSizes.{CPartSizes}
use Rattle.capi.specs.declared.next.CPart.{CPart}
use Rattle.capi.specs.declared.types.CAnswer.{CAnswer}
use Rattle.capi.specs.declared.types.CProduct.{CProduct}
use Rattle.capi.specs.declared.types.CHeader.{CHeader}
use Rattle.capi.specs.declared.types.CSheet.{CSheet}
use Rattle.capi.specs.declared.write.CText.{CText}

-- ---- what C is told

abbrev pub c_answer : Code → CAnswer
c_answer code = record { kind = code.kind; number = code.number }

abbrev pub code_of : Answer → CAnswer
code_of answer = c_answer (coded answer)

-- a product: its answer, and the sixty-four numbers of its element
abbrev pub product_code : Product → CProduct
product_code p = record { kind = kind_of p.answer; number = number_of p.answer; element = record { coefficients = p.element.coefficients } }

-- a header's numbers, in its order
abbrev pub header_code : SheetSizes → CHeader
header_code h =
    let s = h.sizes in
    record {
      d = s.shape.d;
      n = s.shape.n;
      r = s.shape.r;
      k = s.k;
      l = s.l;
      w = s.w;
      kappa = s.kappa;
      kappa1 = s.kappa1;
      kappa2 = s.kappa2;
      b = s.b;
      b1 = s.b1;
      b2 = s.b2;
      t1 = s.t1;
      t2 = s.t2;
      nu = h.nu;
      mu = h.mu;
      bound = s.bound;
      target = s.target;
    }

-- kind and number of the reader's answer, and its header
abbrev pub sheet_code : SheetAnswer → CSheet
sheet_code a = record { kind = kind_of (answer_of a); number = number_of (answer_of a); header = header_code (header_of a) }

-- kind and number of the writer's answer, and the text's length
abbrev pub text_code : WriteAnswer → CText
text_code a = record { kind = kind_of (writing.answer_of a); number = number_of (writing.answer_of a); length = length_of a }

-- a library call's promise on its answer, for a code
pub record Coded (promise : Answer → Type 0) (code : CAnswer) : Type 0 where
  pub answer : Answer
  pub code_is : code ≡ code_of answer
  pub promised : promise answer

-- the reader's promise: its answer as a code, and the numbers of the lent slice afterwards
pub record SheetCoded (text : List ℕ) (before : List ℤ) (code : CSheet) (after : List ℤ) : Type 0 where
  pub code_is : code ≡ sheet_code (reading (length before) text)
  pub numbers_are : after ≡ written (reading_refusal text before) (body_numbers (sizes_of (header_numbers text)) text) before

-- the writer's promise: its answer as a code, and the bytes of the lent buffer afterwards
pub record TextCoded (h : SheetSizes) (xs : List ℤ) (before : List ℕ) (code : CText) (after : List ℕ) : Type 0 where
  pub code_is : code ≡ text_code (length_answer (writing_refusal h xs before) (length (written_text h xs)))
  pub bytes_are : after ≡ written (writing_refusal h xs before) (over before 0 (written_text h xs)) before

-- ---- what C gives

abbrev pub shape_from : CShape → Shape
shape_from c = record { d = c.d; n = c.n; r = c.r }

abbrev pub commit_sizes_from : CCommitSizes → CommitSizes
commit_sizes_from c =
    record {
      shape = shape_from c.shape;
      kappa = c.kappa;
      kappa1 = c.kappa1;
      b1 = c.b1;
      b2 = c.b2;
      t1 = c.t1;
      t2 = c.t2;
    }

abbrev pub garbage_sizes_from : CGarbageSizes → GarbageSizes
garbage_sizes_from c =
    record {
      shape = shape_from c.shape;
      k = c.k;
      l = c.l;
      w = c.w;
      kappa2 = c.kappa2;
      b1 = c.b1;
      t1 = c.t1;
    }

-- the digits of z: 0 says two, to base b, and every other number one
abbrev pub z_from : (one_digit b : ℕ) → ZDigits
z_from zero b = Two b
z_from (suc k) b = One

abbrev pub sizes_from : CSizes → StatementSizes
sizes_from c =
    record {
      shape = shape_from c.shape;
      k = c.k;
      l = c.l;
      w = c.w;
      kappa = c.kappa;
      kappa1 = c.kappa1;
      kappa2 = c.kappa2;
      z = z_from c.one_digit c.b;
      b1 = c.b1;
      b2 = c.b2;
      t1 = c.t1;
      t2 = c.t2;
      bound = c.bound;
      target = c.target;
    }

-- the sizes of both kinds of constraints, and of the bare level's verifier
abbrev pub constraint_sizes_from : CConstraintSizes → ConstraintSizes
constraint_sizes_from c = record { shape = shape_from c.shape; k = c.k; l = c.l; w = c.w }

abbrev pub bare_sizes_from : CBareSizes → BareSizes
bare_sizes_from c =
    record {
      shape = shape_from c.shape;
      k = c.k;
      l = c.l;
      w = c.w;
      kappa = c.kappa;
      bound = c.bound;
      z_bound = c.z_bound;
    }

-- of a sheet, which keeps two digits
abbrev pub sheet_sizes_from : CSizes → Sizes
sheet_sizes_from c =
    record {
      shape = shape_from c.shape;
      k = c.k;
      l = c.l;
      w = c.w;
      kappa = c.kappa;
      kappa1 = c.kappa1;
      kappa2 = c.kappa2;
      b = c.b;
      b1 = c.b1;
      b2 = c.b2;
      t1 = c.t1;
      t2 = c.t2;
      bound = c.bound;
      target = c.target;
    }

abbrev pub one_from : ℕ → Bool
one_from zero = false
one_from (suc k) = true

abbrev pub part_sizes_from : CPartSizes → PartSizes
part_sizes_from c =
    record {
      shape = shape_from c.shape;
      kappa = c.kappa;
      t1 = c.t1;
      t2 = c.t2;
      nu = c.nu;
      mu = c.mu;
      one_digit = one_from c.one_digit;
    }

-- the place of a part that C is told, as the library's
abbrev pub place_from : CPart → Place
place_from c = record { start = c.start; length = c.length }
