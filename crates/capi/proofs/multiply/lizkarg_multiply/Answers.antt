-- `capi::multiply::lizkarg_multiply` meets its contract: the library's. Assumes nothing.
use borrow.Author.Rules.{rules}
use mathlib.Core.Path.{ap, ◌∙◌}
use Rattle.capi.specs.Codes.{product_code}
use Rattle.capi.proofs.multiply.lizkarg_multiply.Goals as goal

pub returns : goal.returns
returns c = c.product_code.ensures ∙ ap product_code c.multiply-product.ensures
