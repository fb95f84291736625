-- `lizkarg::multiply` meets its contract: refused by a number, or the product. Assumes nothing.
use Rattle.std.proofs.Common.{refl}
use Rattle.refusals.specs.Laws.ProductLaws.{product-degree}
use Rattle.fold.specs.Laws.ResultLaws.{row_nonzero}
use Rattle.lizkarg.specs.Laws.CallLaws.{refused_product, product-refused, product-written}
use Rattle.lizkarg.proofs.multiply.Goals as goal

pub returns-in_err-product_refusal : goal.returns-in_err-product_refusal
returns-in_err-product_refusal c =
    rw (refused_product _ _ c.from_residual.ensures.1)
    (product-refused _ _ _ c.in_err-product_refusal.ensures (row_nonzero _))

pub product-requires : goal.product-requires
product-requires c = product-degree _ _ _ c.in_ok-product_refusal.ensures refl

pub returns : goal.returns
returns c = product-written _ _ _ c.in_ok-product_refusal.ensures refl c.product.ensures
