pub mod TimesXLaws
pub mod Convolution
pub mod ConjugationLaws
pub mod ConjugationProduct
pub mod MixedLaws
pub mod FoldLaws
