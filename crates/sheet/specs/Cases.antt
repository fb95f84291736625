pub mod WholeSheet
