-- Definitions
pub mod Input
pub mod Results
-- Laws
pub mod Laws
