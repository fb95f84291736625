pub mod Order
pub mod Instance
pub mod CallLaws
pub mod PartLaws
