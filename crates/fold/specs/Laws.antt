pub mod ChunkLaws
pub mod RefusalLaws
pub mod ResultLaws
pub mod SizeBounds
pub mod TestLaws
