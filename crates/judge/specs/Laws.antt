pub mod StageLaws
pub mod RoomLaws
pub mod ReadLaws
pub mod PassLaws
pub mod LineLaws
