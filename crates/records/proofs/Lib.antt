pub mod CornerLaws
pub mod ClassLaws
pub mod RisingLaws
pub mod KindLaws
pub mod PartLaws
pub mod RecordLaws
pub mod NextLaws
