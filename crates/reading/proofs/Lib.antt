pub mod ClassLaws
pub mod ContentLaws
pub mod ListingLaws
pub mod WriteLaws
