pub mod Flat
pub mod BoxLaws
