pub mod CopyLaws
pub mod SavingLaws
