-- What is proved of gaps.
pub mod SameClass
pub mod RankedCut
pub mod SameGaps
pub mod NoClass
pub mod Examples
