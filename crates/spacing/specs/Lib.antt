-- What document 02 says of gaps, as propositions, and the rules that it put an end to.
pub mod RankedCut
pub mod SameGaps
pub mod NoClass
