-- The corner that goes, the rest, the triangles and the answer of the cut service.
pub mod ChoiceLaws
pub mod RestLaws
pub mod TriangleLaws
pub mod ServiceLaws
