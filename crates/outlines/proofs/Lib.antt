-- What is proved about outlines. The theorems of request 7/13 are in Theorems; read specs/Outline and specs/Service first. Other crates name each file as `Rattle.outlines.proofs.M`.
--
-- How it goes. Areas and crossings are sums over the edges, and such a sum is that of the triangle cut off and that of the rest (Crossing, EdgeSums, Cutting): so the areas sum, and the triangles around a point are the
-- crossings. That the rule never gets stuck is shown without Jordan's curve theorem: the crossings of the ray from a corner give it a winding number, and in a simple outline that number less "does the ray leave inside
-- the corner's cone" is the same number κ at every corner (Winding). An outline of positive area has κ = 0 (Orientation), and every step keeps the rest simple and κ as it is (Kept). With κ = 0 there are
-- two ears (Ears), so that the rule finds a corner to take (Rule) until two are left. The test of the edges finds exactly the outlines that are not simple (SimpleTest, ExactTest).

-- The tables of outlines.
pub mod Boards
-- Small facts.
pub mod Tools
-- Crossings of a ray, and sums over the edges: the areas and the crossings of a cutting.
pub mod Crossing
pub mod EdgeSums
pub mod Cutting
pub mod Winding
pub mod Kept
pub mod Ears
-- The rule, and what it cuts.
pub mod Rule
pub mod Steps
pub mod Orientation
-- The test of the edges.
pub mod SimpleTest
pub mod ExactTest
-- The statements.
pub mod Counted
pub mod Theorems
-- For code: the rule and the test by the numbers of the corners.
pub mod Places
pub mod EdgePlaces
