-- The winding number of a corner: how often, by sign, the ray from it crosses the outline. It less the corner's cone is the same number κ at every corner of a simple outline, and a diagonal
-- splits it. (That κ is never positive is shown in Ears.Top.)
pub mod Cone
pub mod Telescope
pub mod CornerRule
pub mod Turning
pub mod LargestX
pub mod Kappa
