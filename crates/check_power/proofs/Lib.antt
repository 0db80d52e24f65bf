-- The modulus (Modulus), the numbers (Multiples), places at which lists differ (Apart), how the sums move (Moves), the theorems
-- (Caught), that damage leaves no blank block (Filled), and what follows for images (Refused) and for sheets (Unshown).
pub mod Modulus
pub mod Multiples
pub mod Apart
pub mod Moves
pub mod Caught
pub mod Filled
pub mod Refused
pub mod Unshown
