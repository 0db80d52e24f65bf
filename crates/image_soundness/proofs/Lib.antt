-- Laws that the functions here and the crates above cite: the rule of a mark, damage, covers and sums, a sound state block by
-- block, the entries counted, windows one after the other, and that the test is soundness.
pub mod Marks
pub mod Damage
pub mod Covers
pub mod WhenSound
pub mod Counted
pub mod Rounds
pub mod Steps
pub mod Parts
pub mod Windowed
pub mod Tested
