-- What the contracts of `calls` cite: the table of refusals, and what each call leaves.
pub mod Placement
pub mod Shares
pub mod Guides
pub mod Table
pub mod Lent
pub mod Views
pub mod Effects
pub mod Marks
