-- What the theorems on the check cite.
pub mod Damage
pub mod Images
pub mod Sheets
