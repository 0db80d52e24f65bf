-- Dates and months (Dates), the formulas of the code (Formulas), the laws of day numbers (Laws), of the two ways between dates
-- and numbers (Inverse) and of a term (Terms), and the contracts of the functions (Contracts).
pub mod Dates
pub mod Formulas
pub mod Inverse
pub mod Laws
pub mod Terms
pub mod Contracts
