-- The digits of a number tested at once (Digits), what the functions answer (Tests), digits and their bytes (Forms), the
-- laws of request (e) (Laws), and the contracts of the functions (Contracts).
pub mod Digits
pub mod Tests
pub mod Forms
pub mod Laws
pub mod Contracts
