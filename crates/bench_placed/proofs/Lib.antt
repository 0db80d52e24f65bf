-- The limits of the figures, and what is answered within and outside them (Figures); the contract of the function (Contracts).
pub mod Figures
pub mod Contracts
