-- The calls by the rows of the table of roles (Cases); what a show reads of blocks (Verdicts), of cards that agree (Learning)
-- and of a sheet that a closing moved (Shown, ClosedSheets); and the theorems about a carer's calls (Carers) and service's
-- (Service).
pub mod Cases
pub mod Verdicts
pub mod Learning
pub mod Carers
pub mod Shown
pub mod ClosedSheets
pub mod Service
