-- The calls that the ledger is fed (document 01, "The ledger, call by call"; closing of document 02 (l)), each with the role of
-- who makes it, which may be any number (document 02 (n)).
-- Assumes nothing.
use Rattle.std.specs.Prelude.{ℕ, Bool}
use Rattle.roles.specs.Roles.{turned_away}
use Rattle.refusals.specs.Table.{Ask}
use Rattle.card.specs.Public.{kind_on}

-- Something is asked of a sheet; or the gaps are closed (document 02 (l)).
pub data Call : Type 0 where
  on : ℕ → ℕ → Ask → Call
  close : ℕ → Call

-- The sheet that a call is for. Closing is for none: of it, which no row of a list but 21 refuses, nothing is read by this
-- number.
abbrev pub sheet_of : Call → ℕ
sheet_of (on role sheet ask) = sheet
sheet_of (close role) = 0

abbrev pub turned_in : ℕ → Ask → Bool
turned_in role ask = turned_away role (kind_on ask).name
