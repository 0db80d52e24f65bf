-- The laws that the claims are proved by: of the ledger alone (Cover, Rows, Sheets, Listed, Search), of the state that it
-- calls for (Agreement, Marks, Keeping, SameBlocks, Soundness, Closed), and of the calls on that state by the map (Plain what
-- they are, Results what they share, Taking what reserve and accept do, Marking what pause and resume do, Showing what show
-- and the dated show do, step each by itself). Of a summary beside the map: GuidedEnds and GuidedClosings what a guided call
-- comes to, AnySummary with any summary, OwnSummary with the map's own. Feeding holds every list of public calls to the calls
-- that the ledger is fed. Demand has the theorems about every list, Fresh where a list starts, BlankPlaces which place the
-- ledger answers with 9, WholeCard what search and survey answer, Savable that every state that a list leaves can be saved,
-- Pauses that a sheet paused and resumed shows what it showed, Terms when a dated show shows, Shares and WideLimits the
-- wings' limits, Closings what a reserve is answered after a closing.
pub mod Agreement
pub mod AnySummary
pub mod BlankPlaces
pub mod Closed
pub mod Closings
pub mod Cover
pub mod Demand
pub mod Feeding
pub mod Fresh
pub mod GuidedClosings
pub mod GuidedEnds
pub mod Keeping
pub mod Listed
pub mod Marking
pub mod Marks
pub mod Never
pub mod OwnSummary
pub mod Pauses
pub mod Plain
pub mod Results
pub mod Rows
pub mod SameBlocks
pub mod Savable
pub mod Search
pub mod Shares
pub mod Sheets
pub mod Showing
pub mod Soundness
pub mod Taking
pub mod Terms
pub mod WholeCard
pub mod WideLimits
pub mod Wings
pub mod step
