-- The calls, one by one: what each comes to is proved in its own file.
-- Assumes nothing.
pub mod Accept
pub mod Change
pub mod Close
pub mod Complete
pub mod Grow
pub mod Offer
pub mod Put
pub mod Release
pub mod Reserve
pub mod Show
pub mod ShowDated
pub mod Standing
use Prim.Native.Nat.{ℕ}
use mathlib.Core.List.{List}
use Rattle.refusals.specs.Table.{reserve, put, grow, complete, change, release, show, standing, offer, accept}
use Rattle.ledger.specs.Calls.{Call, on, close}
use Rattle.refusals.specs.Table.{show_dated}
use Rattle.ledger.specs.Ledger.{Sheet, verdict_in}
use Rattle.ledger.proofs.Agreement.{Matches}
use Rattle.ledger.proofs.Results.{Result}
use Accept.{accept_result}
use Change.{change_result}
use Close.{close_result}
use Complete.{complete_result}
use Grow.{grow_result}
use Offer.{offer_result}
use Put.{put_result}
use Release.{release_result}
use Reserve.{reserve_result}
use Show.{show_result}
use ShowDated.{show_dated_result}
use Standing.{standing_result}

pub result : (n : ℕ) (l : List Sheet) (card : List ℕ) → Matches n l card → (c : Call) → Result n l card c (verdict_in n l c)
result n l card k (on role i (reserve limits m placement)) = reserve_result n l card k role i limits m placement
result n l card k (on role i (offer limits m)) = offer_result n l card k role i limits m
result n l card k (on role i (accept limits start m)) = accept_result n l card k role i limits start m
result n l card k (on role i (put p payload)) = put_result n l card k role i p payload
result n l card k (on role i (grow limits m)) = grow_result n l card k role i limits m
result n l card k (on role i complete) = complete_result n l card k role i
result n l card k (on role i (change c)) = change_result n l card k role i c
result n l card k (on role i release) = release_result n l card k role i
result n l card k (on role i (show p buffer)) = show_result n l card k role i p buffer
result n l card k (on role i (show_dated p date buffer)) = show_dated_result n l card k role i p date buffer
result n l card k (on role i standing) = standing_result n l card k role i
result n l card k (close role) = close_result n l card k role
