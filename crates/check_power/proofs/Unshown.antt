-- A damaged block is neither shown nor passed by complete.
-- Assumes nothing.
use mathlib.Core.Path.{◌≡◌, ap}
use mathlib.Core.Bool.{Bool, true, false, not, ◌||◌, cond}
use mathlib.Core.List.{List, [], ◌∷◌, ◌++◌}
use Prim.Native.Nat.{ℕ}
use native.Mathlib.Omega.{arith}
use Rattle.map_blocks.proofs.Runs.{all_break}
use Rattle.catalogue_standings.specs.Rows.{Row, row, first_of, accepted, refused}
use Rattle.catalogue_standings.specs.Standings.{length_of}
use Rattle.refusals.specs.Table.{table_of, rows_for, opening, every_place}
use Rattle.refusals.specs.Table.{absent_row, paused_row, open_row, complete_row, misplaced}
use Rattle.refusals.specs.Views.{view_on}
use Rattle.refusals.specs.Effects.{show_verdict, complete_verdict}
use Rattle.card.proofs.Refusals.{show_refused, complete_refused}
use Rattle.card.specs.Calls.{Kept}
use Rattle.check_power.specs.Sheets.{viewed, block_at, ShowRefused, CompleteRefused}
use Rattle.check_power.proofs.Caught.{one_or_two_unsound}
use Rattle.check_power.proofs.Filled.{never_blank}

-- a row behind rows none of which holds
first_behind : (rows rest : List Row) (number : ℕ) (holds : Bool) → first_of rows ≡ accepted → holds ≡ true
    → first_of (rows ++ (row number holds ∷ rest)) ≡ refused number
unfolding first_of
first_behind [] rest number holds e h = ap (λ (b : Bool). cond b (refused number) (first_of rest)) h
first_behind (r ∷ rows) rest number holds e h = by r.holds e (λ k. first_behind rows rest number holds k h)
  where
    by : (b : Bool) → cond b (refused r.number) (first_of rows) ≡ accepted
        → (first_of rows ≡ accepted → first_of (rows ++ (row number holds ∷ rest)) ≡ refused number)
        → cond b (refused r.number) (first_of (rows ++ (row number holds ∷ rest))) ≡ refused number
    by true e next = absurd (let z : ◌≡◌ {A = ℕ} 0 1 = cc in omega arith)
    by false e next = next e

module _ (turned : Bool) (s : Kept) (sheet : ℕ) where
  pub show_damaged : ShowRefused turned s sheet
  unfolding show_verdict table_of rows_for viewed view_on
  show_damaged t p payload place buffer d before =
      let v = viewed turned s sheet in
      let unsound : v.sound place ≡ false =
      one_or_two_unsound t p payload (block_at turned s sheet place) d sheet place in
      show_refused turned s sheet 4 place buffer
      (first_behind
      (opening v sheet (absent_row v ∷ paused_row v ∷ open_row v ∷ row 3 (misplaced v place buffer) ∷ []))
      [] 4 (not (v.sound place)) before (ap not unsound))

  pub complete_damaged : CompleteRefused turned s sheet
  unfolding complete_verdict table_of rows_for viewed view_on
  complete_damaged t p payload place d inside before =
      let v = viewed turned s sheet in
      let unsound : v.sound place ≡ false =
      one_or_two_unsound t p payload (block_at turned s sheet place) d sheet place in
      let full : v.blank place ≡ false = never_blank t p payload (block_at turned s sheet place) d in
      let neither : v.blank place || v.sound place ≡ false = rw (full, unsound) in
      let some : every_place v (λ q. v.blank q || v.sound q) ≡ false =
      all_break (λ q. v.blank q || v.sound q) 0 (length_of v.stands) place (omega arith) (omega arith) neither in
      complete_refused turned s sheet 4
      (first_behind (opening v sheet (absent_row v ∷ paused_row v ∷ complete_row v ∷ []))
      (row 9 (not (every_place v (λ q. not (v.blank q)))) ∷ [])
      4 (not (every_place v (λ q. v.blank q || v.sound q))) before (ap not some))
