-- How closing goes: round by round the extent that starts next moves to the end of those that have moved. `rounds_close`
-- (proofs/Closing.antt) says that as many rounds as there are entries make the closed card of a sound state.
-- Assumes nothing.
use Rattle.std.specs.Prelude.{ℕ, zero, suc, ◌+◌, ◌*◌, ◌%◌, Bool, cond, ◌&&◌, List, [], ◌∷◌, length}
use Rattle.std.specs.Prelude.{nat_le, nat_lt, slice_set, slice_index_or, Option, Some, None}
use Rattle.catalogue.specs.Entries.{zeros}
use Rattle.catalogue.specs.declared.Entry.{Entry}
use Rattle.closing_moves.specs.Moved.{moved}

-- ---- which extent moves next

-- What is found so far: a sheet, and its entry.
abbrev pub Nearest : Type 0
Nearest = Option (ℕ × Entry)

-- It starts behind an entry, or nothing is found yet. An entry that starts at block 4294967295, which no card has, is never
-- found.
abbrev pub starts_behind : Nearest → Entry → Bool
starts_behind None e = nat_lt e.start 4294967295
starts_behind (Some p) e = nat_lt e.start p.1.start

-- The entry has an extent that starts at or after the end of those that have moved, and before the one found so far.
unfoldable pub is_nearer : ℕ → Nearest → Entry → Bool
is_nearer at t e = nat_le 1 e.length && nat_le at e.start && starts_behind t e

-- What is found after one entry, and after all of them, of which the first is number `sheet`.
unfoldable pub nearer_of : ℕ → ℕ → Nearest → Entry → Nearest
unfolding is_nearer
nearer_of at sheet t e = cond (is_nearer at t e) (Some (sheet, e)) t

unfoldable pub nearest_from : ℕ → ℕ → List Entry → Nearest → Nearest
unfolding nearer_of
nearest_from at sheet [] t = t
nearest_from at sheet (e ∷ es) t = nearest_from at (suc sheet) es (nearer_of at sheet t e)

abbrev pub nearest_of : List Entry → ℕ → Nearest
nearest_of es at = nearest_from at 0 es None

-- A sheet that is found, with its entry.
abbrev pub found_of : List Entry → Option ℕ → Nearest
found_of es None = None
found_of es (Some sheet) = Some (sheet, slice_index_or es sheet zeros)

-- ---- what its move does

-- Its blocks move down. Where they are not inside the card, or would move up, nothing moves.
unfoldable pub moved_extent : List ℕ → ℕ → Entry → List ℕ
unfolding moved
moved_extent card at e =
    cond (nat_le at e.start && nat_le (512 * (e.start + e.length)) (length card)) (moved card at e.start e.length) card

unfoldable pub moved_card : List ℕ → ℕ → Nearest → List ℕ
unfolding moved_extent
moved_card card at None = card
moved_card card at (Some p) = moved_extent card at p.1

-- Its entry gets its new start.
abbrev pub restarted : ℕ → Entry → Entry
restarted at e = record { mark = e.mark; start = at; length = e.length }

unfoldable pub moved_entries : List Entry → ℕ → Nearest → List Entry
moved_entries es at None = es
moved_entries es at (Some p) = slice_set es p.0 (restarted at p.1)

-- Where those that have moved end then.
unfoldable pub at_after : ℕ → Nearest → ℕ
at_after at None = at
at_after at (Some p) = (at + p.1.length) % 4294967296

-- ---- a round, and many of them: where those that have moved end, the entries, and the card

module _ (es : List Entry) (card : List ℕ) (at : ℕ) where
  abbrev pub round_at : ℕ
  round_at = at_after at (nearest_of es at)

  abbrev pub round_entries : List Entry
  round_entries = moved_entries es at (nearest_of es at)

  abbrev pub round_card : List ℕ
  round_card = moved_card card at (nearest_of es at)

pub record Stand : Type 0 where
  pub at : ℕ
  pub entries : List Entry
  pub card : List ℕ

unfoldable pub rounds : ℕ → Stand → Stand
rounds zero s = s
rounds (suc k) s =
    let t = rounds k s in
    record {
      at = round_at t.entries t.card t.at;
      entries = round_entries t.entries t.card t.at;
      card = round_card t.entries t.card t.at;
    }

abbrev pub stand : List Entry → List ℕ → ℕ → Stand
stand es card at = record { at = at; entries = es; card = card }

unfoldable pub rounds_at : List Entry → List ℕ → ℕ → ℕ → ℕ
unfolding rounds
rounds_at es card k at = (rounds k (stand es card at)).at

unfoldable pub rounds_entries : List Entry → List ℕ → ℕ → ℕ → List Entry
unfolding rounds
rounds_entries es card k at = (rounds k (stand es card at)).entries

unfoldable pub rounds_card : List Entry → List ℕ → ℕ → ℕ → List ℕ
unfolding rounds
rounds_card es card k at = (rounds k (stand es card at)).card
