-- What closing answers and leaves (document 02 (l)). A refusal changes nothing but the scratch, which is all zeros afterwards
-- on every path. Of the shape nothing changes.
-- Assumes nothing.
use Rattle.std.specs.Prelude.{◌≡◌, ℕ, Bool, List, length}
use Rattle.catalogue_standings.specs.Rows.{Verdict, settle, row_number}
use Rattle.catalogue.specs.declared.Entry.{Entry}
use Rattle.image.specs.Effects.{zeros_for}
use Rattle.closing.specs.Closed.{closed_entries, closed_card, closed_map}
use Rattle.closing.specs.Table.{close_verdict}

-- Of whether it is turned away, n, the free count, whether what else is lent fits, the map, the entries, the card and the
-- scratch.
module _ (turned : Bool) (n spare : ℕ) (fits : Bool) (map : List ℕ) (entries : List Entry) (card scratch : List ℕ) where
  abbrev pub verdict : Verdict
  verdict =
      close_verdict turned (record { blocks = n; spare = spare; entries = entries; map = map }) fits (length card) (length
      scratch)

  unfoldable pub close_number : ℕ
  unfolding close_verdict
  close_number = row_number verdict

  unfoldable pub close_map : List ℕ
  unfolding close_verdict closed_map
  close_map = settle verdict (closed_map entries n map) (λ number. map)

  unfoldable pub close_entries : List Entry
  unfolding close_verdict closed_entries
  close_entries = settle verdict (closed_entries entries) (λ number. entries)

  unfoldable pub close_card : List ℕ
  unfolding close_verdict closed_card
  close_card = settle verdict (closed_card entries card) (λ number. card)

  unfoldable pub close_scratch : List ℕ
  close_scratch = zeros_for scratch

  abbrev pub Closes : ℕ → List ℕ → List Entry → List ℕ → List ℕ → Type 0
  Closes r map' entries' card' scratch' =
      (r ≡ close_number) × (map' ≡ close_map) × (entries' ≡ close_entries) × (card' ≡ close_card) × (scratch' ≡ close_scratch)
