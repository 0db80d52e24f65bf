-- What the tests of the functions here decide, one by one.
-- Assumes nothing.
use Rattle.std.specs.Prelude.{Some, None}
use Rattle.std.proofs.Common.{◌≡◌, ℕ, List, set, ap, ◌∙◌, ◌+◌, ◌%◌}
use Rattle.catalogue.specs.declared.Entry.{Entry}
use Rattle.closing.specs.Rounds.{nearest_of, at_after, moved_entries, moved_extent, moved_card, restarted}
use Rattle.closing.specs.Rounds.{round_at, round_entries, round_card}

-- a round, where no extent waits and where one does
module _ (es : List Entry) (card : List ℕ) (at : ℕ) where
  pub no_round : None ≡ nearest_of es at
      → (at ≡ round_at es card at) × (es ≡ round_entries es card at) × (card ≡ round_card es card at)
  unfolding at_after moved_entries moved_card
  no_round e = (ap (at_after at) e, ap (moved_entries es at) e, ap (moved_card card at) e)

  pub one_round : (sheet : ℕ) (x : Entry) (card' : List ℕ) → Some (sheet, x) ≡ nearest_of es at → card' ≡ moved_extent card at x
      → ((at + x.length) % 4294967296 ≡ round_at es card at) × (set es sheet (restarted at x) ≡ round_entries es card at)
      × (card' ≡ round_card es card at)
  unfolding at_after moved_entries moved_card
  one_round sheet x card' e m = (ap (at_after at) e, ap (moved_entries es at) e, m ∙ ap (moved_card card at) e)
