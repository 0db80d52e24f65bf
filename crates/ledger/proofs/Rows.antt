-- The rows of a table of refusals that the ledger drops, read by their numbers, so that a new row moves nothing.
-- Assumes nothing.
use mathlib.Core.Path.{◌≡◌, refl, ap, ◌∙◌}
use mathlib.Core.Bool.{Bool, true, false, cond}
use mathlib.Core.List.{List, [], ◌∷◌}
use Rattle.catalogue_standings.specs.Rows.{Row, accepted, refused, first_of}
use Rattle.catalogue_standings.proofs.Rows.{either}
use Rattle.ledger.specs.Ledger.{dropped, listed}

-- rows 1 and 4 do not hold where no row seen before them does; those seen can be asked for by their numbers
abbrev pub Never : List Row → List Row → Type 0
Never seen [] = Unit {0}
Never seen (r ∷ rows) = either (dropped r) ((first_of seen ≡ accepted → r.holds ≡ false) × Never seen rows)
    (Never (r ∷ seen) rows)

pub never_listed : (seen rows : List Row) → first_of seen ≡ accepted → Never seen rows → first_of rows ≡ first_of (listed rows)
unfolding first_of listed
never_listed seen [] past h = refl
never_listed seen (r ∷ rows) past h = step (dropped r) h (λ k. never_listed seen rows past k)
    (λ q k. never_listed (r ∷ seen) rows q k)
  where
    step : (t : Bool) → either t ((first_of seen ≡ accepted → r.holds ≡ false) × Never seen rows) (Never (r ∷ seen) rows)
        → (Never seen rows → first_of rows ≡ first_of (listed rows))
        → (first_of (r ∷ seen) ≡ accepted → Never (r ∷ seen) rows → first_of rows ≡ first_of (listed rows))
        → cond r.holds (refused r.number) (first_of rows) ≡ first_of (cond t (listed rows) (r ∷ listed rows))
    step true h same more = rw (h.0 past) (same h.1)
    step false h same more = go r.holds refl
      where
        go : (t : Bool) → r.holds ≡ t → cond t (refused r.number) (first_of rows)
            ≡ cond t (refused r.number) (first_of (listed rows))
        go true e = refl
        go false e = more (ap (λ (t : Bool). cond t (refused r.number) (first_of seen)) e ∙ past) h
