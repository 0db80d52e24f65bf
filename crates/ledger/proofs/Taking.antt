-- What reserve and accept share: an Absent sheet takes the m blocks from a start on, which are filled with zeros, and becomes
-- Open.
-- Assumes nothing.
use Prim.Native.Nat.{ℕ, ◌-◌, ◌<◌}
use mathlib.Core.Path.{◌≡◌, refl, sym, ap}
use mathlib.Core.Bool.{Bool, true, false}
use mathlib.Core.List.{List, [], ◌∷◌}
use native.Mathlib.Omega.{arith}
use lib.Dec.{eqb, leb, ltb}
use lib.ListN.{length, set, replicate, length-replicate}
use borrow.Author.Tests.{leb-false, eqb-false, eq-eqb, ne_eqb}
use Rattle.catalogue.specs.Entries.{open_mark}
use Rattle.map_blocks.specs.Blocks.{fit}
use Rattle.map_blocks.specs.Maps.{marked}
use Rattle.blocks_of_card.specs.Card.{zeroed}
use Rattle.catalogue_standings.specs.Searches.{start_with_space}
use Rattle.catalogue_standings.specs.Standings.{is_paused, is_open, is_complete}
use Rattle.catalogue_standings.specs.Rows.{Verdict, accepted, settle}
use Rattle.refusals.specs.Effects.{entry_of, out_of, refusal_out}
use Rattle.refusals.specs.Table.{Ask}
use Rattle.ledger.specs.Calls.{on}
use Rattle.ledger.specs.Ledger.{Blank, Sheet, Absent, Open, standing_in, length_in, sheet_at, free_in, spare_in, space_in}
use Rattle.ledger.specs.Ledger.{Begun, deed_in}
use Rattle.ledger.specs.Claim.{note_of}
use Rattle.ledger.proofs.Plain.{End}
use Rattle.ledger.proofs.Agreement.{map_in, Matches}
use Rattle.ledger.proofs.Keeping.{keep_reserve}
use Rattle.ledger.proofs.Listed.{spared}
use Rattle.ledger.proofs.Results as results
use Rattle.ledger.proofs.Results.{outEnd, one-sheet}
use Rattle.ledger.proofs.Sheets.{was_absent, reserved, blanks_at}

module _ (n : ℕ) (l : List Sheet) (card : List ℕ) (k : Matches n l card) (role i m start : ℕ) where
  -- what the rows have shown
  pub record Shown : Type 0 where
    pub inside : i < length l
    pub gone : sheet_at l i ≡ Absent
    pub some : 0 < m
    pub fits : fit (free_in n l) 0 n 1 m start ≡ true

  pub shown : leb (length l) i ≡ false → is_paused (standing_in (sheet_at l i)) ≡ false → is_open (standing_in (sheet_at l i))
      ≡ false
      → is_complete (standing_in (sheet_at l i)) ≡ false → eqb m 0 ≡ false → fit (free_in n l) 0 n 1 m start ≡ true → Shown
  shown h2 h6 h7 h8 h3 fits = record {
    inside = leb-false (length l) i h2;
    gone = was_absent (sheet_at l i) h6 h7 h8;
    some = omega (arith, eqb-false m 0 h3);
    fits = fits;
  }

  -- the free count has as many: row 4 holds for none
  pub enough : Shown → ltb (spare_in n l) m ≡ false
  enough s =
      spared n l k.sound i m (Open start (replicate m Blank)) s.inside
      (omega (arith, length-replicate m Blank, ap length_in s.gone))
      (reserved n l k.sound i s.inside m start s.some s.fits)

  -- what the call comes to, where f says which blocks are free
  abbrev pub taken : (ℕ → Bool) → Verdict → End
  taken f v =
      outEnd n l card k i (settle v (out_of (spare_in n l - m) (entry_of open_mark start m) (start_with_space f n start))
      (refusal_out (spare_in n l) (results.e n l card k i)))
      (settle v (marked (map_in n l) start m false) (λ number. map_in n l)) (settle v (zeroed card start m) (λ number. card))

  -- the deed of the call is `takes_at`
  pub record Takes (a : Ask) : Type 0 where
    pub ledger_is : (deed_in n l (on role i a)).ledger ≡ set l i (Open start (replicate m Blank))
    pub values_are : (deed_in n l (on role i a)).values ≡ start ∷ space_in n l start ∷ []
    pub grants_are : (deed_in n l (on role i a)).grants ≡ m
    pub returns_are : (deed_in n l (on role i a)).returns ≡ 0
    pub left_is : (deed_in n l (on role i a)).left ≡ []
    pub note_is : note_of (on role i a) ≡ Begun i

  pub takes : (a : Ask) → Takes a → Shown → results.Done n l card (on role i a) (taken (free_in n l) accepted)
  takes a d s =
      one-sheet n l card k role i a (taken (free_in n l) accepted) (record {
        inside = s.inside;
        sheet = Open start (replicate m Blank);
        becomes = d.ledger_is;
        spare = spare_in n l - m;
        marks = marked (map_in n l) start m false;
        card_left = zeroed card start m;
        entry = entry_of open_mark start m;
        answer = start_with_space (free_in n l) n start;
        changed = keep_reserve n l card k i s.inside m start s.gone s.some s.fits;
        stored = ap (entry_of open_mark start) (sym (length-replicate m Blank));
        ends_so = rw d.left_is refl;
        says_so = (refl, sym d.values_are);
        moved = omega (arith, length-replicate m Blank, ap length_in s.gone, d.grants_are, d.returns_are);
        noted_here = λ p q was holds. rw (d.note_is, eq-eqb i i refl) (blanks_at m p);
        noted_there = λ j p q ne. rw (d.note_is, ne_eqb j i ne) refl;
      })
