-- Grow: the blocks after an Open extent are added as blank places, taken and filled with zeros.
-- Assumes nothing.
use Prim.Native.Nat.{ℕ, ◌+◌, ◌-◌, ◌<◌}
use mathlib.Core.Path.{◌≡◌, refl, sym, ap, subst, ◌∙◌}
use mathlib.Core.Bool.{true, false, not}
use mathlib.Core.List.{List, ◌++◌}
use native.Mathlib.Omega.{arith}
use lib.Dec.{eqb, leb, ltb}
use lib.ListN.{length, set, replicate, length-append, length-replicate}
use borrow.Author.Tests.{leb-false, eqb-false, not-false}
use Rattle.catalogue.specs.Entries.{open_mark}
use Rattle.map_blocks.specs.Blocks.{fit}
use Rattle.map_blocks.specs.Maps.{marked}
use Rattle.blocks_of_card.specs.Card.{zeroed}
use Rattle.catalogue.specs.declared.Entry.{Entry}
use Rattle.catalogue_standings.specs.Standings.{is_absent, is_paused, is_complete}
use Rattle.catalogue_standings.specs.Rows.{Row, Verdict, accepted, settle}
use Rattle.catalogue_standings.specs.declared.Answer.TheVariants.{Done}
use Rattle.refusals.specs.Effects as effects
use Rattle.refusals.specs.Effects.{entry_of, out_of, refusal_out}
use Rattle.refusals.specs.Table.{Ask, grow, rows_for, table_of}
use Rattle.catalogue_standings.proofs.Rows.{clear}
use Rattle.ledger.specs.Calls.{Call, on}
use Rattle.ledger.specs.Ledger.{Place, Blank, Sheet, Open, standing_in, start_in, length_in, sheet_at, free_in, spare_in}
use Rattle.ledger.specs.Ledger.{grow_in, listed, rows_in, verdict_in, deed_in}
use Rattle.ledger.specs.Claim.{entry_in}
use Rattle.ledger.proofs.Plain.{End, end_of}
use Rattle.ledger.proofs.Agreement.{map_in, state_of, Matches, NeverRows, Sharing, says_on, verdict-within}
use Rattle.ledger.proofs.Wings.{entry_at_lem}
use Rattle.ledger.proofs.Keeping.{keep-grow}
use Rattle.ledger.proofs.Listed.{spared}
use Rattle.ledger.proofs.Results as results
use Rattle.ledger.proofs.Results.{Result, outEnd, out-back, plain_back, one-sheet, result-of}
use Rattle.ledger.proofs.Sheets.{was_open, grown, Has, more_at}

module _ (n : ℕ) (l : List Sheet) (card : List ℕ) (k : Matches n l card) (role i : ℕ) (limits : List ℕ) (m : ℕ) where
  abbrev call : Call
  call = on role i (grow limits m)

  abbrev ask : Ask
  ask = grow limits m

  abbrev rows : List Row
  rows = rows_in n l call

  -- what its rows have shown
  pub record Shown : Type 0 where
    inside : i < length l
    start : ℕ
    places : List Place
    was : sheet_at l i ≡ Open start places
    some : 0 < m
    fits : fit (free_in n l) 0 n 1 m (start + length places) ≡ true
    wide : length (places ++ replicate m Blank) ≡ length places + m

  pub shown : leb (length l) i ≡ false → is_absent (standing_in (sheet_at l i)) ≡ false → is_paused (standing_in (sheet_at l i))
      ≡
      false
      → is_complete (standing_in (sheet_at l i)) ≡ false
      → eqb m 0 ≡ false → not (fit (free_in n l) 0 n 1 m (start_in (sheet_at l i) + length_in (sheet_at l i))) ≡ false → Shown
  shown h2 h5 h6 h8 h3 h11 =
      let o = was_open (sheet_at l i) h5 h6 h8 in
      record {
        inside = leb-false (length l) i h2;
        start = o.0;
        places = o.1;
        was = o.2;
        some = omega (arith, eqb-false m 0 h3);
        fits = subst (λ (y : Sheet). fit (free_in n l) 0 n 1 m (start_in y + length_in y) ≡ true) o.2 (not-false _ h11);
        wide = length-append o.1 (replicate m Blank) ∙ ap (λ (j : ℕ). length o.1 + j) (length-replicate m Blank);
      }

  -- the free count has as many: row 4 holds for none
  pub enough : Shown → ltb (spare_in n l) m ≡ false
  enough s =
      spared n l k.sound i m (Open s.start (s.places ++ replicate m Blank)) s.inside
      (omega (arith, s.wide, ap length_in s.was))
      (grown n l k.sound i s.inside s.start s.places s.was m s.some s.fits)

  never : NeverRows n l card k role i (grow limits m)
  unfolding rows_for
  never = (
    (λ h. let s = shown (clear 2 _ h).0 (clear 5 _ h).0 (clear 6 _ h).0 (clear 8 _ h).0 (clear 3 _ h).0
        (clear 11 _ h).0 in
        enough s),
    tt,
  )

  -- where the entry is e
  abbrev taken : Entry → Verdict → End
  taken e v =
      outEnd n l card k i (settle v (out_of (spare_in n l - m) (entry_of open_mark e.start (e.length + m)) Done)
      (refusal_out (spare_in n l) e))
      (settle v (marked (map_in n l) (e.start + e.length) m false) (λ number. map_in n l))
      (settle v (zeroed card (e.start + e.length) m) (λ number. card))

  abbrev ends : Verdict → End
  ends = taken (results.e n l card k i)

  sharing : Sharing n l role i ask
  unfolding rows_for
  sharing x y same = ap
      (λ (h : ℕ). says_on n l role i ask (record { blank = y.blank; sound = y.sound; term = y.term; held = h })) same

  ends_so : end_of (state_of n l card) call ≡ ends (verdict_in n l call)
  unfolding effects.grow_out effects.grow_map effects.grow_card rows_for
  ends_so = ap ends (verdict-within n l card k role i ask limits sharing never)

  accepts : verdict_in n l call ≡ accepted → results.Done n l card call (ends accepted)
  unfolding table_of listed deed_in
  accepts h =
      let s = shown (clear 2 rows h).0 (clear 5 rows h).0 (clear 6 rows h).0 (clear 8 rows h).0 (clear 3 rows h).0
      (clear 11 rows h).0 in
      let b : ℕ = s.start + length s.places in
      one-sheet n l card k role i (grow limits m) (ends accepted) (record {
        inside = s.inside;
        sheet = Open s.start (s.places ++ replicate m Blank);
        becomes = ap (λ (y : Sheet). set l i (grow_in m y)) s.was;
        spare = spare_in n l - m;
        marks = marked (map_in n l) b m false;
        card_left = zeroed card b m;
        entry = entry_of open_mark s.start (length s.places + m);
        answer = Done;
        changed = keep-grow n l card k i s.inside s.start s.places s.was m s.some s.fits;
        stored = ap (entry_of open_mark s.start) (sym s.wide);
        ends_so = ap (λ (y : Entry). taken y accepted) (entry_at_lem l i s.inside ∙ ap entry_in s.was);
        says_so = (refl, refl);
        moved = omega (arith, s.wide, ap length_in s.was);
        noted_here = λ p q had holds. more_at s.places m p ∙ subst (Has p q) s.was had refl;
        noted_there = λ j p q ne. refl;
      })

  pub grow_result : Result n l card call (verdict_in n l call)
  unfolding table_of listed deed_in
  grow_result = result-of n l card k call ends ends_so refl accepts (plain_back n l card k call _ refl (out-back n l card k i))
      tt
