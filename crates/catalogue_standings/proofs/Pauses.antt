-- What an entry has that reads as a pause, in either form: the mark Paused, and start 0 and length 0 or an extent that holds.
-- So no entry marked Open passes for a pause, and none that is damaged (document 02 (g)).
-- Assumes nothing.
use mathlib.Core.Path.{◌≡◌, refl}
use mathlib.Core.Logic.{◌⊎◌, inl, inr}
use mathlib.Core.Bool.{Bool, true, false, ◌&&◌, cond, false≢true}
use Prim.Native.Nat.{ℕ}
use lib.Dec.{eqb}
use borrow.Author.Tests.{eqb-true}
use Rattle.catalogue.specs.Entries.{absent_mark, paused_mark, open_mark, complete_mark}
use Rattle.catalogue.specs.declared.Entry.{Entry}
use Rattle.catalogue_standings.specs.Standings.{extent_holds, standing_of, is_paused}
use Rattle.catalogue_standings.specs.declared.Standing.{Standing}
use Rattle.catalogue_standings.specs.declared.Standing.TheVariants.{Absent, Paused, PausedWith, Open, Complete, Damaged}

module _ (n : ℕ) (free : ℕ → Bool) (e : Entry) where
  abbrev zeros : Bool
  zeros = eqb e.start 0 && eqb e.length 0

  abbrev holds : Bool
  holds = extent_holds n free e.start e.length

  pub record Pause : Type 0 where
    pub marked : e.mark ≡ paused_mark
    pub either_form : (zeros ≡ true) ⊎ (holds ≡ true)

  -- by which marks the entry's is, whether start and length are 0, and whether the extent holds
  abbrev said : Bool → Bool → Bool → Bool → Bool → Bool → Standing
  said p q o k z x =
      cond p (cond z Absent Damaged)
      (cond q (cond z Paused (cond x (PausedWith e.start e.length) Damaged))
      (cond o (cond x (Open e.start e.length) Damaged)
      (cond k (cond x (Complete e.start e.length) Damaged)
      Damaged)))

  by_mark : (p q o k z x : Bool) → is_paused (said p q o k z x) ≡ true → (q ≡ true) × ((z ≡ true) ⊎ (x ≡ true))
  by_mark true q o k true x h = absurd (false≢true h)
  by_mark true q o k false x h = absurd (false≢true h)
  by_mark false true o k true x h = (refl, inl refl)
  by_mark false true o k false true h = (refl, inr refl)
  by_mark false true o k false false h = absurd (false≢true h)
  by_mark false false true k z true h = absurd (false≢true h)
  by_mark false false true k z false h = absurd (false≢true h)
  by_mark false false false true z true h = absurd (false≢true h)
  by_mark false false false true z false h = absurd (false≢true h)
  by_mark false false false false z x h = absurd (false≢true h)

  pub reads_as_paused : is_paused (standing_of n free e) ≡ true → Pause
  unfolding standing_of
  reads_as_paused h =
      let f = by_mark (eqb e.mark absent_mark) (eqb e.mark paused_mark) (eqb e.mark open_mark)
      (eqb e.mark complete_mark) zeros holds h in
      record { marked = eqb-true e.mark paused_mark f.0; either_form = f.1 }
