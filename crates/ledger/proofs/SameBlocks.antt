-- A sheet whose mark alone changes, by pause or by resume: it keeps its blocks and what they hold (document 02 (g)).
-- Assumes nothing.
use Prim.Native.Nat.{ℕ, ◌≤◌, ◌<◌}
use mathlib.Core.Path.{◌≡◌, refl, ap, subst, ◌∙◌}
use mathlib.Core.Bool.{Bool, true, false≢true}
use mathlib.Core.List.{List}
use native.Mathlib.Omega.{arith}
use lib.ListN.{length, get_or}
use Rattle.refusals.specs.Marks.{is_admitted}
use Rattle.refusals.specs.Table.{Change, pause, resume, admits_of, mark_after}
use Rattle.refusals.specs.Effects.{entry_of}
use Rattle.ledger.specs.Ledger.{Place, Blank, Sheet, Absent, Paused, PausedWith, Open, Complete, standing_in, start_in}
use Rattle.ledger.specs.Ledger.{length_in, places_in, sheet_at, spare_in, change_in}
use Rattle.ledger.specs.Claim.{entry_in}
use Rattle.ledger.proofs.Agreement.{map_in, Matches}
use Rattle.ledger.proofs.Keeping.{Changed, keep_places}
use Rattle.ledger.proofs.Sheets.{needs, holding, Has, Fine, sound_same}

-- sheet x has the blocks and the places of y, and an entry with this mark
pub record SameBlocks (mark : ℕ) (x y : Sheet) : Type 0 where
  pub starts : start_in x ≡ start_in y
  pub lasts : length_in x ≡ length_in y
  pub places : places_in x ≡ places_in y
  pub needed : needs x ≤ needs y
  pub holds : holding x ≡ holding y
  pub entry : entry_of mark (start_in y) (length_in y) ≡ entry_in x

-- what is admitted keeps its blocks
pub changed : (c : Change) (y : Sheet) → is_admitted (admits_of c) (standing_in y) ≡ true
    → SameBlocks (mark_after c) (change_in c y) y
changed pause Absent h = record {
  starts = refl;
  lasts = refl;
  places = refl;
  needed = omega arith;
  holds = refl;
  entry = refl;
}
changed pause Paused h = absurd (false≢true h)
changed pause (PausedWith s xs) h = absurd (false≢true h)
changed pause (Open s ps) h = absurd (false≢true h)
changed pause (Complete s xs) h = record {
  starts = refl;
  lasts = refl;
  places = refl;
  needed = omega arith;
  holds = refl;
  entry = refl;
}
changed resume Absent h = absurd (false≢true h)
changed resume Paused h = absurd (false≢true h)
changed resume (PausedWith s xs) h = record {
  starts = refl;
  lasts = refl;
  places = refl;
  needed = omega arith;
  holds = refl;
  entry = refl;
}
changed resume (Open s ps) h = absurd (false≢true h)
changed resume (Complete s xs) h = absurd (false≢true h)

-- what is noted of its places stays
pub has_same : {mark : ℕ} {x y : Sheet} → SameBlocks mark x y → (p : ℕ) (m : Place) → Has p m y → Has p m x
has_same same p m was h =
    ap (λ (ps : List Place). get_or ps p Blank) same.places ∙ was (subst (λ (b : Bool). b ≡ true) same.holds h)

module _ (n : ℕ) (l : List Sheet) (card : List ℕ) (k : Matches n l card) (i : ℕ) (lt : i < length l) where
  pub keep_blocks : {mark : ℕ} (x : Sheet) → SameBlocks mark x (sheet_at l i) → Changed n l i x (spare_in n l) (map_in n l) card
  keep_blocks x same =
      let was : Fine n (sheet_at l i) = k.sound.fine i in
      keep_places n l card k i lt x
      (sound_same n l k.sound i lt x
      (record {
        inside = omega (arith, was.inside, same.starts, same.lasts);
        needed = omega (arith, was.needed, same.needed, same.lasts);
        sized = rw same.places was.sized;
      })
      (λ b. rw (same.starts, same.lasts)))
      same.starts same.lasts same.places
