-- What holds of the kept state since the last image was saved, or loaded after a cut, and that every call that the rule allows
-- keeps it.
-- Assumes nothing.
use Prim.Native.Nat.{ℕ, ◌+◌, ◌<◌}
use mathlib.Core.Path.{◌≡◌, refl, ap}
use mathlib.Core.Bool.{Bool, true, false, true≢false}
use mathlib.Core.List.{List}
use native.Mathlib.Omega.{arith}
use lib.ListN.{length}
use Rattle.map_blocks.specs.Blocks.{free}
use Rattle.blocks_of_card.specs.Card.{block_of}
use Rattle.block_seals.specs.Sealed.{sound}
use Rattle.catalogue.specs.Entries.{paused_mark}
use Rattle.catalogue_standings.specs.declared.Standing.TheVariants.{Paused, Open}
use Rattle.card.specs.Calls.{Kept}
use Rattle.role_lists.specs.Carers.{stands}
use Rattle.power_cuts.specs.Held.{Covers, Finished}
use Rattle.power_cuts.specs.Images.{recalled}
use Rattle.power_cuts.specs.Own.{OwnBlocks}
use Rattle.power_cuts.proofs.Apart.{Apart}
use Rattle.power_cuts.proofs.Deeds.{entry_in}
use Rattle.power_cuts.proofs.Standings.{holds_so}
use Rattle.power_cuts.proofs.Writes.{not_unfinished}

-- what became of a course that was finished when the image was saved: it was released; or it is finished, and each of its
-- places
-- that is sound for it has the bytes that it had
pub data Course (saved now : Kept) (released moved : Bool) (sheet start count : ℕ) : Type 0 where
  gone : released ≡ true → (entry_in now sheet).length ≡ 0 → Course saved now released moved sheet start count
  stays : (then : ℕ) → Finished now sheet then count → (moved ≡ false → then ≡ start)
      → ((q : ℕ) → q < count → sound sheet q (block_of now.card (then + q)) ≡ true
      → block_of now.card (then + q) ≡ block_of saved.card (start + q))
      → Course saved now released moved sheet start count

-- of a sheet that was Paused without blocks
pub record Pause (now : Kept) (released : Bool) (sheet : ℕ) : Type 0 where
  pub marked : released ≡ false → (entry_in now sheet).mark ≡ paused_mark
  pub empty : (entry_in now sheet).length ≡ 0

-- `released`: a release or a fresh was accepted since; `moved`: a closing was; `doubtful`: a cut fell between a closing and its
-- save
pub record Since (saved now : Kept) (released moved doubtful : Bool) : Type 0 where
  pub apart : Apart now
  pub long : length now.card ≡ length saved.card
  pub courses : (sheet start count : ℕ) → Finished saved sheet start count → Course saved now released moved sheet start count
  pub paused : (sheet : ℕ) → stands saved sheet ≡ Paused → Pause now released sheet
  -- what a course's blocks of that time hold now, if it is sound for the course
  pub old : (sheet start count : ℕ) → Finished saved sheet start count → (q : ℕ) → q < count
      → sound sheet q (block_of now.card (start + q)) ≡ true → block_of now.card (start + q) ≡ block_of saved.card
      (start + q)
  pub exact : moved ≡ false → (sheet start count : ℕ) → Finished saved sheet start count → (q : ℕ) → q < count
      → block_of now.card (start + q) ≡ block_of saved.card (start + q)
  -- a block that a sheet held then is held by no other, and at the same place; before a release it is held
  pub nobody_else : moved ≡ false → (i j b : ℕ) → Covers saved i b → Covers now j b
      → (j ≡ i) × ((entry_in now j).start ≡ (entry_in saved i).start)
  pub still_held : moved ≡ false → released ≡ false → (i b : ℕ) → Covers saved i b → Covers now i b
  pub own_now : doubtful ≡ false → OwnBlocks now
  pub own_saved : doubtful ≡ false → moved ≡ false → OwnBlocks (recalled saved now.card)

-- ---- a state that was just saved, or recalled with another card

-- the blocks of its courses that are sound for them have the bytes that they had
module _ (saved : Kept) (card : List ℕ) (moved doubtful : Bool) (a : Apart saved) (long : length card ≡ length saved.card)
    (pauses : (sheet : ℕ) → stands saved sheet ≡ Paused → Pause saved false sheet)
    (old : (sheet start count : ℕ) → Finished saved sheet start count → (q : ℕ) → q < count
    → sound sheet q (block_of card (start + q)) ≡ true → block_of card (start + q) ≡ block_of saved.card (start + q))
    (exact : moved ≡ false → (sheet start count : ℕ) → Finished saved sheet start count → (q : ℕ) → q < count
    → block_of card (start + q) ≡ block_of saved.card (start + q))
    (own : doubtful ≡ false → OwnBlocks (recalled saved card)) where
  pub since_recalled : Since saved (recalled saved card) false moved doubtful
  since_recalled = record {
    apart = record { taken = a.taken; apart = a.apart };
    long = long;
    courses = λ sheet start count f. stays start f (λ e. refl) (λ q l h. old sheet start count f q l h);
    paused = λ sheet h. record { marked = (pauses sheet h).marked; empty = (pauses sheet h).empty };
    old = old;
    exact = exact;
    nobody_else = λ e i j b c d.
        let same = a.apart j i b d c in (same, ap (λ (z : ℕ). (entry_in saved z).start) same);
    still_held = λ e r i b c. c;
    own_now = own;
    own_saved = λ d e. own d;
  }

-- ---- weaker notes

module _ (saved now : Kept) (moved doubtful : Bool) where
  pub since_released : (released : Bool) → Since saved now released moved doubtful → Since saved now true moved doubtful
  since_released released x = record {
    apart = x.apart;
    long = x.long;
    courses = λ sheet start count f. go sheet start count (x.courses sheet start count f);
    paused = λ sheet h. record { marked = λ e. absurd (true≢false e); empty = (x.paused sheet h).empty };
    old = x.old;
    exact = x.exact;
    nobody_else = x.nobody_else;
    still_held = λ e r. absurd (true≢false r);
    own_now = x.own_now;
    own_saved = x.own_saved;
  }
    where
      go : (sheet start count : ℕ) → Course saved now released moved sheet start count
          → Course saved now true moved sheet start count
      go sheet start count (gone r l) = gone refl l
      go sheet start count (stays then f e g) = stays then f e g

module _ (saved now : Kept) (released doubtful : Bool) where
  pub since_moved : (moved : Bool) → Since saved now released moved doubtful → OwnBlocks now
      → Since saved now released true false
  since_moved moved x own = record {
    apart = x.apart;
    long = x.long;
    courses = λ sheet start count f. go sheet start count (x.courses sheet start count f);
    paused = x.paused;
    old = x.old;
    exact = λ e. absurd (true≢false e);
    nobody_else = λ e. absurd (true≢false e);
    still_held = λ e. absurd (true≢false e);
    own_now = λ d. own;
    own_saved = λ d e. absurd (true≢false e);
  }
    where
      go : (sheet start count : ℕ) → Course saved now released moved sheet start count
          → Course saved now released true sheet start count
      go sheet start count (gone r l) = gone r l
      go sheet start count (stays then f e g) = stays then f (λ z. absurd (true≢false z)) g

-- ---- what is read off it

module _ (saved now : Kept) (released moved doubtful : Bool) (x : Since saved now released moved doubtful) where
  -- a sheet that was finished is not Open
  pub not_open : (sheet start count : ℕ) → Finished saved sheet start count → (a l : ℕ) → stands now sheet ≡ Open a l → ⊥
  not_open sheet start count f a l h = go (x.courses sheet start count f)
    where
      go : Course saved now released moved sheet start count → ⊥
      go (gone r z) =
          let o = holds_so now.shape.blocks (free now.map) (entry_in now sheet) (Open a l) h refl in
          omega (arith, z, o.lasts, o.some)
      go (stays then g e b) = not_unfinished now sheet then count g (Open a l) h refl

  -- nor is one that was Paused without blocks
  pub paused_not_open : (sheet : ℕ) → stands saved sheet ≡ Paused → (a l : ℕ) → stands now sheet ≡ Open a l → ⊥
  paused_not_open sheet h a l o =
      let q = holds_so now.shape.blocks (free now.map) (entry_in now sheet) (Open a l) o refl in
      omega (arith, (x.paused sheet h).empty, q.lasts, q.some)
