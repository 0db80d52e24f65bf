-- `afterwards` and `close_twice`: what is claimed of a closed card holds wherever closing is accepted.
-- Assumes nothing.
use Rattle.std.proofs.Common.{◌≡◌, ℕ, ◌+◌, ◌*◌, ◌<◌, ◌≤◌, Bool, true, List, length, ap, ◌∙◌, arith}
use borrow.Author.Tests.{not-false}
use Rattle.blocks_of_card.specs.Card.{block_of}
use Rattle.catalogue.specs.Entries.{entry_at}
use Rattle.catalogue.specs.declared.Entry.{Entry}
use Rattle.catalogue_standings.specs.Rows.{accepted}
use Rattle.catalogue_standings.proofs.Rows.{clear}
use Rattle.image_soundness.specs.Sound.{State, sound}
use Rattle.image_soundness.proofs.WhenSound.{Sound, sound_to, to_sound}
use Rattle.closing.specs.Closed.{closed_entry, closed_entries, closed_card, closed_state}
use Rattle.closing.specs.Claim.{Afterwards, Again}
use Rattle.closing.specs.Table.{close_fits, close_rows, close_verdict}
use Rattle.closing.proofs.Closes.{close_fits_to}
use Rattle.closing.proofs.Contents.{closed_block, free_block}
use Rattle.closing.proofs.Fitting.{closed_fit}
use Rattle.closing.proofs.Kept.{closed_marks, closed_lengths, closed_order, closed_covers, closed_sound, closed_spare}
use Rattle.closing.proofs.Kept.{held_fits}
use Rattle.closing.proofs.Members.{at_member, map_at}
use Rattle.closing.proofs.Placing.{placed}
use Rattle.closing.proofs.Twice.{closed_twice, card_stays, map_twice}

-- what an acceptance shows
module _ (turned : Bool) (s : State) (fits : Bool) (cardlen scratchlen : ℕ)
    (ok : close_verdict turned s fits cardlen scratchlen ≡ accepted) where
  pub accepted_fits : close_fits s.blocks s.spare fits (length s.entries) (length s.map) cardlen scratchlen ≡ true
  unfolding close_verdict close_rows
  accepted_fits = not-false _ (clear 1 (close_rows turned s fits cardlen scratchlen) ok).0

  pub accepted_sound : sound s ≡ true
  unfolding close_verdict close_rows
  accepted_sound = not-false _ (clear 4 (close_rows turned s fits cardlen scratchlen) ok).0

module _ (s : State) (card : List ℕ) (p : Sound s) (room : s.blocks ≤ 64 * length s.map)
    (bytes : 512 * s.blocks ≤ length card) where
  abbrev es : List Entry
  es = s.entries

  -- the entry of a sheet afterwards
  entry_then : (i : ℕ) → i < length es → entry_at (closed_entries es) i ≡ closed_entry es (entry_at es i)
  unfolding closed_entries
  entry_then i h = map_at (closed_entry es) es i h

  start_then : (i : ℕ) → i < length es → (entry_at (closed_entries es) i).start ≡ (closed_entry es (entry_at es i)).start
  start_then i h = ap (λ (e : Entry). e.start) (entry_then i h)

  pub sound_afterwards : Afterwards s card
  sound_afterwards = record {
    marks = closed_marks es;
    lengths = closed_lengths es;
    places = λ sheet q l h.
        let m = at_member es sheet l in
        let i : (entry_at es sheet).start + (entry_at es sheet).length ≤ s.blocks = (placed s p).inside (entry_at es sheet) m in
        ap (λ (b : ℕ). block_of (closed_card es card) (b + q)) (start_then sheet l)
        ∙ closed_block es card (placed s p).apart (entry_at es sheet) m q h (omega arith) (omega (arith, held_fits s p));
    ordered = λ a b la lb h. omega (
      arith,
      start_then a la,
      start_then b lb,
      closed_order es (entry_at es a) (entry_at es b) (at_member es a la) h,
    );
    packed = closed_covers s p;
    rest = λ b h u. free_block es card b h (omega arith);
    still_sound = to_sound (closed_state s) (closed_sound s p room);
    free_count = closed_spare s p room;
    fits = λ k h. closed_fit s p room k h;
  }

-- where closing is accepted
pub afterwards : (turned : Bool) (s : State) (fits : Bool) (card scratch : List ℕ)
    → close_verdict turned s fits (length card) (length scratch) ≡ accepted → Afterwards s card
afterwards turned s fits card scratch ok =
    let l = close_fits_to s.blocks s.spare fits (length s.entries) (length s.map) (length card) (length scratch)
    (accepted_fits turned s fits (length card) (length scratch) ok) in
    sound_afterwards s card (sound_to s (accepted_sound turned s fits (length card) (length scratch) ok))
    l.saved.limits.covered (omega (arith, l.bytes))

pub close_twice : (s : State) (card : List ℕ) → Again s card
close_twice s card = record {
  entries = closed_twice s.entries;
  cards = card_stays s.entries (closed_card s.entries card);
  maps = map_twice s.entries s.blocks s.map;
}
