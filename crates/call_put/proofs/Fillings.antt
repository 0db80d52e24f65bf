-- What complete has seen of the places that it passed, one place more, and what that says of rows 4 and 9.
-- Assumes nothing.
use Rattle.std.specs.Prelude.{Option, Some, None}
use mathlib.Core.Path.{◌≡◌, refl, sym, ap, ◌∙◌}
use mathlib.Core.Bool.{Bool, true, false, not, ◌||◌, cond, true≢false}
use mathlib.Core.List.{List}
use Prim.Native.Nat.{ℕ, ◌+◌, ◌*◌, ◌≤◌, ◌<◌}
use native.Mathlib.Numerals.{add-one}
use native.Mathlib.Omega.{arith}
use mathlib.Core.Logic.{⊎_elim}
use native.Mathlib.Nat.{eq-or-lt_of_le, zero-add}
use lib.ListN.{length, replicate}
use Rattle.blocks_of_card.specs.Card.{block_of}
use Rattle.block_seals.specs.Sealed as sealed-block
use Rattle.block_seals.proofs.Blank.{blank_is_zeros}
use Rattle.blocks_of_card.proofs.Card.{block_length}
use Rattle.block_seals.proofs.Sealed.{sound_zeros}
use Rattle.map_blocks.specs.Blocks.{all, least, or_else}
use Rattle.map_blocks.proofs.Runs.{all_intro, all_elim, all_break}
use Rattle.map_blocks.proofs.Least.{least_passes, none_passes, least_more}
use Rattle.catalogue_standings.specs.Searches.{start_at}

-- ---- a blank block is not sound

pub blank_apart : (card : List ℕ) (b sheet place : ℕ) → 512 * b + 512 ≤ length card
    → sealed-block.blank (block_of card b) ≡ true → sealed-block.sound sheet place (block_of card b) ≡ false
blank_apart card b sheet place inside e =
    ap (sealed-block.sound sheet place) (blank_is_zeros (block_of card b) e
    ∙ ap (λ (size : ℕ). replicate size 0) (block_length card b inside))
    ∙ sound_zeros sheet place

-- ---- what is known of the places passed

module _ (blank sound : ℕ → Bool) where
  abbrev pub either : ℕ → Bool
  either p = blank p || sound p

  -- The first k places are blank or sound each, and the lowest blank one among them is known.
  pub record Passed (k : ℕ) (lowest : Option ℕ) : Type 0 where
    pub whole : all either 0 k ≡ true
    pub known : lowest ≡ least blank 0 k

  pub none_passed : Passed 0 None
  unfolding all least
  none_passed = record { whole = refl; known = refl }

  -- a place that is neither breaks the sheet
  pub broken : (k p : ℕ) → p < k → blank p ≡ false → sound p ≡ false → all either 0 k ≡ false
  broken k p l b s = all_break either 0 k p (omega arith) (omega arith) (ap (λ (x : Bool). x || sound p) b ∙ s)

  one_more : (p : ℕ) (lowest : Option ℕ) → Passed p lowest → either p ≡ true → (found : Option ℕ)
      → cond (blank p) (Some p) None ≡ found → Passed (p + 1) (or_else lowest found)
  one_more p lowest h held found e = record {
    whole = all_intro either 0 (p + 1) (λ t a l. ⊎_elim (λ (w : t ≡ p). ap either w ∙ held)
        (λ (w : t < p). all_elim either 0 p h.whole t a (omega arith)) (eq-or-lt_of_le {n = t} {m = p} (omega arith)));
    known =
        ap (λ (o : Option ℕ). or_else o found) h.known
        ∙ ap (or_else (least blank 0 p)) (sym e)
        ∙ ap (λ (t : ℕ). or_else (least blank 0 p) (cond (blank t) (Some t) None)) (sym (zero-add p))
        ∙ sym (least_more blank 0 p) ∙ ap (least blank 0) (sym (add-one p));
  }

  -- one that is sound, and so not blank
  pub sound_more : (p : ℕ) (lowest : Option ℕ) → Passed p lowest → (blank p ≡ true → sound p ≡ false) → sound p ≡ true
      → Passed (p + 1) lowest
  sound_more p lowest h apart s = go lowest (one_more p lowest h (both (blank p) (sound p) s) None (none (blank p) refl))
    where
      both : (b s : Bool) → s ≡ true → (b || s) ≡ true
      both true s e = refl
      both false s e = e

      none : (b : Bool) → blank p ≡ b → cond b (Some p) None ≡ None
      none true e = absurd (true≢false (sym s ∙ apart e))
      none false e = refl

      go : (o : Option ℕ) → Passed (p + 1) (or_else o None) → Passed (p + 1) o
      go (Some q) w = w
      go None w = w

  -- and one that is blank
  pub blank_more : (p : ℕ) (lowest : Option ℕ) → Passed p lowest → blank p ≡ true → Passed (p + 1) (or_else lowest (Some p))
  blank_more p lowest h b =
      one_more p lowest h (ap (λ (x : Bool). x || sound p) b) (Some p) (ap (λ (x : Bool). cond x (Some p) None) b)

-- ---- what the lowest blank place says of row 9

module _ (blank : ℕ → Bool) (k : ℕ) (lowest : Option ℕ) (known : lowest ≡ least blank 0 k) where
  pub was_filled : lowest ≡ None → all (λ p. not (blank p)) 0 k ≡ true
  was_filled e =
      all_intro (λ p. not (blank p)) 0 k (λ t a l. ap not (none_passes blank 0 k (sym known ∙ e) t a l))

  pub was_blank : (p : ℕ) → lowest ≡ Some p
      → (all (λ p. not (blank p)) 0 k ≡ false) × (start_at (least blank 0 k) ≡ p)
  was_blank p e =
      let at = sym known ∙ e in
      let l = least_passes blank 0 k p at in
      (all_break (λ p. not (blank p)) 0 k p l.low l.high (ap not l.test), ap start_at at)
