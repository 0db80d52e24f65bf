-- What the card holds after closing: each block of each extent has the bytes that it had, and so has each block that is free
-- then.
-- Assumes nothing.
use Rattle.std.proofs.Common.{◌≡◌, ℕ, ◌+◌, ◌-◌, ◌*◌, ◌<◌, ◌≤◌, Bool, true, false, cond, ◌⊎◌, List, [], ◌∷◌, length, sym, refl}
use Rattle.std.proofs.Common.{ap, ◌∙◌, inl, inr, ⊎_elim, arith}
use Rattle.map_blocks.specs.Maps.{in_run}
use Rattle.laws.proofs.Bools.{clash}
use Rattle.blocks_of_card.specs.Card.{block_of}
use Rattle.catalogue.specs.Entries.{held}
use Rattle.catalogue.specs.declared.Entry.{Entry}
use Rattle.closing_moves.proofs.Moved.{sourced_length, sourced_block}
use Rattle.image_soundness.proofs.Covers.{decide, run_in, in_run_lem}
use Rattle.closing.specs.Closed.{below, closed_entry, source, closed_card}
use Rattle.closing.proofs.Members.{Member, Apart, two_apart}
use Rattle.closing.proofs.Below.{below_adds}
use Rattle.closing.proofs.Kept.{closed_inside}

module _ (all : List Entry) where
  abbrev lies : Entry → ℕ → Bool
  lies e b = in_run (below all e.start) e.length b

  hit : (e : Entry) (es : List Entry) (b : ℕ) → lies e b ≡ true → source all (e ∷ es) b ≡ e.start + (b - below all e.start)
  unfolding source
  hit e es b h = ap (λ (o : Bool). cond o (e.start + (b - below all e.start)) (source all es b)) h

  miss : (e : Entry) (es : List Entry) (b : ℕ) → lies e b ≡ false → source all (e ∷ es) b ≡ source all es b
  unfolding source
  miss e es b h = ap (λ (o : Bool). cond o (e.start + (b - below all e.start)) (source all es b)) h

  beyond_all : (es : List Entry) → ((e : Entry) → Member e es → Member e all) → (b : ℕ) → held all ≤ b → source all es b ≡ b
  unfolding source
  beyond_all [] sub b h = refl
  beyond_all (e ∷ es) sub b h =
      ⊎_elim
      (λ (o : lies e b ≡ true). let k = in_run_lem (below all e.start) e.length b o in
      absurd (omega (arith, closed_inside all e (sub e (inl refl)), k.1)))
      (λ (o : lies e b ≡ false). miss e es b o ∙ beyond_all es (λ x m. sub x (inr m)) b h)
      (decide (lies e b))

  module _ (apart : Apart all) (e : Entry) (member : Member e all) (p : ℕ) (place : p < e.length) where
    abbrev b : ℕ
    b = below all e.start + p

    -- no other extent lies there
    the_same : (y : Entry) → Member y all → lies y b ≡ true → y ≡ e
    the_same y m o =
        let k = in_run_lem (below all y.start) y.length b o in
        ⊎_elim
        (λ (q : (y.start + y.length ≤ e.start) ⊎ (e.start + e.length ≤ y.start)).
        ⊎_elim
        (λ (u : y.start + y.length ≤ e.start). absurd
        (omega (arith, below_adds all y e.start m (omega (arith, k.0, k.1)), k.1)))
        (λ (u : e.start + e.length ≤ y.start). absurd
        (omega (arith, below_adds all e y.start member (omega arith), k.0)))
        q)
        (λ (q : y ≡ e). q)
        (two_apart all apart y e m member (omega (arith, k.0, k.1)) (omega arith))

    its_own : (es : List Entry) → ((y : Entry) → Member y es → Member y all) → Member e es → source all es b ≡ e.start + p
    its_own [] sub m = elim m [ ]
    its_own (y ∷ es) sub m =
        ⊎_elim
        (λ (o : lies y b ≡ true).
        let i : y ≡ e = the_same y (sub y (inl refl)) o in
        let s : e.start + (b - below all e.start) ≡ e.start + p = omega arith in
        hit y es b o ∙ ap (λ (z : Entry). z.start + (b - below all z.start)) i ∙ s)
        (λ (o : lies y b ≡ false).
        ⊎_elim
        (λ (i : y ≡ e). absurd
        (clash (lies e b) (run_in (below all e.start) e.length b (omega arith) (omega arith))
        (ap (λ (z : Entry). lies z b) (sym i) ∙ o)))
        (λ (i : Member e es). miss y es b o ∙ its_own es (λ x k. sub x (inr k)) i)
        m)
        (decide (lies y b))

    pub source-own : source all all b ≡ e.start + p
    source-own = its_own all (λ y m. m) member

module _ (all : List Entry) (card : List ℕ) where
  -- block p of an extent
  pub closed_block : Apart all → (e : Entry) → Member e all → (p : ℕ) → p < e.length
      → 512 * (e.start + e.length) ≤ length card → 512 * held all ≤ length card
      → block_of (closed_card all card) ((closed_entry all e).start + p) ≡ block_of card (e.start + p)
  unfolding closed_card
  closed_block apart e m p lt fits room =
      let i : below all e.start + e.length ≤ held all = closed_inside all e m in
      sourced_block card (source all all) (below all e.start + p) (e.start + p) (source-own all apart e m p lt)
      (omega arith) (omega arith)

  -- a block that is free afterwards
  pub free_block : (b : ℕ) → held all ≤ b → 512 * b + 512 ≤ length card → block_of (closed_card all card) b ≡ block_of card b
  unfolding closed_card
  free_block b h fits = sourced_block card (source all all) b b (beyond_all all all (λ y m. m) b h) fits fits

  pub closed_card_length : length (closed_card all card) ≡ length card
  unfolding closed_card
  closed_card_length = sourced_length card (source all all)
