-- In a sound state no two sheets hold the same block, and no block that a sheet holds is free; every call keeps that.
-- Assumes nothing.
use Prim.Native.Nat.{ℕ, zero, suc, ◌+◌, ◌*◌, ◌/◌, ◌%◌, ◌-◌, ◌^◌, ◌≤◌, ◌<◌}
use mathlib.Core.Path.{◌≡◌, refl, sym, ap, ◌∙◌}
use mathlib.Core.Logic.{⊎_elim}
use mathlib.Core.Bool.{Bool, true, false, cond}
use mathlib.Core.List.{List, [], ◌∷◌}
use native.Mathlib.Nat.{zero-div}
use native.Mathlib.Omega.{arith}
use lib.Dec.{eqb}
use lib.ListN.{length, get_or-eq_default}
use Rattle.map_blocks.specs.Blocks.{free}
use Rattle.map_blocks.specs.Maps.{in_run, marked}
use Rattle.map_blocks.proofs.Maps.{map_free, marked_length}
use Rattle.laws.proofs.Bools.{order}
use Rattle.catalogue.specs.Entries.{entry_at, zeros}
use Rattle.catalogue.specs.declared.Entry.{Entry}
use Rattle.catalogue_standings.specs.Standings.{standing_of, is_damaged}
use Rattle.image_soundness.specs.Sound.{coverings, undamaged}
use Rattle.image_soundness.proofs.Covers.{one, run_in, in_run_lem, head_undamaged, tail_undamaged}
use Rattle.image_soundness.proofs.Damage.{extent_inside, extent_taken}
use Rattle.image_soundness.proofs.WhenSound.{sound_to}
use Rattle.card.specs.Calls.{Kept, saved_state}
use Rattle.power_cuts.specs.Held.{Sound, Covers}
use Rattle.power_cuts.proofs.Deeds.{entry_in}

pub record Apart (s : Kept) : Type 0 where
  pub taken : (sheet b : ℕ) → Covers s sheet b → free s.map b ≡ false
  pub apart : (i j b : ℕ) → Covers s i b → Covers s j b → i ≡ j

-- ---- a map with a run marked

pub past : (map : List ℕ) (b : ℕ) → length map * 64 ≤ b → free map b ≡ false
unfolding free
past map b h =
    ap {B = Bool} (λ (x : ℕ). eqb (x / 2 ^ (63 - b % 64) % 2) 1) (get_or-eq_default map 0 {n = b / 64} (omega arith))
    ∙ ap {B = Bool} (λ (x : ℕ). eqb (x % 2) 1) (zero-div (2 ^ (63 - b % 64)))

module _ (map : List ℕ) (start k b : ℕ) where
  within : (to : Bool) → b < length map * 64 → free (marked map start k to) b ≡ cond (in_run start k b) to (free map b)
  unfolding marked
  within to h = map_free (λ b. cond (in_run start k b) to (free map b)) (length map) b h

  beyond : (to : Bool) → length map * 64 ≤ b → free (marked map start k to) b ≡ false
  beyond to h = past (marked map start k to) b (omega (arith, marked_length map start k to))

  -- what is taken stays so
  pub still_taken : free map b ≡ false → free (marked map start k false) b ≡ false
  still_taken e =
      ⊎_elim (λ l. within false l ∙ go (in_run start k b)) (λ g. beyond false g) (order b (length map * 64))
    where
      go : (t : Bool) → cond t false (free map b) ≡ false
      go true = refl
      go false = e

  -- the run is taken
  pub now_taken : start ≤ b → b < start + k → free (marked map start k false) b ≡ false
  now_taken p q =
      ⊎_elim (λ l. within false l ∙ ap (λ (t : Bool). cond t false (free map b)) (run_in start k b p q)) (λ g. beyond false g)
      (order b (length map * 64))

  -- and what is not of the run is as it was
  pub other : (to : Bool) → (start ≤ b → b < start + k → ⊥) → free (marked map start k to) b ≡ free map b
  other to out =
      ⊎_elim (λ l. within to l ∙ go (in_run start k b) refl) (λ g. beyond to g ∙ sym (past map b g)) (order b (length map * 64))
    where
      go : (t : Bool) → in_run start k b ≡ t → cond t to (free map b) ≡ free map b
      go true e = let r = in_run_lem start k b e in absurd (out r.0 r.1)
      go false e = refl

-- ---- a sound state

pub undamaged_at : (n : ℕ) (f : ℕ → Bool) (es : List Entry) (i : ℕ) → i < length es → undamaged n f es ≡ true
    → is_damaged (standing_of n f (entry_at es i)) ≡ false
undamaged_at n f [] i h u = absurd (omega arith)
undamaged_at n f (e ∷ es) zero h u = head_undamaged n f e es u
undamaged_at n f (e ∷ es) (suc i) h u = undamaged_at n f es i (omega arith) (tail_undamaged n f e es u)

-- an entry that covers a block is one of the catalogue
pub listed : (es : List Entry) (i b : ℕ) → b < (entry_at es i).start + (entry_at es i).length → (entry_at es i).start ≤ b
    → i < length es
listed es i b h l =
    ⊎_elim (λ (x : i < length es). x)
    (λ (x : length es ≤ i).
    let z : entry_at es i ≡ zeros = get_or-eq_default es zeros {n = i} x in
    let p : (entry_at es i).length ≡ 0 = ap (λ (e : Entry). e.length) z in absurd (omega arith))
    (order i (length es))

one_cover : (es : List Entry) (i b : ℕ) → i < length es → in_run (entry_at es i).start (entry_at es i).length b ≡ true
    → 1 ≤ coverings es b
unfolding coverings
one_cover [] i b h e = absurd (omega arith)
one_cover (x ∷ es) zero b h e = let z : one (in_run x.start x.length b) ≡ 1 = ap one e in omega arith
one_cover (x ∷ es) (suc i) b h e = let z = one_cover es i b (omega arith) e in omega arith

two_covers : (es : List Entry) (i j b : ℕ) → i < length es → j < length es
    → in_run (entry_at es i).start (entry_at es i).length b ≡ true
    → in_run (entry_at es j).start (entry_at es j).length b ≡ true → coverings es b ≤ 1 → i ≡ j
unfolding coverings
two_covers [] i j b h l e f few = absurd (omega arith)
two_covers (x ∷ es) zero zero b h l e f few = refl
two_covers (x ∷ es) zero (suc j) b h l e f few =
    let y : one (in_run x.start x.length b) ≡ 1 = ap one e in
    let z = one_cover es j b (omega arith) f in absurd (omega arith)
two_covers (x ∷ es) (suc i) zero b h l e f few =
    let y : one (in_run x.start x.length b) ≡ 1 = ap one f in
    let z = one_cover es i b (omega arith) e in absurd (omega arith)
two_covers (x ∷ es) (suc i) (suc j) b h l e f few =
    ap suc (two_covers es i j b (omega arith) (omega arith) e f (omega arith))

pub sound_apart : (s : Kept) → Sound s → Apart s
sound_apart s h =
    let x = sound_to (saved_state s.shape s.map s.entries) h in
    let n : ℕ = s.shape.blocks in
    let f = free s.map in
    record {
      taken = λ i b c. extent_taken n (entry_in s i) f (undamaged_at n f s.entries i (listed s.entries i b c.1 c.0)
          x.whole) b c.0 c.1;
      apart = λ i j b c d.
          let u = listed s.entries i b c.1 c.0 in
          let v = listed s.entries j b d.1 d.0 in
          let w = extent_inside n (entry_in s i) f (undamaged_at n f s.entries i u x.whole) in
          two_covers s.entries i j b u v (run_in (entry_in s i).start (entry_in s i).length b c.0 c.1)
          (run_in (entry_in s j).start (entry_in s j).length b d.0 d.1) (x.disjoint b (omega (arith, w, c.1)));
    }
