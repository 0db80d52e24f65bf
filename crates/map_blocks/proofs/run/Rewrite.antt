-- A map rewritten word by word, from the word of block `base` on: `goal` says which blocks are to be free.
-- Assumes nothing.
use mathlib.Core.Path.{◌≡◌, refl, sym, ap, ◌∙◌, subst}
use mathlib.Core.Logic.{◌⊎◌, inl, inr, ⊎_elim}
use mathlib.Core.Bool.{Bool, true, false, ◌&&◌, cond}
use mathlib.Core.List.{List}
use Prim.Native.Nat.{ℕ, ◌+◌, ◌-◌, ◌*◌, ◌/◌, ◌%◌, ◌≤◌, ◌<◌, ◌^◌}
use native.Mathlib.Omega.{arith}
use lib.Dec.{leb, ltb}
use lib.ListN.{length, get_or, set, length-set}
use lib.Seq.{get_or-set_same, get_or-set_other}
use borrow.Author.Tests.{le-ltb, lt-leb}
use Rattle.map_blocks.specs.Blocks.{free}
use Rattle.map_blocks.specs.Maps.{map_of, in_run}
use Rattle.map_blocks.specs.Words.{bit}
use Rattle.laws.proofs.Bools.{order}
use Rattle.map_blocks.proofs.Maps.{free_bit, map_ext}

pub record Rewritten (goal : ℕ → Bool) (old : List ℕ) (base : ℕ) (map : List ℕ) : Type 0 where
  pub long : length map ≡ length old
  pub words : (i : ℕ) → i < length map → get_or map i 0 < 2 ^ 64
  pub done : (b : ℕ) → b < base → free map b ≡ goal b
  pub left : (b : ℕ) → base ≤ b → free map b ≡ free old b

pub begin : (goal : ℕ → Bool) (old : List ℕ) (base : ℕ) → ((i : ℕ) → i < length old → get_or old i 0 < 2 ^ 64)
    → ((b : ℕ) → b < base → free old b ≡ goal b) → Rewritten goal old base old
begin goal old base small same = record { long = refl; words = small; done = same; left = λ b l. refl }

-- a block of a word that was stored, and of another
stored : (map : List ℕ) (i v j : ℕ) → i < length map → j < 64 → free (set map i v) (i * 64 + j) ≡ bit v j
stored map i v j h l = free_bit (set map i v) i j l ∙ ap (λ (x : ℕ). bit x j) (get_or-set_same map i v 0 h)

other : (map : List ℕ) (i v b : ℕ) → (b / 64 ≡ i → ⊥) → free (set map i v) b ≡ free map b
other map i v b ne =
    let e : b / 64 * 64 + b % 64 ≡ b = omega arith in
    subst (λ (x : ℕ). free (set map i v) x ≡ free map x) e
    (free_bit (set map i v) (b / 64) (b % 64) (omega arith)
    ∙ ap (λ (x : ℕ). bit x (b % 64)) (get_or-set_other map i (b / 64) v 0 ne)
    ∙ sym (free_bit map (b / 64) (b % 64) (omega arith)))

same : (a b : ℕ) → (a ≡ b) ⊎ (a ≡ b → ⊥)
same a b = ⊎_elim (λ l. inr (λ e. omega arith))
    (λ g. ⊎_elim (λ l. inr (λ e. omega arith)) (λ g'. inl (omega arith)) (order b a)) (order a b)

-- the next word is stored
pub turn : (goal : ℕ → Bool) (old : List ℕ) (i : ℕ) (map : List ℕ) (v : ℕ) → Rewritten goal old (i * 64) map → i < length map
    → v < 2 ^ 64
    → ((j : ℕ) → j < 64 → bit v j ≡ goal (i * 64 + j)) → Rewritten goal old (i * 64 + 64) (set map i v)
turn goal old i map v m u small says = record {
  long = length-set map i v ∙ m.long;
  words = λ t l. ⊎_elim (λ e. subst (λ (x : ℕ). get_or (set map i v) x 0 < 2 ^ 64) (sym e)
      (subst (λ (x : ℕ). x < 2 ^ 64) (sym (get_or-set_same map i v 0 u)) small))
      (λ ne. subst (λ (x : ℕ). x < 2 ^ 64) (sym (get_or-set_other map i t v 0 ne))
      (m.words t (subst (λ (x : ℕ). t < x) (length-set map i v) l))) (same t i);
  done = λ b l. ⊎_elim (λ lo. other map i v b (λ e. omega arith) ∙ m.done b lo)
      (λ hi. let e : i * 64 + (b - i * 64) ≡ b = omega arith in
      ap (free (set map i v)) (sym e) ∙ stored map i v (b - i * 64) u (omega arith) ∙ says (b - i * 64) (omega arith)
      ∙ ap goal e) (order b (i * 64));
  left = λ b l. other map i v b (λ e. omega arith) ∙ m.left b (omega arith);
}

-- what is left is as it is to be
pub finish : (goal : ℕ → Bool) (old : List ℕ) (base : ℕ) (map : List ℕ) → Rewritten goal old base map
    → ((b : ℕ) → base ≤ b → b < length old * 64 → free old b ≡ goal b) → map ≡ map_of goal (length old)
finish goal old base map m rest =
    map_ext goal (length old) map m.long (λ i l. m.words i (subst (λ (x : ℕ). i < x) (sym m.long) l))
    (λ b l. ⊎_elim (λ lo. m.done b lo) (λ hi. m.left b hi ∙ rest b hi l) (order b base))

-- a block out of the run that is marked
pub outside : (start k b : ℕ) (to f : Bool) → (b < start) ⊎ (start + k ≤ b) → f ≡ cond (in_run start k b) to f
outside start k b to f (inl l) = ap (λ (t : Bool). cond (t && ltb b (start + k)) to f) (sym (lt-leb start b l))
outside start k b to f (inr g) = sym (none (leb start b))
    ∙ ap (λ (t : Bool). cond (leb start b && t) to f) (sym (le-ltb b (start + k) g))
  where
    none : (t : Bool) → cond (t && false) to f ≡ f
    none true = refl
    none false = refl
