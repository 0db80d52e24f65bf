-- How a sheet stands, by its entry and the blocks that are free: what an entry with blocks holds, and that it stands as it did
-- where none of its own blocks changes.
-- Assumes nothing.
use Prim.Native.Nat.{ℕ, ◌+◌, ◌≤◌, ◌<◌}
use mathlib.Core.Path.{◌≡◌, refl, sym, ap, subst, ◌∙◌}
use mathlib.Core.Logic.{◌⊎◌, inl, inr}
use mathlib.Core.Bool.{Bool, true, false, not, ◌&&◌, cond, true≢false}
use native.Mathlib.Omega.{arith}
use lib.Dec.{eqb, leb}
use borrow.Author.Tests.{leb-true, le-leb, not-true, ne_eqb}
use Rattle.map_blocks.specs.Blocks.{all}
use Rattle.map_blocks.proofs.Runs.{all_elim, all_intro, all_same}
use Rattle.laws.proofs.Bools.{and_left, and_right, and_both}
use Rattle.catalogue.specs.Entries.{absent_mark, paused_mark, open_mark, complete_mark}
use Rattle.catalogue.specs.declared.Entry.{Entry}
use Rattle.catalogue_standings.specs.Standings.{standing_of, extent_holds, is_absent, is_open, is_damaged, start_of, length_of}
use Rattle.catalogue_standings.specs.declared.Standing.{Standing}
use Rattle.catalogue_standings.specs.declared.Standing.TheVariants.{Absent, Paused, PausedWith, Open, Complete, Damaged}
use Rattle.catalogue_standings.proofs.Entries.{inside_of}
use Rattle.refusals.specs.Effects.{entry_of}

-- ---- an entry with blocks

abbrev pub has_blocks : Standing → Bool
has_blocks Absent = false
has_blocks Paused = false
has_blocks (PausedWith s l) = true
has_blocks (Open s l) = true
has_blocks (Complete s l) = true
has_blocks Damaged = false

abbrev pub finishes : Standing → Bool
finishes Absent = false
finishes Paused = false
finishes (PausedWith s l) = true
finishes (Open s l) = false
finishes (Complete s l) = true
finishes Damaged = false

-- by the entry's mark, by whether start and length are 0, and by whether its extent holds
abbrev said : Entry → Bool → Bool → Bool → Bool → Bool → Bool → Standing
said e p q o k zeros holds =
    cond p (cond zeros Absent Damaged)
    (cond q (cond zeros Paused (cond holds (PausedWith e.start e.length) Damaged))
    (cond o (cond holds (Open e.start e.length) Damaged)
    (cond k (cond holds (Complete e.start e.length) Damaged)
    Damaged)))

record Says (e : Entry) (st : Standing) (holds : Bool) : Type 0 where
  starts : start_of st ≡ e.start
  lasts : length_of st ≡ e.length
  extent : holds ≡ true

says : (e : Entry) (p q o k zeros holds : Bool) → has_blocks (said e p q o k zeros holds) ≡ true
    → Says e (said e p q o k zeros holds) holds
says e true q o k true holds h = absurd (true≢false (sym h))
says e true q o k false holds h = absurd (true≢false (sym h))
says e false true o k true holds h = absurd (true≢false (sym h))
says e false true o k false true h = record { starts = refl; lasts = refl; extent = refl }
says e false true o k false false h = absurd (true≢false (sym h))
says e false false true k zeros true h = record { starts = refl; lasts = refl; extent = refl }
says e false false true k zeros false h = absurd (true≢false (sym h))
says e false false false true zeros true h = record { starts = refl; lasts = refl; extent = refl }
says e false false false true zeros false h = absurd (true≢false (sym h))
says e false false false false zeros holds h = absurd (true≢false (sym h))

module _ (n : ℕ) (f : ℕ → Bool) (e : Entry) where
  pub record Holds (start count : ℕ) : Type 0 where
    pub starts : e.start ≡ start
    pub lasts : e.length ≡ count
    pub some : 1 ≤ count
    pub inside : start + count ≤ n
    pub taken : (b : ℕ) → start ≤ b → b < start + count → f b ≡ false
    pub extent : extent_holds n f start count ≡ true

  said_so : has_blocks (standing_of n f e) ≡ true → Says e (standing_of n f e) (extent_holds n f e.start e.length)
  unfolding standing_of
  said_so h =
      says e (eqb e.mark absent_mark) (eqb e.mark paused_mark) (eqb e.mark open_mark) (eqb e.mark complete_mark)
      (eqb e.start 0 && eqb e.length 0) (extent_holds n f e.start e.length) h

  parts : (start count : ℕ) → e.start ≡ start → e.length ≡ count → extent_holds n f start count ≡ true → Holds start count
  unfolding extent_holds
  parts start count p q h =
      let a : Bool = leb 1 count in
      let b : Bool = leb (start + count) n in
      let c : Bool = all (λ t. not (f t)) start count in
      record {
        starts = p;
        lasts = q;
        some = leb-true 1 count (and_left a b (and_left (a && b) c h));
        inside = leb-true (start + count) n (and_right a b (and_left (a && b) c h));
        taken = λ x l u. not-true (f x) (all_elim (λ t. not (f t)) start count (and_right (a && b) c h) x l u);
        extent = h;
      }

  pub holds_so : (st : Standing) → standing_of n f e ≡ st → has_blocks st ≡ true → Holds (start_of st) (length_of st)
  holds_so st h b =
      let x = said_so (ap has_blocks h ∙ b) in
      let p : e.start ≡ start_of st = sym x.starts ∙ ap start_of h in
      let q : e.length ≡ length_of st = sym x.lasts ∙ ap length_of h in
      parts (start_of st) (length_of st) p q (sym (λ y. extent_holds n f (p y) (q y)) ∙ x.extent)

-- the length of an entry is that of its standing
pub length_so : (n : ℕ) (f : ℕ → Bool) (e : Entry) (st : Standing) → standing_of n f e ≡ st → is_damaged st ≡ false
    → e.length ≡ length_of st
length_so n f e st h d = sym (inside_of n f e (ap is_damaged h ∙ d)).lasts ∙ ap length_of h

-- one with the mark of a pause is not Absent and not Open
pub paused_mark_lem : (n : ℕ) (f : ℕ → Bool) (e : Entry) → e.mark ≡ paused_mark
    → (is_absent (standing_of n f e) ≡ false) × (is_open (standing_of n f e) ≡ false)
unfolding standing_of
paused_mark_lem n f e m =
    subst (λ (k : ℕ). (is_absent (read k) ≡ false) × (is_open (read k) ≡ false)) (sym m)
    (go (eqb e.start 0 && eqb e.length 0) (extent_holds n f e.start e.length))
  where
    read : ℕ → Standing
    read k = said e (eqb k absent_mark) (eqb k paused_mark) (eqb k open_mark) (eqb k complete_mark)
        (eqb e.start 0 && eqb e.length 0) (extent_holds n f e.start e.length)

    go : (zeros holds : Bool) → (is_absent (said e false true false false zeros holds) ≡ false)
        × (is_open (said e false true false false zeros holds) ≡ false)
    go true holds = (refl, refl)
    go false true = (refl, refl)
    go false false = (refl, refl)

-- ---- a finished course with another start

pub finished_of : (st : Standing) → finishes st ≡ true
    → (st ≡ Complete (start_of st) (length_of st)) ⊎ (st ≡ PausedWith (start_of st) (length_of st))
finished_of Absent h = absurd (true≢false (sym h))
finished_of Paused h = absurd (true≢false (sym h))
finished_of (PausedWith s l) h = inr refl
finished_of (Open s l) h = absurd (true≢false (sym h))
finished_of (Complete s l) h = inl refl
finished_of Damaged h = absurd (true≢false (sym h))

by_same_marks : (e d : Entry) (p q o k z h y g : Bool) → finishes (said e p q o k z h) ≡ true → y ≡ false
    → is_damaged (said d p q o k y g) ≡ false → finishes (said d p q o k y g) ≡ true
by_same_marks e d true q o k true h y g f u w = absurd (true≢false (sym f))
by_same_marks e d true q o k false h y g f u w = absurd (true≢false (sym f))
by_same_marks e d false true o k z h true g f u w = absurd (true≢false u)
by_same_marks e d false true o k z h false true f u w = refl
by_same_marks e d false true o k z h false false f u w = absurd (true≢false w)
by_same_marks e d false false true k z true y g f u w = absurd (true≢false (sym f))
by_same_marks e d false false true k z false y g f u w = absurd (true≢false (sym f))
by_same_marks e d false false false true z h y true f u w = refl
by_same_marks e d false false false true z h y false f u w = absurd (true≢false w)
by_same_marks e d false false false false z h y g f u w = absurd (true≢false (sym f))

-- an entry with its mark, and with blocks, that is not damaged
pub finished_too : (n m : ℕ) (f g : ℕ → Bool) (e d : Entry) → d.mark ≡ e.mark → 1 ≤ d.length
    → finishes (standing_of n f e) ≡ true → is_damaged (standing_of m g d) ≡ false → finishes (standing_of m g d) ≡ true
unfolding standing_of
finished_too n m f g e d same some h w =
    subst (λ (k : ℕ). is_damaged (read k) ≡ false → finishes (read k) ≡ true) (sym same)
    (by_same_marks e d (eqb e.mark absent_mark) (eqb e.mark paused_mark) (eqb e.mark open_mark)
    (eqb e.mark complete_mark) (eqb e.start 0 && eqb e.length 0) (extent_holds n f e.start e.length)
    (eqb d.start 0 && eqb d.length 0) (extent_holds m g d.start d.length) h
    (go (eqb d.start 0) (eqb d.length 0) (ne_eqb d.length 0 (λ z. omega arith)))) w
  where
    go : (a b : Bool) → b ≡ false → (a && b) ≡ false
    go true b z = z
    go false b z = refl

    read : ℕ → Standing
    read k = said d (eqb k absent_mark) (eqb k paused_mark) (eqb k open_mark) (eqb k complete_mark)
        (eqb d.start 0 && eqb d.length 0) (extent_holds m g d.start d.length)

-- ---- where the same blocks of its own are free, it stands the same

abbrev by_all : ℕ → Entry → Bool → Standing
by_all n e a =
    said e (eqb e.mark absent_mark) (eqb e.mark paused_mark) (eqb e.mark open_mark) (eqb e.mark complete_mark)
    (eqb e.start 0 && eqb e.length 0) (leb 1 e.length && leb (e.start + e.length) n && a)

by_all_lem : (n : ℕ) (f : ℕ → Bool) (e : Entry) → standing_of n f e ≡ by_all n e (all (λ b. not (f b)) e.start e.length)
unfolding standing_of extent_holds
by_all_lem n f e = refl

pub stands_same : (n : ℕ) (f g : ℕ → Bool) (e : Entry)
    → ((b : ℕ) → e.start ≤ b → b < e.start + e.length → f b ≡ g b) → standing_of n f e ≡ standing_of n g e
stands_same n f g e h =
    by_all_lem n f e
    ∙ ap (by_all n e) (all_same (λ b. not (f b)) (λ b. not (g b)) e.start e.start e.length
    (λ j l. ap not (h (e.start + j) (omega arith) (omega arith))))
    ∙ sym (by_all_lem n g e)

-- ---- an extent that holds, with a mark

pub extent_made : (n : ℕ) (f : ℕ → Bool) (start count : ℕ) → 1 ≤ count → start + count ≤ n
    → ((b : ℕ) → start ≤ b → b < start + count → f b ≡ false) → extent_holds n f start count ≡ true
unfolding extent_holds
extent_made n f start count some inside taken =
    and_both (leb 1 count && leb (start + count) n) (all (λ t. not (f t)) start count)
    (and_both (leb 1 count) (leb (start + count) n) (le-leb 1 count some) (le-leb (start + count) n inside))
    (all_intro (λ t. not (f t)) start count (λ b l u. ap not (taken b l u)))

module _ (n : ℕ) (f : ℕ → Bool) (start count : ℕ) (h : extent_holds n f start count ≡ true) where
  pub is_complete_lem : standing_of n f (entry_of complete_mark start count) ≡ Complete start count
  unfolding standing_of
  is_complete_lem = ap (λ (b : Bool). cond b (Complete start count) Damaged) h

  pub is_open_lem : standing_of n f (entry_of open_mark start count) ≡ Open start count
  unfolding standing_of
  is_open_lem = ap (λ (b : Bool). cond b (Open start count) Damaged) h

  pub is_paused_lem : 1 ≤ count → standing_of n f (entry_of paused_mark start count) ≡ PausedWith start count
  unfolding standing_of
  is_paused_lem some =
      go (eqb start 0) (eqb count 0) (ne_eqb count 0 (λ z. omega arith))
      ∙ ap (λ (b : Bool). cond b (PausedWith start count) Damaged) h
    where
      go : (a b : Bool) → b ≡ false → cond (a && b) Paused (cond (extent_holds n f start count) (PausedWith start count)
          Damaged)
          ≡ cond (extent_holds n f start count) (PausedWith start count) Damaged
      go true b z = ap (λ (x : Bool). cond x Paused (cond (extent_holds n f start count) (PausedWith start count) Damaged)) z
      go false b z = refl
