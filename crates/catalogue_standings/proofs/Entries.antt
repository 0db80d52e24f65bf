-- What an undamaged entry says, whatever its mark: its length is its standing's, and its blocks lie inside n.
-- Assumes nothing.
use mathlib.Core.Path.{◌≡◌, refl, sym, ◌∙◌}
use mathlib.Core.Bool.{Bool, true, false, not, ◌&&◌, cond, true≢false}
use Prim.Native.Nat.{ℕ, ◌+◌, ◌≤◌}
use native.Mathlib.Omega.{arith}
use lib.Dec.{leb, eqb}
use borrow.Author.Tests.{leb-true, eqb-true}
use Rattle.catalogue.specs.Entries.{absent_mark, paused_mark, open_mark, complete_mark}
use Rattle.map_blocks.specs.Blocks.{all}
use Rattle.laws.proofs.Bools.{and_left, and_right}
use Rattle.catalogue.specs.declared.Entry.{Entry}
use Rattle.catalogue_standings.specs.Standings.{extent_holds, standing_of, is_damaged, length_of}
use Rattle.catalogue_standings.specs.declared.Standing.{Standing}
use Rattle.catalogue_standings.specs.declared.Standing.TheVariants.{Absent, Paused, PausedWith, Open, Complete, Damaged}

pub record Inside (n : ℕ) (e : Entry) (s : Standing) : Type 0 where
  pub lasts : length_of s ≡ e.length
  pub inside : e.start + e.length ≤ n

module _ (n : ℕ) (free : ℕ → Bool) (e : Entry) where
  zeros : Bool
  zeros = eqb e.start 0 && eqb e.length 0

  holds : Bool
  holds = extent_holds n free e.start e.length

  -- a standing without an extent has start 0 and length 0
  without : (s : Standing) → length_of s ≡ 0 → (b : Bool) → zeros ≡ b → is_damaged (cond b s Damaged) ≡ false
      → Inside n e (cond b s Damaged)
  unfolding zeros
  without s z false q d = absurd (true≢false d)
  without s z true q d =
      let start : e.start ≡ 0 = eqb-true e.start 0 (and_left (eqb e.start 0) (eqb e.length 0) q) in
      let length : e.length ≡ 0 = eqb-true e.length 0 (and_right (eqb e.start 0) (eqb e.length 0) q) in
      record { lasts = z ∙ sym length; inside = omega arith }

  -- an extent that holds ends at n or before it
  reaching : (s : Standing) → length_of s ≡ e.length → (b : Bool) → holds ≡ b → is_damaged (cond b s Damaged) ≡ false
      → Inside n e (cond b s Damaged)
  unfolding holds extent_holds
  reaching s z false q d = absurd (true≢false d)
  reaching s z true q d =
      let a : Bool = leb 1 e.length in
      let b : Bool = leb (e.start + e.length) n in
      let c : Bool = all (λ t. not (free t)) e.start e.length in
      record { lasts = z; inside = leb-true (e.start + e.length) n (and_right a b (and_left (a && b) c q)) }

  -- a pause without blocks, or with an extent that holds
  pausing : (s : Standing) → length_of s ≡ e.length → (b : Bool) → zeros ≡ b
      → is_damaged (cond b Paused (cond holds s Damaged)) ≡ false → Inside n e (cond b Paused (cond holds s Damaged))
  pausing s z true q d = without Paused refl true q d
  pausing s z false q d = reaching s z holds refl d

  -- the standing, by which marks the entry's is
  abbrev said : Bool → Bool → Bool → Bool → Standing
  said p q o k =
      cond p (cond zeros Absent Damaged)
      (cond q (cond zeros Paused (cond holds (PausedWith e.start e.length) Damaged))
      (cond o (cond holds (Open e.start e.length) Damaged)
      (cond k (cond holds (Complete e.start e.length) Damaged)
      Damaged)))

  by_mark : (p q o k : Bool) → is_damaged (said p q o k) ≡ false → Inside n e (said p q o k)
  by_mark true q o k d = without Absent refl zeros refl d
  by_mark false true o k d = pausing (PausedWith e.start e.length) refl zeros refl d
  by_mark false false true k d = reaching (Open e.start e.length) refl holds refl d
  by_mark false false false true d = reaching (Complete e.start e.length) refl holds refl d
  by_mark false false false false d = absurd (true≢false d)

  pub inside_of : is_damaged (standing_of n free e) ≡ false → Inside n e (standing_of n free e)
  unfolding standing_of zeros holds
  inside_of d = by_mark (eqb e.mark absent_mark) (eqb e.mark paused_mark) (eqb e.mark open_mark)
      (eqb e.mark complete_mark) d
