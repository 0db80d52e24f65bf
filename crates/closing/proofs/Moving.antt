-- An undamaged entry: what it shows of its extent, and that it is undamaged wherever its extent moves to blocks that are taken.
-- Assumes nothing.
use Rattle.std.proofs.Common.{◌≡◌, ℕ, ◌+◌, ◌<◌, ◌≤◌, Bool, true, false, cond, not, ◌&&◌, eqb, leb, sym, refl, ap, ◌∙◌, ap₂}
use Rattle.std.proofs.Common.{true≢false, arith, ne_eqb, eqb-true, le-leb}
use borrow.Author.Tests.{lt-leb}
use Rattle.map_blocks.specs.Blocks.{all}
use Rattle.laws.proofs.Bools.{and_left, and_both}
use Rattle.map_blocks.proofs.Runs.{all_intro}
use Rattle.catalogue.specs.Entries.{absent_mark, paused_mark, open_mark, complete_mark}
use Rattle.catalogue.specs.declared.Entry.{Entry}
use Rattle.catalogue_standings.specs.Standings.{extent_holds, standing_of, is_damaged}
use Rattle.catalogue_standings.specs.declared.Standing.TheVariants.{Absent, Paused, PausedWith, Open, Complete, Damaged}

-- damage, by which mark the entry has, whether start and length are 0, and whether the extent holds
damage : Bool → Bool → Bool → Bool → Bool → Bool → Bool
damage p q o k zeros holds =
    cond p (not zeros) (cond q (cond zeros false (not holds)) (cond o (not holds) (cond k (not holds) true)))

abbrev zeroed : Entry → Bool
zeroed e = eqb e.start 0 && eqb e.length 0

damage_is : (e : Entry) (p q o k z h : Bool)
    → is_damaged (cond p (cond z Absent Damaged) (cond q (cond z Paused (cond h (PausedWith e.start e.length) Damaged))
    (cond o (cond h (Open e.start e.length) Damaged)
    (cond k (cond h (Complete e.start e.length) Damaged) Damaged))))
    ≡ damage p q o k z h
unfolding damage
damage_is e true q o k true h = refl
damage_is e true q o k false h = refl
damage_is e false true o k true h = refl
damage_is e false true o k false true = refl
damage_is e false true o k false false = refl
damage_is e false false true k z true = refl
damage_is e false false true k z false = refl
damage_is e false false false true z true = refl
damage_is e false false false true z false = refl
damage_is e false false false false z h = refl

damage_of : (n : ℕ) (f : ℕ → Bool) (e : Entry) → is_damaged (standing_of n f e)
    ≡ damage (eqb e.mark absent_mark) (eqb e.mark paused_mark) (eqb e.mark open_mark) (eqb e.mark complete_mark)
    (zeroed e) (extent_holds n f e.start e.length)
unfolding standing_of
damage_of n f e =
    damage_is e (eqb e.mark absent_mark) (eqb e.mark paused_mark) (eqb e.mark open_mark) (eqb e.mark complete_mark)
    (zeroed e) (extent_holds n f e.start e.length)

-- without an extent that holds, start and length are 0
zeroed_then : (p q o k z : Bool) → damage p q o k z false ≡ false → z ≡ true
unfolding damage
zeroed_then true q o k true d = refl
zeroed_then true q o k false d = absurd (true≢false d)
zeroed_then false true o k true d = refl
zeroed_then false true o k false d = absurd (true≢false d)
zeroed_then false false true k z d = absurd (true≢false d)
zeroed_then false false false true z d = absurd (true≢false d)
zeroed_then false false false false z d = absurd (true≢false d)

-- with blocks, any extent that holds will do
holds_then : (p q o k h : Bool) → damage p q o k false h ≡ false → damage p q o k false true ≡ false
unfolding damage
holds_then true q o k h d = d
holds_then false true o k h d = refl
holds_then false false true k h d = refl
holds_then false false false true h d = refl
holds_then false false false false h d = d

not_holding : (n : ℕ) (f : ℕ → Bool) (s l : ℕ) → l ≡ 0 → extent_holds n f s l ≡ false
unfolding extent_holds
not_holding n f s l z = ap (λ (b : Bool). b && leb (s + l) n && all (λ b. not (f b)) s l) (lt-leb 1 l (omega arith))

module _ (n : ℕ) (f : ℕ → Bool) (e : Entry) (d : is_damaged (standing_of n f e) ≡ false) where
  abbrev by_marks_lem : Bool → Bool → Bool
  by_marks_lem = damage (eqb e.mark absent_mark) (eqb e.mark paused_mark) (eqb e.mark open_mark) (eqb e.mark complete_mark)

  pub starts_at_0 : e.length ≡ 0 → e.start ≡ 0
  starts_at_0 z =
      let q : by_marks_lem (zeroed e) false ≡ false = ap (by_marks_lem (zeroed e)) (sym (not_holding n f e.start e.length z))
      ∙ sym (damage_of n f e) ∙ d in
      eqb-true e.start 0 (and_left (eqb e.start 0) (eqb e.length 0)
      (zeroed_then (eqb e.mark absent_mark) (eqb e.mark paused_mark) (eqb e.mark open_mark)
      (eqb e.mark complete_mark) (zeroed e) q))

  pub empty_undamaged : (m s : ℕ) (g : ℕ → Bool) → e.length ≡ 0 → s ≡ 0
      → is_damaged (standing_of m g (record { mark = e.mark; start = s; length = e.length })) ≡ false
  empty_undamaged m s g z h =
      damage_of m g (record { mark = e.mark; start = s; length = e.length })
      ∙ ap₂ by_marks_lem (ap (λ (k : ℕ). eqb k 0 && eqb e.length 0) (h ∙ sym (starts_at_0 z)))
      (not_holding m g s e.length z ∙ sym (not_holding n f e.start e.length z))
      ∙ sym (damage_of n f e) ∙ d

  module _ (m s : ℕ) (g : ℕ → Bool) (some : 1 ≤ e.length) (inside : s + e.length ≤ m)
      (taken : (b : ℕ) → s ≤ b → b < s + e.length → g b ≡ false) where
    not-both : (a : Bool) → (a && eqb e.length 0) ≡ false
    not-both true = ne_eqb e.length 0 (omega arith)
    not-both false = refl

    holding : extent_holds m g s e.length ≡ true
    unfolding extent_holds
    holding =
        and_both (leb 1 e.length && leb (s + e.length) m) (all (λ b. not (g b)) s e.length)
        (and_both (leb 1 e.length) (leb (s + e.length) m) (le-leb 1 e.length some) (le-leb (s + e.length) m inside))
        (all_intro (λ b. not (g b)) s e.length (λ b p q. ap not (taken b p q)))

    pub moved-undamaged : is_damaged (standing_of m g (record { mark = e.mark; start = s; length = e.length })) ≡ false
    moved-undamaged =
        let h : Bool = extent_holds n f e.start e.length in
        let q : by_marks_lem false h ≡ false = ap (λ (z : Bool). by_marks_lem z h) (sym (not-both (eqb e.start 0)))
        ∙ sym (damage_of n f e) ∙ d in
        damage_of m g (record { mark = e.mark; start = s; length = e.length })
        ∙ ap₂ by_marks_lem (not-both (eqb s 0)) holding
        ∙ holds_then (eqb e.mark absent_mark) (eqb e.mark paused_mark) (eqb e.mark open_mark)
        (eqb e.mark complete_mark) h q
