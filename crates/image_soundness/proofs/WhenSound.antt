-- A sound state, block by block: no entry is damaged, each block below n is free or covered once and no other is either, and
-- the lengths make what the free count leaves of n.
-- Assumes nothing.
use mathlib.Core.Path.{◌≡◌, sym, ap, ap₂, ◌∙◌}
use mathlib.Core.Logic.{⊎_elim}
use mathlib.Core.Bool.{Bool, true, false, ◌&&◌}
use mathlib.Core.List.{List}
use Prim.Native.Nat.{ℕ, ◌+◌, ◌-◌, ◌*◌, ◌≤◌, ◌<◌}
use native.Mathlib.Omega.{arith}
use lib.Dec.{eqb, leb, ltb}
use lib.ListN.{length}
use borrow.Author.Tests.{eqb-true, eqb-false, eq-eqb, ne_eqb, leb-true, le-leb, lt-ltb, le-ltb}
use Rattle.map_blocks.specs.Blocks.{free, all}
use Rattle.map_blocks.specs.Maps.{in_state}
use Rattle.laws.proofs.Bools.{and_left, and_right, and_both, order}
use Rattle.map_blocks.proofs.Maps.{in_state_lem, state_of}
use Rattle.map_blocks.proofs.Runs.{all_intro, all_elim}
use Rattle.survey.specs.Survey.{counts_of}
use Rattle.catalogue.specs.Entries.{held}
use Rattle.catalogue.specs.declared.Entry.{Entry}
use Rattle.image_soundness.specs.Sound.{State, coverings, undamaged, sound}
use Rattle.image_soundness.proofs.Covers.{one, same_one, total_add, total_same, total_all, free_total}
use Rattle.image_soundness.proofs.Covers.{cover_outside, cover_total}

pub record Tidy (n left : ℕ) (map : List ℕ) (es : List Entry) : Type 0 where
  pub whole : undamaged n (free map) es ≡ true
  pub once : (b : ℕ) → b < 64 * length map → coverings es b + one (free map b) ≡ one (ltb b n)
  pub sum : left ≡ held es

-- soundness, in parts
pub record Sound (s : State) : Type 0 where
  pub whole : undamaged s.blocks (free s.map) s.entries ≡ true
  pub disjoint : (b : ℕ) → b < s.blocks → coverings s.entries b ≤ 1
  pub uncovered : (b : ℕ) → b < s.blocks → free s.map b ≡ eqb (coverings s.entries b) 0
  pub beyond : (b : ℕ) → s.blocks ≤ b → b < 64 * length s.map → free s.map b ≡ false
  pub counted : s.spare ≡ (counts_of (free s.map) s.blocks).free

module _ (s : State) where
  abbrev disjoint_test : Bool
  disjoint_test = all (λ b. leb (coverings s.entries b) 1) 0 s.blocks

  abbrev uncovered_test : Bool
  uncovered_test = all (λ b. in_state s.map (eqb (coverings s.entries b) 0) b) 0 s.blocks

  abbrev beyond_test : Bool
  beyond_test = all (in_state s.map false) s.blocks (64 * length s.map - s.blocks)

  abbrev counted_test : Bool
  counted_test = eqb s.spare (counts_of (free s.map) s.blocks).free

  abbrev whole_test : Bool
  whole_test = undamaged s.blocks (free s.map) s.entries

  pub sound_to : sound s ≡ true → Sound s
  unfolding sound
  sound_to e =
      let e4 = and_left (whole_test && disjoint_test && uncovered_test && beyond_test) counted_test e in
      let e3 = and_left (whole_test && disjoint_test && uncovered_test) beyond_test e4 in
      let e2 = and_left (whole_test && disjoint_test) uncovered_test e3 in
      record {
        whole = and_left whole_test disjoint_test e2;
        disjoint = λ b h. leb-true (coverings s.entries b) 1
            (all_elim (λ b. leb (coverings s.entries b) 1) 0 s.blocks (and_right whole_test disjoint_test e2) b
            (omega arith) (omega arith));
        uncovered = λ b h.
            in_state_lem s.map (eqb (coverings s.entries b) 0) b
            (all_elim (λ b. in_state s.map (eqb (coverings s.entries b) 0) b) 0 s.blocks
            (and_right (whole_test && disjoint_test) uncovered_test e3) b (omega arith) (omega arith));
        beyond = λ b l h.
            in_state_lem s.map false b
            (all_elim (in_state s.map false) s.blocks (64 * length s.map - s.blocks)
            (and_right (whole_test && disjoint_test && uncovered_test) beyond_test e4) b l (omega arith));
        counted = eqb-true s.spare (counts_of (free s.map) s.blocks).free
            (and_right (whole_test && disjoint_test && uncovered_test && beyond_test) counted_test e);
      }

  pub to_sound : Sound s → sound s ≡ true
  unfolding sound
  to_sound p =
      and_both (whole_test && disjoint_test && uncovered_test && beyond_test) counted_test
      (and_both (whole_test && disjoint_test && uncovered_test) beyond_test
      (and_both (whole_test && disjoint_test) uncovered_test
      (and_both whole_test disjoint_test p.whole
      (all_intro (λ b. leb (coverings s.entries b) 1) 0 s.blocks
      (λ b l h. le-leb (coverings s.entries b) 1 (p.disjoint b (omega arith)))))
      (all_intro (λ b. in_state s.map (eqb (coverings s.entries b) 0) b) 0 s.blocks
      (λ b l h. state_of s.map (eqb (coverings s.entries b) 0) b (p.uncovered b (omega arith)))))
      (all_intro (in_state s.map false) s.blocks (64 * length s.map - s.blocks)
      (λ b l h. state_of s.map false b (p.beyond b l (omega arith)))))
      (eq-eqb s.spare (counts_of (free s.map) s.blocks).free p.counted)

-- a block that is covered once if it is taken and not at all if it is free
balanced : (k : ℕ) (f : Bool) → k + one f ≡ 1 → (k ≤ 1) × (f ≡ eqb k 0)
balanced k true e = let z : k ≡ 0 = omega arith in (omega arith, sym (eq-eqb k 0 z))
balanced k false e = let z : k ≡ 1 = omega arith in (omega arith, sym (ne_eqb k 0 (λ q. omega arith)))

pub balance : (k : ℕ) (f : Bool) → k ≤ 1 → f ≡ eqb k 0 → k + one f ≡ 1
balance k true l e = let z = eqb-true k 0 (sym e) in omega arith
balance k false l e = let z = eqb-false k 0 (sym e) in omega (arith, z)

-- the covers and the free blocks make n
pub count_law : (n : ℕ) (f : ℕ → Bool) (es : List Entry) → undamaged n f es ≡ true
    → ((b : ℕ) → b < n → coverings es b + one (f b) ≡ 1) → held es + (counts_of f n).free ≡ n
count_law n f es u o =
    ap₂ ◌+◌ (sym (cover_total n f es u)) (free_total f n) ∙ sym (total_add (coverings es) (λ b. one (f b)) n)
    ∙ total_same (λ b. coverings es b + one (f b)) (λ b. 1) n o ∙ total_all n

module _ (s : State) (room : s.blocks ≤ 64 * length s.map) (few : s.spare ≤ s.blocks) where
  pub tidy_sound : Tidy s.blocks (s.blocks - s.spare) s.map s.entries → Sound s
  tidy_sound t =
      let n : ℕ = s.blocks in
      let below : (b : ℕ) → b < n → coverings s.entries b + one (free s.map b) ≡ 1 = λ b h. t.once b (omega arith)
      ∙ ap one (lt-ltb b n h) in
      let c = count_law n (free s.map) s.entries t.whole below in
      let l : n - s.spare ≡ held s.entries = t.sum in
      record {
        whole = t.whole;
        disjoint = λ b h. (balanced (coverings s.entries b) (free s.map b) (below b h)).0;
        uncovered = λ b h. (balanced (coverings s.entries b) (free s.map b) (below b h)).1;
        beyond = λ b l h.
            let o : coverings s.entries b + one (free s.map b) ≡ 0 = t.once b h ∙ ap one (le-ltb b n l) in
            same_one (free s.map b) false (omega arith);
        counted = omega arith;
      }

  pub sound_tidy : Sound s → Tidy s.blocks (s.blocks - s.spare) s.map s.entries
  sound_tidy p =
      let n : ℕ = s.blocks in
      let below : (b : ℕ) → b < n → coverings s.entries b + one (free s.map b) ≡ 1 =
      λ b h. balance (coverings s.entries b) (free s.map b) (p.disjoint b h) (p.uncovered b h) in
      let c = count_law n (free s.map) s.entries p.whole below in
      let k = p.counted in
      record {
        whole = p.whole;
        once = λ b h.
            ⊎_elim (λ (lo : b < n). below b lo ∙ sym (ap one (lt-ltb b n lo)))
            (λ (hi : n ≤ b).
            let z = cover_outside n (free s.map) s.entries p.whole b hi in
            let y : one (free s.map b) ≡ 0 = ap one (p.beyond b hi h) in
            let u : one (ltb b n) ≡ 0 = ap one (le-ltb b n hi) in
            omega arith) (order b n);
        sum = omega arith;
      }
