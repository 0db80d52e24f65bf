-- The parts of extents, released one after the other in a window: each block of it is free afterwards as often as it was free
-- or covered before.
-- Assumes nothing.
use mathlib.Core.Path.{◌≡◌, refl, sym, ap, ap₂, ◌∙◌}
use mathlib.Core.Logic.{⊎_elim}
use mathlib.Core.Bool.{Bool, true, false, not, ◌&&◌, cond}
use mathlib.Core.List.{List, [], ◌∷◌}
use Prim.Native.Nat.{ℕ, ◌+◌, ◌-◌, ◌*◌, ◌≤◌, ◌<◌, min}
use native.Mathlib.Omega.{arith}
use lib.Dec.{leb}
use lib.ListN.{length}
use borrow.Author.Tests.{ltb-true, ltb-false, lt-ltb, le-ltb, le-leb, not-true}
use Rattle.map_blocks.specs.Blocks.{free, all}
use Rattle.map_blocks.specs.Maps.{marked, in_run, in_state}
use Rattle.laws.proofs.Bools.{and_right, and_both, both_ways, clash}
use Rattle.map_blocks.proofs.Maps.{marked_length, map_free}
use Rattle.map_blocks.proofs.Runs.{all_intro, all_elim}
use Rattle.catalogue.specs.declared.Entry.{Entry}
use Rattle.image_soundness.specs.Windows.{part_from, part_to, touches, taken, part_taken, part_stands, scratch_after}
use Rattle.image_soundness.specs.Windows.{parts_stand, scratch_over}
use Rattle.image_soundness.specs.Sound.{coverings, undamaged}
use Rattle.image_soundness.proofs.Covers.{decide, one, same_one, run_in, in_run_lem, head_undamaged, tail_undamaged}
use Rattle.image_soundness.proofs.Damage.{extent_inside}

-- ---- one entry

module _ (lo : ℕ) (scratch : List ℕ) (e : Entry) where
  abbrev part_start : ℕ
  part_start = part_from lo e - lo

  abbrev part_blocks : ℕ
  part_blocks = part_to lo e - part_from lo e

  pub step_past : touches lo e ≡ false → (true ≡ part_stands lo scratch e) × (scratch ≡ scratch_after lo scratch e)
  unfolding part_stands scratch_after
  step_past t = (simp t, simp t)

  pub step_fails : touches lo e ≡ true → part_taken lo scratch e ≡ false
      → (false ≡ part_stands lo scratch e) × (scratch ≡ scratch_after lo scratch e)
  unfolding part_stands scratch_after
  step_fails t p = (simp (t, p), simp (t, p))

  pub step_releases : touches lo e ≡ true → part_taken lo scratch e ≡ true
      → (true ≡ part_stands lo scratch e) × (marked scratch part_start part_blocks true ≡ scratch_after lo scratch e)
  unfolding part_stands scratch_after
  step_releases t p = (simp (t, p), simp (t, p))

-- the same by the ends of the part, as they were found
module _ (lo : ℕ) (scratch : List ℕ) (e : Entry) (from to : ℕ) (ef : from ≡ part_from lo e) (et : to ≡ part_to lo e) where
  none_here : to ≤ from → touches lo e ≡ false
  unfolding touches
  none_here h = le-ltb (part_from lo e) (part_to lo e) (omega arith)

  some_here : from < to → touches lo e ≡ true
  unfolding touches
  some_here h = lt-ltb (part_from lo e) (part_to lo e) (omega arith)

  same_part : (f : ℕ → ℕ → Bool) → f (from - lo) (to - from) ≡ f (part_from lo e - lo) (part_to lo e - part_from lo e)
  same_part f = ap₂ (λ (a b : ℕ). f (a - lo) (b - a)) ef et

  pub part_past : to ≤ from → (true ≡ part_stands lo scratch e) × (scratch ≡ scratch_after lo scratch e)
  part_past h = step_past lo scratch e (none_here h)

  module _ (h : from < to) where
    pub part-fails : taken scratch (from - lo) (to - from) ≡ false
        → (false ≡ part_stands lo scratch e) × (scratch ≡ scratch_after lo scratch e)
    part-fails p = step_fails lo scratch e (some_here h) (sym (same_part (taken scratch)) ∙ p)

    pub part-releases : taken scratch (from - lo) (to - from) ≡ true
        → (true ≡ part_stands lo scratch e) × (marked scratch (from - lo) (to - from) true ≡ scratch_after lo scratch e)
    part-releases p =
        let r = step_releases lo scratch e (some_here h) (sym (same_part (taken scratch)) ∙ p) in
        (r.0, ap₂ (λ (a b : ℕ). marked scratch (a - lo) (b - a) true) ef et ∙ r.1)

-- a release in the scratch
marked_free : (scratch : List ℕ) (s l b : ℕ) → b < 64 * length scratch
    → free (marked scratch s l true) b ≡ cond (in_run s l b) true (free scratch b)
unfolding marked
marked_free scratch s l b h = map_free (λ b. cond (in_run s l b) true (free scratch b)) (length scratch) b (omega arith)

-- a block of the part is a block of the extent
part_run : (lo : ℕ) (e : Entry) (b : ℕ) → b < 4096 → touches lo e ≡ true
    → in_run (part_from lo e - lo) (part_to lo e - part_from lo e) b ≡ in_run e.start e.length (lo + b)
unfolding touches
part_run lo e b h t =
    let l = ltb-true (part_from lo e) (part_to lo e) t in
    both_ways (in_run (part_from lo e - lo) (part_to lo e - part_from lo e) b) (in_run e.start e.length (lo + b))
    (λ q.
    let r = in_run_lem (part_from lo e - lo) (part_to lo e - part_from lo e) b q in
    run_in e.start e.length (lo + b) (omega (arith, r.0)) (omega (arith, r.1, l)))
    (λ q.
    let r = in_run_lem e.start e.length (lo + b) q in
    run_in (part_from lo e - lo) (part_to lo e - part_from lo e) b (omega (arith, r.0)) (omega (arith, r.0, r.1)))

part_none : (lo : ℕ) (e : Entry) (b : ℕ) → b < 4096 → touches lo e ≡ false → in_run e.start e.length (lo + b) ≡ false
unfolding touches
part_none lo e b h t =
    let l = ltb-false (part_from lo e) (part_to lo e) t in
    both_ways (in_run e.start e.length (lo + b)) false
    (λ q. let r = in_run_lem e.start e.length (lo + b) q in absurd (omega (arith, r.0, r.1, l)))
    (λ q. absurd (clash false q refl))

-- a block that is released was not free, so that the release takes its covering over
taken_over : (scratch : List ℕ) (s l b : ℕ) → b < 64 * length scratch → taken scratch s l ≡ true
    → one (in_run s l b) + one (free scratch b) ≡ one (free (marked scratch s l true) b)
unfolding taken
taken_over scratch s l b h p = by (in_run s l b) refl
  where
    by : (x : Bool) → in_run s l b ≡ x → one x + one (free scratch b) ≡ one (free (marked scratch s l true) b)
    by true q =
        let i = in_run_lem s l b q in
        let f = all_elim (in_state scratch false) s l
        (and_right (leb (s + l) (64 * length scratch)) (all (in_state scratch false) s l) p) b i.0 i.1 in
        let z : one (free scratch b) ≡ 0 = ap one (not-true (free scratch b) f) in
        let y : one (free (marked scratch s l true) b) ≡ 1 =
        ap one (marked_free scratch s l b h ∙ ap (λ (x : Bool). cond x true (free scratch b)) q) in
        omega arith
    by false q =
        let y : one (free (marked scratch s l true) b) ≡ one (free scratch b) =
        ap one (marked_free scratch s l b h ∙ ap (λ (x : Bool). cond x true (free scratch b)) q) in
        omega arith

module _ (lo : ℕ) (scratch : List ℕ) (e : Entry) where
  abbrev next : List ℕ
  next = marked scratch (part_from lo e - lo) (part_to lo e - part_from lo e) true

  moved : touches lo e ≡ true → part_taken lo scratch e ≡ true → (b : ℕ) → b < 64 * length scratch → b < 4096
      → one (in_run e.start e.length (lo + b)) + one (free scratch b) ≡ one (free next b)
  moved t p b h k =
      ap (λ (x : Bool). one x + one (free scratch b)) (sym (part_run lo e b k t))
      ∙ taken_over scratch (part_from lo e - lo) (part_to lo e - part_from lo e) b h p

-- ---- all entries

module _ (lo : ℕ) where
  -- one entry, and those behind
  over_on : (scratch : List ℕ) (e : Entry) (es : List Entry) (behind : List ℕ)
      → (true ≡ part_stands lo scratch e) × (behind ≡ scratch_after lo scratch e)
      → (parts_stand (e ∷ es) lo scratch ≡ parts_stand es lo behind)
      × (scratch_over (e ∷ es) lo scratch ≡ scratch_over es lo behind)
  unfolding parts_stand scratch_over
  over_on scratch e es behind a = (
    ap₂ (λ (b : Bool) (l : List ℕ). b && parts_stand es lo l) (sym a.0) (sym a.1),
    ap (scratch_over es lo) (sym a.1),
  )

  over_off : (scratch : List ℕ) (e : Entry) (es : List Entry) → part_stands lo scratch e ≡ false
      → parts_stand (e ∷ es) lo scratch ≡ false
  unfolding parts_stand
  over_off scratch e es s = ap (λ (b : Bool). b && parts_stand es lo (scratch_after lo scratch e)) s

  -- each block of the window is free afterwards as often as it was free or covered
  abbrev Adds : List Entry → List ℕ → List ℕ → Type 0
  Adds es scratch after = (b : ℕ) → b < 64 * length scratch → b < 4096
      → coverings es (lo + b) + one (free scratch b) ≡ one (free after b)

  pub over_adds : (es : List Entry) (scratch : List ℕ) → parts_stand es lo scratch ≡ true
      → Adds es scratch (scratch_over es lo scratch)
  unfolding coverings scratch_over
  over_adds [] scratch o b h k = omega arith
  over_adds (e ∷ es) scratch o b h k =
      ⊎_elim
      (λ (t : touches lo e ≡ true).
      ⊎_elim
      (λ (p : part_taken lo scratch e ≡ true).
      let next : List ℕ = marked scratch (part_from lo e - lo) (part_to lo e - part_from lo e) true in
      let on = over_on scratch e es next (step_releases lo scratch e t p) in
      let long : length next ≡ length scratch = marked_length scratch (part_from lo e - lo) (part_to lo e - part_from lo e)
      true in
      let rest : coverings es (lo + b) + one (free next b) ≡ one (free (scratch_over es lo next) b) =
      over_adds es next (sym on.0 ∙ o) b (omega arith) k in
      let m = moved lo scratch e t p b h k in
      let ends : one (free (scratch_over (e ∷ es) lo scratch) b)
      ≡ one (free (scratch_over es lo next) b) = ap (λ (l : List ℕ). one (free l b)) on.1 in
      omega arith)
      (λ (p : part_taken lo scratch e ≡ false).
      absurd (clash (parts_stand (e ∷ es) lo scratch) o
      (over_off scratch e es (sym (step_fails lo scratch e t p).0))))
      (decide (part_taken lo scratch e)))
      (λ (t : touches lo e ≡ false).
      let on = over_on scratch e es scratch (step_past lo scratch e t) in
      let rest : coverings es (lo + b) + one (free scratch b) ≡ one (free (scratch_over es lo scratch) b) =
      over_adds es scratch (sym on.0 ∙ o) b h k in
      let z : one (in_run e.start e.length (lo + b)) ≡ 0 = ap one (part_none lo e b k t) in
      let ends : one (free (scratch_over (e ∷ es) lo scratch) b)
      ≡ one (free (scratch_over es lo scratch) b) = ap (λ (l : List ℕ). one (free l b)) on.1 in
      omega arith)
      (decide (touches lo e))

  -- where no block is covered twice, or free and covered, nothing fails
  module _ (n : ℕ) where
    part-ends : (e : Entry) → touches lo e ≡ true
        → part_from lo e - lo + (part_to lo e - part_from lo e) ≡ part_to lo e - lo
    unfolding touches
    part-ends e t = omega (arith, ltb-true (part_from lo e) (part_to lo e) t)

    part-is-taken : (scratch : List ℕ) (e : Entry) → e.start + e.length ≤ n → min n (lo + 4096) ≤ lo + 64 * length scratch
        → ((b : ℕ) → b < 64 * length scratch → b < 4096
        → one (in_run e.start e.length (lo + b)) + one (free scratch b) ≤ 1)
        → touches lo e ≡ true → part_taken lo scratch e ≡ true
    unfolding taken
    part-is-taken scratch e inside room once t =
        let s : ℕ = part_from lo e - lo in
        let l : ℕ = part_to lo e - part_from lo e in
        let ends : s + l ≡ part_to lo e - lo = part-ends e t in
        let fits : s + l ≤ 64 * length scratch = omega arith in
        let small : s + l ≤ 4096 = omega arith in
        and_both (leb (s + l) (64 * length scratch)) (all (in_state scratch false) s l)
        (le-leb (s + l) (64 * length scratch) fits)
        (all_intro (in_state scratch false) s l (λ b p q.
        let c : one (in_run e.start e.length (lo + b)) ≡ 1 =
        ap one (sym (part_run lo e b (omega (arith, p, q, small)) t) ∙ run_in s l b p q) in
        let u = once b (omega (arith, p, q, fits)) (omega (arith, p, q, small)) in
        ap not (same_one (free scratch b) false (omega arith))))

    pub over-passes : (es : List Entry) (scratch : List ℕ) → undamaged n (λ b. false) es ≡ true
        → min n (lo + 4096) ≤ lo + 64 * length scratch
        → ((b : ℕ) → b < 64 * length scratch → b < 4096 → coverings es (lo + b) + one (free scratch b) ≤ 1)
        → parts_stand es lo scratch ≡ true
    unfolding coverings parts_stand
    over-passes [] scratch u room once = refl
    over-passes (e ∷ es) scratch u room once =
        ⊎_elim
        (λ (t : touches lo e ≡ true).
        let inside = extent_inside n e (λ b. false) (head_undamaged n (λ b. false) e es u) in
        let p = part-is-taken scratch e inside room
        (λ b h k. let o : one (in_run e.start e.length (lo + b)) + coverings es (lo + b) + one (free scratch b) ≤ 1 =
        once b h k in omega arith) t in
        let next : List ℕ = marked scratch (part_from lo e - lo) (part_to lo e - part_from lo e) true in
        let on = over_on scratch e es next (step_releases lo scratch e t p) in
        let long : length next ≡ length scratch =
        marked_length scratch (part_from lo e - lo) (part_to lo e - part_from lo e) true in
        on.0
        ∙ over-passes es next (tail_undamaged n (λ b. false) e es u) (omega arith) (λ b h k.
        let m = moved lo scratch e t p b (omega arith) k in
        let o : one (in_run e.start e.length (lo + b)) + coverings es (lo + b) + one (free scratch b) ≤ 1 =
        once b (omega arith) k in
        omega arith))
        (λ (t : touches lo e ≡ false).
        let on = over_on scratch e es scratch (step_past lo scratch e t) in
        on.0
        ∙ over-passes es scratch (tail_undamaged n (λ b. false) e es u) room (λ b h k.
        let o : one (in_run e.start e.length (lo + b)) + coverings es (lo + b) + one (free scratch b) ≤ 1 =
        once b h k in
        omega arith))
        (decide (touches lo e))
