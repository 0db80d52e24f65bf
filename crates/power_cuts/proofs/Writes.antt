-- What a call may write: `leaves_finished_courses`.
-- Assumes nothing.
use Prim.Native.Nat.{ℕ, ◌+◌, ◌<◌}
use mathlib.Core.Path.{◌≡◌, refl, sym, ap, subst, ◌∙◌}
use mathlib.Core.Logic.{inl, inr, ⊎_elim}
use mathlib.Core.Bool.{Bool, true, false, ◌&&◌, true≢false}
use mathlib.Core.List.{List}
use native.Mathlib.Omega.{arith}
use Rattle.map_blocks.specs.Blocks.{free}
use Rattle.blocks_of_card.specs.Card.{block_of}
use Rattle.catalogue.specs.Entries.{entry_at, paused_mark, complete_mark}
use Rattle.catalogue.specs.declared.Entry.{Entry}
use Rattle.catalogue_standings.specs.Standings.{standing_of}
use Rattle.catalogue_standings.specs.declared.Standing.{Standing}
use Rattle.catalogue_standings.specs.declared.Standing.TheVariants.{Absent, PausedWith, Open, Complete}
use Rattle.refusals.specs.Effects.{entry_of}
use Rattle.card.specs.Calls.{Kept}
use Rattle.card.specs.Public.{Public, ends, kept_after}
use Rattle.role_lists.specs.Carers.{stands}
use Rattle.power_cuts.specs.Held.{Covers, Finished, Untouched}
use Rattle.power_cuts.specs.Sorts.{Sort, sort_of, unsettles, done}
use Rattle.power_cuts.specs.Writes.{LeavesFinishedCourses}
use Rattle.power_cuts.proofs.Apart.{Apart, sound_apart, still_taken}
use Rattle.power_cuts.proofs.Blocks.{took_other, put_other}
use Rattle.power_cuts.proofs.Deeds.{entry_in, Turns, completes, pauses_none, pauses, resumes, Marked, Deed}
use Rattle.power_cuts.proofs.Deeds.{nothing, took, put, marks, released, closed, began, loaded}
use Rattle.power_cuts.proofs.Keeping.{here, there, which}
use Rattle.power_cuts.proofs.Standings.{finishes, Holds, holds_so, stands_same, is_complete_lem, is_paused_lem}
use Rattle.power_cuts.proofs.WholeCalls.{every_call}

-- ---- finished, and not

module _ (s : Kept) (sheet start count : ℕ) (f : Finished s sheet start count) where
  pub finished_holds : Holds s.shape.blocks (free s.map) (entry_in s sheet) start count
  finished_holds =
      ⊎_elim (λ e. holds_so s.shape.blocks (free s.map) (entry_in s sheet) (Complete start count) e refl)
      (λ e. holds_so s.shape.blocks (free s.map) (entry_in s sheet) (PausedWith start count) e refl) f

  pub finished_so : finishes (stands s sheet) ≡ true
  finished_so = ⊎_elim (λ e. ap finishes e) (λ e. ap finishes e) f

  pub finished_covers : (p : ℕ) → p < count → Covers s sheet (start + p)
  finished_covers p l =
      let h = finished_holds in (omega (arith, h.starts), omega (arith, h.starts, h.lasts))

  -- it is not Absent, and not Open
  pub not_unfinished : (st : Standing) → stands s sheet ≡ st → finishes st ≡ false → ⊥
  not_unfinished st e z = true≢false (sym finished_so ∙ ap finishes e ∙ z)

-- ---- a sheet whose entry and blocks are as they were

module _ (s t : Kept) (sheet : ℕ) (n : t.shape.blocks ≡ s.shape.blocks) (e : entry_in t sheet ≡ entry_in s sheet)
    (same : (b : ℕ) → Covers s sheet b → free t.map b ≡ free s.map b) where
  pub stands_kept : stands t sheet ≡ stands s sheet
  stands_kept =
      (λ x. standing_of (n x) (free t.map) (e x))
      ∙ stands_same s.shape.blocks (free t.map) (free s.map) (entry_in s sheet) (λ b l u. same b (l, u))

  pub finished_kept : (start count : ℕ) → Finished s sheet start count → Finished t sheet start count
  finished_kept start count f = ⊎_elim (λ h. inl (stands_kept ∙ h)) (λ h. inr (stands_kept ∙ h)) f

-- ---- a mark is changed

module _ (s t : Kept) (sheet mark : ℕ) (x : Marked s t sheet mark) (start count : ℕ) (f : Finished s sheet start count) where
  abbrev n : ℕ
  n = s.shape.blocks

  abbrev o : Holds n (free s.map) (entry_in s sheet) start count
  o = finished_holds s sheet start count f

  stored : entry_in t sheet ≡ entry_of mark start count
  stored = here s t sheet _ x.entries_now x.listed ∙ λ y. entry_of mark (o.starts y) (o.lasts y)

  stands_then : stands t sheet ≡ standing_of n (free s.map) (entry_of mark start count)
  stands_then = λ y. standing_of (x.shape_now y).blocks (free (x.map_now y)) (stored y)

  turned_mark : Finished t sheet start count
  turned_mark = go x.turns
    where
      by : (m : ℕ) → mark ≡ m → stands t sheet ≡ standing_of n (free s.map) (entry_of m start count)
      by m e = stands_then ∙ ap (λ (k : ℕ). standing_of n (free s.map) (entry_of k start count)) e

      go : Turns (stands s sheet) mark → Finished t sheet start count
      go (completes a l h e) = absurd (not_unfinished s sheet start count f (Open a l) h refl)
      go (pauses_none h e) = absurd (not_unfinished s sheet start count f Absent h refl)
      go (pauses a l h e) = inr (by paused_mark e ∙ is_paused_lem n (free s.map) start count o.extent o.some)
      go (resumes a l h e) = inl (by complete_mark e ∙ is_complete_lem n (free s.map) start count o.extent)

-- ---- every call

unsettled : (c : Public) (sort : Sort) (d : Bool) → sort_of c ≡ sort → d ≡ true → unsettles sort ≡ true
    → (unsettles (sort_of c) && d) ≡ false → ⊥
unsettled c sort d i j u h =
    true≢false (sym (ap (λ (x : Sort). unsettles x && true) i ∙ ap (λ (y : Bool). y && true) u)
    ∙ ap (λ (y : Bool). unsettles (sort_of c) && y) (sym j) ∙ h)

pub settled : (s t : Kept) (c : Public) (d : Bool) → Deed s t c d → Apart s → (unsettles (sort_of c) && d) ≡ false
    → (sheet start count : ℕ) → Finished s sheet start count → Untouched s t sheet start count
settled s t c d (nothing e z) a h sheet start count f = record {
  held = subst (λ (u : Kept). Finished u sheet start count) (sym e) f;
  same = λ p l. ap (λ (u : Kept). block_of u.card (start + p)) e;
}
settled s t c d (took i j other start' count' from k total x asked is) a h sheet start count f =
    let differs : sheet ≡ other → ⊥ =
    λ e. ⊎_elim
    (λ z. not_unfinished s sheet start count f Absent (ap (stands s) e ∙ z.0) refl)
    (λ z. not_unfinished s sheet start count f (Open start' count') (ap (stands s) e ∙ z) refl)
    x.before in
    let o = finished_holds s sheet start count f in
    record {
      held = finished_kept s t sheet x.blocks_now (there s t other _ x.entries_now sheet differs)
          (λ b v. ap (λ (m : List ℕ). free m b) x.map_now
          ∙ still_taken s.map from k b (a.taken sheet b v) ∙ sym (a.taken sheet b v)) start count f;
      same = λ p l. took_other s t other start' count' from k total x (start + p)
          (λ u v. true≢false (sym (x.unheld (start + p) u v)
          ∙ a.taken sheet (start + p) (finished_covers s sheet start count f p l)));
    }
settled s t c d (put other start' count' place payload i x) a h sheet start count f =
    let q = holds_so s.shape.blocks (free s.map) (entry_in s other) (Open start' count') x.before refl in
    record {
      held = finished_kept s t sheet (ap (λ z. z.blocks) x.shape_now)
          (ap (λ (es : List Entry). entry_at es sheet) x.entries_now)
          (λ b v. ap (λ (m : List ℕ). free m b) x.map_now) start count f;
      same = λ p l. put_other s t other start' count' place payload x (start + p)
          (λ e.
          let same = a.apart sheet other (start + p) (finished_covers s sheet start count f p l)
          (omega (arith, q.starts, e), omega (arith, q.starts, q.lasts, e, x.placed)) in
          not_unfinished s sheet start count f (Open start' count') (ap (stands s) same ∙ x.before) refl);
    }
settled s t c d (marks i other mark x) a h sheet start count f = record {
  held = ⊎_elim
      (λ (e : sheet ≡ other).
      subst (λ (z : ℕ). Finished t z start count) (sym e)
      (turned_mark s t other mark x start count (subst (λ (z : ℕ). Finished s z start count) e f)))
      (λ n. finished_kept s t sheet (ap (λ z. z.blocks) x.shape_now) (there s t other _ x.entries_now sheet n)
      (λ b v. ap (λ (m : List ℕ). free m b) x.map_now) start count f)
      (which sheet other);
  same = λ p l. ap (λ (card : List ℕ). block_of card (start + p)) x.card_now;
}
settled s t c d (released i j other x) a h sheet start count f = absurd (unsettled c _ d i j refl h)
settled s t c d (closed i j x) a h sheet start count f = absurd (unsettled c _ d i j refl h)
settled s t c d (began i j x) a h sheet start count f = absurd (unsettled c _ d i j refl h)
settled s t c d (loaded i j x) a h sheet start count f = absurd (unsettled c _ d i j refl h)

pub leaves_finished_courses : LeavesFinishedCourses
leaves_finished_courses m s b c sound quiet =
    settled s (kept_after (ends m s b c)) c (done (ends m s b c)) (every_call m s b c) (sound_apart s sound)
    (ap (λ (x : Bool). x && done (ends m s b c)) quiet)
