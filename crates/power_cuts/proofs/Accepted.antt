-- What an acceptance shows: the standing that a call admits, and the blocks that it is granted.
-- Assumes nothing.
use Prim.Native.Nat.{ℕ, ◌+◌, ◌<◌, ◌≤◌}
use mathlib.Core.Path.{◌≡◌, refl}
use mathlib.Core.Bool.{Bool, true, false, not, ◌&&◌, ◌||◌, true≢false}
use native.Mathlib.Omega.{arith}
use lib.ListN.{length}
use borrow.Author.Tests.{leb-false, eqb-false, not-false}
use Rattle.map_blocks.specs.Blocks as map-blocks
use Rattle.map_blocks.specs.Blocks.{fit}
use Rattle.map_blocks.proofs.Fits.{fit_is}
use Rattle.map_blocks.proofs.Runs.{all_elim}
use Rattle.catalogue.specs.Entries.{paused_mark, complete_mark}
use Rattle.catalogue_standings.specs.Rows.{accepted}
use Rattle.catalogue_standings.specs.Searches.{start_at}
use Rattle.catalogue_standings.specs.Standings.{is_absent, is_paused, is_paused_without, is_open, is_complete, is_damaged}
use Rattle.catalogue_standings.specs.declared.Standing.{Standing}
use Rattle.catalogue_standings.specs.declared.Standing.TheVariants.{Absent, Paused, PausedWith, Open, Complete, Damaged}
use Rattle.catalogue_standings.proofs.Limits.{CardFits}
use Rattle.catalogue_standings.proofs.Rows.{clear}
use Rattle.refusals.specs.Effects as effects
use Rattle.refusals.specs.Guides.{found_by}
use Rattle.refusals.specs.Lent.{Lent}
use Rattle.refusals.specs.Placement.{Placement, figures_in}
use Rattle.refusals.specs.Table as table
use Rattle.refusals.specs.Table.{reserve, standing, accept}
use Rattle.refusals.specs.Table.{table_of}
use Rattle.refusals.specs.Views.{view_on}
use Rattle.refusals.specs.declared.Figures.{Figures}
use Rattle.refusals.proofs.Lent as lent-laws
use Rattle.refusals.proofs.Lent.{sized}
use Rattle.refusals.proofs.Placement.{figured, plain_fit, found_fit}
use Rattle.power_cuts.proofs.Deeds.{Turns, pauses_none, pauses, resumes}

-- the one standing that a reserve and an accept admit
pub only_absent : (s : Standing) → is_damaged s ≡ false → is_paused s ≡ false → is_open s ≡ false → is_complete s ≡ false
    → s ≡ Absent
only_absent Absent d p o c = refl
only_absent Paused d p o c = absurd (true≢false p)
only_absent (PausedWith a b) d p o c = absurd (true≢false p)
only_absent (Open a b) d p o c = absurd (true≢false o)
only_absent (Complete a b) d p o c = absurd (true≢false c)
only_absent Damaged d p o c = absurd (true≢false d)

-- those that a pause and a resume admit
pub by_pause : (st : Standing) → is_damaged st ≡ false
    → (is_paused_without st && not false || (is_paused st && not (is_paused_without st)) && not false) ≡ false
    → (is_open st && not false) ≡ false → Turns st paused_mark
by_pause Absent d p o = pauses_none refl refl
by_pause Paused d p o = absurd (true≢false p)
by_pause (PausedWith a b) d p o = absurd (true≢false p)
by_pause (Open a b) d p o = absurd (true≢false o)
by_pause (Complete a b) d p o = pauses a b refl refl
by_pause Damaged d p o = absurd (true≢false d)

pub by_resume : (st : Standing) → is_damaged st ≡ false → (is_absent st && not false) ≡ false
    → (is_paused_without st && not false || (is_paused st && not (is_paused_without st)) && not true) ≡ false
    → (is_open st && not false) ≡ false → (is_complete st && not false) ≡ false → Turns st complete_mark
by_resume Absent d a p o c = absurd (true≢false a)
by_resume Paused d a p o c = absurd (true≢false p)
by_resume (PausedWith s l) d a p o c = resumes s l refl refl
by_resume (Open s l) d a p o c = absurd (true≢false o)
by_resume (Complete s l) d a p o c = absurd (true≢false c)
by_resume Damaged d a p o c = absurd (true≢false d)

pub both_open : {a b c d : ℕ} → a ≡ b → c ≡ d → Open a c ≡ Open b d
both_open p q = λ x. Open (p x) (q x)

-- the blocks of a fit are free
pub all_free : (f : ℕ → Bool) (n k start : ℕ) → fit f 0 n 1 k start ≡ true → (b : ℕ) → start ≤ b → b < start + k → f b ≡ true
all_free f n k start e b l h = all_elim f start k (fit_is f 0 n 1 k start e).free b l h

-- ---- reserve and accept: k blocks from a start on

module _ (q : Lent) (k : ℕ) where
  -- what an accepted one shows
  pub record Grants (start : ℕ) : Type 0 where
    pub sizes : CardFits q.n q.spare (length q.map) (length q.card)
    pub listed : q.sheet < q.sheets
    pub was : lent-laws.standing q ≡ Absent
    pub some : 1 ≤ k
    pub fits : fit (map-blocks.free q.map) 0 q.n 1 k start ≡ true

  pub reserve_grants : (p : Placement) → effects.reserve_verdict q k p ≡ accepted → Grants (effects.reserve_start q k p)
  unfolding effects.reserve_verdict effects.reserve_start view_on table_of
  reserve_grants p h =
      let rows = table_of (view_on q) (table.on q.sheet (reserve q.limits k p)) in
      let g : Figures = figures_in q.n p in
      let f = map-blocks.free q.map in
      let least : ℕ = start_at (found_by q.guided q.summary q.map g k) in
      let z = eqb-false k 0 (clear 3 rows h).0 in
      record {
        sizes = sized q (not-false _ (clear 1 rows h).0);
        listed = leb-false q.sheets q.sheet (clear 2 rows h).0;
        was = only_absent (lent-laws.standing q) (clear 4 rows h).0 (clear 6 rows h).0 (clear 7 rows h).0
            (clear 8 rows h).0;
        some = omega (arith, z);
        fits = plain_fit f q.n g k least (figured q.n g (clear 15 rows h).0).inside
            (found_fit q.guided q.summary q.map g k (omega (arith, z)) (clear 10 rows h).0);
      }

  pub accept_grants : (start : ℕ) → effects.accept_verdict q start k ≡ accepted → Grants start
  unfolding effects.accept_verdict view_on table_of
  accept_grants start h =
      let rows = table_of (view_on q) (table.on q.sheet (accept q.limits start k)) in
      let z = eqb-false k 0 (clear 3 rows h).0 in
      record {
        sizes = sized q (not-false _ (clear 1 rows h).0);
        listed = leb-false q.sheets q.sheet (clear 2 rows h).0;
        was = only_absent (lent-laws.standing q) (clear 4 rows h).0 (clear 6 rows h).0 (clear 7 rows h).0
            (clear 8 rows h).0;
        some = omega (arith, z);
        fits = not-false _ (clear 17 rows h).0;
      }
