-- What the rows of reserve and its effects say: the verdict in each case, and what the call then hands back and leaves.
-- Assumes nothing.
use Rattle.std.specs.Prelude.{Option, Some, None}
use mathlib.Core.Path.{◌≡◌, refl, sym, ap, ◌∙◌}
use mathlib.Core.List.{List, [], ◌∷◌}
use Prim.Native.Nat.{ℕ, ◌≤◌, ◌<◌}
use borrow.Author.Tests.{lt-ltb, le-ltb}
use lib.Dec.{ltb}
use Rattle.catalogue_wings.specs.Wings.{wing_of}
use Rattle.catalogue_standings.specs.Searches.{start_at, none}
use Rattle.refusals.specs.Effects.{giving_verdict, unsearched_verdict, reserve_verdict, reserve_start, reserve_out}
use Rattle.refusals.specs.Effects.{reserve_map, reserve_card, reserve_summary}
use Rattle.refusals.specs.Guides.{found_by}
use Rattle.refusals.specs.Placement.{Placement, plain, placed, figures, figures_in, misfigured}
use Rattle.refusals.specs.Shares.{over_limit}
use Rattle.refusals.specs.declared.Figures.{Figures}
use Rattle.catalogue_standings.specs.Rows.{Row, row, Verdict, accepted, refused, first_of, before}
use Rattle.catalogue_standings.proofs.Rows.{clear, onwards, before_then, both_accept}
use Rattle.refusals.specs.Table.{on, reserve, table_of}
use Rattle.refusals.specs.Views.{view_on}
use Rattle.refusals.proofs.Beginnings.{behind, giving_then}
use Rattle.refusals.specs.Lent.{Lent}
use Rattle.catalogue_standings.proofs.Openings.{skip, stop, none_left}
use Rattle.refusals.proofs.Taken.{Leaves}
use Rattle.refusals.proofs.Room.{view_of, reserve_verdict_on, reserve_start_on}
use mathlib.Core.Bool.{Bool, false}
use Rattle.refusals.specs.declared.Out.{Out}

-- ---- the verdict in each case

module _ (q : Lent) (k : ℕ) (p : Placement) where
  abbrev pub figured : Figures
  figured = figures_in q.n p

  abbrev pub found : Option ℕ
  found = found_by q.guided q.summary q.map figured k

  -- the limit of the sheet's wing is passed
  abbrev pub over : Bool
  over = over_limit q.limits (wing_of q.sheet) q.held k

  -- its rows between those that giving begins with and the search
  abbrev pub own : List Row
  own = row 15 (misfigured q.n figured) ∷ row 18 over ∷ []

  pub unsearched_behind : unsearched_verdict q k p ≡ behind (giving_verdict q k) own
  unfolding unsearched_verdict view_on before table_of
  unsearched_behind = giving_then q k own

  -- a reserve that comes to its search
  pub record Passed : Type 0 where
    pub opens : giving_verdict q k ≡ accepted
    pub right : misfigured q.n figured ≡ false
    pub under : over ≡ false

  pub passed : unsearched_verdict q k p ≡ accepted → Passed
  passed h =
      let both = both_accept (giving_verdict q k) (first_of own) (sym unsearched_behind ∙ h) in
      record { opens = both.0; right = (clear 15 own both.1).0; under = (clear 18 own both.1).0 }

  -- the rows of the search: 10, and 4 for the count
  abbrev pub searching : List Row
  searching = row 10 (none found) ∷ row 4 (ltb q.spare k) ∷ []

  pub verdict_behind : reserve_verdict_on q k p ≡ behind (unsearched_verdict q k p) searching
  unfolding reserve_verdict unsearched_verdict view_on before onwards table_of
  verdict_behind = before_then 10 (table_of (view_of q) (on q.sheet (reserve q.limits k p)))

  pub no_fit : found ≡ None → first_of searching ≡ refused 10
  no_fit f = stop 10 _ _ (ap none f)

  pub too_few : (s : ℕ) → found ≡ Some s → q.spare < k → first_of searching ≡ refused 4
  too_few s f l = skip 10 _ _ _ (ap none f) (stop 4 _ _ (lt-ltb q.spare k l))

  pub passes : (s : ℕ) → found ≡ Some s → k ≤ q.spare → first_of searching ≡ accepted
  passes s f l = skip 10 _ _ _ (ap none f) (skip 4 _ _ _ (le-ltb q.spare k l) none_left)

  -- the verdict, where a row before the search holds, and where none does
  pub refused_before : (number : ℕ) → unsearched_verdict q k p ≡ refused number → reserve_verdict_on q k p ≡ refused number
  refused_before number h = verdict_behind ∙ ap (λ (v : Verdict). behind v searching) h

  pub searched : (v : Verdict) → unsearched_verdict q k p ≡ accepted → first_of searching ≡ v → reserve_verdict_on q k p ≡ v
  searched v h last = verdict_behind ∙ ap (λ (w : Verdict). behind w searching) h ∙ last

  pub starts : (s : ℕ) → found ≡ Some s → s ≡ reserve_start_on q k p
  unfolding reserve_start
  starts s f = sym (ap start_at f)

-- ---- what the call hands back and leaves

pub taken : (q : Lent) (k : ℕ) (p : Placement) (r : Out) (map summary card : List ℕ)
    → Leaves q (reserve_verdict_on q k p) (reserve_start_on q k p) k r map summary card
    → (r ≡ reserve_out q k p) × (map ≡ reserve_map q k p) × (summary ≡ reserve_summary q k p) × (card ≡ reserve_card q k p)
unfolding reserve_out reserve_map reserve_summary reserve_card
taken q k p r map summary card h = h

-- ---- the plain reserve is the one with 0, n and 1

pub plain_out : (q : Lent) (k : ℕ) → reserve_out q k (placed (figures 0 q.n 1)) ≡ reserve_out q k plain
unfolding reserve_out reserve_verdict reserve_start table_of
plain_out q k = refl

pub plain_map : (q : Lent) (k : ℕ) → reserve_map q k (placed (figures 0 q.n 1)) ≡ reserve_map q k plain
unfolding reserve_map reserve_verdict reserve_start table_of
plain_map q k = refl

pub plain_card_lem : (q : Lent) (k : ℕ) → reserve_card q k (placed (figures 0 q.n 1)) ≡ reserve_card q k plain
unfolding reserve_card reserve_verdict reserve_start table_of
plain_card_lem q k = refl

pub plain_summary_lem : (q : Lent) (k : ℕ) → reserve_summary q k (placed (figures 0 q.n 1)) ≡ reserve_summary q k plain
unfolding reserve_summary reserve_verdict reserve_start table_of
plain_summary_lem q k = refl
