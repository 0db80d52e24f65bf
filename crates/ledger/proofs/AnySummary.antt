-- The calls with a summary that need not be the map's own: of the wrong length (`wrong_length`), and of the right one
-- (`any_summary`, `any-reserve`).
-- Assumes nothing.
use Rattle.std.specs.Prelude.{Option, Some, None}
use lib.Dec.{ltb}
use Prim.Native.Nat.{ℕ, ◌+◌, ◌-◌, ◌≤◌, ◌<◌}
use mathlib.Core.Path.{◌≡◌, refl, sym, ap, subst, ◌∙◌}
use mathlib.Core.Logic.{inl, inr}
use mathlib.Core.Bool.{Bool, true, false, not, true≢false, false≢true}
use mathlib.Core.List.{List, []}
use native.Mathlib.Omega.{arith}
use lib.ListN.{length, set, get_or}
use borrow.Author.Tests.{ltb-true, ltb-false}
use Rattle.map_blocks.specs.Blocks as map-blocks
use Rattle.map_blocks.specs.Maps.{marked}
use Rattle.map_blocks.proofs.Fits.{fit_is}
use Rattle.blocks_of_card.specs.Card.{zeroed}
use Rattle.catalogue_wings.specs.Wings.{held_by}
use Rattle.catalogue.specs.Entries.{entry_at, absent, open_mark}
use Rattle.catalogue_standings.specs.Answers.{number_of}
use Rattle.catalogue_standings.specs.Searches.{none, start_at, start_with_space}
use Rattle.catalogue_standings.specs.Rows.{Verdict, accepted, refused, settle, first_of, before}
use Rattle.catalogue_standings.proofs.Openings.{stop}
use Rattle.catalogue_standings.proofs.Rows.{not_refused}
use Rattle.catalogue_standings.specs.declared.Answer.TheVariants.{Done}
use Rattle.roles.specs.Roles as roles
use Rattle.roles.specs.Roles.{turned_away}
use Rattle.refusals.specs.Effects as effects
use Rattle.refusals.specs.Effects.{entry_of, out_of, refusal_out, run_verdict, unsearched_verdict, reserve_verdict}
use Rattle.refusals.specs.Effects.{reserve_start}
use Rattle.refusals.specs.Effects.{accept_verdict}
use Rattle.refusals.specs.Guides.{found_by}
use Rattle.refusals.specs.Lent.{Lent, no_card}
use Rattle.refusals.specs.Placement.{Placement, fit_within, figures_in}
use Rattle.refusals.specs.Table.{Ask, reserve, put, grow, complete, change, release, show, standing, offer, accept, show_dated}
use Rattle.refusals.specs.Table.{table_of}
use Rattle.refusals.specs.Views.{view_on}
use Rattle.refusals.specs.declared.Figures.{Figures}
use Rattle.refusals.proofs.Accept as accepting
use Rattle.refusals.proofs.Beginnings.{given}
use Rattle.refusals.proofs.Placement.{figured, plain_fit, found_fit}
use Rattle.refusals.proofs.Reserve as reserving
use Rattle.refusals.proofs.Runs as runs
use Rattle.refusals.proofs.Summaries as summaries
use Rattle.summary_search.proofs.Searches.{by_none}
use Rattle.card.specs.Calls.{Kept, lent_by_within, outcome_of, reserve_summary_by, accept_summary_by}
use Rattle.card.specs.Public.{on, fresh, search, survey, save, load, close, build, check, kind_on, kind_of, by_map, by_summary}
use Rattle.card.specs.Public.{Beside, with_summary, End, ending, refused_end, end_on, end_close, ends}
use Rattle.card.proofs.TurnedAway.{turned_on, turned_close}
use Rattle.ledger.specs.Closings.{Comes}
use Rattle.ledger.specs.Lists.{Long}
use Rattle.ledger.specs.Summaries.{apart, WrongLength, AnySummary, Decided, turned_down, granted, AnyReserve}
use Rattle.ledger.proofs.GuidedClosings.{same_close, close_anew, close_refuses}
use Rattle.ledger.proofs.GuidedEnds.{takes, reserve-takes, accept-takes, reserve_refuses, accept_refuses}
use Rattle.ledger.proofs.GuidedEnds.{grow_refuses, release_refuses}

-- ---- any summary of the right length

-- a call that is turned away is so with a summary and without
pub both_turned : (s : Kept) (b : Beside) (sheet : ℕ) (a : Ask) → apart (end_on true true s b sheet a)
    ≡ apart (end_on true false s b sheet a)
both_turned s b sheet a =
    ap apart (turned_on true true s b sheet a refl) ∙ sym (ap apart (turned_on true false s b sheet a refl))

module _ (s : Kept) (b : Beside) (sheet : ℕ) (long : Long s b.summary) where
  abbrev left : Beside
  left = with_summary [] b

  pub accept_any : (t : Bool) (limits : List ℕ) (start k : ℕ) → apart (end_on t true s b sheet (accept limits start k))
      ≡ apart (end_on t false s b sheet (accept limits start k))
  accept_any true limits start k = both_turned s b sheet (accept limits start k)
  accept_any false limits start k =
      ap apart (accept-takes s limits sheet k false true b start)
      ∙ ap (λ (v : Verdict). takes s limits sheet k v start left)
      (summaries.accept-same (held_by s.entries sheet) limits b.summary s.shape.blocks s.shape.free s.map
      s.card (length s.entries) (entry_at s.entries sheet) sheet long start k)
      ∙ sym (ap apart (accept-takes s limits sheet k false false b start))

  -- what grow and release come to, by their verdicts
  abbrev grows : ℕ → Verdict → End
  grows m v =
      let e = entry_at s.entries sheet in
      let out = settle v (out_of (s.shape.free - m) (entry_of open_mark e.start (e.length + m)) Done)
      (refusal_out s.shape.free e) in
      ending (outcome_of s.shape out) (settle v (marked s.map (e.start + e.length) m false) (λ number. s.map))
      (set s.entries sheet out.entry) (settle v (zeroed s.card (e.start + e.length) m) (λ number. s.card)) [] left

  pub grow_any : (t : Bool) (limits : List ℕ) (m : ℕ) → apart (end_on t true s b sheet (grow limits m))
      ≡ apart (end_on t false s b sheet (grow limits m))
  unfolding effects.grow_out effects.grow_map effects.grow_card
  grow_any true limits m = both_turned s b sheet (grow limits m)
  grow_any false limits m = ap (grows m)
      (summaries.grow-same (held_by s.entries sheet) limits b.summary s.shape.blocks s.shape.free s.map
      s.card (length s.entries) (entry_at s.entries sheet) sheet long m)

  abbrev releases : Verdict → End
  releases v =
      let e = entry_at s.entries sheet in
      let out = settle v (out_of (s.shape.free + e.length) absent Done) (refusal_out s.shape.free e) in
      ending (outcome_of s.shape out) (settle v (marked s.map e.start e.length true) (λ number. s.map))
      (set s.entries sheet out.entry) s.card [] left

  pub release_any : (t : Bool) → apart (end_on t true s b sheet release) ≡ apart (end_on t false s b sheet release)
  unfolding effects.release_out effects.release_map
  release_any true = both_turned s b sheet release
  release_any false = ap releases
      (summaries.release-same 0 [] b.summary s.shape.blocks s.shape.free s.map no_card (length s.entries)
      (entry_at s.entries sheet) sheet long)

-- a closing, turned away or not
pub close_any : (s : Kept) (b : Beside) → Long s b.summary → (t : Bool) → apart (end_close t true s b)
    ≡ apart (end_close t false s b)
close_any s b long true = ap apart (turned_close true s b) ∙ sym (ap apart (turned_close false s b))
close_any s b long false = same_close s b long

module _ (role : ℕ) (s : Kept) (b : Beside) (sheet : ℕ) (long : Long s b.summary) where
  pub any_summary : AnySummary role s b sheet
  any_summary = record {
    accepts = accept_any s b sheet long (turned_away role roles.accept);
    grows = grow_any s b sheet long (turned_away role roles.grow);
    releases = release_any s b sheet long (turned_away role roles.release);
    closes = close_any s b long (turned_away role roles.close);
    anew = close_anew (turned_away role roles.close) s b;
  }

-- ---- a summary of the wrong length

module _ (s : Kept) (b : Beside) (short : Long s b.summary → ⊥) where
  abbrev summary : List ℕ
  summary = b.summary

  wrong_on : (sheet : ℕ) (a : Ask) → (kind_on a).formed ≡ true → (t : Bool) → t ≡ false
      → end_on t true s b sheet a ≡ refused_end 1 s b (kind_on a)
  wrong_on sheet a formed true e = absurd (true≢false e)
  wrong_on sheet (reserve limits k p) formed false e =
      reserve_refuses false true s b sheet 1 limits k p
      (summaries.reserve-1 (held_by s.entries sheet) limits summary s.shape.blocks s.shape.free s.map s.card
      (length s.entries) (entry_at s.entries sheet) sheet short k p)
  wrong_on sheet (accept limits start k) formed false e =
      accept_refuses false true s b sheet 1 limits start k
      (summaries.accept-1 (held_by s.entries sheet) limits summary s.shape.blocks s.shape.free s.map s.card
      (length s.entries) (entry_at s.entries sheet) sheet short start k)
  wrong_on sheet (grow limits m) formed false e =
      grow_refuses false true s b sheet 1 limits m
      (summaries.grow-1 (held_by s.entries sheet) limits summary s.shape.blocks s.shape.free s.map s.card
      (length s.entries) (entry_at s.entries sheet) sheet short m)
  wrong_on sheet release formed false e =
      release_refuses false true s b sheet 1
      (summaries.release-1 0 [] summary s.shape.blocks s.shape.free s.map no_card (length s.entries)
      (entry_at s.entries sheet) sheet short)
  wrong_on sheet (offer limits k) formed false e = absurd (false≢true formed)
  wrong_on sheet (put p payload) formed false e = absurd (false≢true formed)
  wrong_on sheet complete formed false e = absurd (false≢true formed)
  wrong_on sheet (change c) formed false e = absurd (false≢true formed)
  wrong_on sheet (show p buffer) formed false e = absurd (false≢true formed)
  wrong_on sheet (show_dated p date buffer) formed false e = absurd (false≢true formed)
  wrong_on sheet standing formed false e = absurd (false≢true formed)

  wrong_close : (t : Bool) → t ≡ false → end_close t true s b ≡ refused_end 1 s b (kind_of close)
  wrong_close true e = absurd (true≢false e)
  wrong_close false e = close_refuses s b short

  pub wrong_length : (role : ℕ) → WrongLength role s b
  wrong_length role (on sheet a) formed may-call = wrong_on sheet a formed (turned_away role (kind_on a).name) may-call
  wrong_length role (fresh n) formed may-call = absurd (false≢true formed)
  wrong_length role (search k) formed may-call = absurd (false≢true formed)
  wrong_length role survey formed may-call = absurd (false≢true formed)
  wrong_length role save formed may-call = absurd (false≢true formed)
  wrong_length role (load image) formed may-call = absurd (false≢true formed)
  wrong_length role close formed may-call = wrong_close (turned_away role roles.close) may-call
  wrong_length role build formed may-call = absurd (false≢true formed)
  wrong_length role check formed may-call = absurd (false≢true formed)

-- ---- a reserve

-- of one who is turned away, none comes to the search
unsearched_turned : (s : Kept) (guided : Bool) (summary limits : List ℕ) (sheet k : ℕ) (p : Placement)
    → unsearched_verdict (lent_by_within true guided summary s s.card limits sheet) k p ≡ refused 21
unfolding unsearched_verdict view_on before table_of
unsearched_turned s guided summary limits sheet k p = stop 21 _ _ refl

module _ (s : Kept) (b : Beside) (limits : List ℕ) (sheet : ℕ) (long : Long s b.summary) (k : ℕ) (p : Placement) where
  abbrev n : ℕ
  n = s.shape.blocks

  abbrev g : Figures
  g = figures_in n p

  abbrev x : Lent
  x = lent_by_within false true b.summary s s.card limits sheet

  abbrev plainly : Lent
  plainly = lent_by_within false false [] s s.card limits sheet

  abbrev reserves : Bool → Bool → End
  reserves t guided = end_on t guided s b sheet (reserve limits k p)

  abbrev refuses : ℕ → End
  refuses number = refused_end number s b (kind_on (reserve limits k p))

  -- the accept of a run, of one who may
  abbrev accepting_at : ℕ → Bool → End
  accepting_at start t = end_on t true s b sheet (accept limits start k)

  unsearched_x : unsearched_verdict x k p ≡ unsearched_verdict plainly k p
  unsearched_x =
      summaries.unsearched-same (held_by s.entries sheet) limits b.summary n s.shape.free s.map s.card
      (length s.entries) (entry_at s.entries sheet) sheet long k p

  -- a call that does not come to the search: both are refused by the same row
  pub before_refuses : (number : ℕ) → unsearched_verdict plainly k p ≡ refused number → reserves false true ≡ refuses number
  before_refuses number h =
      reserve_refuses false true s b sheet number limits k p (reserving.refused_before x k p number (unsearched_x ∙ h))

  refused_before : (t : Bool) (number : ℕ)
      → unsearched_verdict (lent_by_within t false [] s s.card limits sheet) k p ≡ refused number
      → reserves t true ≡ reserves t false
  refused_before true number h =
      turned_on true true s b sheet (reserve limits k p) refl ∙ sym (turned_on true false s b sheet (reserve limits k p) refl)
  refused_before false number h =
      before_refuses number h
      ∙ sym (reserve_refuses false false s b sheet number limits k p (reserving.refused_before plainly k p number h))

  -- one that comes to the search
  module _ (comes : unsearched_verdict plainly k p ≡ accepted) where
    by_search : (v : Verdict) → first_of (reserving.searching x k p) ≡ v → reserve_verdict x k p ≡ v
    by_search v h = reserving.searched x k p v (unsearched_x ∙ comes) h

    abbrev found : Option ℕ
    found = found_by true b.summary s.map g k

    -- a start that was found
    module _ (t : ℕ) (f : found ≡ Some t) where
      w : reserving.Passed plainly k p
      w = reserving.passed plainly k p comes

      pub fits : fit_within (map-blocks.free s.map) g k t ≡ true
      fits = subst (λ (o : Option ℕ). fit_within (map-blocks.free s.map) g k (start_at o) ≡ true) f
          (found_fit true b.summary s.map g k (omega (arith, (given plainly k w.opens).some)) (ap none f))

      plain-there : map-blocks.fit (map-blocks.free s.map) 0 n 1 k t ≡ true
      plain-there = plain_fit (map-blocks.free s.map) n g k t (figured n g w.right).inside fits

      pub inside : t + k ≤ n
      inside = (fit_is (map-blocks.free s.map) 0 n 1 k t plain-there).high

      -- too much for the free count: so it is for an accept of that run by the map
      pub too_few : s.shape.free < k → accept_verdict plainly t k ≡ refused 4
      too_few more =
          accepting.verdict_behind plainly t k
          ∙ ap (λ (v : Verdict). settle v (accepting.run plainly t k) refused) w.opens
          ∙ ap (λ (o : Bool). run_verdict 17 o (map-blocks.free s.map) n s.shape.free t k) w.under
          ∙ runs.too_few 17 (map-blocks.free s.map) n s.shape.free t k plain-there more

    -- and is not too much
    module _ (t : ℕ) (f : found ≡ Some t) (few : k ≤ s.shape.free) where
      reserved : reserve_verdict x k p ≡ accepted
      reserved = by_search accepted (reserving.passes x k p t f few)

      starts : reserve_start x k p ≡ t
      starts = sym (reserving.starts x k p t f)

      accepts-there : accept_verdict x t k ≡ accepted
      accepts-there =
          accepting.verdict_behind x t k
          ∙ ap (λ (v : Verdict). settle v (accepting.run x t k) refused)
          (reserving.passed x k p (unsearched_x ∙ comes)).opens
          ∙ ap (λ (o : Bool). run_verdict 17 o (map-blocks.free s.map) n s.shape.free t k) (w t f).under
          ∙ runs.passes 17 (map-blocks.free s.map) n s.shape.free t k (plain-there t f) few

      same-summary : reserve_summary_by false true b.summary s limits sheet k p
          ≡ accept_summary_by false true b.summary s limits sheet t k
      unfolding effects.reserve_summary effects.accept_summary
      same-summary =
          ap (λ (v : Verdict). effects.taken_summary x v (reserve_start x k p) k) (reserved ∙ sym accepts-there)
          ∙ ap (λ (start : ℕ). effects.taken_summary x (accept_verdict x t k) start k) starts

      pub answers : (reserves false true).outcome.answer ≡ start_with_space (map-blocks.free s.map) n t
      answers =
          ap (λ (e : End). e.outcome.answer) (reserve-takes s limits sheet k false true b p)
          ∙ (λ y. (takes s limits sheet k (reserved y) (starts y) b).outcome.answer)

      pub done-so : number_of (reserves false true).outcome.answer ≡ 0
      done-so = ap number_of answers

      pub does : reserves false true ≡ accepting_at t false
      does =
          reserve-takes s limits sheet k false true b p
          ∙ (λ y. takes s limits sheet k ((reserved ∙ sym accepts-there) y) (starts y) (with_summary (same-summary y) b))
          ∙ sym (accept-takes s limits sheet k false true b t)

    -- no fit is found; or one for which the free count is too small; or one that is granted
    pub data Ruled : Type 0 where
      nowhere : reserves false true ≡ refuses 10 → Ruled
      short_of : (t : ℕ) → found ≡ Some t → s.shape.free < k → reserves false true ≡ refuses 4 → Ruled
      taken : (t : ℕ) → found ≡ Some t → k ≤ s.shape.free → Ruled

    pub ruled : Ruled
    ruled = go found refl
      where
        by_count : (t : ℕ) → found ≡ Some t → (few : Bool) → ltb s.shape.free k ≡ few → Ruled
        by_count t f true few =
            short_of t f (ltb-true _ _ few) (reserve_refuses false true s b sheet 4 limits k p
            (by_search (refused 4) (reserving.too_few x k p t f (ltb-true _ _ few))))
        by_count t f false few = taken t f (ltb-false _ _ few)

        go : (o : Option ℕ) → found ≡ o → Ruled
        go None f = nowhere (reserve_refuses false true s b sheet 10 limits k p
            (by_search (refused 10) (reserving.no_fit x k p f)))
        go (Some t) f = by_count t f (ltb s.shape.free k) refl

    pub short : get_or b.summary 2 0 < k → reserves false true ≡ refuses 10
    short l =
        reserve_refuses false true s b sheet 10 limits k p
        (by_search (refused 10)
        (reserving.no_fit x k p (by_none s.map b.summary g.from g.before g.step k l)))

module _ (role : ℕ) (s : Kept) (b : Beside) (limits : List ℕ) (sheet : ℕ) (long : Long s b.summary) (k : ℕ) (p : Placement)
  where
    abbrev away : Bool
    away = turned_away role roles.reserve

    -- by whether the role may reserve
    decided : (t : Bool) → away ≡ t → Comes (by_map role) s limits sheet k p → Decided role s b limits sheet k p
    decided true e comes =
        absurd (not_refused 21 (sym (ap (λ (t : Bool). unsearched_verdict
        (lent_by_within t false [] s s.card limits sheet) k p) e
        ∙ unsearched_turned s false [] limits sheet k p) ∙ comes))
    decided false e comes = go (ruled s b limits sheet long k p here)
      where
        here : unsearched_verdict (lent_by_within false false [] s s.card limits sheet) k p ≡ accepted
        here = sym (ap (λ (t : Bool). unsearched_verdict (lent_by_within t false [] s s.card limits sheet) k p) e) ∙ comes

        same : ends (by_summary role) s b (on sheet (reserve limits k p)) ≡ end_on false true s b sheet (reserve limits k p)
        same = ap (λ (t : Bool). end_on t true s b sheet (reserve limits k p)) e

        go : Ruled s b limits sheet long k p here → Decided role s b limits sheet k p
        go (nowhere h) = turned_down 10 (inl refl) (same ∙ h)
        go (short_of t f more h) = turned_down 4 (inr (refl, more)) (same ∙ h)
        go (taken t f few) =
            granted t (fits s b limits sheet long k p here t f) (inside s b limits sheet long k p here t f)
            (ap (λ (o : End). number_of o.outcome.answer) same ∙ done-so s b limits sheet long k p here t f few)
            (λ other may-accept. same ∙ does s b limits sheet long k p here t f few
            ∙ sym (ap (λ (u : Bool). end_on (not u) true s b sheet (accept limits t k)) may-accept))

    shortly : (t : Bool) → away ≡ t → Comes (by_map role) s limits sheet k p → get_or b.summary 2 0 < k
        → end_on t true s b sheet (reserve limits k p) ≡ refused_end 10 s b (kind_on (reserve limits k p))
    shortly true e comes l =
        absurd (not_refused 21 (sym (ap (λ (t : Bool). unsearched_verdict
        (lent_by_within t false [] s s.card limits sheet) k p) e
        ∙ unsearched_turned s false [] limits sheet k p) ∙ comes))
    shortly false e comes l =
        short s b limits sheet long k p
        (sym (ap (λ (t : Bool). unsearched_verdict (lent_by_within t false [] s s.card limits sheet) k p) e) ∙ comes) l

    pub any-reserve : AnyReserve role s b limits sheet k p
    any-reserve = record {
      refused_before = refused_before s b limits sheet long k p away;
      searched = decided away refl;
      short = shortly away refl;
    }
