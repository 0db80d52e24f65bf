-- What a call that takes blocks comes to, by its verdict and its start; and that a refusal changes nothing.
-- Assumes nothing.
use Prim.Native.Nat.{ℕ, ◌-◌}
use mathlib.Core.Path.{◌≡◌, refl}
use mathlib.Core.Bool.{Bool, false, cond}
use mathlib.Core.List.{List, []}
use lib.ListN.{set}
use Rattle.map_blocks.specs.Blocks as map-blocks
use Rattle.map_blocks.specs.Maps.{marked}
use Rattle.blocks_of_card.specs.Card.{zeroed}
use Rattle.catalogue.specs.Entries.{entry_at, open_mark}
use Rattle.catalogue.specs.declared.Entry.{Entry}
use Rattle.catalogue_standings.specs.Rows.{Verdict, refused, settle}
use Rattle.catalogue_standings.specs.Searches.{start_with_space}
use Rattle.refusals.specs.Effects as effects
use Rattle.refusals.specs.Effects.{entry_of, out_of, refusal_out}
use Rattle.refusals.specs.Lent.{Lent, no_card}
use Rattle.refusals.specs.Placement.{Placement}
use Rattle.refusals.specs.Table.{reserve, grow, release, accept}
use Rattle.refusals.specs.declared.Out.{Out}
use Rattle.card.specs.Calls.{Kept, lent_by, lent_by_within, outcome_of}
use Rattle.card.specs.Calls.{reserve_summary_by, accept_summary_by}
use Rattle.card.specs.Public.{kind_on, Beside, with_summary, End, ending, refused_end, end_on}
use Rattle.card.proofs.Refusals.{reserve_refused_by, accept_refused_by, grow_refused_by, release_refused_by}
use Rattle.card.proofs.TurnedAway.{put_together, summary_back}

-- ---- what a call that takes blocks comes to, by its verdict and its start, and with what is left beside

module _ (s : Kept) (limits : List ℕ) (sheet k : ℕ) where
  abbrev e : Entry
  e = entry_at s.entries sheet

  abbrev out : Verdict → ℕ → Out
  out v start =
      settle v (out_of (s.shape.free - k) (entry_of open_mark start k)
      (start_with_space (map-blocks.free s.map) s.shape.blocks start))
      (refusal_out s.shape.free e)

  abbrev pub takes : Verdict → ℕ → Beside → End
  takes v start left =
      ending (outcome_of s.shape (out v start)) (settle v (marked s.map start k false) (λ number. s.map))
      (set s.entries sheet (out v start).entry) (settle v (zeroed s.card start k) (λ number. s.card)) [] left

  module _ (turned guided : Bool) (b : Beside) where
    abbrev guide : List ℕ
    guide = cond guided b.summary []

    abbrev q : Lent
    q = lent_by_within turned guided guide s s.card limits sheet

    pub reserve-takes : (p : Placement) → end_on turned guided s b sheet (reserve limits k p)
        ≡ takes (effects.reserve_verdict q k p) (effects.reserve_start q k p)
        (cond guided (with_summary (reserve_summary_by turned guided guide s limits sheet k p) b) b)
    unfolding effects.reserve_out effects.reserve_map effects.reserve_card effects.taken_out effects.taken_map
        effects.taken_card
    reserve-takes p = refl

    pub accept-takes : (start : ℕ) → end_on turned guided s b sheet (accept limits start k)
        ≡ takes (effects.accept_verdict q start k) start
        (cond guided (with_summary (accept_summary_by turned guided guide s limits sheet start k) b) b)
    unfolding effects.accept_out effects.accept_map effects.accept_card effects.taken_out effects.taken_map effects.taken_card
    accept-takes start = refl

-- ---- a refusal

module _ (turned guided : Bool) (s : Kept) (b : Beside) (sheet number : ℕ) where
  abbrev lent_guide : List ℕ
  lent_guide = cond guided b.summary []

  abbrev lent : List ℕ → Lent
  lent limits = lent_by_within turned guided lent_guide s s.card limits sheet

  pub reserve_refuses : (limits : List ℕ) (k : ℕ) (p : Placement) → effects.reserve_verdict (lent limits) k p ≡ refused number
      → end_on turned guided s b sheet (reserve limits k p) ≡ refused_end number s b (kind_on (reserve limits k p))
  reserve_refuses limits k p h =
      let r = reserve_refused_by turned guided lent_guide s sheet number limits k p h in
      put_together r.0 r.1 r.3 r.4 (summary_back guided b _ r.2)

  pub accept_refuses : (limits : List ℕ) (start k : ℕ) → effects.accept_verdict (lent limits) start k ≡ refused number
      → end_on turned guided s b sheet (accept limits start k) ≡ refused_end number s b (kind_on (accept limits start k))
  accept_refuses limits start k h =
      let r = accept_refused_by turned guided lent_guide s sheet number limits start k h in
      put_together r.0 r.1 r.3 r.4 (summary_back guided b _ r.2)

  pub grow_refuses : (limits : List ℕ) (m : ℕ) → effects.grow_verdict (lent limits) m ≡ refused number
      → end_on turned guided s b sheet (grow limits m) ≡ refused_end number s b (kind_on (grow limits m))
  grow_refuses limits m h =
      let r = grow_refused_by turned guided lent_guide s sheet number limits m h in
      put_together r.0 r.1 r.3 r.4 (summary_back guided b _ r.2)

  pub release_refuses : effects.release_verdict (lent_by turned guided lent_guide s no_card sheet) ≡ refused number
      → end_on turned guided s b sheet release ≡ refused_end number s b (kind_on release)
  release_refuses h =
      let r = release_refused_by turned guided lent_guide s sheet number h in
      put_together r.0 r.1 r.3 refl (summary_back guided b _ r.2)
