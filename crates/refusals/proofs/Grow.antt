-- What the rows of grow and its effects say: the verdict in each case, and what the call then hands back and leaves.
-- Assumes nothing.
use mathlib.Core.Path.{◌≡◌, refl, sym, ap, ◌∙◌}
use mathlib.Core.Bool.{Bool, false}
use mathlib.Core.List.{List, ◌∷◌}
use Prim.Native.Nat.{ℕ, ◌+◌, ◌-◌}
use native.Mathlib.Omega.{arith}
use Rattle.catalogue.specs.Entries.{open_mark}
use Rattle.map_blocks.specs.Blocks.{free}
use Rattle.catalogue_wings.specs.Wings.{wing_of}
use Rattle.refusals.specs.Effects.{adding_verdict, run_verdict, grow_verdict, entry_of, out_of, refusal_out, grow_out, grow_map}
use Rattle.refusals.specs.Effects.{grow_card}
use Rattle.refusals.specs.Effects.{grow_summary}
use Rattle.refusals.specs.Guides.{guide_after}
use Rattle.catalogue_standings.specs.Rows.{Verdict, accepted, refused, settle}
use Rattle.catalogue_standings.specs.Standings.{start_of, length_of}
use Rattle.refusals.specs.Shares.{over_limit}
use Rattle.refusals.specs.Table.{limit_row, run_rows, table_of}
use Rattle.refusals.specs.Views.{view_on}
use Rattle.refusals.proofs.Beginnings.{adding_then, added}
use Rattle.refusals.specs.Lent.{Lent}
use Rattle.refusals.proofs.Lent.{standing}
use Rattle.refusals.proofs.Room.{view_of, grow_verdict_on}
use Rattle.map_blocks.specs.Maps.{marked}
use Rattle.blocks_of_card.specs.Card.{zeroed}
use Rattle.catalogue_standings.specs.declared.Answer.TheVariants.{Done}
use Rattle.refusals.specs.declared.Out.{Out}

module _ (q : Lent) (m : ℕ) where
  -- where the blocks that are added start, by the entry
  abbrev pub end : ℕ
  end = q.entry.start + q.entry.length

  -- the limit of the sheet's wing is passed
  abbrev pub over : Bool
  over = over_limit q.limits (wing_of q.sheet) q.held m

  -- what the rows of the blocks from a start on say
  abbrev pub run : ℕ → Verdict
  run start = run_verdict 11 over (free q.map) q.n q.spare start m

  pub verdict_behind : grow_verdict_on q m ≡ settle (adding_verdict q m) (run end) refused
  unfolding grow_verdict run_verdict view_on table_of
  verdict_behind =
      adding_then q m
      (limit_row (view_of q) q.limits m ∷ run_rows 11 (view_of q) (start_of (standing q) + length_of (standing q)) m) ∙ go
      (adding_verdict q m) refl
    where
      go : (v : Verdict) → adding_verdict q m ≡ v
          → settle v (run (start_of (standing q) + length_of (standing q))) refused ≡ settle v (run end) refused
      go accepted h =
          let x = (added q m h).extent in
          let same : start_of (standing q) + length_of (standing q) ≡ end = omega (arith, x.starts, x.lasts) in ap run same
      go (refused number) h = refl

-- ---- what the call then hands back and leaves

module _ (q : Lent) (m : ℕ) where
  -- what the call hands back and leaves
  abbrev pub Leaves : Out → List ℕ → List ℕ → List ℕ → Type 0
  Leaves r map summary card =
      (r ≡ grow_out q m)
      × (map ≡ grow_map q m)
      × (summary ≡ grow_summary q m)
      × (card ≡ grow_card q m)

  -- the map and a summary once the blocks from s on are taken
  abbrev pub map_left : ℕ → List ℕ
  map_left s = marked q.map s m false

  abbrev pub guide_left : ℕ → List ℕ
  guide_left s = guide_after q.guided q.summary (map_left s) q.n s m

  -- each after its verdict
  pub out : (v : Verdict) → grow_verdict_on q m ≡ v
      → settle v (out_of (q.spare - m) (entry_of open_mark q.entry.start (q.entry.length + m)) Done)
      (refusal_out q.spare q.entry) ≡ grow_out q m
  unfolding grow_out
  out v h =
      ap (λ (w : Verdict). settle w (out_of (q.spare - m) (entry_of open_mark q.entry.start (q.entry.length + m)) Done)
      (refusal_out q.spare q.entry)) (sym h)

  pub map_after_lem : (v : Verdict) → grow_verdict_on q m ≡ v
      → settle v (marked q.map (q.entry.start + q.entry.length) m false) (λ number. q.map) ≡ grow_map q m
  unfolding grow_map
  map_after_lem v h =
      ap (λ (w : Verdict). settle w (marked q.map (q.entry.start + q.entry.length) m false) (λ number. q.map)) (sym h)

  pub card_after : (v : Verdict) → grow_verdict_on q m ≡ v
      → settle v (zeroed q.card (q.entry.start + q.entry.length) m) (λ number. q.card) ≡ grow_card q m
  unfolding grow_card
  card_after v h = ap (λ (w : Verdict). settle w (zeroed q.card (q.entry.start + q.entry.length) m) (λ number. q.card))
      (sym h)

  pub summary_after : (v : Verdict) → grow_verdict_on q m ≡ v
      → settle v (guide_left (q.entry.start + q.entry.length)) (λ number. q.summary) ≡ grow_summary q m
  unfolding grow_summary
  summary_after v h =
      ap (λ (w : Verdict). settle w (guide_left (q.entry.start + q.entry.length)) (λ number. q.summary)) (sym h)

  pub unchanged : (number : ℕ) (r : Out) → grow_verdict_on q m ≡ refused number → r ≡ refusal_out q.spare q.entry number
      → Leaves r q.map q.summary q.card
  unchanged number r h made = (
    made ∙ out (refused number) h,
    map_after_lem (refused number) h,
    summary_after (refused number) h,
    card_after (refused number) h,
  )

  pub changed : (s : ℕ) (map summary card : List ℕ) → grow_verdict_on q m ≡ accepted → s ≡ (q.entry.start + q.entry.length)
      → map ≡ map_left s → summary ≡ guide_left s → card ≡ zeroed q.card s m
      → Leaves (out_of (q.spare - m) (entry_of open_mark q.entry.start (q.entry.length + m)) Done) map summary card
  changed s map summary card h same marks guides zeros = (
    out accepted h,
    marks ∙ ap map_left same ∙ map_after_lem accepted h,
    guides ∙ ap guide_left same ∙ summary_after accepted h,
    zeros ∙ ap (λ (t : ℕ). zeroed q.card t m) same ∙ card_after accepted h,
  )
