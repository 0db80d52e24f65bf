-- What a call that takes blocks hands back and leaves, once its verdict is known: reserve and accept, which differ in where the
-- blocks start.
-- Assumes nothing.
use mathlib.Core.Path.{◌≡◌, sym, ap, ◌∙◌}
use mathlib.Core.Bool.{false}
use mathlib.Core.List.{List}
use Prim.Native.Nat.{ℕ, ◌-◌}
use Rattle.catalogue.specs.Entries.{open_mark}
use Rattle.map_blocks.specs.Blocks.{free}
use Rattle.map_blocks.specs.Maps.{marked}
use Rattle.blocks_of_card.specs.Card.{zeroed}
use Rattle.catalogue_standings.specs.Rows.{Verdict, accepted, refused, settle}
use Rattle.catalogue_standings.specs.Searches.{start_with_space}
use Rattle.refusals.specs.Effects.{entry_of, out_of, refusal_out, taken_out, taken_map, taken_summary, taken_card}
use Rattle.refusals.specs.Guides.{guide_after}
use Rattle.refusals.specs.Lent.{Lent}
use Rattle.refusals.specs.declared.Out.{Out}

module _ (q : Lent) (v : Verdict) (start k : ℕ) where
  abbrev pub Leaves : Out → List ℕ → List ℕ → List ℕ → Type 0
  Leaves r map summary card =
      (r ≡ taken_out q v start k)
      × (map ≡ taken_map q v start k)
      × (summary ≡ taken_summary q v start k)
      × (card ≡ taken_card q v start k)

  -- what is handed back on acceptance, for the blocks from s on
  abbrev given : ℕ → Out
  given s = out_of (q.spare - k) (entry_of open_mark s k) (start_with_space (free q.map) q.n s)

  -- and what a summary then holds
  abbrev pub guide_left : ℕ → List ℕ
  guide_left s = guide_after q.guided q.summary (marked q.map s k false) q.n s k

  pub unchanged : (number : ℕ) (r : Out) → v ≡ refused number → r ≡ refusal_out q.spare q.entry number
      → Leaves r q.map q.summary q.card
  unfolding taken_out taken_map taken_summary taken_card
  unchanged number r h made = (
    made ∙ ap (λ (w : Verdict). settle w (given start) (refusal_out q.spare q.entry)) (sym h),
    ap (λ (w : Verdict). settle w (marked q.map start k false) (λ number. q.map)) (sym h),
    ap (λ (w : Verdict). settle w (guide_left start) (λ number. q.summary)) (sym h),
    ap (λ (w : Verdict). settle w (zeroed q.card start k) (λ number. q.card)) (sym h),
  )

  pub changed : (s : ℕ) (r : Out) (map summary card : List ℕ) → v ≡ accepted → s ≡ start → r ≡ given s
      → map ≡ marked q.map s k false → summary ≡ guide_left s → card ≡ zeroed q.card s k → Leaves r map summary card
  unfolding taken_out taken_map taken_summary taken_card
  changed s r map summary card h same made marks guides zeros = (
    made ∙ ap given same ∙ ap (λ (w : Verdict). settle w (given start) (refusal_out q.spare q.entry)) (sym h),
    marks ∙ ap (λ (t : ℕ). marked q.map t k false) same
        ∙ ap (λ (w : Verdict). settle w (marked q.map start k false) (λ number. q.map)) (sym h),
    guides ∙ ap guide_left same ∙ ap (λ (w : Verdict). settle w (guide_left start) (λ number. q.summary)) (sym h),
    zeros ∙ ap (λ (t : ℕ). zeroed q.card t k) same
        ∙ ap (λ (w : Verdict). settle w (zeroed q.card start k) (λ number. q.card)) (sym h),
  )
