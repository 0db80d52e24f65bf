-- What an offer answers: its verdict is that of a plain reserve, and an accept of what it answered is then accepted.
-- Assumes nothing.
use mathlib.Core.Path.{◌≡◌, refl, sym, ap, ◌∙◌}
use mathlib.Core.Bool.{true, not}
use Prim.Native.Nat.{ℕ}
use native.Mathlib.Omega.{arith}
use borrow.Author.Tests.{eqb-false}
use Rattle.map_blocks.specs.Blocks.{free, fit}
use Rattle.catalogue_standings.specs.Answers.{number_of}
use Rattle.catalogue_standings.specs.Rows.{Verdict, accepted, refused, settle}
use Rattle.catalogue_standings.specs.Searches.{start_at}
use Rattle.catalogue_standings.specs.declared.Answer.TheVariants.{Start, Refused}
use Rattle.catalogue_standings.proofs.Openings.{skip, none_left}
use Rattle.refusals.specs.Effects.{reserve_verdict, reserve_start, reserve_out, reserve_map, reserve_card, offer_answer}
use Rattle.refusals.specs.Effects.{accept_verdict, accept_out, accept_map, accept_card, taken_out, taken_map, taken_card}
use Rattle.refusals.specs.Guides.{found_by}
use Rattle.refusals.specs.Lent.{Lent}
use Rattle.refusals.specs.Placement.{plain, placed, figures, figures_in}
use Rattle.refusals.specs.Table.{on, reserve, table_of}
use Rattle.refusals.specs.Views.{view_on}
use Rattle.refusals.specs.declared.Figures.{Figures}
use Rattle.refusals.proofs.Placement.{found_fit}
use Rattle.refusals.proofs.Room.{view_of}
use Rattle.catalogue_standings.proofs.Rows.{clear}

module _ (q : Lent) (k : ℕ) where
  -- the answer, once the verdict of the reserve with 0, n and 1 is known
  pub answers : (v : Verdict) (s : ℕ) → reserve_verdict q k (placed (figures 0 q.n 1)) ≡ v
      → s ≡ reserve_start q k (placed (figures 0 q.n 1)) → settle v (Start s k) Refused ≡ offer_answer q k
  unfolding offer_answer reserve_verdict reserve_start table_of
  answers v s h same =
      ap (λ (t : ℕ). settle v (Start t k) Refused) same
      ∙ ap (λ (w : Verdict). settle w (Start (reserve_start q k plain) k) Refused) (sym h)

  -- what was answered: the verdict is acceptance, the start the least fit, the length the one asked for
  pub record Offered (start length : ℕ) : Type 0 where
    pub verdict : reserve_verdict q k plain ≡ accepted
    pub least : start ≡ reserve_start q k plain
    pub whole : length ≡ k

  pub offered : (start length : ℕ) → offer_answer q k ≡ Start start length → Offered start length
  unfolding offer_answer reserve_verdict table_of
  offered start length e = go (reserve_verdict q k plain) refl e
    where
      go : (v : Verdict) → reserve_verdict q k plain ≡ v
          → settle v (Start (reserve_start q k plain) k) Refused ≡ Start start length → Offered start length
      go accepted h e = record { verdict = h; least = cc; whole = cc }
      go (refused number) h e = absurd (let z : ◌≡◌ {A = ℕ} 0 1 = cc in omega arith)

  -- a plain reserve that is accepted, and an accept at its start
  pub accepted_there : reserve_verdict q k plain ≡ accepted → accept_verdict q (reserve_start q k plain) k ≡ accepted
  unfolding reserve_verdict accept_verdict reserve_start view_on table_of
  accepted_there h =
      let rows = table_of (view_of q) (on q.sheet (reserve q.limits k plain)) in
      let g : Figures = figures_in q.n plain in
      let f = free q.map in
      let fits : fit f 0 q.n 1 k (start_at (found_by q.guided q.summary q.map g k)) ≡ true = found_fit q.guided
      q.summary q.map g k (omega (arith, eqb-false k 0 (clear 3 rows h).0)) (clear 10 rows h).0 in
      skip 21 _ _ _ (clear 21 rows h).0
      (skip 1 _ _ _ (clear 1 rows h).0
      (skip 2 _ _ _ (clear 2 rows h).0
      (skip 4 _ _ _ (clear 4 rows h).0
      (skip 6 _ _ _ (clear 6 rows h).0
      (skip 7 _ _ _ (clear 7 rows h).0
      (skip 8 _ _ _ (clear 8 rows h).0
      (skip 3 _ _ _ (clear 3 rows h).0
      (skip 18 _ _ _ (clear 18 rows h).0
      (skip 17 _ _ _ (ap not fits)
      (skip 4 _ _ _ (clear 4 rows h).1.0 none_left))))))))))

  -- what the accept then hands back and leaves is what the reserve would have
  module _ (h : reserve_verdict q k plain ≡ accepted) where
    abbrev start : ℕ
    start = reserve_start q k plain

    alike : accept_verdict q start k ≡ reserve_verdict q k plain
    alike = accepted_there h ∙ sym h

    pub same_out : accept_out q start k ≡ reserve_out q k plain
    unfolding accept_out reserve_out
    same_out = ap (λ (v : Verdict). taken_out q v start k) alike

    pub same_map : accept_map q start k ≡ reserve_map q k plain
    unfolding accept_map reserve_map
    same_map = ap (λ (v : Verdict). taken_map q v start k) alike

    pub same-card : accept_card q start k ≡ reserve_card q k plain
    unfolding accept_card reserve_card
    same-card = ap (λ (v : Verdict). taken_card q v start k) alike

    pub number_zero : number_of (reserve_out q k plain).answer ≡ 0
    unfolding reserve_out taken_out
    number_zero = ap (λ (v : Verdict). number_of (taken_out q v start k).answer) h
