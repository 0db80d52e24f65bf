-- `rounds_close`: of a sound state as many rounds as there are entries make the closed entries and the closed card, and end
-- where all extents end.
-- Assumes nothing.
use Rattle.std.proofs.Common.{◌≡◌, ℕ, zero, suc, ◌+◌, ◌-◌, ◌*◌, ◌%◌, ◌<◌, ◌≤◌, List, map, length, sym, ap, ◌∙◌, ap₂, ⊎_elim}
use Rattle.std.proofs.Common.{arith}
use Rattle.catalogue.specs.Entries.{entry_at, held}
use Rattle.catalogue.specs.declared.Entry.{Entry}
use Rattle.closing_moves.specs.Moved.{sourced}
use Rattle.closing_moves.proofs.Moved.{sourced_self, sourced_same}
use Rattle.image_soundness.specs.Sound.{State}
use Rattle.image_soundness.proofs.WhenSound.{Sound}
use Rattle.closing.specs.Closed.{below, closed_entries, source, closed_card}
use Rattle.closing.specs.Rounds.{Nearest, nearest_of, moved_card, moved_entries, at_after}
use Rattle.closing.specs.Rounds.{rounds_at, rounds_entries, rounds_card}
use Rattle.closing.proofs.Rounded.{at_none, entries_none, card_none, at_more, entries_more, card_more}
use Rattle.closing.proofs.Below.{below_zero, below_all, waiting, waiting_most, waiting_less, none_waits, waits_none}
use Rattle.closing.proofs.Members.{at_member}
use Rattle.closing.proofs.Placing.{placed}
use Rattle.closing.proofs.Packing.{Placed, up_to, none_packed, all_packed, Gap, first_gap, Next, Last, next-or-last}
use Rattle.closing.proofs.Packing.{moves-down, next-at, next-gap, next-entries, last-entries}
use Rattle.closing.proofs.Cards.{source_to, at_first, at_last, next-card, last_card}

pub record Made (all : List Entry) (card : List ℕ) : Type 0 where
  pub ends : rounds_at all card (length all) 0 ≡ held all
  pub entries : rounds_entries all card (length all) 0 ≡ closed_entries all
  pub cards : rounds_card all card (length all) 0 ≡ closed_card all card

module _ (n : ℕ) (all : List Entry) (card : List ℕ) (p : Placed n all) (small : n < 4294967295)
    (many : length all < 4294967295) (fits : 512 * n ≤ length card) where
  -- what k rounds came to: the extents that start before t are packed
  record Stage (k : ℕ) : Type 0 where
    t : ℕ
    gap : Gap all t
    low : below all t ≤ n
    is_at : rounds_at all card k 0 ≡ below all t
    is_entries : rounds_entries all card k 0 ≡ map (up_to all t) all
    is_card : rounds_card all card k 0 ≡ sourced (source_to all t all) card
    few : waiting all t ≤ length all - k

  stage_first : Stage 0
  stage_first = record {
    t = 0;
    gap = first_gap all;
    low = omega (arith, below_zero all);
    is_at = at_none all card 0 ∙ sym (below_zero all);
    is_entries = entries_none all card 0 ∙ sym (none_packed all);
    is_card = card_none all card 0 ∙ sourced_self card (source_to all 0 all) (at_first all all);
    few = omega (arith, waiting_most all 0);
  }

  module _ (k : ℕ) (s : Stage k) where
    abbrev end : ℕ
    end = below all s.t

    abbrev r : Nearest
    r = nearest_of (map (up_to all s.t) all) end

    at_next : rounds_at all card (suc k) 0 ≡ at_after end r
    at_next = at_more k all card 0 ∙ ap₂ (λ (es : List Entry) (a : ℕ). at_after a (nearest_of es a)) s.is_entries s.is_at

    entries_next : rounds_entries all card (suc k) 0 ≡ moved_entries (map (up_to all s.t) all) end r
    entries_next =
        entries_more k all card 0
        ∙ ap₂ (λ (es : List Entry) (a : ℕ). moved_entries es a (nearest_of es a)) s.is_entries s.is_at

    card-next : rounds_card all card (suc k) 0 ≡ moved_card (sourced (source_to all s.t all) card) end r
    card-next =
        card_more k all card 0 ∙ ap (λ (l : List ℕ). moved_card l (rounds_at all card k 0)
        (nearest_of (rounds_entries all card k 0) (rounds_at all card k 0))) s.is_card
        ∙ ap₂ (λ (es : List Entry) (a : ℕ). moved_card (sourced (source_to all s.t all) card) a (nearest_of es a))
        s.is_entries s.is_at

    one_more : Next all s.t r → Stage (suc k)
    unfolding at_after
    one_more x =
        let e : Entry = entry_at all x.place in
        let m = at_member all x.place x.inside in
        let down : below all s.t ≤ e.start = moves-down all n s.t p small many s.gap r x in
        let inside : e.start + e.length ≤ n = p.inside e m in
        let ends : below all (e.start + 1) ≡ below all s.t + e.length =
        next-at all n s.t p small many s.gap r x in
        let less : waiting all (e.start + 1) + 1 ≤ waiting all s.t = waiting_less all e s.t m x.some x.waits in
        let sum : (end + e.length) % 4294967296 ≡ below all (e.start + 1) = omega arith in
        record {
          t = e.start + 1;
          gap = next-gap all n s.t p small many s.gap r x;
          low = omega arith;
          is_at = at_next ∙ ap (at_after end) x.is ∙ sum;
          is_entries = entries_next ∙ next-entries all n s.t p small many s.gap r x;
          is_card = card-next ∙ next-card all n s.t p small many s.gap r x card fits;
          few = omega (arith, s.few);
        }

    no_more : Last all s.t r → Stage (suc k)
    unfolding at_after
    no_more x =
        let none : waiting all s.t ≡ 0 = waits_none all s.t x.none in
        record {
          t = s.t;
          gap = s.gap;
          low = s.low;
          is_at = at_next ∙ ap (at_after end) x.is;
          is_entries = entries_next ∙ last-entries all n s.t p small many s.gap r x;
          is_card = card-next ∙ last_card all s.t r x (sourced (source_to all s.t all) card);
          few = omega arith;
        }

    stage-next : Stage (suc k)
    stage-next = ⊎_elim one_more no_more (next-or-last all n s.t p small many s.gap)

  stages : (k : ℕ) → Stage k
  stages zero = stage_first
  stages (suc k) = stage-next k (stages k)

  made : Made all card
  unfolding closed_card
  made =
      let s : Stage (length all) = stages (length all) in
      let none : waiting all s.t ≡ 0 = omega (arith, s.few) in
      let packed : (e : Entry) → _ = none_waits all s.t none in
      record {
        ends = s.is_at ∙ below_all all s.t packed;
        entries = s.is_entries ∙ all_packed all n s.t p packed;
        cards = s.is_card
            ∙ sourced_same card (source_to all s.t all) (source all all) (λ b. at_last all s.t all b packed);
      }

pub rounds_close : (s : State) (card : List ℕ) → Sound s → s.blocks ≤ 262144 → length s.entries ≤ 1024
    → 512 * s.blocks ≤ length card → Made s.entries card
rounds_close s card p limit few fits = made s.blocks s.entries card (placed s p) (omega arith) (omega arith) fits
