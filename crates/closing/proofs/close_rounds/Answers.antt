-- `closing::close_rounds`: a turn makes one round more, and behind a round that changed nothing no other does.
-- Assumes nothing.
use Rattle.std.proofs.Common.{◌≡◌, ℕ, zero, suc, ◌+◌, ◌-◌, List, length, refl, sym, ap, subst, ◌∙◌, add-one, arith}
use Rattle.catalogue.specs.declared.Entry.{Entry}
use Rattle.closing.specs.Rounds.{Stand, rounds, stand, round_at, round_entries, round_card, rounds_at, rounds_entries}
use Rattle.closing.specs.Rounds.{rounds_card}
use Rattle.closing.proofs.close_rounds.Goals as goal

none : (es : List Entry) (card : List ℕ) (at : ℕ) → rounds 0 (stand es card at) ≡ stand es card at
unfolding rounds
none es card at = refl

more : (k : ℕ) (s : Stand) (es : List Entry) (card : List ℕ) (at : ℕ) → rounds k s ≡ stand es card at
    → rounds (k + 1) s ≡ stand (round_entries es card at) (round_card es card at) (round_at es card at)
unfolding rounds
more k s es card at e =
    rw add-one
    (ap (λ (t : Stand). record {
      at = round_at t.entries t.card t.at;
      entries = round_entries t.entries t.card t.at;
      card = round_card t.entries t.card t.at;
    }) e)

-- rounds behind one that changes nothing
module _ (s : Stand) (es : List Entry) (card : List ℕ) (at : ℕ) (same-at : at ≡ round_at es card at)
    (same-entries : es ≡ round_entries es card at) (same-card : card ≡ round_card es card at) where
  same : stand (round_entries es card at) (round_card es card at) (round_at es card at) ≡ stand es card at
  same = rw (← same-entries, ← same-card, ← same-at) refl

  settled : (k : ℕ) → rounds k s ≡ stand es card at → (j : ℕ) → rounds (k + j) s ≡ stand es card at
  settled k e zero = subst (λ (n : ℕ). rounds n s ≡ stand es card at) (omega arith) e
  settled k e (suc j) =
      subst (λ (n : ℕ). rounds n s ≡ stand es card at) (omega arith) (more (k + j) s es card at (settled k e j) ∙ same)

pub loop-init : goal.loop-init
loop-init c = none _ _ _

pub loop-preserved : goal.loop-preserved
loop-preserved c =
    let e = more c.loop.counter _ c.loop.catalogue c.loop.card c.loop.at c.loop.invariant in
    let turn = c.in-Some.ensures in
    simp (sym turn.0, sym turn.1, sym turn.2) at e

pub returns-after-loop : goal.returns-after-loop
unfolding rounds_at rounds_entries rounds_card
returns-after-loop c =
    let k : c.loop.counter ≡ length c.args.catalogue.now = omega arith in
    let e = ap (λ (i : ℕ). rounds i (stand c.args.catalogue.now c.args.card.now 0)) (sym k) ∙ c.loop.invariant in
    (sym (ap (λ (s : Stand). s.at) e), sym (ap (λ (s : Stand). s.entries) e), sym (ap (λ (s : Stand). s.card) e))

pub returns-in_default : goal.returns-in_default
unfolding rounds_at rounds_entries rounds_card
returns-in_default c =
    let turn = c.in_default.ensures in
    let k : c.loop.counter + (length c.args.catalogue.now - c.loop.counter) ≡ length c.args.catalogue.now = omega arith in
    let e =
    ap (λ (i : ℕ). rounds i (stand c.args.catalogue.now c.args.card.now 0)) (sym k)
    ∙ settled _ c.loop.catalogue c.loop.card c.loop.at turn.0 turn.1 turn.2 c.loop.counter c.loop.invariant
    (length c.args.catalogue.now - c.loop.counter) in (
      sym (ap (λ (s : Stand). s.at) e),
      turn.3 ∙ sym (ap (λ (s : Stand). s.entries) e),
      turn.4 ∙ sym (ap (λ (s : Stand). s.card) e),
    )
