-- Offer, then accept (document 02 (f)), of the public calls: an accept that is made at once of what an offer answered is
-- accepted,
-- and hands back and leaves what the plain reserve would have. The three calls may be made by three, each of whom may make it.
-- Assumes nothing.
use mathlib.Core.Path.{◌≡◌, refl, sym, ap, ap₂, ◌∙◌}
use mathlib.Core.Bool.{Bool, true, false, not}
use mathlib.Core.List.{List}
use Prim.Native.Nat.{ℕ}
use lib.ListN.{set}
use Rattle.catalogue_standings.specs.Answers.{number_of}
use Rattle.catalogue_standings.specs.declared.Answer.TheVariants.{Start}
use Rattle.roles.specs.Roles as roles
use Rattle.roles.specs.Roles.{may}
use Rattle.refusals.specs.Effects as effects
use Rattle.refusals.specs.Lent.{Lent}
use Rattle.refusals.specs.Placement.{plain}
use Rattle.refusals.specs.Table.{reserve, offer, accept}
use Rattle.refusals.specs.declared.Out.{Out}
use Rattle.refusals.proofs.Offer.{Offered, offered, same_out, same_map, same-card, number_zero}
use Rattle.card.specs.Calls.{Kept, lent_to_within, outcome_of, offer_outcome}
use Rattle.card.specs.Public.{on, by_map, Beside, End, end_on, ends}
use Rattle.card.proofs.TurnedAway.{put_together}

module _ (s : Kept) (b : Beside) (limits : List ℕ) (sheet k start length : ℕ) where
  abbrev q : Lent
  q = lent_to_within false s s.card limits sheet

  -- of calls that are not turned away
  module _ (told : (offer_outcome false s limits sheet k).answer ≡ Start start length) where
    o : Offered q k start length
    o = offered q k start length told

    out : outcome_of s.shape (effects.accept_out q start length) ≡ outcome_of s.shape (effects.reserve_out q k plain)
    out = ap₂ (λ (a c : ℕ). outcome_of s.shape (effects.accept_out q a c)) o.least o.whole
        ∙ ap (outcome_of s.shape) (same_out q k o.verdict)

    same : end_on false false s b sheet (accept limits start length) ≡ end_on false false s b sheet (reserve limits k plain)
    same =
        put_together out (ap₂ (effects.accept_map q) o.least o.whole ∙ same_map q k o.verdict)
        (ap (set s.entries sheet) (ap₂ (λ (a c : ℕ). (effects.accept_out q a c).entry) o.least o.whole
        ∙ ap (λ (x : Out). x.entry) (same_out q k o.verdict)))
        (ap₂ (effects.accept_card q) o.least o.whole ∙ same-card q k o.verdict) refl

    done : number_of (end_on false false s b sheet (reserve limits k plain)).outcome.answer ≡ 0
    done = number_zero q k o.verdict

  pub offer_then_accept : (offers accepts reserves : ℕ) → may offers roles.offer ≡ true → may accepts roles.accept ≡ true
      → may reserves roles.reserve ≡ true
      → (ends (by_map offers) s b (on sheet (offer limits k))).outcome.answer ≡ Start start length
      → (ends (by_map accepts) s b (on sheet (accept limits start length))
      ≡ ends (by_map reserves) s b (on sheet (reserve limits k plain)))
      × (number_of (ends (by_map accepts) s b (on sheet (accept limits start length))).outcome.answer ≡ 0)
  offer_then_accept offers accepts reserves may-offer may-accept may-reserve told =
      let told_so : (offer_outcome false s limits sheet k).answer ≡ Start start length =
      ap (λ (u : Bool). (offer_outcome (not u) s limits sheet k).answer) (sym may-offer) ∙ told in
      let accepted : ends (by_map accepts) s b (on sheet (accept limits start length))
      ≡ end_on false false s b sheet (accept limits start length) =
      ap (λ (u : Bool). end_on (not u) false s b sheet (accept limits start length)) may-accept in
      let reserved : end_on false false s b sheet (reserve limits k plain)
      ≡ ends (by_map reserves) s b (on sheet (reserve limits k plain)) =
      ap (λ (u : Bool). end_on (not u) false s b sheet (reserve limits k plain)) (sym may-reserve) in (
        accepted ∙ same told_so ∙ reserved,
        ap (λ (e : End). number_of e.outcome.answer) (accepted ∙ same told_so) ∙ done told_so,
      )
