-- A save that was done is of a sound state, and a load of what it left gives that state back: `saved_sound`, `gives_back`.
-- Assumes nothing.
use Prim.Native.Nat.{ℕ}
use mathlib.Core.Path.{◌≡◌, refl, sym, ap, ◌∙◌}
use mathlib.Core.Bool.{Bool, true, false, cond, not}
use mathlib.Core.List.{List}
use lib.Dec.{eqb}
use lib.ListN.{length}
use borrow.Author.Tests.{eqb-true}
use Rattle.catalogue_standings.specs.Answers.{number_of}
use Rattle.catalogue_standings.specs.declared.Answer.TheVariants.{Done, Refused}
use Rattle.image.specs.Effects as images
use Rattle.image.proofs.Verdicts.{Saved, saved_to_lem, save_accepted}
use Rattle.card.specs.Calls.{Kept, told, save_outcome, load_outcome, load_map, load_entries}
use Rattle.card.specs.Public.{save, load, turned, Manner, Beside, ends}
use Rattle.card.proofs.Images.{saved_loads}
use Rattle.ledger.specs.Lists.{saved_of}
use Rattle.power_cuts.specs.Held.{Sound}
use Rattle.power_cuts.specs.Images.{SavedAs, Anew, GivesBack}
use Rattle.power_cuts.specs.Sorts.{done}

-- a save that was done has the number 0
zero_save : (number : ℕ) → eqb (number_of (cond (eqb number 0) Done (Refused number))) 0 ≡ true → number ≡ 0
zero_save number d = go (eqb number 0) refl d
  where
    go : (b : Bool) → eqb number 0 ≡ b → eqb (number_of (cond b Done (Refused number))) 0 ≡ true → number ≡ 0
    go true e h = eqb-true number 0 e
    go false e h = eqb-true number 0 h

module _ (s : Kept) (m : Manner) (b : Beside) (d : done (ends m s b save) ≡ true) where
  abbrev away : Bool
  away = turned m save

  number : images.save_number away s.shape.blocks s.shape.free s.map s.entries b.scratch b.image ≡ 0
  number = zero_save _ d

  pub save_outcome_lem : save_outcome away s.shape s.map s.entries b.scratch b.image ≡ told s.shape Done
  save_outcome_lem = ap (λ (k : ℕ). told s.shape (cond (eqb k 0) Done (Refused k))) number

  pub save_whole : Saved away (saved_of s) (length b.scratch) (length b.image)
  unfolding images.save_number
  save_whole =
      saved_to_lem away (saved_of s) (length b.scratch) (length b.image)
      (save_accepted away (saved_of s) (length b.scratch) (length b.image) number)

pub saved_sound : (s : Kept) (image : List ℕ) → SavedAs s image → Sound s
saved_sound s image x = (save_whole s x.manner x.beside x.was_done_lem).whole

pub gives_back : (s : Kept) (image : List ℕ) → SavedAs s image → (u : Kept) (m : Manner) (b : Beside) → Anew s u m b
    → GivesBack s u m b image
gives_back s image x u m b a =
    let off : Bool = turned m (load image) in
    let may : false ≡ off = sym (ap not a.may_load) in
    let g = saved_loads (turned x.manner save) s.shape u.shape s.map s.entries x.beside.scratch
    x.beside.image u.map u.entries b.scratch x.words (save_outcome_lem s x.manner x.beside x.was_done_lem)
    a.words a.sheets a.scratch in
    let outcome : load_outcome off u.shape image u.map u.entries b.scratch ≡ told s.shape Done =
    sym (λ y. load_outcome (may y) u.shape (x.left y) u.map u.entries b.scratch) ∙ g.outcome in
    let words = sym (λ y. load_map (may y) u.shape (x.left y) u.map u.entries b.scratch) ∙ g.words in
    let sheets = sym (λ y. load_entries (may y) u.shape (x.left y) u.map u.entries b.scratch) ∙ g.sheets in
    record {
      outcome = outcome;
      state = λ z. record { shape = (outcome z).shape; map = words z; entries = sheets z; card = u.card };
    }
