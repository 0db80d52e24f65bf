-- An older image, where no release and no closing was accepted since it was saved: `older_image`.
-- Assumes nothing.
use Prim.Native.Nat.{ℕ, ◌+◌, ◌<◌}
use mathlib.Core.Path.{◌≡◌, refl, sym, ap, subst, ◌∙◌}
use mathlib.Core.Logic.{inl}
use mathlib.Core.List.{List, [], ◌∷◌}
use lib.ListN.{length}
use Rattle.blocks_of_card.specs.Card.{block_of}
use Rattle.catalogue_standings.specs.declared.Standing.TheVariants.{Complete}
use Rattle.card.specs.Calls.{Kept}
use Rattle.card.specs.Public.{End, kept_after}
use Rattle.ledger.specs.Lists.{Made, end_of, Runs}
use Rattle.role_lists.specs.Carers.{stands}
use Rattle.role_lists.specs.Service.{ShowsAsBefore}
use Rattle.role_lists.proofs.Shown.{Moved, show-same, show-buffer-same, dated-same, dated-buffer-same}
use Rattle.power_cuts.specs.Held.{Finished, Untouched}
use Rattle.power_cuts.specs.Images.{recalled}
use Rattle.power_cuts.specs.OlderImage.{NoneUnsettles, OlderImage}
use Rattle.power_cuts.specs.Sorts.{done}
use Rattle.power_cuts.proofs.Apart.{Apart, sound_apart}
use Rattle.power_cuts.proofs.Blocks.{keeps_length}
use Rattle.power_cuts.proofs.Images.{saved_sound, gives_back}
use Rattle.power_cuts.proofs.Keeping.{keeps_apart}
use Rattle.power_cuts.proofs.WholeCalls.{every_call}
use Rattle.power_cuts.proofs.Writes.{settled, finished_holds}

-- what a list leaves of the finished courses
pub untouched_by : (s : Kept) → Apart s → (made : List Made) (es : List End) (t : Kept) → NoneUnsettles s made
    → Runs s made es t
    → (sheet start count : ℕ) → Finished s sheet start count → Untouched s t sheet start count
untouched_by s a [] (e ∷ es) t quiet r sheet start count f = elim r [ ]
untouched_by s a (m ∷ made) [] t quiet r sheet start count f = elim r [ ]
untouched_by s a [] [] t quiet r sheet start count f = record {
  held = subst (λ (u : Kept). Finished u sheet start count) (sym r) f;
  same = λ p l. ap (λ (u : Kept). block_of u.card (start + p)) r;
}
untouched_by s a (m ∷ made) (e ∷ es) t quiet r sheet start count f =
    let v : Kept = kept_after (end_of s m) in
    let deed = every_call m.manner s m.beside m.call in
    let first = settled s v m.call (done (end_of s m)) deed a quiet.0 sheet start count f in
    let rest = untouched_by v (keeps_apart s v m.call (done (end_of s m)) deed a) made es t quiet.1
    (subst (λ (x : End). Runs (kept_after x) made es t) r.0 r.1) sheet start count first.held in
    record { held = rest.held; same = λ p l. rest.same p l ∙ first.same p l }

pub same_length : (s : Kept) (made : List Made) (es : List End) (t : Kept) → Runs s made es t
    → length t.card ≡ length s.card
same_length s [] (e ∷ es) t r = elim r [ ]
same_length s (m ∷ made) [] t r = elim r [ ]
same_length s [] [] t r = ap (λ (u : Kept). length u.card) r
same_length s (m ∷ made) (e ∷ es) t r =
    same_length (kept_after (end_of s m)) made es t (subst (λ (x : End). Runs (kept_after x) made es t) r.0 r.1)
    ∙ keeps_length s (kept_after (end_of s m)) m.call (done (end_of s m)) (every_call m.manner s m.beside m.call)

-- a state that is recalled with another card, where the blocks of a Complete sheet are what they were
pub recalls : (s : Kept) (card : List ℕ) → length card ≡ length s.card → (sheet start count : ℕ)
    → stands s sheet ≡ Complete start count
    → ((p : ℕ) → p < count → block_of card (start + p) ≡ block_of s.card (start + p))
    → ShowsAsBefore s (recalled s card) sheet
recalls s card long sheet start count h same =
    let u : Kept = recalled s card in
    let o = finished_holds s sheet start count (inl h) in
    let moved : Moved s u sheet start start count = record {
      shapes = refl;
      words = refl;
      sheets = refl;
      bytes = long;
      before = h;
      afterwards = h;
      blocks = λ p l. ap (λ (b : ℕ). block_of card (b + p)) o.starts ∙ same p l
          ∙ ap (λ (b : ℕ). block_of s.card (b + p)) (sym o.starts);
    } in
    record {
      plainly = λ m b place buffer. (
        show-same _ s u sheet start start count moved place buffer,
        show-buffer-same _ s u sheet start start count moved place buffer,
      );
      on_a_day = λ m b place date buffer. (
        dated-same _ s u sheet start start count moved place date buffer,
        dated-buffer-same _ s u sheet start start count moved place date buffer,
      );
    }

pub older_image : OlderImage
older_image s image saved made es t quiet r u m b anew agree = (
  gives_back s image saved u m b anew,
  λ sheet start count h. recalls s u.card (agree.lengths ∙ same_length s made es t r) sheet start count h
      (λ p l. agree.blocks sheet start count (inl h) p l
      ∙ (untouched_by s (sound_apart s (saved_sound s image saved)) made es t quiet r sheet start count (inl h)).same p l),
)
