-- An older image, with closings since it was saved: `with_closings`.
-- Assumes nothing.
use Prim.Native.Nat.{ℕ, ◌+◌}
use mathlib.Core.Path.{◌≡◌, refl, sym, subst}
use mathlib.Core.Logic.{inl}
use mathlib.Core.Bool.{Bool, true, false, ◌&&◌, ◌||◌, cond}
use mathlib.Core.List.{List, [], ◌∷◌}
use Rattle.blocks_of_card.specs.Card.{block_of}
use Rattle.block_seals.specs.Sealed.{sound}
use Rattle.card.specs.Calls.{Kept}
use Rattle.card.specs.Public.{End, kept_after}
use Rattle.ledger.specs.Lists.{Made, end_of, Runs}
use Rattle.power_cuts.specs.Images.{recalled}
use Rattle.power_cuts.specs.Rule.{ShowsOrRefuses}
use Rattle.power_cuts.specs.Sorts.{sort_of, frees, moves, done}
use Rattle.power_cuts.specs.WithClosings.{NoneTakenAfterRelease, WithClosings}
use Rattle.power_cuts.proofs.Apart.{sound_apart}
use Rattle.power_cuts.proofs.Images.{saved_sound, gives_back}
use Rattle.power_cuts.proofs.Notes.{since-call, just_saved}
use Rattle.power_cuts.proofs.Shown.{shows_or_refuses}
use Rattle.power_cuts.proofs.Since.{Since}
use Rattle.power_cuts.proofs.WholeCalls.{every_call}
use Rattle.power_cuts.proofs.Writes.{finished_holds}

-- what holds since the save, whatever is noted
pub record Noted (saved t : Kept) : Type 0 where
  pub released : Bool
  pub moved : Bool
  pub since : Since saved t released moved false

none_doubtful : (b : Bool) → cond b false false ≡ false
none_doubtful true = refl
none_doubtful false = refl

since_list : (saved s : Kept) (released moved : Bool) → Since saved s released moved false
    → (made : List Made) (es : List End) (t : Kept) → NoneTakenAfterRelease released s made → Runs s made es t → Noted saved t
since_list saved s released moved x [] (e ∷ es) t quiet r = elim r [ ]
since_list saved s released moved x (m ∷ made) [] t quiet r = elim r [ ]
since_list saved s released moved x [] [] t quiet r = record {
  released = released;
  moved = moved;
  since = subst (λ (u : Kept). Since saved u released moved false) (sym r) x;
}
since_list saved s released moved x (m ∷ made) (e ∷ es) t quiet r =
    let v : Kept = kept_after (end_of s m) in
    let d : Bool = done (end_of s m) in
    let c = m.call in
    let y = since-call saved s v c d released moved false x quiet.0 (λ h. x.own_now refl) quiet.1
    (every_call m.manner s m.beside c) in
    since_list saved v (released || (frees (sort_of c) && d)) (moved || (moves (sort_of c) && d))
    (subst (Since saved v (released || (frees (sort_of c) && d)) (moved || (moves (sort_of c) && d)))
    (none_doubtful (moves (sort_of c) && d)) y)
    made es t quiet.2 (subst (λ (w : End). Runs (kept_after w) made es t) r.0 r.1)

pub with_closings : WithClosings
with_closings s image saved own made es t quiet r u m b anew same =
    let x = since_list s s false false (just_saved s false (sound_apart s (saved_sound s image saved)) (λ e. own)) made es t
    quiet r in (
      gives_back s image saved u m b anew,
      λ sheet start count h.
          let o = finished_holds s sheet start count (inl h) in
          subst (λ (card : List ℕ). ShowsOrRefuses s (recalled s card) sheet) (sym same)
          (shows_or_refuses s t.card sheet start count h x.since.long
          (λ q l. subst (λ (z : ℕ). sound sheet q (block_of t.card (z + q)) ≡ true
          → block_of t.card (z + q) ≡ block_of s.card (z + q)) (sym o.starts)
          (x.since.old sheet start count (inl h) q l))),
    )
