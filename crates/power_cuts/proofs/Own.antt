-- Blocks that are sound for their own sheet and place alone: `mended_own`, `keeps_own`, `fresh_own`.
-- Assumes nothing.
use Prim.Native.Nat.{ℕ, ◌+◌, ◌-◌, ◌≤◌, ◌<◌}
use mathlib.Core.Path.{◌≡◌, refl, sym, ap, subst, ◌∙◌}
use mathlib.Core.Logic.{⊎_elim}
use mathlib.Core.Bool.{Bool, true, false, ◌&&◌, true≢false}
use mathlib.Core.List.{List, [], ◌∷◌}
use native.Mathlib.Omega.{arith}
use lib.Dec.{eqb}
use lib.ListN.{length, length-map, replicate}
use borrow.Author.Tests.{eqb-true}
use Rattle.laws.proofs.Bools.{and_left, and_right}
use Rattle.map_blocks.specs.Blocks.{free}
use Rattle.blocks_of_card.specs.Card.{block_of}
use Rattle.blocks_of_card.proofs.Card.{block_length}
use Rattle.block_bytes.specs.Numbers.{number_at}
use Rattle.block_seals.specs.Sealed.{blank, sound, check_holds}
use Rattle.block_seals.proofs.Blank.{blank_is_zeros}
use Rattle.block_seals.proofs.Sealed.{sound_zeros, sound_only}
use Rattle.catalogue.specs.Entries.{entry_at}
use Rattle.catalogue.specs.declared.Entry.{Entry}
use Rattle.catalogue_standings.specs.declared.Standing.TheVariants.{Absent, Open}
use Rattle.image_soundness.proofs.Damage.{extent_inside}
use Rattle.image_soundness.proofs.WhenSound.{sound_to}
use Rattle.closing.proofs.Claimed.{afterwards}
use Rattle.closing.proofs.Members.{map_at}
use Rattle.closing.specs.Closed.{closed_entry, closed_entries, closed_card}
use Rattle.card.specs.Calls.{Kept}
use Rattle.card.specs.Public.{Public, End, ends, kept_after}
use Rattle.ledger.specs.Lists.{Made, end_of, Runs, Along, fresh_state, saved_of}
use Rattle.role_lists.specs.Carers.{stands}
use Rattle.power_cuts.specs.Held.{Sound, Covers}
use Rattle.power_cuts.specs.Own.{OwnBlocks, MendedOwn, KeepsOwn, FreshOwn}
use Rattle.power_cuts.specs.Sorts.{Sort, loading, sort_of, loads, done}
use Rattle.power_cuts.proofs.Apart.{Apart, sound_apart, undamaged_at, listed}
use Rattle.power_cuts.proofs.Blocks.{took_other, took_zeros, put_other, put_there}
use Rattle.power_cuts.proofs.Deeds.{entry_in, Took, Put, Marked, Closed, Deed, nothing, took, put, marks, released}
use Rattle.power_cuts.proofs.Deeds.{closed, began}
use Rattle.power_cuts.proofs.Deeds.{loaded}
use Rattle.power_cuts.proofs.Keeping.{here, there, which, split, put_covers, marked_covers, released_covers}
use Rattle.power_cuts.proofs.Keeping.{began_covers}
use Rattle.power_cuts.proofs.Keeping.{keeps_apart, none_held}
use Rattle.power_cuts.proofs.Standings.{holds_so, length_so}
use Rattle.power_cuts.proofs.WholeCalls.{every_call}

-- ---- a block that is sound carries its sheet and place

pub sound_one : (a p b q : ℕ) (block : List ℕ) → sound a p block ≡ true → sound b q block ≡ true → (a ≡ b) × (p ≡ q)
unfolding sound
sound_one a p b q block h k = (
  sym (eqb-true (number_at block 0) a (and_left _ _ h)) ∙ eqb-true (number_at block 0) b (and_left _ _ k),
  sym (eqb-true (number_at block 4) p (and_left _ (check_holds block) (and_right (eqb (number_at block 0) a) _ h)))
      ∙ eqb-true (number_at block 4) q (and_left _ (check_holds block) (and_right (eqb (number_at block 0) b) _ k)),
)

pub zeros_unsound : (sheet place : ℕ) (block : List ℕ) → block ≡ replicate 512 0 → sound sheet place block ≡ true → ⊥
zeros_unsound sheet place block e h =
    true≢false (sym h ∙ ap (sound sheet place) e ∙ sound_zeros sheet place)

-- ---- a state whose places are blank or sound

covered_inside : (s : Kept) → Sound s → (sheet b : ℕ) → Covers s sheet b → b < s.shape.blocks
covered_inside s h sheet b c =
    let x = sound_to (saved_of s) h in
    let w = extent_inside s.shape.blocks (entry_in s sheet) (free s.map)
    (undamaged_at s.shape.blocks (free s.map) s.entries sheet (listed s.entries sheet b c.1 c.0)
    x.whole) in
    omega (arith, w, c.1)

pub mended_own : MendedOwn
mended_own s h bytes mended sheet b c other place o =
    let start : ℕ = (entry_in s sheet).start in
    let at : start + (b - start) ≡ b = omega (arith, c.0) in
    let here : Covers s sheet (start + (b - start)) = subst (λ (z : ℕ). Covers s sheet z) (sym at) c in
    let inside = covered_inside s h sheet b c in
    ⊎_elim
    (λ z.
    let zeros : block_of s.card b ≡ replicate 512 0 =
    blank_is_zeros (block_of s.card b) (subst (λ (y : ℕ). blank (block_of s.card y) ≡ true) at z)
    ∙ ap (λ (k : ℕ). replicate k 0) (block_length s.card b (omega (arith, bytes, inside))) in
    absurd (zeros_unsound other place (block_of s.card b) zeros o))
    (λ z.
    let r = sound_one other place sheet (b - start) (block_of s.card b) o
    (subst (λ (y : ℕ). sound sheet (b - start) (block_of s.card y) ≡ true) at z) in
    (r.0, ap (λ (y : ℕ). start + y) r.1 ∙ at))
    (mended sheet (b - start) here)

-- ---- every call keeps it

-- the same block, of a sheet that starts where it did
own_same : (s t : Kept) → OwnBlocks s → (sheet b : ℕ) → Covers s sheet b → block_of t.card b ≡ block_of s.card b
    → (entry_in t sheet).start ≡ (entry_in s sheet).start → (other place : ℕ) → sound other place (block_of t.card b) ≡ true
    → (other ≡ sheet) × ((entry_in t sheet).start + place ≡ b)
own_same s t own sheet b c e starts other place h =
    let r = own sheet b c other place (subst (λ (z : List ℕ). sound other place z ≡ true) e h) in
    (r.0, ap (λ (z : ℕ). z + place) starts ∙ r.1)

-- a sheet without blocks covers none
pub covers_none : (s : Kept) (sheet b : ℕ) → (entry_in s sheet).length ≡ 0 → Covers s sheet b → ⊥
covers_none s sheet b z c = omega (arith, z, c.0, c.1)

no_blocks : (s : Kept) (sheet b : ℕ) → stands s sheet ≡ Absent → Covers s sheet b → ⊥
no_blocks s sheet b h c =
    covers_none s sheet b (length_so s.shape.blocks (free s.map) (entry_in s sheet) Absent h refl) c

-- what a sheet covered starts where it did
pub took_start : (s t : Kept) (sheet start count from k total : ℕ) → Took s t sheet start count from k total → (j b : ℕ)
    → Covers s j b → (entry_in t j).start ≡ (entry_in s j).start
took_start s t sheet start count from k total x j b c =
    ⊎_elim
    (λ (i : j ≡ sheet).
    let h = ap (λ (e : Entry). e.start) (here s t sheet _ x.entries_now x.listed) in
    let start-was : (entry_in s sheet).start ≡ start =
    ⊎_elim
    (λ (z : _ × (count ≡ 0)). absurd (no_blocks s sheet b z.0 (subst (λ (i : ℕ). Covers s i b) i c)))
    (λ z. (holds_so s.shape.blocks (free s.map) (entry_in s sheet) (Open start count) z refl).starts) x.before in
    ap (λ (i : ℕ). (entry_in t i).start) i ∙ h ∙ sym start-was ∙ ap (λ (i : ℕ). (entry_in s i).start) (sym i))
    (λ n. ap (λ (e : Entry). e.start) (there s t sheet _ x.entries_now j n))
    (which j sheet)

pub marked_start : (s t : Kept) (sheet mark : ℕ) → Marked s t sheet mark → (j : ℕ) → (entry_in t j).start ≡ (entry_in s j).start
marked_start s t sheet mark x j =
    ⊎_elim
    (λ (i : j ≡ sheet).
    ap (λ (z : ℕ). (entry_in t z).start) i ∙ ap (λ (e : Entry). e.start) (here s t sheet _ x.entries_now x.listed)
    ∙ ap (λ (z : ℕ). (entry_in s z).start) (sym i))
    (λ n. ap (λ (e : Entry). e.start) (there s t sheet _ x.entries_now j n))
    (which j sheet)

took_own : (s t : Kept) (sheet start count from k total : ℕ) → Took s t sheet start count from k total → Apart s → OwnBlocks s
    → OwnBlocks t
took_own s t sheet start count from k total x a own j b c other place h =
    ⊎_elim
    (λ (d : Covers s j b).
    own_same s t own j b d
    (took_other s t sheet start count from k total x b
    (λ u v. true≢false (sym (x.unheld b u v) ∙ a.taken j b d)))
    (took_start s t sheet start count from k total x j b d) other place h)
    (λ (d : (j ≡ sheet) × ((from ≤ b) × (b < from + k))).
    absurd (zeros_unsound other place (block_of t.card b)
    (took_zeros s t sheet start count from k total x b d.1.0 d.1.1) h))
    (split s t sheet start count from k total x j b c)

-- ---- put

pub put_own_block : (s t : Kept) (sheet start count at : ℕ) (payload : List ℕ) → Put s t sheet start count at payload
    → (b : ℕ) → b ≡ start + at → (other place : ℕ) → sound other place (block_of t.card b) ≡ true
    → (other ≡ sheet) × (place ≡ at)
put_own_block s t sheet start count at payload x b e other place h =
    let q = holds_so s.shape.blocks (free s.map) (entry_in s sheet) (Open start count) x.before refl in
    sound_only sheet at payload x.bytes other place (omega (arith, x.few))
    (omega (arith, x.placed, q.inside, x.sizes.shape.limit))
    (subst (λ (z : List ℕ). sound other place z ≡ true)
    (ap (block_of t.card) e ∙ put_there s t sheet start count at payload x) h)

pub put_covers_own : (s t : Kept) (sheet start count at : ℕ) (payload : List ℕ) → Put s t sheet start count at payload
    → Covers s sheet (start + at)
put_covers_own s t sheet start count at payload x =
    let q = holds_so s.shape.blocks (free s.map) (entry_in s sheet) (Open start count) x.before refl in
    (omega (arith, q.starts), omega (arith, q.starts, q.lasts, x.placed))

put_own : (s t : Kept) (sheet start count at : ℕ) (payload : List ℕ) → Put s t sheet start count at payload → Apart s
    → OwnBlocks s → OwnBlocks t
put_own s t sheet start count at payload x a own j b c other place h =
    let q = holds_so s.shape.blocks (free s.map) (entry_in s sheet) (Open start count) x.before refl in
    let d = put_covers s t x.entries_now j b c in
    let starts : (entry_in t j).start ≡ (entry_in s j).start =
    ap (λ (es : List Entry). (entry_at es j).start) x.entries_now in
    ⊎_elim
    (λ (e : b ≡ start + at).
    let r = put_own_block s t sheet start count at payload x b e other place h in
    let same = a.apart j sheet b d
    (subst (λ (z : ℕ). Covers s sheet z) (sym e) (put_covers_own s t sheet start count at payload x)) in
    let from : (entry_in s j).start ≡ start = ap (λ (i : ℕ). (entry_in s i).start) same ∙ q.starts in
    (r.0 ∙ sym same, omega (arith, starts, from, e, r.1)))
    (λ n. own_same s t own j b d (put_other s t sheet start count at payload x b n) starts other place h)
    (which b (start + at))

-- ---- closing

-- a place of a sheet after closing has the bytes that it had
pub record ClosedPlace (s t : Kept) (sheet b : ℕ) : Type 0 where
  pub was : ℕ
  pub covered : Covers s sheet was
  pub same : block_of t.card b ≡ block_of s.card was
  pub place : was + (entry_in t sheet).start ≡ b + (entry_in s sheet).start

pub closed_entry_lem : (s t : Kept) → Closed s t → (sheet : ℕ) → sheet < length s.entries
    → entry_in t sheet ≡ closed_entry s.entries (entry_in s sheet)
unfolding closed_entries
closed_entry_lem s t x sheet l =
    ap (λ (es : List Entry). entry_at es sheet) x.entries_now ∙ map_at (closed_entry s.entries) s.entries sheet l

pub same_count : (s t : Kept) → Closed s t → length t.entries ≡ length s.entries
unfolding closed_entries
same_count s t x = ap length x.entries_now ∙ length-map s.entries (closed_entry s.entries)

pub closed_place : (s t : Kept) → Closed s t → (sheet b : ℕ) → Covers t sheet b → ClosedPlace s t sheet b
closed_place s t x sheet b c =
    let few = listed t.entries sheet b c.1 c.0 in
    let l : sheet < length s.entries = omega (arith, same_count s t x, few) in
    let e = closed_entry_lem s t x sheet l in
    let long : (entry_in t sheet).length ≡ (entry_in s sheet).length = ap (λ (z : Entry). z.length) e in
    let p : ℕ = b - (entry_in t sheet).start in
    let at : (entry_in t sheet).start + p ≡ b = omega (arith, c.0) in
    let short : p < (entry_in s sheet).length = omega (arith, long, c.0, c.1) in
    let places = (afterwards x.away (saved_of s) x.fits s.card x.scratch x.was_accepted).places sheet p l short in
    let start : (entry_at (closed_entries s.entries) sheet).start ≡ (entry_in t sheet).start =
    ap (λ (es : List Entry). (entry_at es sheet).start) (sym x.entries_now) in
    record {
      was = (entry_in s sheet).start + p;
      covered = (omega arith, omega (arith, short));
      same = ap (λ (card : List ℕ). block_of card b) x.card_now
          ∙ ap (block_of (closed_card s.entries s.card)) (sym at ∙ ap (λ (z : ℕ). z + p) (sym start)) ∙ places;
      place = omega (arith, at);
    }

pub closed_own : (s t : Kept) → Closed s t → OwnBlocks s → OwnBlocks t
closed_own s t x own sheet b c other place h =
    let y = closed_place s t x sheet b c in
    let r = own sheet y.was y.covered other place (subst (λ (z : List ℕ). sound other place z ≡ true) y.same h) in
    (r.0, omega (arith, r.1, y.place))

-- ---- every call

pub no_loading : (c : Public) (d : Bool) → sort_of c ≡ loading → d ≡ true → (loads (sort_of c) && d) ≡ false → ⊥
no_loading c d i j h =
    true≢false (sym (ap (λ (x : Sort). loads x && true) i) ∙ ap (λ (y : Bool). loads (sort_of c) && y) (sym j) ∙ h)

pub deed_own : (s t : Kept) (c : Public) (d : Bool) → Deed s t c d → Apart s → (loads (sort_of c) && d) ≡ false → OwnBlocks s
    → OwnBlocks t
deed_own s t c d (nothing e z) a n own = subst OwnBlocks (sym e) own
deed_own s t c d (took i j sheet start count from k total x asked is) a n own =
    took_own s t sheet start count from k total x a own
deed_own s t c d (put sheet start count place payload i x) a n own = put_own s t sheet start count place payload x a own
deed_own s t c d (marks i sheet mark x) a n own =
    λ j b v other place h.
    let w = marked_covers s t sheet mark x j b v in
    own_same s t own j b w (ap (λ (card : List ℕ). block_of card b) x.card_now)
    (marked_start s t sheet mark x j) other place h
deed_own s t c d (released i l sheet x) a n own =
    λ j b v other place h.
    let w = released_covers s t sheet x j b v in
    own_same s t own j b w.1 (ap (λ (card : List ℕ). block_of card b) x.card_now)
    (ap (λ (e : Entry). e.start) (there s t sheet _ x.entries_now j w.0)) other place h
deed_own s t c d (closed i j x) a n own = closed_own s t x own
deed_own s t c d (began i l x) a n own = λ j b v other place h. absurd (began_covers s t x j b v)
deed_own s t c d (loaded i j x) a n own = absurd (no_loading c d i j n)

pub keeps_own : KeepsOwn
keeps_own m s b c sound quiet own =
    deed_own s (kept_after (ends m s b c)) c (done (ends m s b c)) (every_call m s b c) (sound_apart s sound) quiet own

-- ---- from a fresh card

list_own : (s : Kept) → Apart s → OwnBlocks s → (made : List Made) (es : List End) (t : Kept)
    → Along (λ s m. (loads (sort_of m.call) && done (end_of s m)) ≡ false) s made → Runs s made es t → OwnBlocks t
list_own s a own [] (e ∷ es) t quiet r = elim r [ ]
list_own s a own (m ∷ made) [] t quiet r = elim r [ ]
list_own s a own [] [] t quiet r = subst OwnBlocks (sym r) own
list_own s a own (m ∷ made) (e ∷ es) t quiet r =
    let v : Kept = kept_after (end_of s m) in
    let deed = every_call m.manner s m.beside m.call in
    list_own v (keeps_apart s v m.call (done (end_of s m)) deed a)
    (deed_own s v m.call (done (end_of s m)) deed a quiet.0 own) made es t quiet.1
    (subst (λ (x : End). Runs (kept_after x) made es t) r.0 r.1)

pub fresh_own : FreshOwn
fresh_own n c card made es t quiet r =
    let none : (j b : ℕ) → Covers (fresh_state n c card) j b → ⊥ =
    λ j b v. covers_none (fresh_state n c card) j b (none_held c j) v in
    list_own (fresh_state n c card)
    (record { taken = λ j b v. absurd (none j b v); apart = λ i j b v w. absurd (none i b v) })
    (λ j b v other place h. absurd (none j b v)) made es t quiet r
