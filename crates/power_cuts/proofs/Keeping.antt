-- Every call leaves the extents of the sheets apart, and none of their blocks free: `keeps_apart`.
-- Assumes nothing.
use Prim.Native.Nat.{ℕ, zero, suc, ◌+◌, ◌≤◌, ◌<◌}
use mathlib.Core.Path.{◌≡◌, refl, sym, ap, subst, ◌∙◌}
use mathlib.Core.Logic.{◌⊎◌, inl, inr, ⊎_elim}
use mathlib.Core.Bool.{Bool, true, false, true≢false}
use mathlib.Core.List.{List}
use native.Mathlib.Omega.{arith}
use lib.Dec.{eqb}
use lib.ListN.{length, set, replicate}
use lib.Seq.{get_or-set_same, get_or-set_other}
use borrow.Author.Tests.{eqb-true, eqb-false}
use Rattle.map_blocks.specs.Blocks.{free}
use Rattle.laws.proofs.Bools.{order}
use Rattle.catalogue.specs.Entries.{entry_at, zeros, absent}
use Rattle.catalogue.specs.declared.Entry.{Entry}
use Rattle.image_soundness.specs.Sound.{sound}
use Rattle.closing.proofs.Claimed.{afterwards}
use Rattle.card.specs.Calls.{Kept, saved_state}
use Rattle.card.specs.Public.{Public}
use Rattle.role_lists.specs.Carers.{stands}
use Rattle.power_cuts.specs.Held.{Sound, Covers}
use Rattle.power_cuts.proofs.Apart.{Apart, sound_apart, still_taken, now_taken, other}
use Rattle.power_cuts.proofs.Deeds.{entry_in, Took, Marked, Released, Closed, Began, Deed, nothing, took, put}
use Rattle.power_cuts.proofs.Deeds.{marks, released, closed, began, loaded}
use Rattle.power_cuts.proofs.Standings.{holds_so}

-- ---- one entry of the catalogue is stored

module _ (s t : Kept) (sheet : ℕ) (e : Entry) (now : t.entries ≡ set s.entries sheet e) where
  pub there : (j : ℕ) → (j ≡ sheet → ⊥) → entry_in t j ≡ entry_in s j
  there j n = ap (λ (es : List Entry). entry_at es j) now ∙ get_or-set_other s.entries sheet j e zeros n

  module _ (listed : sheet < length s.entries) where
    pub here : entry_in t sheet ≡ e
    here = ap (λ (es : List Entry). entry_at es sheet) now ∙ get_or-set_same s.entries sheet e zeros listed

-- which sheet it is
pub which : (j sheet : ℕ) → (j ≡ sheet) ⊎ (j ≡ sheet → ⊥)
which j sheet = go (eqb j sheet) refl
  where
    go : (t : Bool) → eqb j sheet ≡ t → (j ≡ sheet) ⊎ (j ≡ sheet → ⊥)
    go true e = inl (eqb-true j sheet e)
    go false e = inr (eqb-false j sheet e)

-- a block of an entry
abbrev pub Of : Entry → ℕ → Type 0
Of e b = (e.start ≤ b) × (b < e.start + e.length)

pub of_same : {d e : Entry} (b : ℕ) → d ≡ e → Of d b → Of e b
of_same b h c = subst (λ (e : Entry). Of e b) h c

-- ---- taking

module _ (s t : Kept) (sheet start count from k total : ℕ) (x : Took s t sheet start count from k total) where
  abbrev New : ℕ → Type 0
  New b = (from ≤ b) × (b < from + k)

  -- a block of the sheet is one that it had, or a new one
  own : (b : ℕ) → Of (entry_in t sheet) b → Of (entry_in s sheet) b ⊎ New b
  own b c =
      let h = here s t sheet _ x.entries_now x.listed in
      let l : (entry_in t sheet).start ≡ start = ap (λ (e : Entry). e.start) h in
      let u : (entry_in t sheet).length ≡ total = ap (λ (e : Entry). e.length) h in
      let f = x.from_is in
      let n = x.total_is in
      ⊎_elim
      (λ (w : b < from). ⊎_elim
      (λ (z : (stands s sheet ≡ _) × (count ≡ 0)). absurd (omega (arith, z.1, c.0)))
      (λ z.
      let o = holds_so s.shape.blocks (free s.map) (entry_in s sheet) _ z refl in
      inl (omega (arith, o.starts, c.0), omega (arith, o.starts, o.lasts)))
      x.before)
      (λ (w : from ≤ b). inr (w, omega (arith, c.1)))
      (order b from)

  pub split : (j b : ℕ) → Covers t j b → Covers s j b ⊎ ((j ≡ sheet) × New b)
  split j b c =
      ⊎_elim
      (λ (i : j ≡ sheet). ⊎_elim
      (λ (o : Of (entry_in s sheet) b). inl (subst (λ (i : ℕ). Covers s i b) (sym i) o))
      (λ (o : New b). inr (i, o))
      (own b (subst (λ (i : ℕ). Covers t i b) i c)))
      (λ n. inl (of_same b (there s t sheet _ x.entries_now j n) c))
      (which j sheet)

  took_apart : Apart s → Apart t
  took_apart a = record {
    taken = λ j b c.
        ap (λ (m : List ℕ). free m b) x.map_now
        ∙ ⊎_elim (λ o. still_taken s.map from k b (a.taken j b o))
        (λ (o : (j ≡ sheet) × New b). now_taken s.map from k b o.1.0 o.1.1) (split j b c);
    apart = λ i j b c d. go i j b (split i b c) (split j b d);
  }
    where
      clash : (i b : ℕ) → Covers s i b → New b → ⊥
      clash i b c o = true≢false (sym (x.unheld b o.0 o.1) ∙ a.taken i b c)

      go : (i j b : ℕ) → Covers s i b ⊎ ((i ≡ sheet) × New b) → Covers s j b ⊎ ((j ≡ sheet) × New b) → i ≡ j
      go i j b (inl c) (inl d) = a.apart i j b c d
      go i j b (inl c) (inr d) = absurd (clash i b c d.1)
      go i j b (inr c) (inl d) = absurd (clash j b d c.1)
      go i j b (inr c) (inr d) = c.0 ∙ sym d.0

-- ---- the same extents, and the same map

same_extents : (s t : Kept) → ((j b : ℕ) → Covers t j b → Covers s j b) → t.map ≡ s.map → Apart s → Apart t
same_extents s t back m a = record {
  taken = λ j b c. ap (λ (w : List ℕ). free w b) m ∙ a.taken j b (back j b c);
  apart = λ i j b c d. a.apart i j b (back i b c) (back j b d);
}

pub put_covers : (s t : Kept) → t.entries ≡ s.entries → (j b : ℕ) → Covers t j b → Covers s j b
put_covers s t e j b c = of_same b (ap (λ (es : List Entry). entry_at es j) e) c

pub marked_covers : (s t : Kept) (sheet mark : ℕ) → Marked s t sheet mark → (j b : ℕ) → Covers t j b → Covers s j b
marked_covers s t sheet mark x j b c =
    ⊎_elim
    (λ (i : j ≡ sheet).
    subst (λ (i : ℕ). Covers s i b) (sym i)
    (of_same b (here s t sheet _ x.entries_now x.listed) (subst (λ (i : ℕ). Covers t i b) i c)))
    (λ n. of_same b (there s t sheet _ x.entries_now j n) c)
    (which j sheet)

-- ---- release

pub released_covers : (s t : Kept) (sheet : ℕ) → Released s t sheet → (j b : ℕ) → Covers t j b
    → (j ≡ sheet → ⊥) × Covers s j b
released_covers s t sheet x j b c =
    ⊎_elim
    (λ (i : j ≡ sheet).
    let o = of_same b (here s t sheet _ x.entries_now x.listed) (subst (λ (i : ℕ). Covers t i b) i c) in
    absurd (omega (arith, o.0, o.1)))
    (λ (n : j ≡ sheet → ⊥). (n, of_same b (there s t sheet _ x.entries_now j n) c))
    (which j sheet)

released_apart : (s t : Kept) (sheet : ℕ) → Released s t sheet → Apart s → Apart t
released_apart s t sheet x a = record {
  taken = λ j b c.
      let o = released_covers s t sheet x j b c in
      ap (λ (w : List ℕ). free w b) x.map_now
      ∙ other s.map (entry_in s sheet).start (entry_in s sheet).length b true
      (λ l u. o.0 (a.apart j sheet b o.1 (l, u)))
      ∙ a.taken j b o.1;
  apart = λ i j b c d. a.apart i j b (released_covers s t sheet x i b c).1 (released_covers s t sheet x j b d).1;
}

-- ---- closing, fresh and load

pub closed_sound : (s t : Kept) → Closed s t → Sound t
closed_sound s t x =
    ap sound (λ y. saved_state (x.shape_now y) (x.map_now y) (x.entries_now y))
    ∙ (afterwards x.away (saved_state s.shape s.map s.entries) x.fits s.card x.scratch
    x.was_accepted).still_sound

pub none_held : (c j : ℕ) → (entry_at (replicate c absent) j).length ≡ 0
none_held zero j = refl
none_held (suc c) zero = refl
none_held (suc c) (suc j) = none_held c j

pub began_covers : (s t : Kept) → Began s t → (j b : ℕ) → Covers t j b → ⊥
began_covers s t x j b c =
    let o = of_same b (ap (λ (es : List Entry). entry_at es j) x.entries_now) c in
    omega (arith, o.0, o.1, none_held (length s.entries) j)

-- ---- every call

pub keeps_apart : (s t : Kept) (c : Public) (d : Bool) → Deed s t c d → Apart s → Apart t
keeps_apart s t c d (nothing e z) a = subst Apart (sym e) a
keeps_apart s t c d (took i j sheet start count from k total x asked is) a = took_apart s t sheet start count from k total x a
keeps_apart s t c d (put sheet start count place payload i x) a =
    same_extents s t (put_covers s t x.entries_now) x.map_now a
keeps_apart s t c d (marks i sheet mark x) a = same_extents s t (marked_covers s t sheet mark x) x.map_now a
keeps_apart s t c d (released i j sheet x) a = released_apart s t sheet x a
keeps_apart s t c d (closed i j x) a = sound_apart t (closed_sound s t x)
keeps_apart s t c d (began i j x) a = record {
  taken = λ j b c. absurd (began_covers s t x j b c);
  apart = λ i j b c d. absurd (began_covers s t x i b c);
}
keeps_apart s t c d (loaded i j x) a = sound_apart t x.sound_now
