-- The entries while closing goes: those that start before t have moved, which is called packed here, and the others are as they
-- were. What one round does to them.
-- Assumes nothing.
use Rattle.std.proofs.Common.{◌≡◌, ℕ, ◌+◌, ◌<◌, ◌≤◌, Bool, true, false, cond, ltb, ◌⊎◌, List, map, length, set}
use Rattle.std.proofs.Common.{sym, refl, ap, subst}
use Rattle.std.proofs.Common.{◌∙◌, ap₂, inl, inr, ⊎_elim, arith, le-ltb, lt-ltb}
use Rattle.laws.proofs.Bools.{order}
use Rattle.catalogue.specs.Entries.{entry_at}
use Rattle.catalogue.specs.declared.Entry.{Entry}
use Rattle.closing.specs.Closed.{below, closed_entry, closed_entries}
use Rattle.std.specs.Prelude.{Some, None}
use Rattle.closing.specs.Rounds.{Nearest, nearest_of, restarted, moved_entries}
use Rattle.closing.proofs.Below.{below_zero, below_adds, below_same, below_one}
use Rattle.closing.proofs.Members.{Member, Off, Apart, map_same, map_self, at_member, set_one}
use Rattle.closing.proofs.Members.{starts_after}
use Rattle.closing.proofs.Picks.{Falls, Found, Picked, nearest_found}

-- Entries that can be packed in a card of n blocks: their extents lie inside it and apart, and one without blocks starts at 0.
pub record Placed (n : ℕ) (es : List Entry) : Type 0 where
  pub apart : Apart es
  pub inside : (e : Entry) → Member e es → e.start + e.length ≤ n
  pub empty : (e : Entry) → Member e es → e.length ≡ 0 → e.start ≡ 0

module _ (all : List Entry) where
  -- an entry, once those that start before t are packed
  abbrev pub up_to : ℕ → Entry → Entry
  up_to t e = cond (ltb e.start t) (closed_entry all e) e

  packed_entry : (t : ℕ) (e : Entry) → e.start < t → up_to t e ≡ closed_entry all e
  packed_entry t e h = ap (λ (b : Bool). cond b (closed_entry all e) e) (lt-ltb e.start t h)

  other_entry : (t : ℕ) (e : Entry) → t ≤ e.start → up_to t e ≡ e
  other_entry t e h = ap (λ (b : Bool). cond b (closed_entry all e) e) (le-ltb e.start t h)

  up_to_length : (t : ℕ) (e : Entry) → (up_to t e).length ≡ e.length
  up_to_length t e = by (ltb e.start t)
    where
      by : (b : Bool) → (cond b (closed_entry all e) e).length ≡ e.length
      by true = refl
      by false = refl

  -- an entry without blocks stays as it is
  still : (e : Entry) → e.start ≡ 0 → closed_entry all e ≡ e
  still e h =
      let z : below all e.start ≡ e.start = ap (below all) h ∙ below_zero all ∙ sym h in
      ap (λ (s : ℕ). record { mark = e.mark; start = s; length = e.length }) z

  still_up_to : (t : ℕ) (e : Entry) → e.start ≡ 0 → up_to t e ≡ e
  still_up_to t e h = by (ltb e.start t)
    where
      by : (b : Bool) → cond b (closed_entry all e) e ≡ e
      by true = still e h
      by false = refl

  pub none_packed : map (up_to 0) all ≡ all
  none_packed = map_self (up_to 0) all (λ e m. other_entry 0 e (omega arith))

  pub all_packed : (n t : ℕ) → Placed n all → ((e : Entry) → Member e all → 1 ≤ e.length → e.start < t)
      → map (up_to t) all ≡ closed_entries all
  unfolding closed_entries
  all_packed n t p h = map_same (up_to t) (closed_entry all) all (λ e m.
      ⊎_elim
      (λ (z : e.length < 1). let s = p.empty e m (omega arith) in still_up_to t e s ∙ sym (still e s))
      (λ (z : 1 ≤ e.length). packed_entry t e (h e m z))
      (order e.length 1))

  -- No extent that is not packed starts before the packed ones end.
  abbrev pub Gap : ℕ → Type 0
  Gap t = (e : Entry) → Member e all → 1 ≤ e.length → t ≤ e.start → below all t ≤ e.start

  pub first_gap : Gap 0
  first_gap e m l h = let z : below all 0 ≡ 0 = below_zero all in omega arith

  -- What is packed next, where those that start before t are packed: the entry at a place.
  pub record Next (t : ℕ) (r : Nearest) : Type 0 where
    pub place : ℕ
    pub inside : place < length all
    pub is : r ≡ Some (place, entry_at all place)
    pub some : 1 ≤ (entry_at all place).length
    pub waits : t ≤ (entry_at all place).start
    pub least : (e : Entry) → Member e all → 1 ≤ e.length → t ≤ e.start → (entry_at all place).start ≤ e.start
    pub lands : below all (entry_at all place).start ≡ below all t

  pub record Last (t : ℕ) (r : Nearest) : Type 0 where
    pub is : r ≡ None
    pub none : (e : Entry) → Member e all → 1 ≤ e.length → e.start < t

  module _ (n t : ℕ) (p : Placed n all) (small : n < 4294967295) (few : length all < 4294967295) (gap : Gap t) where
    -- an extent that starts, as the entries are then, at or after the end of the packed ones is not packed
    not-packed : (e : Entry) → Member e all → 1 ≤ (up_to t e).length → below all t ≤ (up_to t e).start
        → (t ≤ e.start) × (up_to t e ≡ e)
    not-packed e m l h =
        ⊎_elim
        (λ (lt : e.start < t).
        let k : (up_to t e).start ≡ below all e.start = ap (λ (z : Entry). z.start) (packed_entry t e lt) in
        let a : below all e.start + e.length ≤ below all t = below_adds all e t m lt in
        absurd (omega (arith, up_to_length t e)))
        (λ (ge : t ≤ e.start). (ge, other_entry t e ge))
        (order e.start t)

    as_is : (e : Entry) → t ≤ e.start → (up_to t e).start ≡ e.start
    as_is e h = ap (λ (z : Entry). z.start) (other_entry t e h)

    abbrev r₀ : Nearest
    r₀ = nearest_of (map (up_to t) all) (below all t)

    found : Found (up_to t) (below all t) all 0 None r₀
    found = nearest_found (up_to t) (below all t) all 0 None

    -- no extent that waits starts before it
    near : (e : Entry) → Member e all → 1 ≤ e.length → t ≤ e.start → Falls r₀ e.start
    near e m l h =
        subst (Falls r₀) (as_is e h)
        (found.least e m (omega (arith, up_to_length t e)) (omega (arith, as_is e h, gap e m l h)))

    is_last : r₀ ≡ None → Last t r₀
    is_last k = record {
      is = k;
      none = λ e m l. ⊎_elim
          (λ (lt : e.start < t). lt)
          (λ (ge : t ≤ e.start).
          let inside : e.start + e.length ≤ n = p.inside e m in
          let far : 4294967295 ≤ e.start = subst (λ (r : Nearest). Falls r e.start) k (near e m l ge) in
          absurd (omega arith))
          (order e.start t);
    }

    is-next : Picked (up_to t) (below all t) all 0 r₀ → Next t r₀
    is-next k =
        let e : Entry = entry_at all k.place in
        let o = not-packed e (at_member all k.place k.inside) k.some k.after in
        let i : 0 + k.place ≡ k.place = omega arith in
        let is : r₀ ≡ Some (k.place, entry_at all k.place) =
        k.is ∙ ap₂ (λ (j : ℕ) (y : Entry). Some (j, y)) i o.1 in
        let least : (y : Entry) → Member y all → 1 ≤ y.length → t ≤ y.start → e.start ≤ y.start =
        λ y m l h. subst (λ (r : Nearest). Falls r y.start) is (near y m l h) in
        record {
          place = k.place;
          inside = k.inside;
          is = is;
          some = omega (arith, k.some, up_to_length t e);
          waits = o.0;
          least = least;
          lands = below_same all t e.start o.0 least;
        }

    pub next-or-last : Next t (nearest_of (map (up_to t) all) (below all t))
        ⊎ Last t (nearest_of (map (up_to t) all) (below all t))
    next-or-last = ⊎_elim (λ k. inr (is_last k)) (λ k. inl (is-next k)) found.found

    module _ (r : Nearest) (x : Next t r) where
      abbrev which : Entry
      which = entry_at all x.place

      member : Member which all
      member = at_member all x.place x.inside

      -- its blocks lie at or after the end of the packed ones
      pub moves-down : below all t ≤ which.start
      moves-down = gap which member x.some x.waits

      pub next-at : below all (which.start + 1) ≡ below all t + which.length
      next-at = below_one all p.apart which member x.some ∙ ap (λ (k : ℕ). k + which.length) x.lands

      pub next-gap : Gap (which.start + 1)
      next-gap e m l h =
          let a : which.start + which.length ≤ e.start =
          starts_after all p.apart which e member m x.some l (omega arith) in
          omega (arith, next-at, moves-down)

      -- an entry that lies apart from it is as it was
      others : (y : Entry) → Member y all → Off which y → up_to t y ≡ up_to (which.start + 1) y
      others y m off =
          ⊎_elim
          (λ (z : y.length < 1).
          let s : y.start ≡ 0 = p.empty y m (omega arith) in
          still_up_to t y s ∙ sym (still_up_to (which.start + 1) y s))
          (λ (z : 1 ≤ y.length).
          ⊎_elim
          (λ (lt : y.start < t).
          packed_entry t y lt ∙ sym (packed_entry (which.start + 1) y (omega (arith, x.waits))))
          (λ (ge : t ≤ y.start).
          other_entry t y ge ∙ sym (other_entry (which.start + 1) y (later y m z ge (off x.some z))))
          (order y.start t))
          (order y.length 1)
        where
          later : (y : Entry) → Member y all → 1 ≤ y.length → t ≤ y.start
              → (which.start + which.length ≤ y.start) ⊎ (y.start + y.length ≤ which.start)
              → which.start + 1 ≤ y.start
          later y m z ge (inl u) = omega (arith, x.some)
          later y m z ge (inr u) = absurd (omega (arith, x.least y m z ge))

      -- the entry that is stored is the packed one
      stored : restarted (below all t) which ≡ up_to (which.start + 1) which
      stored =
          ap (λ (s : ℕ). record { mark = which.mark; start = s; length = which.length }) (sym x.lands)
          ∙ sym (packed_entry (which.start + 1) which (omega arith))

      pub next-entries : moved_entries (map (up_to t) all) (below all t) r ≡ map (up_to (which.start + 1)) all
      unfolding moved_entries
      next-entries =
          ap (moved_entries (map (up_to t) all) (below all t)) x.is
          ∙ ap (set (map (up_to t) all) x.place) stored
          ∙ set_one (up_to t) (up_to (which.start + 1)) all x.place x.inside p.apart others

    pub last-entries : (r : Nearest) → Last t r → moved_entries (map (up_to t) all) (below all t) r ≡ map (up_to t) all
    unfolding moved_entries
    last-entries r x = ap (moved_entries (map (up_to t) all) (below all t)) x.is
