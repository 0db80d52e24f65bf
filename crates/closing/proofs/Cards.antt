-- The card while closing goes: the blocks of the extents that start before t have moved, the others are as they were.
-- Assumes nothing.
use Rattle.std.proofs.Common.{◌≡◌, ℕ, ◌+◌, ◌-◌, ◌*◌, ◌/◌, ◌%◌, ◌<◌, ◌≤◌, Bool, true, false, cond, ◌&&◌, ltb, leb, ◌⊎◌, List, []}
use Rattle.std.proofs.Common.{◌∷◌, length, sym, refl, ap, ◌∙◌, ap₂, inl, inr, ⊎_elim, arith, ltb-true, lt-ltb, le-leb}
use borrow.Author.Tests.{lt-leb}
use Rattle.laws.proofs.Bools.{and_left, and_right, and_both, clash, order}
use Rattle.map_blocks.specs.Maps.{in_run}
use Rattle.catalogue.specs.Entries.{entry_at}
use Rattle.catalogue.specs.declared.Entry.{Entry}
use Rattle.closing_moves.specs.Moved.{sourced, moved_from, moved}
use Rattle.closing_moves.proofs.Moved.{sourced_length, sourced_same, sourced_twice, moved_in, moved_before, moved_after}
use Rattle.image_soundness.proofs.Covers.{decide, run_in, in_run_lem, run_out, run_before}
use Rattle.closing.specs.Closed.{below, source}
use Rattle.closing.specs.Rounds.{Nearest, moved_extent, moved_card}
use Rattle.closing.proofs.Below.{below_adds}
use Rattle.closing.proofs.Members.{Member, same_extent, at_member}
use Rattle.closing.proofs.Packing.{Placed, Gap, Next, Last, moves-down}

-- ---- what the tests of a move decide
module _ (card : List ℕ) (at : ℕ) (e : Entry) where
  abbrev tests : Bool → Bool → List ℕ
  tests a b = cond (a && b) (moved card at e.start e.length) card

  pub not_up : e.start < at → card ≡ moved_extent card at e
  unfolding moved_extent
  not_up h = sym (ap (λ (a : Bool). tests a (leb (512 * (e.start + e.length)) (length card))) (lt-leb at e.start h))

  module _ (down : at ≤ e.start) where
    pub not-outside : length card < 512 * (e.start + e.length) → card ≡ moved_extent card at e
    unfolding moved_extent
    not-outside h = sym (ap₂ tests (le-leb at e.start down) (lt-leb (512 * (e.start + e.length)) (length card) h))

    pub moves : 512 * (e.start + e.length) ≤ length card → moved card at e.start e.length ≡ moved_extent card at e
    unfolding moved_extent
    moves h = sym (ap₂ tests (le-leb at e.start down) (le-leb (512 * (e.start + e.length)) (length card) h))

-- ---- where the bytes of a block come from, once the extents that start before t are packed
module _ (all : List Entry) where
  abbrev over : ℕ → Entry → ℕ → Bool
  over t e b = ltb e.start t && in_run (below all e.start) e.length b

  abbrev from : Entry → ℕ → ℕ
  from e b = e.start + (b - below all e.start)

  unfoldable pub source_to : ℕ → List Entry → ℕ → ℕ
  source_to t [] b = b
  source_to t (e ∷ es) b = cond (over t e b) (from e b) (source_to t es b)

  over_in : (t : ℕ) (e : Entry) (b : ℕ) → e.start < t → below all e.start ≤ b → b < below all e.start + e.length
      → over t e b ≡ true
  over_in t e b h lo hi =
      and_both (ltb e.start t) (in_run (below all e.start) e.length b) (lt-ltb e.start t h)
      (run_in (below all e.start) e.length b lo hi)

  record Over (t : ℕ) (e : Entry) (b : ℕ) : Type 0 where
    before : e.start < t
    lo : below all e.start ≤ b
    hi : b < below all e.start + e.length

  in_over : (t : ℕ) (e : Entry) (b : ℕ) → over t e b ≡ true → Over t e b
  in_over t e b h =
      let r = in_run_lem (below all e.start) e.length b
      (and_right (ltb e.start t) (in_run (below all e.start) e.length b) h) in
      record {
        before = ltb-true e.start t
            (and_left (ltb e.start t) (in_run (below all e.start) e.length b) h);
        lo = r.0;
        hi = r.1;
      }

  hit : (t : ℕ) (e : Entry) (es : List Entry) (b : ℕ) → over t e b ≡ true → source_to t (e ∷ es) b ≡ from e b
  unfolding source_to
  hit t e es b h = ap (λ (o : Bool). cond o (from e b) (source_to t es b)) h

  miss : (t : ℕ) (e : Entry) (es : List Entry) (b : ℕ) → over t e b ≡ false → source_to t (e ∷ es) b ≡ source_to t es b
  unfolding source_to
  miss t e es b h = ap (λ (o : Bool). cond o (from e b) (source_to t es b)) h

  -- no extent of the packed ones lies over b
  pub none_over : (t : ℕ) (es : List Entry) (b : ℕ)
      → ((e : Entry) → Member e es → e.start < t → below all e.start + e.length ≤ b) → source_to t es b ≡ b
  unfolding source_to
  none_over t [] b h = refl
  none_over t (e ∷ es) b h =
      ⊎_elim
      (λ (o : over t e b ≡ true). let k = in_over t e b o in absurd (omega (arith, h e (inl refl) k.before, k.hi)))
      (λ (o : over t e b ≡ false). miss t e es b o ∙ none_over t es b (λ x m. h x (inr m)))
      (decide (over t e b))

  pub at_first : (es : List Entry) (b : ℕ) → source_to 0 es b ≡ b
  at_first es b = none_over 0 es b (λ e m l. absurd (omega arith))

  pub beyond : (t b : ℕ) → below all t ≤ b → source_to t all b ≡ b
  beyond t b h = none_over t all b (λ e m l. omega (arith, below_adds all e t m l))

  -- all extents are packed
  pub at_last : (t : ℕ) (es : List Entry) (b : ℕ) → ((e : Entry) → Member e es → 1 ≤ e.length → e.start < t)
      → source_to t es b ≡ source all es b
  unfolding source_to source
  at_last t [] b h = refl
  at_last t (e ∷ es) b h =
      ap₂ (λ (o : Bool) (r : ℕ). cond o (from e b) r)
      (⊎_elim
      (λ (z : e.length < 1). out z)
      (λ (z : 1 ≤ e.length). ap (λ (o : Bool). o && in_run (below all e.start) e.length b)
      (lt-ltb e.start t (h e (inl refl) z)))
      (order e.length 1))
      (at_last t es b (λ x m. h x (inr m)))
    where
      no_run : e.length < 1 → in_run (below all e.start) e.length b ≡ false
      no_run z =
          ⊎_elim
          (λ (lo : b < below all e.start). run_before (below all e.start) e.length b lo)
          (λ (hi : below all e.start ≤ b). run_out (below all e.start) e.length b (omega arith))
          (order b (below all e.start))

      both : (o i : Bool) → i ≡ false → (o && i) ≡ i
      both true i p = refl
      both false i p = sym p

      out : e.length < 1 → over t e b ≡ in_run (below all e.start) e.length b
      out z = both (ltb e.start t) (in_run (below all e.start) e.length b) (no_run z)

  module _ (n t : ℕ) (p : Placed n all) (small : n < 4294967295) (few : length all < 4294967295) (gap : Gap all t)
      (r : Nearest) (x : Next all t r) where
    abbrev which : Entry
    which = entry_at all x.place

    member : Member which all
    member = at_member all x.place x.inside

    abbrev t' : ℕ
    t' = which.start + 1

    -- an extent that waits and starts before t' is the one that is packed
    the_one : (e : Entry) → Member e all → 1 ≤ e.length → t ≤ e.start → e.start < t'
        → (e.start ≡ which.start) × (e.length ≡ which.length)
    the_one e m l ge lt =
        let s : e.start ≡ which.start = omega (arith, x.least e m l ge) in
        (s, ap (λ (z : Entry). z.length) (same_extent all p.apart e which m member l x.some s))

    landed : (e : Entry) → e.start ≡ which.start → below all e.start ≡ below all t
    landed e s = ap (below all) s ∙ x.lands

    -- outside of where it lands
    elsewhere : (es : List Entry) → ((e : Entry) → Member e es → Member e all) → (b : ℕ)
        → (b < below all t) ⊎ (below all t + which.length ≤ b)
        → source_to t' es b ≡ source_to t es b
    unfolding source_to
    elsewhere [] sub b o = refl
    elsewhere (e ∷ es) sub b o =
        ⊎_elim
        (λ (h : over t' e b ≡ true).
        let k = in_over t' e b h in
        ⊎_elim
        (λ (lt : e.start < t). hit t' e es b h ∙ sym (hit t e es b (over_in t e b lt k.lo k.hi)))
        (λ (ge : t ≤ e.start).
        let w = the_one e (sub e (inl refl)) (omega (arith, k.lo, k.hi)) ge k.before in
        let at : below all e.start ≡ below all t = landed e w.0 in
        ⊎_elim
        (λ (u : b < below all t). absurd (omega (arith, k.lo)))
        (λ (u : below all t + which.length ≤ b). absurd (omega (arith, k.hi, w.1)))
        o)
        (order e.start t))
        (λ (h : over t' e b ≡ false).
        ⊎_elim
        (λ (g : over t e b ≡ true).
        let k = in_over t e b g in
        absurd (clash (over t' e b) (over_in t' e b (omega (arith, k.before, x.waits)) k.lo k.hi) h))
        (λ (g : over t e b ≡ false). miss t' e es b h ∙ elsewhere es (λ y m. sub y (inr m)) b o ∙ sym (miss t e es b g))
        (decide (over t e b)))
        (decide (over t' e b))

    -- where it lands
    there : (es : List Entry) → ((e : Entry) → Member e es → Member e all) → Member which es → (b : ℕ) → below all t ≤ b
        → b < below all t + which.length
        → source_to t' es b ≡ which.start + (b - below all t)
    there [] sub m b lo hi = elim m [ ]
    there (e ∷ es) sub m b lo hi =
        ⊎_elim
        (λ (h : over t' e b ≡ true).
        let k = in_over t' e b h in
        ⊎_elim
        (λ (lt : e.start < t). absurd (omega (arith, below_adds all e t (sub e (inl refl)) lt, k.hi)))
        (λ (ge : t ≤ e.start).
        let w = the_one e (sub e (inl refl)) (omega (arith, k.lo, k.hi)) ge k.before in
        hit t' e es b h ∙ ap₂ (λ (s a : ℕ). s + (b - a)) w.0 (landed e w.0))
        (order e.start t))
        (λ (h : over t' e b ≡ false).
        ⊎_elim
        (λ (i : e ≡ which).
        let s : e.start ≡ which.start = ap (λ (z : Entry). z.start) i in
        let l : e.length ≡ which.length = ap (λ (z : Entry). z.length) i in
        let at : below all e.start ≡ below all t = landed e s in
        absurd (clash (over t' e b) (over_in t' e b (omega arith) (omega arith) (omega arith)) h))
        (λ (i : Member which es). miss t' e es b h ∙ there es (λ y m. sub y (inr m)) i b lo hi)
        m)
        (decide (over t' e b))

    -- the moves before this one left its blocks alone
    composed : (b : ℕ) → source_to t all (moved_from (below all t) which.start which.length b) ≡ source_to t' all b
    composed b =
        let a : ℕ = below all t in
        let down : below all t ≤ which.start = moves-down all n t p small few gap r x in
        ⊎_elim
        (λ (lo : b < below all t).
        ap (source_to t all) (moved_before a which.start which.length b lo)
        ∙ sym (elsewhere all (λ y m. m) b (inl lo)))
        (λ (hi : below all t ≤ b).
        ⊎_elim
        (λ (u : b < below all t + which.length).
        ap (source_to t all) (moved_in a which.start which.length b hi u)
        ∙ beyond t (which.start + (b - a)) (omega arith) ∙ sym (there all (λ y m. m) member b hi u))
        (λ (u : below all t + which.length ≤ b).
        ap (source_to t all) (moved_after a which.start which.length b u)
        ∙ sym (elsewhere all (λ y m. m) b (inr u)))
        (order b (below all t + which.length)))
        (order b (below all t))

    within : (card : List ℕ) → 512 * n ≤ length card → (j : ℕ) → j < length card
        → 512 * moved_from (below all t) which.start which.length (j / 512) + j % 512 < length card
    within card fits j h =
        let inside : which.start + which.length ≤ n = p.inside which member in
        ⊎_elim
        (λ (lo : j / 512 < below all t).
        let e = moved_before (below all t) which.start which.length (j / 512) lo in omega arith)
        (λ (hi : below all t ≤ j / 512).
        ⊎_elim
        (λ (u : j / 512 < below all t + which.length).
        let e = moved_in (below all t) which.start which.length (j / 512) hi u in omega arith)
        (λ (u : below all t + which.length ≤ j / 512).
        let e = moved_after (below all t) which.start which.length (j / 512) u in omega arith)
        (order (j / 512) (below all t + which.length)))
        (order (j / 512) (below all t))

    pub next-card : (card : List ℕ) → 512 * n ≤ length card
        → moved_card (sourced (source_to t all) card) (below all t) r ≡ sourced (source_to t' all) card
    unfolding moved moved_card
    next-card card fits =
        let inside : which.start + which.length ≤ n = p.inside which member in
        let down : below all t ≤ which.start = moves-down all n t p small few gap r x in
        ap (moved_card (sourced (source_to t all) card) (below all t)) x.is
        ∙ sym (moves (sourced (source_to t all) card) (below all t) which down
        (omega (arith, sourced_length card (source_to t all))))
        ∙ sourced_twice card (source_to t all) (moved_from (below all t) which.start which.length) (within card fits)
        ∙ sourced_same card (λ b. source_to t all (moved_from (below all t) which.start which.length b)) (source_to t' all)
        composed

  pub last_card : (t : ℕ) (r : Nearest) → Last all t r → (card : List ℕ) → moved_card card (below all t) r ≡ card
  unfolding moved_card
  last_card t r x card = ap (moved_card card (below all t)) x.is
