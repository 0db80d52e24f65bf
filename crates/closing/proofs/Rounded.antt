-- The entries looked at and the rounds made one by one, as the loops go.
-- Assumes nothing.
use Rattle.std.proofs.Common.{◌≡◌, ℕ, suc, ◌+◌, ◌<◌, ◌≤◌, List, [], ◌∷◌, length, get_or, drop, refl, sym, ap, ◌∙◌, add-one}
use borrow.Author.Tests.{lt-leb}
use Rattle.closing.proofs.Picks.{taken, passed}
use Rattle.std.proofs.Common.{Bool, true, false, le-leb, le-ltb, ◌&&◌, ltb, leb, lt-ltb}
use Rattle.std.specs.Prelude.{Some, None}
use Rattle.std.proofs.Math.Seq.{drop-cons}
use Rattle.std.proofs.lemmas.List.{drop_all}
use Rattle.catalogue.specs.Entries.{zeros}
use Rattle.catalogue.specs.declared.Entry.{Entry}
use Rattle.closing.specs.Rounds.{Nearest, is_nearer, nearer_of, nearest_from, round_at, round_entries, round_card}
use Rattle.closing.specs.Rounds.{rounds_at, rounds_entries, rounds_card}

pub nearest_none : (at sheet : ℕ) (t : Nearest) → nearest_from at sheet [] t ≡ t
unfolding nearest_from
nearest_none at sheet t = refl

pub nearest_more : (at sheet : ℕ) (e : Entry) (es : List Entry) (t : Nearest)
    → nearest_from at sheet (e ∷ es) t ≡ nearest_from at (suc sheet) es (nearer_of at sheet t e)
unfolding nearest_from
nearest_more at sheet e es t = refl

-- a turn of the loop over the entries, and its end
module _ (es : List Entry) (at i : ℕ) (t : Nearest) where
  pub turn : (u : Nearest) → i < length es → u ≡ nearer_of at i t (get_or es i zeros)
      → nearest_from at (i + 1) (drop (i + 1) es) u ≡ nearest_from at i (drop i es) t
  turn u h e =
      rw (drop-cons es i zeros h, add-one)
      (ap (nearest_from at (suc i) (drop (suc i) es)) e
      ∙ sym (nearest_more at i (get_or es i zeros) (drop (suc i) es) t))

  pub end : length es ≤ i → nearest_from at i (drop i es) t ≡ t
  end h = rw (drop_all i es h) (nearest_none at i t)

-- what is kept beside the sheet that is found: its start, or the block that no card has
abbrev pub Before : Nearest → ℕ → Type 0
Before None b = b ≡ 4294967295
Before (Some p) b = b ≡ p.1.start

-- the test of an entry, by that
abbrev pub waits_before : Entry → ℕ → ℕ → Bool
waits_before e at before = leb 1 e.length && leb at e.start && ltb e.start before

pub same_test : (at : ℕ) (t : Nearest) (b : ℕ) (e : Entry) → Before t b → waits_before e at b ≡ is_nearer at t e
unfolding is_nearer
same_test at None b e k = ap (λ (s : ℕ). leb 1 e.length && leb at e.start && ltb e.start s) k
same_test at (Some p) b e k = ap (λ (s : ℕ). leb 1 e.length && leb at e.start && ltb e.start s) k

-- what the tests of an entry decide
module _ (at b : ℕ) (e : Entry) where
  pub no_extent : e.length < 1 → waits_before e at b ≡ false
  no_extent h = simp (lt-leb 1 e.length h)

  module _ (some : 1 ≤ e.length) where
    pub has_moved : e.start < at → waits_before e at b ≡ false
    has_moved h = simp (le-leb 1 e.length some, lt-leb at e.start h)

    pub is_behind : at ≤ e.start → b ≤ e.start → waits_before e at b ≡ false
    is_behind h l = simp (le-leb 1 e.length some, le-leb at e.start h, le-ltb e.start b l)

    pub is_first : at ≤ e.start → e.start < b → waits_before e at b ≡ true
    is_first h l = simp (le-leb 1 e.length some, le-leb at e.start h, lt-ltb e.start b l)

-- so a turn takes the entry, or passes over it
module _ (es : List Entry) (at i : ℕ) (t : Nearest) (b : ℕ) (h : i < length es) (k : Before t b) where
  abbrev e : Entry
  e = get_or es i zeros

  pub takes : waits_before e at b ≡ true
      → nearest_from at (i + 1) (drop (i + 1) es) (Some (i, e)) ≡ nearest_from at i (drop i es) t
  takes w = turn es at i t (Some (i, e)) h (sym (taken at t e i (sym (same_test at t b e k) ∙ w)))

  pub passes : waits_before e at b ≡ false → nearest_from at (i + 1) (drop (i + 1) es) t ≡ nearest_from at i (drop i es) t
  passes w = turn es at i t t h (sym (passed at t e i (sym (same_test at t b e k) ∙ w)))

module _ (es : List Entry) (card : List ℕ) (at : ℕ) where
  pub at_none : rounds_at es card 0 at ≡ at
  unfolding rounds_at
  at_none = refl

  pub entries_none : rounds_entries es card 0 at ≡ es
  unfolding rounds_entries
  entries_none = refl

  pub card_none : rounds_card es card 0 at ≡ card
  unfolding rounds_card
  card_none = refl

module _ (k : ℕ) (es : List Entry) (card : List ℕ) (at : ℕ) where
  pub at_more : rounds_at es card (suc k) at
      ≡ round_at (rounds_entries es card k at) (rounds_card es card k at) (rounds_at es card k at)
  unfolding rounds_at rounds_entries rounds_card
  at_more = refl

  pub entries_more : rounds_entries es card (suc k) at
      ≡ round_entries (rounds_entries es card k at) (rounds_card es card k at) (rounds_at es card k at)
  unfolding rounds_at rounds_entries rounds_card
  entries_more = refl

  pub card_more : rounds_card es card (suc k) at
      ≡ round_card (rounds_entries es card k at) (rounds_card es card k at) (rounds_at es card k at)
  unfolding rounds_at rounds_entries rounds_card
  card_more = refl
