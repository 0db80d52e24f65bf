-- The rows that every call begins with: what their answer says of the verdict and of the sheet's standing.
-- Assumes nothing.
use mathlib.Core.Path.{◌≡◌, refl, sym, ap, ◌∙◌, subst}
use mathlib.Core.Bool.{Bool, true, false, not, ◌&&◌, cond, true≢false}
use mathlib.Core.List.{List, [], ◌∷◌}
use Prim.Native.Nat.{ℕ, ◌+◌, ◌≤◌}
use native.Mathlib.Omega.{arith}
use lib.Dec.{leb, eqb}
use borrow.Author.Tests.{leb-true}
use Rattle.catalogue.specs.Entries.{absent_mark, paused_mark, open_mark, complete_mark}
use Rattle.map_blocks.specs.Blocks.{all}
use Rattle.laws.proofs.Bools.{and_left, and_right}
use Rattle.catalogue.specs.declared.Entry.{Entry}
use Rattle.catalogue_standings.specs.Openings.{opened_of, opened_for, unless_damaged, row_of}
use Rattle.catalogue_standings.specs.Rows.{Row, row, Verdict, accepted, refused, first_of}
use Rattle.catalogue_standings.specs.Standings.{extent_holds, standing_of, is_absent, is_paused, is_open, is_complete}
use Rattle.catalogue_standings.specs.Standings.{is_damaged}
use Rattle.catalogue_standings.specs.declared.Standing.{Standing}
use Rattle.catalogue_standings.specs.declared.Standing.TheVariants.{Absent, Paused, PausedWith, Open, Complete, Damaged}
use Rattle.catalogue_standings.specs.declared.Refusal.{Refusal}
use Rattle.catalogue_standings.specs.declared.Refusal.TheVariants as refusal
use Rattle.catalogue_standings.specs.Refusals.{number}
use Rattle.std.specs.Prelude.{Result, Ok, Err}

-- ---- rows one after the other

pub skip : (number : ℕ) (test : Bool) (rows : List Row) (v : Verdict) → test ≡ false → first_of rows ≡ v
    → first_of (row number test ∷ rows) ≡ v
unfolding first_of
skip number test rows v e h = simp e h

pub stop : (number : ℕ) (test : Bool) (rows : List Row) → test ≡ true → first_of (row number test ∷ rows) ≡ refused number
unfolding first_of
stop number test rows e = simp e

-- ---- what the first rows answered

told : (row : ℕ) (r why : Refusal) → number r ≡ row → ◌≡◌ {A = Result Standing Refusal} (Err r) (Err why)
    → refused row ≡ refused (number why)
told row r why h e = let same : r ≡ why = cc in ap refused (sym h ∙ ap number same)

never : {t : Standing} {why : Refusal} → ◌≡◌ {A = Result Standing Refusal} (Ok t) (Err why) → ⊥
never e = let z : ◌≡◌ {A = ℕ} 0 1 = cc in omega arith

abbrev pub rows_of : Bool → Bool → ℕ → ℕ → Standing → List Row → List Row
rows_of turned fits c sheet s rows = row 21 turned ∷ row 1 (not fits) ∷ row 2 (leb c sheet) ∷ row 4 (is_damaged s) ∷ rows

pub closed : (turned fits : Bool) (c sheet : ℕ) (s : Standing) (rows : List Row) (why : Refusal)
    → opened_for turned fits c sheet s ≡ Err why → first_of (rows_of turned fits c sheet s rows) ≡ refused (number why)
unfolding opened_of first_of
closed true fits c sheet s rows why e = told 21 refusal.TurnedAway why refl e
closed false false c sheet s rows why e = told 1 refusal.Misfit why refl e
closed false true c sheet s rows why e = go (leb c sheet) s e
  where
    go : (b : Bool) (s : Standing) → cond b (Err refusal.NoSuchSheet) (unless_damaged s) ≡ Err why
        → cond b (refused 2) (cond (is_damaged s) (refused 4) (first_of rows)) ≡ refused (number why)
    go true s e = told 2 refusal.NoSuchSheet why refl e
    go false Absent e = absurd (never e)
    go false Paused e = absurd (never e)
    go false (PausedWith a b) e = absurd (never e)
    go false (Open a b) e = absurd (never e)
    go false (Complete a b) e = absurd (never e)
    go false Damaged e = told 4 refusal.Damaged why refl e

pub record Opening (turned fits : Bool) (c sheet : ℕ) (s t : Standing) (rows : List Row) : Type 0 where
  pub admitted : turned ≡ false
  pub all_fits_lem : fits ≡ true
  pub listed : leb c sheet ≡ false
  pub same : s ≡ t
  pub whole : is_damaged s ≡ false
  pub verdict : first_of (rows_of turned fits c sheet s rows) ≡ first_of rows

pub opened : (turned fits : Bool) (c sheet : ℕ) (s t : Standing) (rows : List Row) → opened_for turned fits c sheet s ≡ Ok t
    → Opening turned fits c sheet s t rows
unfolding opened_of first_of
opened true fits c sheet s t rows e = absurd (never (sym e))
opened false false c sheet s t rows e = absurd (never (sym e))
opened false true c sheet s t rows e = go (leb c sheet) refl s e
  where
    made : (b : Bool) → leb c sheet ≡ b → (s : Standing) → b ≡ false → s ≡ t → is_damaged s ≡ false
        → Opening false true c sheet s t rows
    made b q s f p d = record {
      admitted = refl;
      all_fits_lem = refl;
      listed = q ∙ f;
      same = p;
      whole = d;
      verdict = simp (
        q ∙ f,
        d,
      );
    }

    go : (b : Bool) → leb c sheet ≡ b → (s : Standing) → cond b (Err refusal.NoSuchSheet) (unless_damaged s) ≡ Ok t
        → Opening false true c sheet s t rows
    go true q s e = absurd (never (sym e))
    go false q Absent e = made false q Absent refl (cc) refl
    go false q Paused e = made false q Paused refl (cc) refl
    go false q (PausedWith a b) e = made false q (PausedWith a b) refl (cc) refl
    go false q (Open a b) e = made false q (Open a b) refl (cc) refl
    go false q (Complete a b) e = made false q (Complete a b) refl (cc) refl
    go false q Damaged e = absurd (never (sym e))

-- ---- what an undamaged entry holds

pub record Extent (n : ℕ) (free : ℕ → Bool) (e : Entry) (start blocks : ℕ) : Type 0 where
  pub starts : e.start ≡ start
  pub lasts : e.length ≡ blocks
  pub some : 1 ≤ blocks
  pub inside : start + blocks ≤ n
  pub taken : all (λ b. not (free b)) start blocks ≡ true

held : (n : ℕ) (free : ℕ → Bool) (e : Entry) → extent_holds n free e.start e.length ≡ true
    → Extent n free e e.start e.length
unfolding extent_holds
held n free e h =
    let a : Bool = leb 1 e.length in
    let b : Bool = leb (e.start + e.length) n in
    let c : Bool = all (λ t. not (free t)) e.start e.length in
    record {
      starts = refl;
      lasts = refl;
      some = leb-true 1 e.length (and_left a b (and_left (a && b) c h));
      inside = leb-true (e.start + e.length) n (and_right a b (and_left (a && b) c h));
      taken = and_right (a && b) c h;
    }

-- ---- a standing that a call does not admit is refused by its own row

abbrev pub NotAbsent : Standing → Type 0
NotAbsent s = s ≡ Absent → ⊥

abbrev pub NotOpen : Standing → Type 0
NotOpen s = (start blocks : ℕ) → s ≡ Open start blocks → ⊥

abbrev pub NotComplete : Standing → Type 0
NotComplete s = (start blocks : ℕ) → s ≡ Complete start blocks → ⊥

pub not_absent : (s : Standing) (rows : List Row) → NotAbsent s → is_damaged s ≡ false
    → first_of (row 6 (is_paused s) ∷ row 7 (is_open s) ∷ row 8 (is_complete s) ∷ rows) ≡ refused (row_of s)
unfolding first_of
not_absent Absent rows t d = absurd (t refl)
not_absent Paused rows t d = refl
not_absent (PausedWith a b) rows t d = refl
not_absent (Open a b) rows t d = refl
not_absent (Complete a b) rows t d = refl
not_absent Damaged rows t d = absurd (true≢false d)

pub not_open : (s : Standing) (rows : List Row) → NotOpen s → is_damaged s ≡ false
    → first_of (row 5 (is_absent s) ∷ row 6 (is_paused s) ∷ row 8 (is_complete s) ∷ rows) ≡ refused (row_of s)
unfolding first_of
not_open Absent rows t d = refl
not_open Paused rows t d = refl
not_open (PausedWith a b) rows t d = refl
not_open (Open a b) rows t d = absurd (t a b refl)
not_open (Complete a b) rows t d = refl
not_open Damaged rows t d = absurd (true≢false d)

pub not_complete : (s : Standing) (rows : List Row) → NotComplete s → is_damaged s ≡ false
    → first_of (row 5 (is_absent s) ∷ row 6 (is_paused s) ∷ row 7 (is_open s) ∷ rows) ≡ refused (row_of s)
unfolding first_of
not_complete Absent rows t d = refl
not_complete Paused rows t d = refl
not_complete (PausedWith a b) rows t d = refl
not_complete (Open a b) rows t d = refl
not_complete (Complete a b) rows t d = absurd (t a b refl)
not_complete Damaged rows t d = absurd (true≢false d)

-- ---- a standing that a call admits passes

pub is_absent_lem : (s : Standing) (rows : List Row) → s ≡ Absent
    → first_of (row 6 (is_paused s) ∷ row 7 (is_open s) ∷ row 8 (is_complete s) ∷ rows) ≡ first_of rows
unfolding first_of
is_absent_lem s rows e = ap (λ (t : Standing). first_of (row 6 (is_paused t) ∷ row 7 (is_open t) ∷ row 8 (is_complete t)
    ∷ rows)) e

pub is_open_lem : (s : Standing) (start blocks : ℕ) (rows : List Row) → s ≡ Open start blocks
    → first_of (row 5 (is_absent s) ∷ row 6 (is_paused s) ∷ row 8 (is_complete s) ∷ rows) ≡ first_of rows
unfolding first_of
is_open_lem s start blocks rows e =
    ap (λ (t : Standing). first_of (row 5 (is_absent t) ∷ row 6 (is_paused t) ∷ row 8 (is_complete t) ∷ rows)) e

pub is_complete_lem : (s : Standing) (start blocks : ℕ) (rows : List Row) → s ≡ Complete start blocks
    → first_of (row 5 (is_absent s) ∷ row 6 (is_paused s) ∷ row 7 (is_open s) ∷ rows) ≡ first_of rows
unfolding first_of
is_complete_lem s start blocks rows e =
    ap (λ (t : Standing). first_of (row 5 (is_absent t) ∷ row 6 (is_paused t) ∷ row 7 (is_open t) ∷ rows)) e

pub none_left : first_of [] ≡ accepted
unfolding first_of
none_left = refl

-- ---- the entry of an Open or a Complete sheet has an extent that holds

-- neither a standing without an extent, nor damage
plain : (t : Standing → Bool) (b : Bool) (s r : Standing) → t s ≡ false → t Damaged ≡ false → t r ≡ true → cond b s Damaged ≡ r
    → ⊥
plain t true s r p d q e = true≢false (sym q ∙ ap t (sym e) ∙ p)
plain t false s r p d q e = true≢false (sym q ∙ ap t (sym e) ∙ d)

-- nor a pause, in either form
paused : (t : Standing → Bool) (zeros holds : Bool) (s r : Standing) → t Paused ≡ false → t s ≡ false → t Damaged ≡ false
    → t r ≡ true → cond zeros Paused (cond holds s Damaged) ≡ r → ⊥
paused t true holds s r z p d q e = true≢false (sym q ∙ ap t (sym e) ∙ z)
paused t false holds s r z p d q e = plain t holds s r p d q e

holding : (b : Bool) (s r : Standing) (t : Standing → Bool) → t Damaged ≡ false → t r ≡ true → cond b s Damaged ≡ r
    → (b ≡ true) × (s ≡ r)
holding true s r t d q e = (refl, e)
holding false s r t d q e = absurd (true≢false (sym q ∙ ap t (sym e) ∙ d))

module _ (n : ℕ) (free : ℕ → Bool) (e : Entry) where
  pub open_extent : (start blocks : ℕ) → standing_of n free e ≡ Open start blocks → Extent n free e start blocks
  unfolding standing_of
  open_extent start blocks h = go (eqb e.mark absent_mark) (eqb e.mark paused_mark) (eqb e.mark open_mark)
      (eqb e.mark complete_mark) h
    where
      zeros : Bool
      zeros = eqb e.start 0 && eqb e.length 0

      holds : Bool
      holds = extent_holds n free e.start e.length

      made : (holds ≡ true) × (Open e.start e.length ≡ Open start blocks) → Extent n free e start blocks
      made r =
          let a : e.start ≡ start = (cc r.1) in
          let b : e.length ≡ blocks = (cc r.1) in
          subst (λ (x : ℕ). Extent n free e x blocks) a
          (subst (λ (y : ℕ). Extent n free e e.start y) b (held n free e r.0))

      go : (p q o k : Bool)
          → cond p (cond zeros Absent Damaged)
          (cond q (cond zeros Paused (cond holds (PausedWith e.start e.length) Damaged))
          (cond o (cond holds (Open e.start e.length) Damaged)
          (cond k (cond holds (Complete e.start e.length) Damaged) Damaged)))
          ≡ Open start blocks
          → Extent n free e start blocks
      go true q o k h = absurd (plain is_open zeros Absent (Open start blocks) refl refl refl h)
      go false true o k h =
          absurd (paused is_open zeros holds (PausedWith e.start e.length) (Open start blocks) refl refl refl refl h)
      go false false true k h = made (holding holds (Open e.start e.length) (Open start blocks) is_open refl refl h)
      go false false false true h =
          absurd (plain is_open holds (Complete e.start e.length) (Open start blocks) refl refl refl h)
      go false false false false h = absurd (plain is_open false Damaged (Open start blocks) refl refl refl h)

  pub complete_extent : (start blocks : ℕ) → standing_of n free e ≡ Complete start blocks → Extent n free e start blocks
  unfolding standing_of
  complete_extent start blocks h = go (eqb e.mark absent_mark) (eqb e.mark paused_mark) (eqb e.mark open_mark)
      (eqb e.mark complete_mark) h
    where
      zeros : Bool
      zeros = eqb e.start 0 && eqb e.length 0

      holds : Bool
      holds = extent_holds n free e.start e.length

      made : (holds ≡ true) × (Complete e.start e.length ≡ Complete start blocks) → Extent n free e start blocks
      made r =
          let a : e.start ≡ start = (cc r.1) in
          let b : e.length ≡ blocks = (cc r.1) in
          subst (λ (x : ℕ). Extent n free e x blocks) a
          (subst (λ (y : ℕ). Extent n free e e.start y) b (held n free e r.0))

      go : (p q o k : Bool)
          → cond p (cond zeros Absent Damaged)
          (cond q (cond zeros Paused (cond holds (PausedWith e.start e.length) Damaged))
          (cond o (cond holds (Open e.start e.length) Damaged)
          (cond k (cond holds (Complete e.start e.length) Damaged) Damaged)))
          ≡ Complete start blocks
          → Extent n free e start blocks
      go true q o k h = absurd (plain is_complete zeros Absent (Complete start blocks) refl refl refl h)
      go false true o k h =
          absurd (paused is_complete zeros holds (PausedWith e.start e.length) (Complete start blocks) refl refl refl refl
          h)
      go false false true k h =
          absurd (plain is_complete holds (Open e.start e.length) (Complete start blocks) refl refl refl h)
      go false false false true h =
          made (holding holds (Complete e.start e.length) (Complete start blocks) is_complete refl refl h)
      go false false false false h = absurd (plain is_complete false Damaged (Complete start blocks) refl refl refl h)
