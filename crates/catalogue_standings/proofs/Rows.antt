-- Rows of a table of refusals. They are read by their numbers, so that a new row moves nothing: those before a number and from
-- it on, those that an accepted call has cleared, the one that a refused call was refused with, and the number of a verdict.
-- Assumes nothing.
use mathlib.Core.Path.{◌≡◌, refl, sym, ap, ◌∙◌}
use mathlib.Core.Logic.{◌⊎◌, inl, inr}
use mathlib.Core.Bool.{Bool, true, false, cond, ◌||◌, true≢false}
use mathlib.Core.List.{List, [], ◌∷◌, ◌++◌}
use Prim.Native.Nat.{ℕ}
use native.Mathlib.Omega.{arith}
use lib.Dec.{eqb}
use borrow.Author.Tests.{eqb-false}
use Rattle.catalogue_standings.specs.Rows.{Row, Verdict, accepted, refused, first_of, before, settle, row_number}

pub not_refused : (number : ℕ) → refused number ≡ accepted → ⊥
not_refused number e = let z : ◌≡◌ {A = ℕ} 0 1 = cc in omega arith

pub same_number : (a b : ℕ) → refused a ≡ refused b → a ≡ b
same_number a b e = cc

-- ---- one list after the other

-- the first rows decide, and where none of them holds, those behind them
pub first_then : (xs ys : List Row) → first_of (xs ++ ys) ≡ settle (first_of xs) (first_of ys) refused
unfolding first_of
first_then [] ys = refl
first_then (r ∷ xs) ys = go r.holds (first_then xs ys)
  where
    go : (t : Bool) → first_of (xs ++ ys) ≡ settle (first_of xs) (first_of ys) refused
        → cond t (refused r.number) (first_of (xs ++ ys)) ≡ settle (cond t (refused r.number) (first_of xs)) (first_of ys)
        refused
    go true h = refl
    go false h = h

-- the rows from the first with a number on
unfoldable pub onwards : ℕ → List Row → List Row
onwards number [] = []
onwards number (r ∷ rows) = cond (eqb r.number number) (r ∷ rows) (onwards number rows)

pub before_then : (number : ℕ) (rows : List Row)
    → first_of rows ≡ settle (first_of (before number rows)) (first_of (onwards number rows)) refused
unfolding first_of before onwards
before_then number [] = refl
before_then number (r ∷ rows) = go (eqb r.number number) (before_then number rows)
  where
    go_on : (t : Bool) → first_of rows ≡ settle (first_of (before number rows)) (first_of (onwards number rows)) refused
        → cond t (refused r.number) (first_of rows)
        ≡ settle (cond t (refused r.number) (first_of (before number rows))) (first_of (onwards number rows)) refused
    go_on true later = refl
    go_on false later = later

    go : (t : Bool) → first_of rows ≡ settle (first_of (before number rows)) (first_of (onwards number rows)) refused
        → first_of (r ∷ rows)
        ≡ settle (first_of (cond t [] (r ∷ before number rows))) (first_of (cond t (r ∷ rows) (onwards number rows))) refused
    go true later = refl
    go false later = go_on r.holds later

-- the verdict is that of the rows from a number on, where none before them holds
pub from_there : (number : ℕ) (rows : List Row) → first_of (before number rows) ≡ accepted
    → first_of rows ≡ first_of (onwards number rows)
from_there number rows h =
    before_then number rows ∙ ap (λ (v : Verdict). settle v (first_of (onwards number rows)) refused) h

-- the first rows accept what is accepted, and so do those behind them
pub both_accept : (first rest : Verdict) → settle first rest refused ≡ accepted → (first ≡ accepted) × (rest ≡ accepted)
both_accept accepted rest e = (refl, e)
both_accept (refused number) rest e = absurd (not_refused number e)

abbrev pub either : Bool → Type 0 → Type 0 → Type 0
either true A B = A
either false A B = B

pub either_in : {A B : Type 0} (t : Bool) → A → B → either t A B
either_in true a b = a
either_in false a b = b

-- ---- the rows that an acceptance has cleared

-- no row with the number holds
abbrev pub Clear : ℕ → List Row → Type 0
Clear number [] = Unit {0}
Clear number (r ∷ rows) = either (eqb r.number number) ((r.holds ≡ false) × Clear number rows) (Clear number rows)

pub rest_accepted : (r : Row) (rows : List Row) → first_of (r ∷ rows) ≡ accepted → (r.holds ≡ false)
    × (first_of rows ≡ accepted)
unfolding first_of
rest_accepted r rows e = go r.holds e
  where
    go : (t : Bool) → cond t (refused r.number) (first_of rows) ≡ accepted → (t ≡ false) × (first_of rows ≡ accepted)
    go true e = absurd (not_refused r.number e)
    go false e = (refl, e)

pub clear : (number : ℕ) (rows : List Row) → first_of rows ≡ accepted → Clear number rows
clear number [] e = tt
clear number (r ∷ rows) e =
    let h = rest_accepted r rows e in
    let later = clear number rows h.1 in either_in (eqb r.number number) (h.0, later) later

-- ---- the row that a refusal names

-- some row with the number holds
abbrev pub Holds : ℕ → List Row → Type 0
Holds number [] = ⊥
Holds number (r ∷ rows) = either (eqb r.number number) ((r.holds ≡ true) ⊎ Holds number rows) (Holds number rows)

pub holds : (number : ℕ) (rows : List Row) → first_of rows ≡ refused number → Holds number rows
unfolding first_of
holds number [] e = absurd (not_refused number (sym e))
holds number (r ∷ rows) e = go (eqb r.number number) refl r.holds refl e (holds number rows)
  where
    go : (t : Bool) → eqb r.number number ≡ t → (b : Bool) → r.holds ≡ b
        → cond b (refused r.number) (first_of rows) ≡ refused number
        → (first_of rows ≡ refused number → Holds number rows)
        → either t ((r.holds ≡ true) ⊎ Holds number rows) (Holds number rows)
    go true q true h e later = inl h
    go true q false h e later = inr (later e)
    go false q true h e later = absurd (eqb-false r.number number q (same_number r.number number e))
    go false q false h e later = later e

-- ---- a number that no row has is never the verdict's

abbrev pub says : ℕ → List Row → Bool
says number [] = false
says number (r ∷ rows) = eqb r.number number || says number rows

pub never_says : (number : ℕ) (rows : List Row) → says number rows ≡ false → first_of rows ≡ refused number → ⊥
unfolding first_of
never_says number [] h e = not_refused number (sym e)
never_says number (r ∷ rows) h e = go (eqb r.number number) refl r.holds h e (λ u v. never_says number rows u v)
  where
    go : (t : Bool) → eqb r.number number ≡ t → (holds : Bool) → (t || says number rows) ≡ false
        → cond holds (refused r.number) (first_of rows) ≡ refused number
        → (says number rows ≡ false → first_of rows ≡ refused number → ⊥) → ⊥
    go true q holds h e later = true≢false h
    go false q true h e later = eqb-false r.number number q (same_number r.number number e)
    go false q false h e later = later h e

-- 0 is the number of acceptance alone, where no row has it
pub zero_accepts : (rows : List Row) → says 0 rows ≡ false → row_number (first_of rows) ≡ 0 → first_of rows ≡ accepted
zero_accepts rows unsaid e = go (first_of rows) refl e
  where
    go : (v : Verdict) → first_of rows ≡ v → row_number v ≡ 0 → first_of rows ≡ accepted
    go accepted h e = h
    go (refused number) h e = absurd (never_says 0 rows unsaid (h ∙ ap refused e))

-- any other number is the refusal's
pub other_row : (v : Verdict) (number : ℕ) → number ≡ row_number v → (number ≡ 0 → ⊥) → v ≡ refused number
other_row accepted number e n = absurd (n e)
other_row (refused other) number e n = sym (ap refused e)
