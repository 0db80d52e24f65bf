-- A search for the least start that passes a test: a call that comes to it is answered its number exactly when no start
-- passes, and otherwise given the least. And a call that asks for one start.
-- Assumes nothing.
use Rattle.std.specs.Prelude.{Option, Some, None}
use Prim.Native.Nat.{ℕ, ◌≤◌, ◌<◌}
use mathlib.Core.Path.{◌≡◌, refl, sym, subst}
use mathlib.Core.Logic.{◌⊎◌, inl, inr}
use mathlib.Core.Bool.{Bool, true, false, not, ◌&&◌, cond}
use mathlib.Core.List.{[], ◌∷◌}
use native.Mathlib.Omega.{arith}
use Rattle.map_blocks.specs.Blocks.{least}
use lib.Dec.{eqb}
use borrow.Author.Tests.{eqb-true, eq-eqb}
use Rattle.laws.proofs.Bools.{and_left, and_right, and_both, not_true, order, clash}
use Rattle.map_blocks.proofs.Least.{least_passes, least_below, none_passes}
use Rattle.catalogue_standings.specs.Searches.{start_at, none}
use Rattle.catalogue_standings.specs.Rows.{Verdict, accepted, refused, settle}
use Rattle.ledger.specs.Answers.{refused_with, Told, done}
use Rattle.ledger.specs.Claim.{Searched}

-- no start from n on passes
module _ (number : ℕ) (some : 0 < number) (passes : ℕ → Bool) (beside : ℕ → ℕ) (n : ℕ)
    (beyond : (s : ℕ) → n ≤ s → passes s ≡ false) where
  -- what is told, by what the search found
  abbrev pub verdict_by : Option ℕ → Verdict
  verdict_by o = cond (none o) (refused number) accepted

  abbrev pub tells_by : Verdict → Option ℕ → ℕ → Told
  tells_by v o p = settle v (done (start_at o ∷ beside (start_at o) ∷ []) []) (refused_with [] p)

  pub searched : (v : Verdict) (p : ℕ) → v ≡ verdict_by (least passes 0 n)
      → Searched number passes beside (tells_by v (least passes 0 n) p)
  searched v p is = subst (λ (w : Verdict). Searched number passes beside (tells_by w (least passes 0 n) p)) (sym is)
      (go (least passes 0 n) refl)
    where
      found : (s : ℕ) → least passes 0 n ≡ Some s → Searched number passes beside (tells_by accepted (Some s) p)
      found s e =
          let fits : passes s ≡ true = (least_passes passes 0 n s e).test in
          record {
            exactly = (λ h. absurd (omega (arith, h, some)), λ h. absurd (clash (passes s) fits (h s)));
            otherwise = λ h. (s, refl, fits, λ m fm. at_most m fm (order m s));
          }
        where
          at_most : (m : ℕ) → passes m ≡ true → (m < s) ⊎ (s ≤ m) → s ≤ m
          at_most m fm (inl h) = absurd (clash (passes m) fm (least_below passes 0 n s e m (omega arith) h))
          at_most m fm (inr h) = h

      nothing : least passes 0 n ≡ None → Searched number passes beside (tells_by (refused number) None p)
      nothing e = record {
        exactly = (λ h s. no_fit s (order s n), λ h. refl);
        otherwise = λ h. absurd (h refl);
      }
        where
          no_fit : (s : ℕ) → (s < n) ⊎ (n ≤ s) → passes s ≡ false
          no_fit s (inl h) = none_passes passes 0 n e s (omega arith) (omega arith)
          no_fit s (inr h) = beyond s h

      go : (o : Option ℕ) → least passes 0 n ≡ o
          → Searched number passes beside (tells_by (verdict_by (least passes 0 n)) (least passes 0 n) p)
      go (Some s) e = subst (λ (o : Option ℕ). Searched number passes beside (tells_by (verdict_by o) o p)) (sym e) (found s e)
      go None e = subst (λ (o : Option ℕ). Searched number passes beside (tells_by (verdict_by o) o p)) (sym e) (nothing e)

-- the one start that is asked for, which passes or not
module _ (number : ℕ) (some : 0 < number) (p : ℕ → Bool) (beside : ℕ → ℕ) (start : ℕ) where
  abbrev pub only : ℕ → Bool
  only s = eqb s start && p s

  abbrev pub tells_at : Verdict → ℕ → Told
  tells_at v place = settle v (done (start ∷ beside start ∷ []) []) (refused_with [] place)

  pub asked : (v : Verdict) (place : ℕ) → v ≡ cond (not (p start)) (refused number) accepted
      → Searched number only beside (tells_at v place)
  asked v place is =
      subst (λ (w : Verdict). Searched number only beside (tells_at w place)) (sym is) (go (p start) refl)
    where
      here : (s : ℕ) → only s ≡ true → s ≡ start
      here s e = eqb-true s start (and_left (eqb s start) (p s) e)

      go : (t : Bool) → p start ≡ t
          → Searched number only beside (tells_at (cond (not (p start)) (refused number) accepted) place)
      go true q =
          subst (λ (t : Bool). Searched number only beside (tells_at (cond (not t) (refused number) accepted) place)) (sym q)
          (record {
            exactly = (λ h. absurd (omega (arith, h, some)), λ h. absurd (clash (only start) fits (h start)));
            otherwise = λ h. (start, refl, fits, λ m e. omega (arith, here m e));
          })
        where
          fits : only start ≡ true
          fits = and_both (eqb start start) (p start) (eq-eqb start start refl) q
      go false q =
          subst (λ (t : Bool). Searched number only beside (tells_at (cond (not t) (refused number) accepted) place)) (sym q)
          (record {
            exactly = (
              λ h s. not_true (only s) (λ e. clash (p start)
                  (subst (λ (x : ℕ). p x ≡ true) (here s e) (and_right (eqb s start) (p s) e)) q),
              λ h. refl,
            );
            otherwise = λ h. absurd (h refl);
          })
