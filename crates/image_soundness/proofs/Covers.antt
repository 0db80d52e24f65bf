-- How often the entries cover a block, and the sum of that over the card.
-- Assumes nothing.
use mathlib.Core.Path.{◌≡◌, refl, ap, ap₂, ◌∙◌}
use mathlib.Core.Logic.{◌⊎◌, inl, inr, ⊎_elim}
use mathlib.Core.Bool.{Bool, true, false, not, ◌&&◌, cond}
use mathlib.Core.List.{List, [], ◌∷◌, ◌++◌}
use Prim.Native.Nat.{ℕ, zero, suc, ◌+◌, ◌-◌, ◌≤◌, ◌<◌, min}
use native.Mathlib.Nat.{zero-add}
use native.Mathlib.Omega.{arith}
use lib.Dec.{leb, ltb}
use borrow.Author.Tests.{leb-true, ltb-true, le-leb, lt-ltb, not-true}
use Rattle.map_blocks.specs.Maps.{in_run}
use Rattle.laws.proofs.Bools.{and_left, and_right, and_both, order}
use Rattle.survey.specs.Survey.{blocks, free_of, counts_of}
use Rattle.survey.proofs.Blocks.{blocks_join}
use Rattle.catalogue.specs.Entries.{held}
use Rattle.catalogue.specs.declared.Entry.{Entry}
use Rattle.catalogue_standings.specs.Standings.{standing_of, is_damaged}
use Rattle.image_soundness.specs.Sound.{coverings, undamaged}
use Rattle.image_soundness.proofs.Damage.{extent_inside, extent_taken, still_undamaged}

-- 1 where a test holds
abbrev pub one : Bool → ℕ
one t = cond t 1 0

pub decide : (b : Bool) → (b ≡ true) ⊎ (b ≡ false)
decide true = inl refl
decide false = inr refl

pub same_one : (a b : Bool) → one a ≡ one b → a ≡ b
same_one true true e = refl
same_one true false e = absurd (omega arith)
same_one false true e = absurd (omega arith)
same_one false false e = refl

-- a block of a run
pub run_in : (s l b : ℕ) → s ≤ b → b < s + l → in_run s l b ≡ true
run_in s l b p q = and_both (leb s b) (ltb b (s + l)) (le-leb s b p) (lt-ltb b (s + l) q)

pub in_run_lem : (s l b : ℕ) → in_run s l b ≡ true → (s ≤ b) × (b < s + l)
in_run_lem s l b e = (
  leb-true s b (and_left (leb s b) (ltb b (s + l)) e),
  ltb-true b (s + l) (and_right (leb s b) (ltb b (s + l)) e),
)

pub run_out : (s l b : ℕ) → s + l ≤ b → in_run s l b ≡ false
run_out s l b h = by (in_run s l b) refl
  where
    by : (t : Bool) → in_run s l b ≡ t → t ≡ false
    by false e = refl
    by true e = let r = in_run_lem s l b e in absurd (omega arith)

pub run_before : (s l b : ℕ) → b < s → in_run s l b ≡ false
run_before s l b h = by (in_run s l b) refl
  where
    by : (t : Bool) → in_run s l b ≡ t → t ≡ false
    by false e = refl
    by true e = let r = in_run_lem s l b e in absurd (omega arith)

-- sums over the numbers below m
unfoldable pub total : (ℕ → ℕ) → ℕ → ℕ
total g zero = 0
total g (suc m) = total g m + g m

pub total_add : (g h : ℕ → ℕ) (m : ℕ) → total (λ b. g b + h b) m ≡ total g m + total h m
unfolding total
total_add g h zero = refl
total_add g h (suc m) = let e = total_add g h m in omega arith

pub total_same : (g h : ℕ → ℕ) (m : ℕ) → ((b : ℕ) → b < m → g b ≡ h b) → total g m ≡ total h m
unfolding total
total_same g h zero e = refl
total_same g h (suc m) e = ap₂ ◌+◌ (total_same g h m (λ b l. e b (omega arith))) (e m (omega arith))

pub total_none : (m : ℕ) → total (λ b. 0) m ≡ 0
unfolding total
total_none zero = refl
total_none (suc m) = let e = total_none m in omega arith

pub total_all : (m : ℕ) → total (λ b. 1) m ≡ m
unfolding total
total_all zero = refl
total_all (suc m) = let e = total_all m in omega arith

total_run : (s l m : ℕ) → total (λ b. one (in_run s l b)) m ≡ min l (m - s)
unfolding total
total_run s l zero = omega arith
total_run s l (suc m) =
    let e : total (λ b. one (in_run s l b)) m ≡ min l (m - s) = total_run s l m in
    ⊎_elim
    (λ (lo : m < s). let z : one (in_run s l m) ≡ 0 = ap one (run_before s l m lo) in omega arith)
    (λ (hi : s ≤ m).
    ⊎_elim
    (λ (u : m < s + l). let z : one (in_run s l m) ≡ 1 = ap one (run_in s l m hi u) in omega arith)
    (λ (u : s + l ≤ m). let z : one (in_run s l m) ≡ 0 = ap one (run_out s l m u) in omega arith)
    (order m (s + l)))
    (order m s)

-- the free blocks of a survey as such a sum
free_more : (f : ℕ → Bool) (m : ℕ) → free_of (blocks f 0 (suc m)) ≡ free_of (blocks f 0 m) + one (f m)
unfolding blocks free_of
free_more f m =
    let e : suc m ≡ m + 1 = omega arith in
    ap (λ (k : ℕ). free_of (blocks f 0 k)) e ∙ ap free_of (blocks_join f 0 m 1) ∙ joined (blocks f 0 m) (f (0 + m))
    ∙ ap (λ (k : ℕ). free_of (blocks f 0 m) + one (f k)) (zero-add m)
  where
    joined : (xs : List Bool) (x : Bool) → free_of (xs ++ (x ∷ [])) ≡ free_of xs + one x
    joined [] x = omega arith
    joined (y ∷ xs) x = let e = joined xs x in omega arith

pub free_total : (f : ℕ → Bool) (m : ℕ) → (counts_of f m).free ≡ total (λ b. one (f b)) m
unfolding counts_of total blocks free_of
free_total f zero = refl
free_total f (suc m) = free_more f m ∙ ap (λ (x : ℕ). x + one (f m)) (free_total f m)

not_damaged : (a b : Bool) → (not a && b) ≡ true → a ≡ false
not_damaged a b e = not-true a (and_left (not a) b e)

module _ (n : ℕ) (f : ℕ → Bool) where
  pub head_undamaged : (e : Entry) (es : List Entry) → undamaged n f (e ∷ es) ≡ true → is_damaged (standing_of n f e) ≡ false
  unfolding undamaged
  head_undamaged e es u = not_damaged (is_damaged (standing_of n f e)) (undamaged n f es) u

  pub tail_undamaged : (e : Entry) (es : List Entry) → undamaged n f (e ∷ es) ≡ true → undamaged n f es ≡ true
  unfolding undamaged
  tail_undamaged e es u = and_right (not (is_damaged (standing_of n f e))) (undamaged n f es) u

  pub both_undamaged : (e : Entry) (es : List Entry) → is_damaged (standing_of n f e) ≡ false → undamaged n f es ≡ true
      → undamaged n f (e ∷ es) ≡ true
  unfolding undamaged
  both_undamaged e es d u = and_both (not (is_damaged (standing_of n f e))) (undamaged n f es) (ap not d) u

  -- no block from n on is covered
  pub cover_outside : (es : List Entry) → undamaged n f es ≡ true → (b : ℕ) → n ≤ b → coverings es b ≡ 0
  unfolding coverings
  cover_outside [] u b h = refl
  cover_outside (e ∷ es) u b h =
      let i : e.start + e.length ≤ n = extent_inside n e f (head_undamaged e es u) in
      ap₂ ◌+◌ (ap one (run_out e.start e.length b (omega arith))) (cover_outside es (tail_undamaged e es u) b h)

  -- the covers make what the entries hold
  pub cover_total : (es : List Entry) → undamaged n f es ≡ true → total (coverings es) n ≡ held es
  unfolding coverings held
  cover_total [] u = total_same (coverings []) (λ b. 0) n (λ b l. refl) ∙ total_none n
  cover_total (e ∷ es) u =
      let i : e.start + e.length ≤ n = extent_inside n e f (head_undamaged e es u) in
      let r : total (λ b. one (in_run e.start e.length b)) n ≡ e.length = total_run e.start e.length n
      ∙ omega arith in
      total_add (λ b. one (in_run e.start e.length b)) (coverings es) n
      ∙ ap₂ ◌+◌ r (cover_total es (tail_undamaged e es u))

pub none_undamaged : (n : ℕ) (g : ℕ → Bool) → undamaged n g [] ≡ true
unfolding undamaged
none_undamaged n g = refl

-- the same entries with other blocks free, none of them covered
pub still_all : (n : ℕ) (f g : ℕ → Bool) (es : List Entry) → undamaged n f es ≡ true
    → ((b : ℕ) → b < n → 1 ≤ coverings es b → f b ≡ false → g b ≡ false) → undamaged n g es ≡ true
unfolding coverings
still_all n f g [] u h = none_undamaged n g
still_all n f g (e ∷ es) u h =
    let d = head_undamaged n f e es u in
    let i : e.start + e.length ≤ n = extent_inside n e f d in
    both_undamaged n g e es
    (still_undamaged n e f g d (λ b p q.
    let r : one (in_run e.start e.length b) ≡ 1 = ap one (run_in e.start e.length b p q) in
    h b (omega arith) (omega arith) (extent_taken n e f d b p q)))
    (still_all n f g es (tail_undamaged n f e es u) (λ b l c t. h b l (omega arith) t))
