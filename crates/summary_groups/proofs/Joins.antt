-- A group from its two halves, and from what is known of its blocks.
-- Assumes nothing.
use Rattle.std.proofs.Common.{◌≡◌, ℕ, ◌+◌, ◌%◌, ◌^◌, ◌<◌, ◌≤◌, max, Bool, true, false, cond, eqb, sym, refl, ap, ◌∙◌, subst}
use Rattle.std.proofs.Common.{⊎_elim, arith, eqb-true}
use borrow.Author.Tests.{eqb-false}
use Rattle.survey_bytes.specs.Runs.{head_of, tail_of, longest_of}
use Rattle.laws.proofs.Bools.{order}
use Rattle.map_blocks.proofs.Runs.{all_break}
use Rattle.survey_words.proofs.Joining.{longest_append}
use Rattle.survey.specs.Survey.{blocks}
use Rattle.survey.proofs.Blocks.{blocks_join, blocks_same}
use Rattle.summary_groups.specs.declared.Group.{Group}
use Rattle.summary_groups.specs.Groups.{group_of, joined_of}
use Rattle.summary_groups.proofs.Ends.{HeadRun, TailRun, head_run, tail_run, head_is, tail_is, longest_most}

pub group_eq : {a a' b b' c c' : ℕ} → a ≡ a' → b ≡ b' → c ≡ c' → ◌≡◌ {A = Group} (record { head = a; tail = b; longest = c })
    (record { head = a'; tail = b'; longest = c' })
group_eq p q r = cc

module _ (f : ℕ → Bool) where
  pub group_is : (b m h t l : ℕ) → HeadRun f b m h → TailRun f b m t → l ≡ longest_of (blocks f b m)
      → ◌≡◌ {A = Group} (record { head = h; tail = t; longest = l }) (group_of f b m)
  unfolding group_of
  group_is b m h t l p q e = group_eq (head_is f b m h p) (tail_is f b m t q) e

  -- where no block is free
  pub group_none : (b m : ℕ) → ((t : ℕ) → b ≤ t → f t ≡ false) → ◌≡◌ {A = Group} (record { head = 0; tail = 0; longest = 0 })
      (group_of f b m)
  group_none b m none =
      let l : longest_of (blocks f b m) ≤ 0 = longest_most f b m 0 (λ t a c. all_break f t 1 t (omega arith) (omega arith)
      (none t a)) in
      group_is b m 0 0 0
      (record { within = omega arith; held = λ t a c. absurd (omega arith); stop = λ t a c. none t (omega arith) })
      (record { within = omega arith; held = λ t a c. absurd (omega arith); stop = λ t a c. none t c }) (omega arith)

  -- a run of m blocks from b on, and of the m blocks behind them
  head_join : (b m r s : ℕ) → m + m < 2 ^ 32 → HeadRun f b m r → HeadRun f (b + m) m s → (y : Bool) → eqb r m ≡ y
      → HeadRun f b (m + m) (cond y ((m + s) % 2 ^ 32) r)
  head_join b m r s small h g true e =
      let z : r ≡ m = eqb-true r m e in
      let u : s ≤ m = g.within in
      let w : m + s ≡ (m + s) % 2 ^ 32 = omega arith in
      subst (HeadRun f b (m + m)) w (record {
        within = omega arith;
        held = λ t a c. ⊎_elim (λ l. h.held t a (omega arith)) (λ l. g.held t l (omega arith)) (order t (b + m));
        stop = λ t a c. g.stop t (omega arith) (omega arith);
      })
  head_join b m r s small h g false e =
      let z : (r ≡ m → ⊥) = eqb-false r m e in
      let u : r ≤ m = h.within in record {
        within = omega arith;
        held = h.held;
        stop = λ t a c. h.stop t a (omega arith);
      }

  tail_join : (b m r s : ℕ) → m + m < 2 ^ 32 → TailRun f b m r → TailRun f (b + m) m s → (y : Bool) → eqb s m ≡ y
      → TailRun f b (m + m) (cond y ((m + r) % 2 ^ 32) s)
  tail_join b m r s small h g true e =
      let z : s ≡ m = eqb-true s m e in
      let u : r ≤ m = h.within in
      let w : m + r ≡ (m + r) % 2 ^ 32 = omega arith in
      subst (TailRun f b (m + m)) w (record {
        within = omega arith;
        held = λ t a c. ⊎_elim (λ l. h.held t (omega arith) l) (λ l. g.held t (omega arith) (omega arith)) (order t (b + m));
        stop = λ t a c. h.stop t (omega arith) c;
      })
  tail_join b m r s small h g false e =
      let z : (s ≡ m → ⊥) = eqb-false s m e in
      let u : s ≤ m = g.within in record {
        within = omega arith;
        held = λ t a c. g.held t (omega arith) (omega arith);
        stop = λ t a c. g.stop t (omega arith) (omega arith);
      }

  longest_join : (b m : ℕ) → m + m < 2 ^ 32
      → max (max (longest_of (blocks f b m)) (longest_of (blocks f (b + m) m))) ((tail_of (blocks f b m)
      + head_of (blocks f (b + m) m)) % 2 ^ 32) ≡ longest_of (blocks f b (m + m))
  longest_join b m small =
      let u : tail_of (blocks f b m) ≤ m = (tail_run f b m).within in
      let v : head_of (blocks f (b + m) m) ≤ m = (head_run f (b + m) m).within in
      let w : (tail_of (blocks f b m) + head_of (blocks f (b + m) m)) % 2 ^ 32 ≡ tail_of (blocks f b m)
      + head_of (blocks f (b + m) m) = omega arith in
      ap (max (max (longest_of (blocks f b m)) (longest_of (blocks f (b + m) m)))) w ∙ sym
      (ap longest_of (blocks_join f b m m) ∙ longest_append (blocks f b m) (blocks f (b + m) m))

  pub joined_right : (b m : ℕ) → m + m < 2 ^ 32 → joined_of (group_of f b m) (group_of f (b + m) m) m ≡ group_of f b (m + m)
  unfolding group_of
  joined_right b m small =
      group_is b (m + m) _ _ _
      (head_join b m (head_of (blocks f b m)) (head_of (blocks f (b + m) m)) small (head_run f b m) (head_run f (b + m) m)
      (eqb (head_of (blocks f b m)) m) refl)
      (tail_join b m (tail_of (blocks f b m)) (tail_of (blocks f (b + m) m)) small (tail_run f b m) (tail_run f (b + m) m)
      (eqb (tail_of (blocks f (b + m) m)) m) refl)
      (longest_join b m small)

-- the same blocks, the same group
pub group_same : (f g : ℕ → Bool) (b b' m : ℕ) → ((j : ℕ) → j < m → f (b + j) ≡ g (b' + j)) → group_of f b m ≡ group_of g b' m
unfolding group_of
group_same f g b b' m h = let e = blocks_same f g b b' m h in group_eq (ap head_of e) (ap tail_of e) (ap longest_of e)
