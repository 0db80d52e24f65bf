-- The ends and the longest run of m blocks from b on, block by block: what each number says, and that it is the only one.
-- Assumes nothing.
use Rattle.std.proofs.Common.{◌≡◌, ℕ, zero, suc, ◌+◌, ◌-◌, ◌<◌, ◌≤◌, Bool, true, false, cond, ◌&&◌, eqb, length, sym, refl, ap}
use Rattle.std.proofs.Common.{subst, ⊎_elim, eq-or-lt_of_le, arith, eqb-true}
use borrow.Author.Tests.{eqb-false}
use Rattle.survey_bytes.specs.Runs.{head_of, tail_of, longest_of}
use Rattle.map_blocks.specs.Blocks.{all}
use Rattle.laws.proofs.Bools.{order, clash}
use Rattle.map_blocks.proofs.Runs.{all_intro, all_elim}
use Rattle.survey.specs.Survey.{blocks}

pub record HeadRun (f : ℕ → Bool) (b m r : ℕ) : Type 0 where
  pub within : r ≤ m
  pub held : (t : ℕ) → b ≤ t → t < b + r → f t ≡ true
  pub stop : (t : ℕ) → t ≡ b + r → r < m → f t ≡ false

pub record TailRun (f : ℕ → Bool) (b m r : ℕ) : Type 0 where
  pub within : r ≤ m
  pub held : (t : ℕ) → b + m ≤ t + r → t < b + m → f t ≡ true
  pub stop : (t : ℕ) → suc (t + r) ≡ b + m → b ≤ t → f t ≡ false

module _ (f : ℕ → Bool) where
  -- ---- the head

  head_step : (b m : ℕ) (x : Bool) → f b ≡ x → (r : ℕ) → HeadRun f (suc b) m r → HeadRun f b (suc m) (cond x (suc r) 0)
  head_step b m true e r h = record {
    within = omega arith;
    held = λ t a c. ⊎_elim (λ q. subst (λ (x : ℕ). f x ≡ true) q e) (λ l. h.held t l (omega arith)) (eq-or-lt_of_le a);
    stop = λ t a c. h.stop t (omega arith) (omega arith);
  }
  head_step b m false e r h = record {
    within = omega arith;
    held = λ t a c. absurd (omega arith);
    stop = λ t a c. let q : b ≡ t = omega arith in subst (λ (x : ℕ). f x ≡ false) q e;
  }

  pub head_run : (b m : ℕ) → HeadRun f b m (head_of (blocks f b m))
  unfolding blocks head_of
  head_run b zero = record { within = omega arith; held = λ t a c. absurd (omega arith); stop = λ t a c. absurd (omega arith) }
  head_run b (suc m) = head_step b m (f b) refl (head_of (blocks f (suc b) m)) (head_run (suc b) m)

  head_not : (b m r s : ℕ) → HeadRun f b m r → HeadRun f b m s → r < s → ⊥
  head_not b m r s h g l =
      let u : s ≤ m = g.within in
      clash (f (b + r)) (g.held (b + r) (omega arith) (omega arith)) (h.stop (b + r) refl (omega arith))

  -- the only number that says this
  pub head_is : (b m r : ℕ) → HeadRun f b m r → r ≡ head_of (blocks f b m)
  head_is b m r h =
      let g : HeadRun f b m (head_of (blocks f b m)) = head_run b m in
      ⊎_elim (λ l. absurd (head_not b m r (head_of (blocks f b m)) h g l))
      (λ a. ⊎_elim (λ l. absurd (head_not b m (head_of (blocks f b m)) r g h l)) (λ c. omega arith)
      (order (head_of (blocks f b m)) r)) (order r (head_of (blocks f b m)))

  -- ---- the tail

  pub blocks_length : (b m : ℕ) → length (blocks f b m) ≡ m
  unfolding blocks
  blocks_length b zero = refl
  blocks_length b (suc m) = ap suc (blocks_length (suc b) m)

  tail_step : (b m : ℕ) (x : Bool) → f b ≡ x → (r : ℕ) (y : Bool) → eqb r m ≡ y → TailRun f (suc b) m r
      → TailRun f b (suc m) (cond (x && y) (suc r) r)
  tail_step b m true e r true q h =
      let z : r ≡ m = eqb-true r m q in record {
        within = omega arith;
        held = λ t a c. ⊎_elim (λ w. subst (λ (x : ℕ). f x ≡ true) w e) (λ l. h.held t (omega arith) (omega arith))
            (eq-or-lt_of_le (λ-le a z));
        stop = λ t a c. absurd (omega arith);
      }
    where
      λ-le : {t : ℕ} → b + suc m ≤ t + suc r → r ≡ m → b ≤ t
      λ-le a z = omega arith
  tail_step b m true e r false q h =
      let w : r ≤ m = h.within in
      let z : (r ≡ m → ⊥) = eqb-false r m q in record {
        within = omega arith;
        held = λ t a c. h.held t (omega arith) (omega arith);
        stop = λ t a c. h.stop t (omega arith) (omega arith);
      }
  tail_step b m false e r y q h =
      let w : r ≤ m = h.within in record {
        within = omega arith;
        held = λ t a c. h.held t (omega arith) (omega arith);
        stop = λ t a c. ⊎_elim (λ w. subst (λ (x : ℕ). f x ≡ false) w e) (λ l. h.stop t (omega arith) l) (eq-or-lt_of_le c);
      }

  pub tail_run : (b m : ℕ) → TailRun f b m (tail_of (blocks f b m))
  unfolding blocks tail_of
  tail_run b zero = record { within = omega arith; held = λ t a c. absurd (omega arith); stop = λ t a c. absurd (omega arith) }
  tail_run b (suc m) =
      subst (λ (n : ℕ). TailRun f b (suc m) (cond (f b && eqb (tail_of (blocks f (suc b) m)) n)
      (suc (tail_of (blocks f (suc b) m))) (tail_of (blocks f (suc b) m)))) (sym (blocks_length (suc b) m))
      (tail_step b m (f b) refl (tail_of (blocks f (suc b) m)) (eqb (tail_of (blocks f (suc b) m)) m) refl (tail_run (suc b) m))

  tail_not : (b m r s : ℕ) → TailRun f b m r → TailRun f b m s → r < s → ⊥
  tail_not b m r s h g l =
      let u : s ≤ m = g.within in
      clash (f (b + m - suc r)) (g.held (b + m - suc r) (omega arith) (omega arith)) (h.stop (b + m - suc r) (omega arith)
      (omega arith))

  pub tail_is : (b m r : ℕ) → TailRun f b m r → r ≡ tail_of (blocks f b m)
  tail_is b m r h =
      let g : TailRun f b m (tail_of (blocks f b m)) = tail_run b m in
      ⊎_elim (λ l. absurd (tail_not b m r (tail_of (blocks f b m)) h g l))
      (λ a. ⊎_elim (λ l. absurd (tail_not b m (tail_of (blocks f b m)) r g h l)) (λ c. omega arith)
      (order (tail_of (blocks f b m)) r)) (order r (tail_of (blocks f b m)))

  -- ---- the longest run

  head_least : (b m k : ℕ) → k ≤ m → all f b k ≡ true → k ≤ head_of (blocks f b m)
  head_least b m k a e =
      let h : HeadRun f b m (head_of (blocks f b m)) = head_run b m in
      ⊎_elim (λ l. absurd (clash (f (b + head_of (blocks f b m))) (all_elim f b k e (b + head_of (blocks f b m)) (omega arith)
      (omega arith)) (h.stop (b + head_of (blocks f b m)) refl (omega arith))))
      (λ g. g) (order (head_of (blocks f b m)) k)

  -- no run within the blocks is longer
  pub longest_least : (b m t k : ℕ) → b ≤ t → t + k ≤ b + m → all f t k ≡ true → k ≤ longest_of (blocks f b m)
  unfolding blocks longest_of
  longest_least b zero t k a c e = omega arith
  longest_least b (suc m) t k a c e =
      ⊎_elim (λ q. let g : k ≤ head_of (blocks f b (suc m)) = head_least b (suc m) k (omega arith)
      (subst (λ (x : ℕ). all f x k ≡ true) (sym q) e) in omega arith)
      (λ l. let g : k ≤ longest_of (blocks f (suc b) m) = longest_least (suc b) m t k l (omega arith) e in omega arith)
      (eq-or-lt_of_le a)

  head_most : (b m c : ℕ) → (suc c ≤ m → all f b (suc c) ≡ false) → head_of (blocks f b m) ≤ c
  head_most b m c none =
      let h : HeadRun f b m (head_of (blocks f b m)) = head_run b m in
      ⊎_elim (λ l. absurd (clash (all f b (suc c)) (all_intro f b (suc c) (λ t u v. h.held t u (omega arith)))
      (none (omega (arith, h.within)))))
      (λ g. g) (order c (head_of (blocks f b m)))

  -- and one is as long
  pub longest_most : (b m c : ℕ) → ((t : ℕ) → b ≤ t → t + suc c ≤ b + m → all f t (suc c) ≡ false)
      → longest_of (blocks f b m) ≤ c
  unfolding blocks longest_of
  longest_most b zero c none = omega arith
  longest_most b (suc m) c none =
      let g : head_of (blocks f b (suc m)) ≤ c = head_most b (suc m) c (λ l. none b (omega arith) (omega arith)) in
      let k : longest_of (blocks f (suc b) m) ≤ c = longest_most (suc b) m c (λ t a d. none t (omega arith) (omega arith)) in
      omega arith
