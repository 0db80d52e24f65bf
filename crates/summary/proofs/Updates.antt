-- Laws of an update: what it aims at, that the length stays, and that the map's own summary becomes the changed map's own.
-- Assumes nothing.
use mathlib.Core.Path.{◌≡◌, refl, sym, ap, ap₂, ◌∙◌, subst}
use mathlib.Core.Logic.{◌⊎◌, inl, inr, ⊎_elim}
use mathlib.Core.Bool.{Bool, true, false, ◌&&◌, cond}
use mathlib.Core.List.{List}
use Prim.Native.Nat.{ℕ, zero, suc, ◌+◌, ◌-◌, ◌*◌, ◌/◌, ◌≤◌, ◌<◌}
use native.Mathlib.Nat.{zero-add}
use native.Mathlib.Omega.{arith}
use lib.Dec.{eqb, leb, ltb}
use lib.ListN.{length}
use borrow.Author.Tests.{eq-eqb, ne_eqb, le-ltb, lt-leb}
use Rattle.laws.proofs.Bools.{order, clash, not_true}
use Rattle.map_blocks.specs.Blocks.{free}
use Rattle.map_blocks.specs.Maps.{marked, in_run}
use Rattle.map_blocks.proofs.Maps.{marked_length, map_free}
use Rattle.summary_groups.specs.declared.Group.{Group}
use Rattle.summary_groups.specs.Groups.{Span, place, power, joined_of}
use Rattle.summary_groups.specs.Places.{Sited, Apart}
use Rattle.summary_groups.proofs.Joins.{group_same}
use Rattle.summary_groups.proofs.Places.{power_power, power_small, below_zero, sited_all, sited_left, sited_right}
use Rattle.summary_groups.proofs.Places.{Power, sited_pos, sited_even, sited_index}
use Rattle.summary.specs.Summary.{group_in, group_at, summary_of, usable, own_summary, summary_length, Matched}
use Rattle.summary.specs.Updates.{changed, idle, built_from, updated_in, updated_summary}
use Rattle.summary.specs.Walks.{Idle, Target, RestIn}
use Rattle.summary.proofs.Idle.{is_changed, not_changed, built-kept, built-joined}
use Rattle.summary.proofs.Idle.{is-idle, idle-low, idle-high, idle-same}
use Rattle.summary.proofs.Rebuilding.{equal}
use Rattle.summary.proofs.Numbers.{numbers_length, numbers_at, numbers_only, summary_at, summary_only}
use Rattle.summary.proofs.Sites.{group_at_lem, at_halves}
use Rattle.summary.proofs.Usable.{below_n, from_n}

-- ---- group by group

module _ (f : ℕ → Bool) (p : ℕ) (s : List ℕ) (start count : ℕ) where
  module _ (m g first size : ℕ) (sited : Sited p g first size) where
    -- a group of one word
    after-word : size ≡ 1 → updated_in (suc m) f p s start count g ≡ cond (changed start count (place p g)) (group_at f p g)
        (group_in s g)
    unfolding updated_in
    after-word e =
        ap (λ (t : Bool). cond (changed start count (place p g))
        (cond t (group_at f p g) (built_from start count p s g (updated_in m f p s start count (2 * g + 1))
        (updated_in m f p s start count (2 * g + 2))
        ((place p g).size / 2))) (group_in s g))
        (eq-eqb (place p g).size 1 (ap (λ (l : Span). l.size) sited.lies ∙ e))

    -- a group of more
    after-halves : (size ≡ 1 → ⊥) → updated_in (suc m) f p s start count g
        ≡ cond (changed start count (place p g))
        (built_from start count p s g (updated_in m f p s start count (2 * g + 1)) (updated_in m f p s start count (2 * g + 2))
        (size / 2))
        (group_in s g)
    unfolding updated_in
    after-halves ne =
        let z : (place p g).size ≡ size = ap (λ (l : Span). l.size) sited.lies in
        ap (λ (t : Bool). cond (changed start count (place p g))
        (cond t (group_at f p g) (built_from start count p s g (updated_in m f p s start count (2 * g + 1))
        (updated_in m f p s start count (2 * g + 2))
        ((place p g).size / 2))) (group_in s g)) (ne_eqb (place p g).size 1 (λ q. ne (sym z ∙ q)))
        ∙ ap (λ (x : ℕ). cond (changed start count (place p g))
        (built_from start count p s g (updated_in m f p s start count (2 * g + 1)) (updated_in m f p s start count (2 * g + 2))
        (x / 2))
        (group_in s g)) z

  -- a group that has no changed word
  passed : (m g : ℕ) → changed start count (place p g) ≡ false → updated_in m f p s start count g ≡ group_in s g
  unfolding updated_in
  passed zero g e = refl
  passed (suc m) g e =
      ap (λ (t : Bool). cond t (cond (eqb (place p g).size 1) (group_at f p g)
      (built_from start count p s g (updated_in m f p s start count (2 * g + 1)) (updated_in m f p s start count (2 * g + 2))
      ((place p g).size / 2)))
      (group_in s g)) e

  -- once a group can be halved often enough, it does not matter how often
  enough : (m m' g first size : ℕ) → Sited p g first size → size ≤ m → size ≤ m'
      → updated_in m f p s start count g ≡ updated_in m' f p s start count g
  enough zero m' g first size sited a b = absurd (omega (arith, sited_pos p g first size sited))
  enough (suc m) zero g first size sited a b = absurd (omega (arith, sited_pos p g first size sited))
  enough (suc m) (suc m') g first size sited a b =
      ⊎_elim (λ e. after-word m g first size sited e ∙ sym (after-word m' g first size sited e))
      (λ ne. let even : size ≡ 2 * (size / 2) = sited_even p g first size sited ne in
      let pos : 0 < size = sited_pos p g first size sited in
      after-halves m g first size sited ne
      ∙ ap₂ (λ (x y : Group). cond (changed start count (place p g)) (built_from start count p s g x y (size / 2))
      (group_in s g))
      (enough m m' (2 * g + 1) first (size / 2) (sited_left p g first size sited ne) (omega arith) (omega arith))
      (enough m m' (2 * g + 2) (first + size / 2) (size / 2) (sited_right p g first size sited ne) (omega arith) (omega arith))
      ∙ sym (after-halves m' g first size sited ne)) (equal size 1)

  -- where the groups that have no changed word are right, and each was as its halves told, all are right afterwards
  module _ (rest : (h : ℕ) → h + 1 < 2 * p → changed start count (place p h) ≡ false → group_in s h ≡ group_at f p h)
      (was : (g first size : ℕ) → Sited p g first size → (size ≡ 1 → ⊥)
      → group_in s g ≡ joined_of (group_in s (2 * g + 1)) (group_in s (2 * g + 2)) (64 * (size / 2))) where
    module _ (g first size : ℕ) (sited : Sited p g first size) (ne : size ≡ 1 → ⊥) (x y : Group)
        (a : x ≡ group_at f p (2 * g + 1)) (b : y ≡ group_at f p (2 * g + 2)) where
      joined_right : joined_of x y (64 * (size / 2)) ≡ group_at f p g
      joined_right = ap₂ (λ (v w : Group). joined_of v w (64 * (size / 2))) a b ∙ at_halves f p g first size sited ne

      left_is : place p (2 * g + 1) ≡ record { first = first; size = size / 2 }
      left_is = (sited_left p g first size sited ne).lies

      right_is : place p (2 * g + 2) ≡ record { first = first + size / 2; size = size / 2 }
      right_is = (sited_right p g first size sited ne).lies

      kept_left : idle start count p s (2 * g + 1) x ≡ true → group_in s g ≡ group_at f p g
      kept_left e =
          let u : start + count ≤ 64 * ((place p (2 * g + 1)).first + (place p (2 * g + 1)).size) =
          idle-high p s start count (2 * g + 1) x e in
          let c : (place p (2 * g + 1)).first ≡ first = ap (λ (l : Span). l.first) left_is in
          let d : (place p (2 * g + 1)).size ≡ size / 2 = ap (λ (l : Span). l.size) left_is in
          let v : (place p (2 * g + 2)).first ≡ first + size / 2 = ap (λ (l : Span). l.first) right_is in
          let i : 2 * g + 2 + 1 < 2 * p =
          sited_index p (2 * g + 2) (first + size / 2) (size / 2) (sited_right p g first size sited ne) in
          was g first size sited ne
          ∙ ap₂ (λ (v w : Group). joined_of v w (64 * (size / 2))) (sym (idle-same p s start count (2 * g + 1) x e) ∙ a)
          (rest (2 * g + 2) i (not_changed start count (place p (2 * g + 2)) (inl (omega arith))))
          ∙ at_halves f p g first size sited ne

      kept-right : idle start count p s (2 * g + 2) y ≡ true → group_in s g ≡ group_at f p g
      kept-right e =
          let u : 64 * (place p (2 * g + 2)).first ≤ start = idle-low p s start count (2 * g + 2) y e in
          let c : (place p (2 * g + 1)).first ≡ first = ap (λ (l : Span). l.first) left_is in
          let d : (place p (2 * g + 1)).size ≡ size / 2 = ap (λ (l : Span). l.size) left_is in
          let v : (place p (2 * g + 2)).first ≡ first + size / 2 = ap (λ (l : Span). l.first) right_is in
          let i : 2 * g + 1 + 1 < 2 * p =
          sited_index p (2 * g + 1) first (size / 2) (sited_left p g first size sited ne) in
          was g first size sited ne
          ∙ ap₂ (λ (v w : Group). joined_of v w (64 * (size / 2)))
          (rest (2 * g + 1) i (not_changed start count (place p (2 * g + 1)) (inr (omega arith))))
          (sym (idle-same p s start count (2 * g + 2) y e) ∙ b)
          ∙ at_halves f p g first size sited ne

      built-right : built_from start count p s g x y (size / 2) ≡ group_at f p g
      built-right = go (idle start count p s (2 * g + 1) x) (idle start count p s (2 * g + 2) y) refl refl
        where
          go : (t u : Bool) → idle start count p s (2 * g + 1) x ≡ t → idle start count p s (2 * g + 2) y ≡ u
              → built_from start count p s g x y (size / 2) ≡ group_at f p g
          go true u q r = built-kept p s start count g x y (size / 2) (inl q) ∙ kept_left q
          go false true q r = built-kept p s start count g x y (size / 2) (inr r) ∙ kept-right r
          go false false q r = built-joined p s start count g x y (size / 2) q r ∙ joined_right

    after-right : (m g first size : ℕ) → Sited p g first size → size ≤ m → updated_in m f p s start count g ≡ group_at f p g
    after-right zero g first size sited a = absurd (omega (arith, sited_pos p g first size sited))
    after-right (suc m) g first size sited a =
        ⊎_elim (λ e. after-word m g first size sited e ∙ settled (group_at f p g) refl)
        (λ ne. let even : size ≡ 2 * (size / 2) = sited_even p g first size sited ne in
        let pos : 0 < size = sited_pos p g first size sited in
        after-halves m g first size sited ne
        ∙ settled (built_from start count p s g (updated_in m f p s start count (2 * g + 1))
        (updated_in m f p s start count (2 * g + 2)) (size / 2))
        (built-right g first size sited ne (updated_in m f p s start count (2 * g + 1))
        (updated_in m f p s start count (2 * g + 2))
        (after-right m (2 * g + 1) first (size / 2) (sited_left p g first size sited ne) (omega arith))
        (after-right m (2 * g + 2) (first + size / 2) (size / 2) (sited_right p g first size sited ne) (omega arith))))
        (equal size 1)
      where
        by : (x : Group) → x ≡ group_at f p g → (t : Bool) → changed start count (place p g) ≡ t → cond t x (group_in s g)
            ≡ group_at f p g
        by x e true q = e
        by x e false q = rest g (sited_index p g first size sited) q

        settled : (x : Group) → x ≡ group_at f p g → cond (changed start count (place p g)) x (group_in s g) ≡ group_at f p g
        settled x e = by x e (changed start count (place p g)) refl

  -- ---- what an update aims at

  module _ (some : 0 < count) where
    meeting : (g : ℕ) → (Apart p (start / 64) ((start + count + 63) / 64) g → ⊥) → changed start count (place p g) ≡ true
    meeting g m =
        ⊎_elim (λ a. ⊎_elim (λ b. is_changed start count (place p g) some (omega arith) (omega arith)) (λ b. absurd (m (inr b)))
        (order (start / 64) ((place p g).first + (place p g).size))) (λ a. absurd (m (inl a)))
        (order (place p g).first ((start + count + 63) / 64))

    abbrev aim : ℕ → Group
    aim g = updated_in p f p s start count g

    from-idle : (h : ℕ) → Idle p (start / 64) ((start + count + 63) / 64) s aim h → idle start count p s h (aim h) ≡ true
    from-idle h i =
        let a : (place p h).first ≤ start / 64 = i.low in
        let b : (start + count + 63) / 64 ≤ (place p h).first + (place p h).size = i.high in
        is-idle p s start count h (aim h) (omega arith) (omega arith) i.same

    to-idle : (h : ℕ) → (Idle p (start / 64) ((start + count + 63) / 64) s aim h → ⊥) → idle start count p s h (aim h) ≡ false
    to-idle h n =
        not_true (idle start count p s h (aim h)) (λ e.
        let a : 64 * (place p h).first ≤ start = idle-low p s start count h (aim h) e in
        let b : start + count ≤ 64 * ((place p h).first + (place p h).size) = idle-high p s start count h (aim h) e in
        n (record { low = omega arith; high = omega arith; same = idle-same p s start count h (aim h) e }))

    built : (g first size : ℕ) → Sited p g first size → (size ≡ 1 → ⊥)
        → (Apart p (start / 64) ((start + count + 63) / 64) g → ⊥)
        → aim g ≡ built_from start count p s g (aim (2 * g + 1)) (aim (2 * g + 2)) (size / 2)
    built g first size sited ne m =
        let i : first + size ≤ p = sited.inside in
        enough p (suc p) g first size sited (omega arith) (omega arith) ∙ after-halves p g first size sited ne
        ∙ ap (λ (t : Bool). cond t (built_from start count p s g (aim (2 * g + 1)) (aim (2 * g + 2)) (size / 2)) (group_in s g))
        (meeting g m)

    pub update-target : Target f p (start / 64) ((start + count + 63) / 64) s (updated_in p f p s start count)
    update-target = record {
      word = λ g first sited m.
          let i : first + 1 ≤ p = sited.inside in
          sym (enough p (suc p) g first 1 sited (omega arith) (omega arith) ∙ after-word p g first 1 sited refl
          ∙ ap (λ (t : Bool). cond t (group_at f p g) (group_in s g)) (meeting g m) ∙ group_at_lem f p g first 1 sited);
      halves = λ g first size sited ne m a b.
          sym (built g first size sited ne m
          ∙ built-joined p s start count g (aim (2 * g + 1)) (aim (2 * g + 2)) (size / 2) (to-idle (2 * g + 1) a)
          (to-idle (2 * g + 2) b));
      kept = λ g first size sited ne m q.
          sym (built g first size sited ne m
          ∙ built-kept p s start count g (aim (2 * g + 1)) (aim (2 * g + 2)) (size / 2)
          (⊎_elim (λ a. inl (from-idle (2 * g + 1) a)) (λ b. inr (from-idle (2 * g + 2) b)) q));
    }

-- ---- blocks that differ in the changed ones alone

module _ (f f' : ℕ → Bool) (p start count : ℕ) (outside : (b : ℕ) → (b < start) ⊎ (start + count ≤ b) → f b ≡ f' b) where
  apart : (h b : ℕ) → changed start count (place p h) ≡ false → 64 * (place p h).first ≤ b
      → b < 64 * ((place p h).first + (place p h).size) → (b < start) ⊎ (start + count ≤ b)
  apart h b e u v =
      ⊎_elim (λ a. inl a)
      (λ a. ⊎_elim (λ c. absurd (clash (changed start count (place p h))
      (is_changed start count (place p h) (omega arith) (omega arith) (omega arith)) e)) (λ c. inr c) (order b (start + count)))
      (order b start)

  same_group_lem : (h : ℕ) → changed start count (place p h) ≡ false → group_at f p h ≡ group_at f' p h
  unfolding group_at
  same_group_lem h e =
      group_same f f' (64 * (place p h).first) (64 * (place p h).first) (64 * (place p h).size) (λ j l.
      outside (64 * (place p h).first + j) (apart h (64 * (place p h).first + j) e (omega arith) (omega arith)))

  module _ (s : List ℕ) (was : s ≡ summary_of f p) where
    right-was : (h : ℕ) → h + 1 < 2 * p → group_in s h ≡ group_at f p h
    right-was h u = subst (λ (x : List ℕ). group_in x h ≡ group_at f p h) (sym was) (summary_at f p h u)

    halves-were : (g first size : ℕ) → Sited p g first size → (size ≡ 1 → ⊥)
        → group_in s g ≡ joined_of (group_in s (2 * g + 1)) (group_in s (2 * g + 2)) (64 * (size / 2))
    halves-were g first size sited ne =
        let i : 2 * g + 1 + 1 < 2 * p =
        sited_index p (2 * g + 1) first (size / 2) (sited_left p g first size sited ne) in
        let j : 2 * g + 2 + 1 < 2 * p =
        sited_index p (2 * g + 2) (first + size / 2) (size / 2) (sited_right p g first size sited ne) in
        right-was g (sited_index p g first size sited) ∙ sym (at_halves f p g first size sited ne)
        ∙ ap₂ (λ (x y : Group). joined_of x y (64 * (size / 2))) (sym (right-was (2 * g + 1) i)) (sym (right-was (2 * g + 2) j))

  right_after : Power p → p ≤ 4096 → (s : List ℕ) → s ≡ summary_of f p → (h : ℕ) → h + 1 < 2 * p
      → updated_in p f' p s start count h ≡ group_at f' p h
  right_after k small s was h l =
      let sited : Sited p h (place p h).first (place p h).size = sited_all p h k small l (below_zero h) in
      after-right f' p s start count (λ i u e. right-was s was i u ∙ same_group_lem i e)
      (λ g first size sited ne. halves-were s was g first size sited ne)
      p h (place p h).first (place p h).size sited (omega (arith, sited.inside))

-- ---- the summary as a whole

module _ (map : List ℕ) (n : ℕ) (s : List ℕ) (start count : ℕ) where
  -- the length stays
  pub updated_length : length (updated_summary map n s start count) ≡ summary_length (length map)
  unfolding updated_summary
  updated_length =
      numbers_length (updated_in (power (length map)) (usable map n) (power (length map)) s start count) 0
      (2 * power (length map) - 1)

  -- what is read of it, group by group
  pub updated_at : (h : ℕ) → h + 1 < 2 * power (length map) → group_in (updated_summary map n s start count) h
      ≡ updated_in (power (length map)) (usable map n) (power (length map)) s start count h
  unfolding updated_summary
  updated_at h l =
      numbers_at (updated_in (power (length map)) (usable map n) (power (length map)) s start count) 0
      (2 * power (length map) - 1) h
      (omega arith)
      ∙ ap (updated_in (power (length map)) (usable map n) (power (length map)) s start count) (zero-add h)

  -- a group that has none of the changed words is as it was
  pub updated_kept : (h : ℕ) → h + 1 < 2 * power (length map) → changed start count (place (power (length map)) h) ≡ false
      → group_in (updated_summary map n s start count) h ≡ group_in s h
  updated_kept h l e = updated_at h l ∙ passed (usable map n) (power (length map)) s start count (power (length map)) h e

  pub updated_only : (s' : List ℕ) → length s' ≡ summary_length (length map)
      → ((h : ℕ) → h + 1 < 2 * power (length map) → group_in s' h
      ≡ updated_in (power (length map)) (usable map n) (power (length map)) s start count h)
      → s' ≡ updated_summary map n s start count
  unfolding updated_summary
  updated_only s' e same =
      numbers_only (updated_in (power (length map)) (usable map n) (power (length map)) s start count) 0
      (2 * power (length map) - 1)
      s' e (λ h l. same h (omega arith)
      ∙ ap (updated_in (power (length map)) (usable map n) (power (length map)) s start count) (sym (zero-add h)))

  -- nothing changes where no block has changed
  pub updated_none : length s ≡ summary_length (length map) → count ≡ 0 → s ≡ updated_summary map n s start count
  updated_none e z =
      updated_only s e (λ h l. sym (passed (usable map n) (power (length map)) s start count (power (length map)) h
      (ap (λ (t : Bool). t && (ltb start (64 * ((place (power (length map)) h).first + (place (power (length map)) h).size))
      && ltb (64 * (place (power (length map)) h).first) (start + count))) (le-ltb 0 count (omega arith)))))

  -- what building the groups above the changed words leaves
  pub rebuilt : (s' : List ℕ) → Matched map n s → 0 < count → length s' ≡ length s
      → ((aim : ℕ → Group) → Target (usable map n) (power (length map)) (start / 64) ((start + count + 63) / 64) s aim
      → RestIn (power (length map)) (start / 64) ((start + count + 63) / 64) s aim
      → (h : ℕ) → h + 1 < 2 * power (length map) → group_in s' h ≡ aim h)
      → s' ≡ updated_summary map n s start count
  rebuilt s' lent some e r =
      updated_only s' (e ∙ lent.long)
      (r (updated_in (power (length map)) (usable map n) (power (length map)) s start count)
      (update-target (usable map n) (power (length map)) s start count some)
      (λ i u a. sym (passed (usable map n) (power (length map)) s start count (power (length map)) i
      (not_changed start count (place (power (length map)) i) a))))

  -- where the summary was that of blocks which differ from the map's in the changed ones alone, it becomes the map's own
  pub own_updated : (f : ℕ → Bool) → length map ≤ 4096 → s ≡ summary_of f (power (length map))
      → ((b : ℕ) → (b < start) ⊎ (start + count ≤ b) → f b ≡ usable map n b)
      → updated_summary map n s start count ≡ own_summary map n
  unfolding own_summary
  own_updated f few was outside =
      summary_only (usable map n) (power (length map)) (updated_summary map n s start count) updated_length (λ h l.
      updated_at h l
      ∙ right_after f (usable map n) (power (length map)) start count outside (power_power (length map))
      (power_small (length map) few) s was h l)

-- ---- a map whose blocks were marked

-- a block outside the run that is marked is as it was
marked_free : (map : List ℕ) (start k : ℕ) (to : Bool) (b : ℕ) → b < length map * 64 → (b < start) ⊎ (start + k ≤ b)
    → free (marked map start k to) b ≡ free map b
unfolding marked
marked_free map start k to b l q =
    map_free (λ b. cond (in_run start k b) to (free map b)) (length map) b l ∙ outside q (free map b)
  where
    outside : (b < start) ⊎ (start + k ≤ b) → (x : Bool) → cond (in_run start k b) to x ≡ x
    outside (inl u) x = ap (λ (t : Bool). cond (t && ltb b (start + k)) to x) (lt-leb start b u)
    outside (inr u) x = ap (λ (t : Bool). cond (leb start b && t) to x) (le-ltb b (start + k) u) ∙ off (leb start b)
      where
        off : (t : Bool) → cond (t && false) to x ≡ x
        off true = refl
        off false = refl

still_usable : (map : List ℕ) (n start k : ℕ) (to : Bool) → n ≤ 64 * length map → (b : ℕ) → (b < start) ⊎ (start + k ≤ b)
    → usable map n b ≡ usable (marked map start k to) n b
still_usable map n start k to l b q =
    ⊎_elim (λ (u : b < n). below_n map n b u ∙ sym (marked_free map start k to b (omega arith) q)
    ∙ sym (below_n (marked map start k to) n b u))
    (λ (u : n ≤ b). from_n map n b u ∙ sym (from_n (marked map start k to) n b u)) (order b n)

-- the map's own summary, brought up to date after a run of blocks was marked, is the marked map's own
pub own_marked : (map : List ℕ) (n start k : ℕ) (to : Bool) (s : List ℕ) → length map ≤ 4096 → n ≤ 64 * length map
    → s ≡ own_summary map n → updated_summary (marked map start k to) n s start k ≡ own_summary (marked map start k to) n
unfolding own_summary
own_marked map n start k to s few l was =
    let e : length (marked map start k to) ≡ length map = marked_length map start k to in
    own_updated (marked map start k to) n s start k (usable map n) (omega arith)
    (was ∙ ap (λ (w : ℕ). summary_of (usable map n) (power w)) (sym e)) (still_usable map n start k to l)
