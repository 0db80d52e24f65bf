-- The way up from changed words: what has been stored so far, and where it ends.
-- Assumes nothing.
use mathlib.Core.Path.{◌≡◌, sym, ap, ◌∙◌, subst}
use mathlib.Core.Logic.{inl, inr, ⊎_elim}
use mathlib.Core.Bool.{Bool}
use mathlib.Core.List.{List}
use Prim.Native.Nat.{ℕ, zero, suc, ◌+◌, ◌-◌, ◌*◌, ◌/◌, ◌%◌, ◌≤◌, ◌<◌}
use native.Mathlib.Omega.{arith}
use lib.ListN.{length}
use Rattle.laws.proofs.Bools.{order}
use Rattle.summary_groups.specs.declared.Group.{Group}
use Rattle.summary_groups.specs.Groups.{Span, place, group_of, joined_of}
use Rattle.summary_groups.specs.Places.{Sited}
use Rattle.summary_groups.proofs.Places.{Power, sited_index}
use Rattle.summary.specs.Summary.{group_in}
use Rattle.summary.specs.Walks.{with_group, halves_of, Idle, Target, RestIn}
use Rattle.summary_write.specs.Climbs.{Joins, Stores, At, Climbs, Rises, Stands, Comes}
use Rattle.summary_write.proofs.Stored.{none_stored, one_stored, told}
use Rattle.summary_write.proofs.Levels.{at_words, even_count, more, at_above, sited-here, one_of, has_some, up}
use Rattle.summary_write.proofs.Levels.{above_few, only_one}

-- ---- the words

module _ (f : ℕ → Bool) (p lo hi leaf : ℕ) (k : Power p) (few : p ≤ 4096) (e : leaf + 1 ≡ p) (l : lo < hi) (u : hi ≤ p)
    (s₀ : List ℕ) where
  pub word : (aim : ℕ → Group) → Target f p lo hi s₀ aim → (i : ℕ) → lo ≤ i → i < hi → group_of f (64 * i) 64 ≡ aim (leaf + i)
  word aim target i a b =
      let at : At p lo hi 1 p (leaf + lo) (leaf + hi) = at_words p lo hi leaf k few e l u in
      let z : (leaf + i + 1 - p) * 1 ≡ i = omega arith in
      target.word (leaf + i) i
      (subst (λ (x : ℕ). Sited p (leaf + i) x 1) z
      (sited-here p lo hi 1 p (leaf + lo) (leaf + hi) at (leaf + i) (omega arith) (omega arith)))
      (has_some p lo hi 1 p (leaf + lo) (leaf + hi) at (leaf + i) (omega arith) (omega arith) (omega arith) (omega arith))

  pub climbs_words : (s : List ℕ)
      → ((aim : ℕ → Group) → ((i : ℕ) → lo ≤ i → i < hi → group_of f (64 * i) 64 ≡ aim (leaf + i))
      → Stores aim s₀ s (leaf + lo) (leaf + hi))
      → ((aim : ℕ → Group) → Target f p lo hi s₀ aim → RestIn p lo hi s₀ aim → leaf + hi ≡ leaf + lo + 1
      → aim (leaf + lo) ≡ group_in s₀ (leaf + lo) → ⊥)
      → Climbs f p lo hi s₀ s 1 (leaf + lo) (leaf + hi)
  climbs_words s stored moved = record {
    count = p;
    at = at_words p lo hi leaf k few e l u;
    rest = λ aim target rest h v q. (stored aim (word aim target)).still h (rest h v q);
    aimed = λ aim target rest h a b.
        one_of p lo hi 1 p (leaf + lo) (leaf + hi) (at_words p lo hi leaf k few e l u) h a b aim s
        (λ h v q. (stored aim (word aim target)).still h (rest h v q))
        (λ h v q. (stored aim (word aim target)).done h v q) b;
    above = λ aim target rest h a. (stored aim (word aim target)).other h (inl (omega arith));
    moved = moved;
  }

-- ---- above a group that has all of the words and stays as it was, none changes

module _ (f : ℕ → Bool) (p lo hi : ℕ) (s₀ : List ℕ) (k : Power p) (few : p ≤ 4096) (aim : ℕ → Group)
    (target : Target f p lo hi s₀ aim) (rest : RestIn p lo hi s₀ aim) where
  -- one level
  module _ (half count g : ℕ) (at : At p lo hi half count g (g + 1)) (same : aim g ≡ group_in s₀ g) (l : 0 < g) where
    up-halves : (c : ℕ) × (count ≡ 2 * c) × Power c
    up-halves = even_count count at.power (more p lo hi half count g (g + 1) at l)

    abbrev up-count : ℕ
    up-count = up-halves.0

    up_at : At p lo hi (2 * half) up-count ((g - 1) / 2) ((g - 1) / 2 + 1)
    up_at =
        let one : (g + 1) / 2 ≡ (g - 1) / 2 + 1 = omega arith in
        subst (At p lo hi (2 * half) up-count ((g - 1) / 2)) one
        (at_above p lo hi half count g (g + 1) at k few up-count up-halves.1 up-halves.2 l)

    is-idle : Idle p lo hi s₀ aim g
    is-idle =
        let e : g + 1 ≡ count + at.a = at.first in
        let w : g + 1 ≡ count + at.z = at.last in
        let v : at.z < count = at.inside in
        let s : Sited p g ((g + 1 - count) * half) half =
        sited-here p lo hi half count g (g + 1) at g (omega arith) (omega arith) in
        let first : (place p g).first ≡ (g + 1 - count) * half = ap (λ (x : Span). x.first) s.lies in
        let size : (place p g).size ≡ half = ap (λ (x : Span). x.size) s.lies in
        let a : g + 1 - count ≡ at.a = omega arith in
        let z : g + 1 - count ≡ at.z = omega arith in
        let low : (g + 1 - count) * half ≤ lo = subst (λ (x : ℕ). x * half ≤ lo) (sym a) at.from in
        let high : hi ≤ (g + 1 - count) * half + half = subst (λ (x : ℕ). hi ≤ x * half + half) (sym z) at.behind in
        record { low = omega arith; high = omega arith; same = same }

    up_same : aim ((g - 1) / 2) ≡ group_in s₀ ((g - 1) / 2)
    up_same =
        let q : ℕ = (g - 1) / 2 in
        let e : (g - 1) / 2 + 1 ≡ up-count + up_at.a = up_at.first in
        let w : (g - 1) / 2 + 1 ≡ up-count + up_at.z = up_at.last in
        let v : up_at.z < up-count = up_at.inside in
        sym (target.kept ((g - 1) / 2) (((g - 1) / 2 + 1 - up-count) * (2 * half)) (2 * half)
        (sited-here p lo hi (2 * half) up-count ((g - 1) / 2) ((g - 1) / 2 + 1) up_at ((g - 1) / 2) (omega arith) (omega arith))
        (λ r. omega arith)
        (has_some p lo hi (2 * half) up-count ((g - 1) / 2) ((g - 1) / 2 + 1) up_at ((g - 1) / 2) (omega arith) (omega arith)
        (omega arith) (omega arith))
        (⊎_elim
        (λ o. let r : g ≡ 2 * ((g - 1) / 2) + 2 = omega arith in inr (subst (Idle p lo hi s₀ aim) r is-idle))
        (λ o. let r : g ≡ 2 * ((g - 1) / 2) + 1 = omega arith in inl (subst (Idle p lo hi s₀ aim) r is-idle))
        (order (g % 2) 1)))

  pub none_above : (d half count g : ℕ) → g ≤ d → At p lo hi half count g (g + 1) → aim g ≡ group_in s₀ g
      → (h : ℕ) → h + 1 < count → h + 1 < 2 * p → group_in s₀ h ≡ aim h
  none_above zero half count g b at same h u v = let e : g + 1 ≡ count + at.a = at.first in absurd (omega arith)
  none_above (suc d) half count g b at same h u v =
      ⊎_elim (λ z. let e : g + 1 ≡ count + at.a = at.first in absurd (omega arith))
      (λ z. step z (λ half' count' g' b' at' same'. none_above d half' count' g' b' at' same' h)) (order g 1)
    where
      step : 1 ≤ g
          → ((half' count' g' : ℕ) → g' ≤ d → At p lo hi half' count' g' (g' + 1) → aim g' ≡ group_in s₀ g'
          → h + 1 < count' → h + 1 < 2 * p → group_in s₀ h ≡ aim h)
          → group_in s₀ h ≡ aim h
      step z on =
          let l : 0 < g = omega arith in
          let twice : count ≡ 2 * up-count half count g at same l = (up-halves half count g at same l).1 in
          ⊎_elim
          (λ y. on (2 * half) (up-count half count g at same l) ((g - 1) / 2) (omega arith) (up_at half count g at same l)
          (up_same half count g at same l) y v)
          (λ y. one_of p lo hi (2 * half) (up-count half count g at same l) ((g - 1) / 2) ((g - 1) / 2 + 1)
          (up_at half count g at same l) h y (omega arith) aim s₀ rest
          (λ i a b. let e : (g - 1) / 2 ≡ i = omega arith in
          subst (λ (x : ℕ). group_in s₀ x ≡ aim x) e (sym (up_same half count g at same l))) v)
          (order (h + 1) (up-count half count g at same l))

-- ---- the level above

module _ (f : ℕ → Bool) (p lo hi : ℕ) (s₀ s : List ℕ) (half g stop : ℕ) (k : Power p) (few : p ≤ 4096)
    (climb : Climbs f p lo hi s₀ s half g stop) (l : 0 < g) where
  halves : (c : ℕ) × (climb.count ≡ 2 * c) × Power c
  halves = even_count climb.count climb.at.power (more p lo hi half climb.count g stop climb.at l)

  abbrev c : ℕ
  c = halves.0

  here : At p lo hi (2 * half) c ((g - 1) / 2) (stop / 2)
  here = at_above p lo hi half climb.count g stop climb.at k few c halves.1 halves.2 l

  few_here : stop / 2 < p
  few_here = (above_few p lo hi half climb.count g stop k few climb.at l).0

  module _ (aim : ℕ → Group) (target : Target f p lo hi s₀ aim) (rest : RestIn p lo hi s₀ aim) where
    not-idle : (i : ℕ) → climb.count ≤ i + 1 → i + 1 < 2 * climb.count → Idle p lo hi s₀ aim i → ⊥
    not-idle i a b q =
        let o = only_one p lo hi half climb.count g stop climb.at i a b q.low q.high in
        climb.moved aim target rest o.1
        (subst (λ (x : ℕ). aim x ≡ group_in s₀ x) o.0 q.same)

    module _ (h : ℕ) (a : (g - 1) / 2 ≤ h) (b : h < stop / 2) where
      low : c ≤ h + 1
      low = let e : (g - 1) / 2 + 1 ≡ c + here.a = here.first in omega arith

      high : h + 1 < 2 * c
      high = let w : stop / 2 ≡ c + here.z = here.last in let v : here.z < c = here.inside in omega arith

      below : (i : ℕ) → 2 * h + 1 ≤ i → i ≤ 2 * h + 2 → group_in s i ≡ aim i
      below i u v =
          let e : climb.count ≡ 2 * c = halves.1 in
          climb.aimed aim target rest i (omega (arith, low)) (omega (arith, few_here))

      joins : joined_of (aim (2 * h + 1)) (aim (2 * h + 2)) (64 * half) ≡ aim h
      joins =
          let e : half ≡ 2 * half / 2 = omega arith in
          let q : climb.count ≡ 2 * c = halves.1 in
          ap (λ (x : ℕ). joined_of (aim (2 * h + 1)) (aim (2 * h + 2)) (64 * x)) e
          ∙ target.halves h ((h + 1 - c) * (2 * half)) (2 * half)
          (sited-here p lo hi (2 * half) c ((g - 1) / 2) (stop / 2) here h low high) (λ q. omega arith)
          (has_some p lo hi (2 * half) c ((g - 1) / 2) (stop / 2) here h low high a b)
          (not-idle (2 * h + 1) (omega (arith, low)) (omega (arith, high)))
          (not-idle (2 * h + 2) (omega (arith, low)) (omega (arith, high)))

    pub ready : Joins aim s ((g - 1) / 2) (stop / 2) half
    ready = record {
      left = λ h a b. below h a b (2 * h + 1) (omega arith) (omega arith);
      right = λ h a b. below h a b (2 * h + 2) (omega arith) (omega arith);
      both = λ h a b. joins h a b;
    }

    -- a group of the level above has not been touched
    pub untouched : group_in s ((g - 1) / 2) ≡ group_in s₀ ((g - 1) / 2)
    untouched =
        let e : g + 1 ≡ climb.count + climb.at.a = climb.at.first in
        let u : climb.at.a ≤ climb.at.z = climb.at.least in
        let v : climb.at.z < climb.count = climb.at.inside in
        climb.above aim target rest ((g - 1) / 2) (omega arith)

  module _ (s₁ : List ℕ)
      (stored : (aim : ℕ → Group) → Joins aim s ((g - 1) / 2) (stop / 2) half → Stores aim s s₁ ((g - 1) / 2) (stop / 2)) where
    module _ (aim : ℕ → Group) (target : Target f p lo hi s₀ aim) (rest : RestIn p lo hi s₀ aim) where
      rest-above : RestIn p lo hi s₁ aim
      rest-above h v q = (stored aim (ready aim target rest)).still h (climb.rest aim target rest h v q)

      aimed-above : (h : ℕ) → c ≤ h + 1 → h + 1 < 2 * p → group_in s₁ h ≡ aim h
      aimed-above h a b =
          ⊎_elim
          (λ u. one_of p lo hi (2 * half) c ((g - 1) / 2) (stop / 2) here h a u aim s₁ rest-above
          (λ h v q. (stored aim (ready aim target rest)).done h v q) b)
          (λ u. (stored aim (ready aim target rest)).still h
          (climb.aimed aim target rest h (let q : climb.count ≡ 2 * c = halves.1 in omega arith) b)) (order (h + 1) (2 * c))

      kept_above : (h : ℕ) → h + 1 < c → group_in s₁ h ≡ group_in s₀ h
      kept_above h a =
          let q : climb.count ≡ 2 * c = halves.1 in
          let e : (g - 1) / 2 + 1 ≡ c + here.a = here.first in
          (stored aim (ready aim target rest)).other h (inl (omega arith)) ∙ climb.above aim target rest h (omega arith)

    pub climbs-above : ((aim : ℕ → Group) → Target f p lo hi s₀ aim → RestIn p lo hi s₀ aim → stop / 2 ≡ (g - 1) / 2 + 1
        → aim ((g - 1) / 2) ≡ group_in s₀ ((g - 1) / 2) → ⊥)
        → Climbs f p lo hi s₀ s₁ (2 * half) ((g - 1) / 2) (stop / 2)
    climbs-above moved = record {
      count = c;
      at = here;
      rest = rest-above;
      aimed = aimed-above;
      above = kept_above;
      moved = moved;
    }

    -- where the group of the level above has all of the words, and stays as it was
    pub settled : stop / 2 ≡ (g - 1) / 2 + 1 → (aim : ℕ → Group) → Target f p lo hi s₀ aim → RestIn p lo hi s₀ aim
        → aim ((g - 1) / 2) ≡ group_in s₀ ((g - 1) / 2) → (h : ℕ) → h + 1 < 2 * p → group_in s₁ h ≡ aim h
    settled one aim target rest same h u =
        ⊎_elim
        (λ a. kept_above aim target rest h a
        ∙ none_above f p lo hi s₀ k few aim target rest ((g - 1) / 2) (2 * half) c ((g - 1) / 2) (omega arith)
        (subst (At p lo hi (2 * half) c ((g - 1) / 2)) one here) same h a u)
        (λ a. aimed-above aim target rest h a u) (order (h + 1) c)

-- ---- the way up, one group to a level

module _ (f : ℕ → Bool) (p lo hi : ℕ) (s₀ s : List ℕ) (half g : ℕ) (r : Rises f p lo hi s₀ s half g) where
  -- group 0 is above all
  pub rises_top : g ≡ 0 → Comes f p lo hi s₀ s
  rises_top z aim target rest h u =
      let e : g + 1 ≡ r.climb.count + r.climb.at.a = r.climb.at.first in
      r.climb.aimed aim target rest h (omega arith) u

  module _ (l : 0 < g) (s₁ : List ℕ) (fits : 3 * ((g - 1) / 2) + 2 < length s)
      (e : s₁ ≡ with_group s ((g - 1) / 2) (halves_of s ((g - 1) / 2) half)) where
    one : r.stop / 2 ≡ (g - 1) / 2 + 1
    one =
        let next = up p lo hi half r.climb.count g r.stop r.power r.few r.climb.at l in
        let a : (g - 1) / 2 + 1 ≡ next.0 + next.1.a = next.1.first in
        let b : r.stop / 2 ≡ next.0 + next.1.z = next.1.last in
        let d : next.1.a ≤ next.1.z = next.1.least in
        let m : r.stop / 2 ≤ (g - 1) / 2 + 1 = r.one in
        omega arith

    is : (aim : ℕ → Group) → Joins aim s ((g - 1) / 2) (r.stop / 2) half → halves_of s ((g - 1) / 2) half ≡ aim ((g - 1) / 2)
    is aim j =
        told aim s ((g - 1) / 2) (r.stop / 2) half ((g - 1) / 2) j (omega arith) (omega (arith, one)) s
        (none_stored aim s ((g - 1) / 2) ((g - 1) / 2) (omega arith))

    stored : (aim : ℕ → Group) → Joins aim s ((g - 1) / 2) (r.stop / 2) half → Stores aim s s₁ ((g - 1) / 2) (r.stop / 2)
    stored aim j =
        subst (Stores aim s s₁ ((g - 1) / 2)) (sym one)
        (subst (λ (x : List ℕ). Stores aim s x ((g - 1) / 2) ((g - 1) / 2 + 1)) (sym e)
        (one_stored aim s ((g - 1) / 2) (halves_of s ((g - 1) / 2) half) fits (is aim j)))

    -- it has become another
    pub rises-on : (group_in s ((g - 1) / 2) ≡ halves_of s ((g - 1) / 2) half → ⊥) → Rises f p lo hi s₀ s₁ (2 * half)
        ((g - 1) / 2)
    rises-on ne = record {
      stop = r.stop / 2;
      power = r.power;
      few = r.few;
      climb = climbs-above f p lo hi s₀ s half g r.stop r.power r.few r.climb l s₁ stored
          (λ aim target rest o same. ne
          (untouched f p lo hi s₀ s half g r.stop r.power r.few r.climb l aim target rest ∙ sym same
          ∙ sym (is aim (ready f p lo hi s₀ s half g r.stop r.power r.few r.climb l aim target rest))));
      one = omega (arith, one);
    }

    -- it stays as it was
    pub rises-no-more : group_in s ((g - 1) / 2) ≡ halves_of s ((g - 1) / 2) half → Comes f p lo hi s₀ s₁
    rises-no-more same aim target rest =
        settled f p lo hi s₀ s half g r.stop r.power r.few r.climb l s₁ stored one aim target rest
        (sym (is aim (ready f p lo hi s₀ s half g r.stop r.power r.few r.climb l aim target rest)) ∙ sym same
        ∙ untouched f p lo hi s₀ s half g r.stop r.power r.few r.climb l aim target rest)

-- what is read and stored on the way is there
module _ (s : List ℕ) (half g : ℕ) (t : Stands s half g) where
  pub stands_small : (g < 8192) × (half ≤ 4096)
  stands_small =
      let e : g + 1 ≡ t.count + t.at.a = t.at.first in
      let u : t.at.a ≤ t.at.z = t.at.least in
      let v : t.at.z < t.count = t.at.inside in
      let few : t.p ≤ 4096 = t.few in
      let some : 0 < t.count = t.at.level.some in
      let n : g + 1 < 2 * t.p = sited_index t.p g ((g + 1 - t.count) * half) half
      (sited-here t.p t.lo t.hi half t.count g t.stop t.at g (omega arith) (omega arith)) in
      let i : (g + 1 - t.count) * half + half ≤ t.p =
      (sited-here t.p t.lo t.hi half t.count g t.stop t.at g (omega arith) (omega arith)).inside in
      (omega arith, omega arith)

  pub stands_in : 0 < g → 3 * (2 * ((g - 1) / 2) + 2) + 2 < length s
  stands_in l =
      let next = up t.p t.lo t.hi half t.count g t.stop t.power t.few t.at l in
      let small : t.stop / 2 < t.p =
      (above_few t.p t.lo t.hi half t.count g t.stop t.power t.few t.at l).0 in
      let a : (g - 1) / 2 + 1 ≡ next.0 + next.1.a = next.1.first in
      let b : t.stop / 2 ≡ next.0 + next.1.z = next.1.last in
      let d : next.1.a ≤ next.1.z = next.1.least in
      let long : length s ≡ 3 * (2 * t.p - 1) = t.long in
      omega arith

  pub stands_up : 0 < g → (s₁ : List ℕ) → length s₁ ≡ length s → Stands s₁ (2 * half) ((g - 1) / 2)
  stands_up l s₁ e =
      let next = up t.p t.lo t.hi half t.count g t.stop t.power t.few t.at l in
      record {
        p = t.p;
        power = t.power;
        few = t.few;
        long = e ∙ t.long;
        lo = t.lo;
        hi = t.hi;
        count = next.0;
        stop = t.stop / 2;
        at = next.1;
      }

-- ---- one word

pub word_stands : (p i leaf : ℕ) → Power p → p ≤ 4096 → leaf + 1 ≡ p → i < p → (s : List ℕ) → length s ≡ 3 * (2 * p - 1)
    → Stands s 1 (leaf + i)
word_stands p i leaf k few e u s long = record {
  p = p;
  power = k;
  few = few;
  long = long;
  lo = i;
  hi = i + 1;
  count = p;
  stop = leaf + (i + 1);
  at = at_words p i (i + 1) leaf k few e (omega arith) (omega arith);
}

module _ (f : ℕ → Bool) (p i leaf : ℕ) (k : Power p) (few : p ≤ 4096) (e : leaf + 1 ≡ p) (u : i < p) (s₀ s : List ℕ)
    (fits : 3 * (leaf + i) + 2 < length s₀) (q : s ≡ with_group s₀ (leaf + i) (group_of f (64 * i) 64)) where
  word_told : (aim : ℕ → Group) → Target f p i (i + 1) s₀ aim → group_of f (64 * i) 64 ≡ aim (leaf + i)
  word_told aim target = word f p i (i + 1) leaf k few e (omega arith) (omega arith) s₀ aim target i (omega arith) (omega arith)

  word_stored : (aim : ℕ → Group) → group_of f (64 * i) 64 ≡ aim (leaf + i) → Stores aim s₀ s (leaf + i) (leaf + (i + 1))
  word_stored aim w =
      let z : leaf + i + 1 ≡ leaf + (i + 1) = omega arith in
      subst (Stores aim s₀ s (leaf + i)) z
      (subst (λ (x : List ℕ). Stores aim s₀ x (leaf + i) (leaf + i + 1)) (sym q)
      (one_stored aim s₀ (leaf + i) (group_of f (64 * i) 64) fits w))

  -- it has become another
  pub word_rises : (group_in s₀ (leaf + i) ≡ group_of f (64 * i) 64 → ⊥) → Rises f p i (i + 1) s₀ s 1 (leaf + i)
  word_rises ne = record {
    stop = leaf + (i + 1);
    power = k;
    few = few;
    climb = climbs_words f p i (i + 1) leaf k few e (omega arith) (omega arith) s₀ s
        (λ aim told. word_stored aim (told i (omega arith) (omega arith)))
        (λ aim target rest o same. ne (sym same ∙ sym (word_told aim target)));
    one = omega arith;
  }

  -- it stays as it was
  pub word_no_more : group_in s₀ (leaf + i) ≡ group_of f (64 * i) 64 → Comes f p i (i + 1) s₀ s
  word_no_more same aim target rest h v =
      let at : At p i (i + 1) 1 p (leaf + i) (leaf + (i + 1)) =
      at_words p i (i + 1) leaf k few e (omega arith) (omega arith) in
      let z : leaf + (i + 1) ≡ leaf + i + 1 = omega arith in
      let d : Stores aim s₀ s (leaf + i) (leaf + (i + 1)) = word_stored aim (word_told aim target) in
      ⊎_elim
      (λ a. d.other h (inl (omega arith))
      ∙ none_above f p i (i + 1) s₀ k few aim target rest (leaf + i) 1 p (leaf + i) (omega arith)
      (subst (At p i (i + 1) 1 p (leaf + i)) z at) (sym (word_told aim target) ∙ sym same) h a v)
      (λ a. one_of p i (i + 1) 1 p (leaf + i) (leaf + (i + 1)) at h a v aim s (λ j x y. d.still j (rest j x y)) d.done v)
      (order (h + 1) p)

-- ---- several words, up to where one group has them all

pub several_rise : (f : ℕ → Bool) (p lo hi : ℕ) (s₀ s : List ℕ) (half g stop : ℕ) → Power p → p ≤ 4096
    → Climbs f p lo hi s₀ s half g stop → stop / 2 ≤ (g - 1) / 2 + 1 → Rises f p lo hi s₀ s half g
several_rise f p lo hi s₀ s half g stop k few climb one =
    record { stop = stop; power = k; few = few; climb = climb; one = one }
