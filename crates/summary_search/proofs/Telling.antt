-- What the numbers of a true summary tell a search from block `at` on.
-- Assumes nothing.
use Rattle.std.specs.Prelude.{Option, Some, None}
use Rattle.std.specs.declared.ops.ControlFlow.{ControlFlow}
use Rattle.std.specs.declared.ops.ControlFlow.TheVariants.{Break, Continue}
use mathlib.Core.Path.{◌≡◌, refl, sym, ap, ap₂, ◌∙◌, subst}
use mathlib.Core.Logic.{⊎_elim}
use mathlib.Core.Bool.{Bool, true, false, ◌&&◌, cond}
use mathlib.Core.List.{List}
use Prim.Native.Nat.{ℕ, zero, suc, ◌+◌, ◌-◌, ◌*◌, ◌/◌, ◌≤◌, ◌<◌, min, max}
use native.Mathlib.Omega.{arith}
use lib.Dec.{eqb, leb, ltb}
use borrow.Author.Tests.{le-leb, lt-leb, leb-true, leb-false, ltb-true, ltb-false, eqb-true, eqb-false}
use Rattle.laws.proofs.Bools.{order, not_true}
use Rattle.map_blocks.specs.Blocks.{all}
use Rattle.map_blocks.proofs.Runs.{all_intro, all_elim, all_break}
use Rattle.map_search_word.specs.Scan.{Carried}
use Rattle.survey.specs.Survey.{blocks}
use Rattle.survey_words.proofs.Joining.{tail_longest}
use Rattle.summary_groups.specs.declared.Group.{Group}
use Rattle.summary_groups.specs.Groups.{group_of}
use Rattle.summary_groups.proofs.Ends.{HeadRun, TailRun, head_run, tail_run, longest_least, longest_most}
use Rattle.summary_groups.proofs.Joins.{group_same}
use Rattle.summary.specs.Summary.{group_in, group_at}
use Rattle.summary.proofs.Sites.{group_at_lem}
use Rattle.summary_search.specs.SearchBy.{inside_of, whole_of, glance_of, or_look, onward, seek_in, seek}
use Rattle.summary_search.specs.Seeking.{Located}
use Rattle.summary_search.proofs.Bounds.{by_test}
use Rattle.summary_search.proofs.Places.{located_index, located_least, located-even, located-left, located-right}

-- ---- a group that is right, block by block

pub record Says (f : ℕ → Bool) (b m : ℕ) (x : Group) : Type 0 where
  pub head : HeadRun f b m x.head
  pub tail : TailRun f b m x.tail
  pub longest : (t k : ℕ) → b ≤ t → t + k ≤ b + m → all f t k ≡ true → k ≤ x.longest
  pub ends : x.tail ≤ x.longest
  pub most : x.longest ≤ m

right : (f : ℕ → Bool) (b m : ℕ) → Says f b m (group_of f b m)
unfolding group_of
right f b m = record {
  head = head_run f b m;
  tail = tail_run f b m;
  longest = longest_least f b m;
  ends = tail_longest (blocks f b m);
  most = longest_most f b m m (λ t a c. absurd (omega arith));
}

pub says : (f : ℕ → Bool) (b m : ℕ) (x : Group) → x ≡ group_of f b m → Says f b m x
says f b m x e = subst (Says f b m) (sym e) (right f b m)

-- ---- the blocks from `at` on

abbrev pub since : ℕ → (ℕ → Bool) → ℕ → Bool
since at f b = leb at b && f b

pub before_since : (at : ℕ) (f : ℕ → Bool) (b : ℕ) → b < at → since at f b ≡ false
before_since at f b l = ap (λ (t : Bool). t && f b) (lt-leb at b l)

pub after_since : (at : ℕ) (f : ℕ → Bool) (b : ℕ) → at ≤ b → since at f b ≡ f b
after_since at f b l = ap (λ (t : Bool). t && f b) (le-leb at b l)

-- no run starts before t
abbrev pub NoneBefore : (ℕ → Bool) → ℕ → ℕ → Type 0
NoneBefore f k t = (u : ℕ) → u < t → all f u k ≡ false

-- what a search knows after a step, and after a glance at a group from block base on
abbrev pub Knows : (ℕ → Bool) → ℕ → ℕ → ControlFlow ℕ ℕ → Type 0
Knows f k end (Break t) = NoneBefore f k t
Knows f k end (Continue s) = Carried f k end s

abbrev GlanceKnows : (ℕ → Bool) → ℕ → ℕ → ℕ → Option (ControlFlow ℕ ℕ) → Type 0
GlanceKnows f k low end (Some r) = Knows f k end r
GlanceKnows f k low end None = NoneBefore f k low

none_since : (at k : ℕ) (f : ℕ → Bool) → 0 < k → NoneBefore (since at f) k at
none_since at k f some u l = all_break (since at f) u k u (omega arith) (omega arith) (before_since at f u l)

module _ (f : ℕ → Bool) (at k base m s : ℕ) (x : Group) (some : 0 < k) (true' : x ≡ group_of f base m) where
  -- a group before `at`
  passed : base + m ≤ at → Carried (since at f) k (base + m) 0
  passed l = record {
    room = omega arith;
    short = some;
    held = λ t a b. absurd (omega arith);
    none = λ t a. none_since at k f some t (omega arith);
  }

  -- a group that has `at` inside, and no run of k
  inside : base < at → at < base + m → x.longest < k
      → Carried (since at f) k (base + m) (min (min x.tail x.longest) (base + m - at))
  inside l u v =
      let y : Says f base m x = says f base m x true' in
      let e : x.tail ≤ x.longest = y.ends in
      record {
        room = omega arith;
        short = omega arith;
        held = λ t a b. after_since at f t (omega arith) ∙ y.tail.held t (omega arith) b;
        none = λ t a.
            ⊎_elim (λ w. none_since at k f some t w)
            (λ w. ⊎_elim
            (λ z. all_break (since at f) t k (base + m - suc x.tail) (omega arith) (omega arith)
            (after_since at f (base + m - suc x.tail) (omega arith)
            ∙ y.tail.stop (base + m - suc x.tail) (omega arith) (omega arith)))
            (λ z. not_true (all (since at f) t k) (λ run.
            let q : k ≤ x.longest = y.longest t k (omega arith) z (sinceless t w run) in omega arith))
            (order (base + m) (t + k))) (order t at);
      }
    where
      sinceless : (t : ℕ) → at ≤ t → all (since at f) t k ≡ true → all f t k ≡ true
      sinceless t w run = all_intro f t k (λ b a c.
          sym (after_since at f b (omega arith)) ∙ all_elim (since at f) t k run b a c)

  -- a group from `at` on, with s free blocks right before it
  module _ (l : at ≤ base) (before : Carried (since at f) k base s) where
    y : Says (since at f) base m x
    y = says (since at f) base m x
        (true' ∙ group_same f (since at f) base base m (λ j u. sym (after_since at f (base + j) (omega arith))))

    hit : s < k → NoneBefore (since at f) k (base - s)
    hit u t a = before.none t (omega (arith, before.room))

    whole : x.head < k - s → x.head ≡ m → Carried (since at f) k (base + m) (s + m)
    whole u e = let r : s ≤ base = before.room in record {
      room = omega arith;
      short = omega arith;
      held = λ t a b. ⊎_elim (λ v. before.held t (omega arith) v) (λ v. y.head.held t v (omega arith)) (order t base);
      none = λ t a. before.none t (omega arith);
    }

    -- no run goes over from the blocks before into a group whose head ends too early
    over : x.head < k - s → x.head < m → (t : ℕ) → t < base → all (since at f) t k ≡ false
    over u v t a =
        ⊎_elim (λ w. before.none t w)
        (λ w. all_break (since at f) t k (base + x.head) (omega arith) (omega arith)
        (y.head.stop (base + x.head) refl v)) (order (t + s) base)

    ending : x.head < k - s → (x.head ≡ m → ⊥) → x.longest < k
        → Carried (since at f) k (base + m) (min (min x.tail x.longest) m)
    ending u ne v =
        let h : x.head ≤ m = y.head.within in
        let w : x.tail ≤ m = y.tail.within in
        let e : x.tail ≤ x.longest = y.ends in
        record {
          room = omega arith;
          short = omega arith;
          held = λ t a b. y.tail.held t (omega arith) b;
          none = λ t a.
              ⊎_elim (λ z. over u (omega arith) t z)
              (λ z. ⊎_elim (λ q. all_break (since at f) t k (base + m - suc x.tail) (omega arith) (omega arith)
              (y.tail.stop (base + m - suc x.tail) (omega arith) (omega arith)))
              (λ q. not_true (all (since at f) t k) (λ run. let r : k ≤ x.longest = y.longest t k z q run in omega arith))
              (order (base + m) (t + k))) (order t base);
        }

    word : x.head < k - s → k ≤ x.longest → NoneBefore (since at f) k base
    word u v t a = over u (omega (arith, y.most)) t a

  -- any group
  pub glance_knows : Carried (since at f) k base s → GlanceKnows (since at f) k (max at base) (base + m)
      (glance_of x at k base m s)
  unfolding glance_of inside_of whole_of
  glance_knows before =
      by_test (GlanceKnows (since at f) k (max at base) (base + m)) (leb (base + m) at) (Some (Continue 0))
      (cond (ltb base at) (inside_of x at k (base + m)) (whole_of x k base m s)) (λ e. passed (leb-true (base + m) at e))
      (λ e. let l : at < base + m = leb-false (base + m) at e in
      by_test (GlanceKnows (since at f) k (max at base) (base + m)) (ltb base at) (inside_of x at k (base + m))
      (whole_of x k base m s)
      (λ q. let v : base < at = ltb-true base at q in
      by_test (GlanceKnows (since at f) k (max at base) (base + m)) (leb k x.longest) None
      (Some (Continue (min (min x.tail x.longest) (base + m - at)))) (λ z u w. none_since at k f some u (omega arith))
      (λ z. inside v l (leb-false k x.longest z)))
      (λ q. let v : at ≤ base = ltb-false base at q in
      by_test (GlanceKnows (since at f) k (max at base) (base + m)) (leb (k - s) x.head) (Some (Break (base - s)))
      (cond (leb k x.longest) None
      (cond (eqb x.head m) (Some (Continue (s + m))) (Some (Continue (min (min x.tail x.longest) m)))))
      (λ z. hit v before before.short)
      (λ z. let h : x.head < k - s = leb-false (k - s) x.head z in
      by_test (GlanceKnows (since at f) k (max at base) (base + m)) (leb k x.longest) None
      (cond (eqb x.head m) (Some (Continue (s + m))) (Some (Continue (min (min x.tail x.longest) m))))
      (λ c u w. word v before h (leb-true k x.longest c) u (omega arith))
      (λ c. by_test (GlanceKnows (since at f) k (max at base) (base + m)) (eqb x.head m) (Some (Continue (s + m)))
      (Some (Continue (min (min x.tail x.longest) m))) (λ i. whole v before h (eqb-true x.head m i))
      (λ i. ending v before h (eqb-false x.head m i) (leb-false k x.longest c))))))

-- ---- down the groups

module _ (f : ℕ → Bool) (p : ℕ) (summary : List ℕ) (at k : ℕ) (some : 0 < k)
    (own : (h : ℕ) → h + 1 < 2 * p → group_in summary h ≡ group_at f p h) where
  pub group_true : (g base m : ℕ) → Located p g base m → group_in summary g ≡ group_of f base m
  group_true g base m l =
      own g (located_index p g base m l) ∙ group_at_lem f p g l.first l.size l.sited
      ∙ ap₂ (group_of f) (sym l.starts) (sym l.blocks)

  looked : (low end : ℕ) (x : Option (ControlFlow ℕ ℕ)) (deeper : ControlFlow ℕ ℕ) → GlanceKnows (since at f) k low end x
      → (NoneBefore (since at f) k low → Knows (since at f) k end deeper) → Knows (since at f) k end (or_look x deeper)
  looked low end (Some r) deeper b look = b
  looked low end None deeper b look = look b

  both : (base m : ℕ) (r : ControlFlow ℕ ℕ) (next : ℕ → ControlFlow ℕ ℕ) → m ≡ 2 * (m / 2)
      → Knows (since at f) k (base + m / 2) r
      → ((s : ℕ) → Carried (since at f) k (base + m / 2) s → Knows (since at f) k (base + m / 2 + m / 2) (next s))
      → Knows (since at f) k (base + m) (onward r next)
  both base m (Break t) next even b on = b
  both base m (Continue s) next even b on =
      let e : base + m / 2 + m / 2 ≡ base + m = omega arith in
      subst (λ (end : ℕ). Knows (since at f) k end (next s)) e (on s b)

  seek_knows : (d g base m s : ℕ) → Located p g base m → m ≤ 64 * d → Carried (since at f) k base s
      → Knows (since at f) k (base + m) (seek_in d summary at k g base m s)
  unfolding seek_in
  seek_knows zero g base m s l u before = absurd (omega (arith, located_least p g base m l))
  seek_knows (suc d) g base m s l u before =
      looked (max at base) (base + m) (glance_of (group_in summary g) at k base m s)
      (cond (eqb m 64) (Break (max at base))
      (onward (seek_in d summary at k (2 * g + 1) base (m / 2) s)
      (λ next. seek_in d summary at k (2 * g + 2) (base + m / 2) (m / 2) next)))
      (glance_knows f at k base m s (group_in summary g) some (group_true g base m l) before)
      (λ none. by_test (Knows (since at f) k (base + m)) (eqb m 64) (Break (max at base))
      (onward (seek_in d summary at k (2 * g + 1) base (m / 2) s)
      (λ next. seek_in d summary at k (2 * g + 2) (base + m / 2) (m / 2) next)) (λ e. none)
      (λ e. let ne : (m ≡ 64 → ⊥) = eqb-false m 64 e in
      let even : m ≡ 2 * (m / 2) = located-even p g base m l ne in
      let least : 64 ≤ m / 2 = located_least p (2 * g + 1) base (m / 2) (located-left p g base m l ne) in
      both base m (seek_in d summary at k (2 * g + 1) base (m / 2) s)
      (λ next. seek_in d summary at k (2 * g + 2) (base + m / 2) (m / 2) next) even
      (seek_knows d (2 * g + 1) base (m / 2) s (located-left p g base m l ne) (omega arith) before)
      (λ next b. seek_knows d (2 * g + 2) (base + m / 2) (m / 2) next (located-right p g base m l ne) (omega arith) b)))

  nothing_yet : Carried (since at f) k 0 0
  nothing_yet = record {
    room = omega arith;
    short = some;
    held = λ t a b. absurd (omega arith);
    none = λ t a. absurd (omega arith);
  }

  -- all groups: no run starts before the start that is given; where none is given, none starts at all
  pub seek_true : Located p 0 0 (64 * p) → Knows (since at f) k (0 + 64 * p) (seek summary p at k)
  unfolding seek
  seek_true l = seek_knows p 0 0 (64 * p) 0 l (omega arith) nothing_yet
