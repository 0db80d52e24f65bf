-- A search from group to group: what each step comes to, and that the search comes nearer to its end.
-- Assumes nothing.
use Rattle.std.specs.Prelude.{Some, None}
use Rattle.std.specs.declared.ops.ControlFlow.{ControlFlow}
use Rattle.std.specs.declared.ops.ControlFlow.TheVariants.{Break, Continue}
use mathlib.Core.Path.{◌≡◌, refl, sym, ap, ap₂, ◌∙◌, subst}
use mathlib.Core.Logic.{inl, inr, ⊎_elim}
use mathlib.Core.List.{List}
use Prim.Native.Nat.{ℕ, zero, suc, ◌+◌, ◌-◌, ◌*◌, ◌/◌, ◌%◌, ◌^◌, ◌≤◌, ◌<◌, max}
use native.Mathlib.Omega.{arith}
use Rattle.summary.specs.Summary.{group_in}
use Rattle.summary_search.specs.SearchBy.{glance_of, onward, seek_in}
use Rattle.summary_search.specs.Seeking.{Lies, Way, Ahead, Passed, Ended}
use Rattle.summary_search.proofs.Bounds.{Bounds, GlanceBounds, glance_bounds, seek_settled, seek_word, seek_halves}
use Rattle.summary_search.proofs.Places.{Level, located_level, located_least, located-even, located-left, located_few}
use Rattle.summary_search.proofs.Places.{located_small, lies_left, lies_right}

module _ (summary : List ℕ) (at k whole : ℕ) where
  -- ---- what comes of a group's step

  -- a start is the whole search's
  way_hit : (j d g base m : ℕ) (on : ControlFlow ℕ ℕ → ControlFlow ℕ ℕ) → Way summary at k whole j d g base m on → (t : ℕ)
      → on (Break t) ≡ Break t
  way_hit zero d g base m on w t = w.3 (Break t)
  way_hit (suc j) d g base m on w t =
      let above = way_hit j (suc d) w.h w.start (2 * m) w.above w.way t in
      ⊎_elim (λ f. f.2 (Break t) ∙ above) (λ q. q.2 (Break t) ∙ above) w.side

  pub way_inside : (j d g base m : ℕ) (on : ControlFlow ℕ ℕ → ControlFlow ℕ ℕ) → Way summary at k whole j d g base m on
      → base + m ≤ whole
  way_inside zero d g base m on w = let a = w.1 in let b = w.2 in omega arith
  way_inside (suc j) d g base m on w =
      let u : w.start + 2 * m ≤ whole = way_inside j (suc d) w.h w.start (2 * m) w.above w.way in
      ⊎_elim (λ f. let e = f.1 in omega arith) (λ q. let e = q.1 in omega arith) w.side

  -- behind the last group there is none
  way_last : (j d g base m : ℕ) (on : ControlFlow ℕ ℕ → ControlFlow ℕ ℕ) → Way summary at k whole j d g base m on → 0 < m
      → base + m ≡ whole
      → (s : ℕ) → on (Continue s) ≡ Continue s
  way_last zero d g base m on w pos end s = w.3 (Continue s)
  way_last (suc j) d g base m on w pos end s =
      let u : w.start + 2 * m ≤ whole = way_inside j (suc d) w.h w.start (2 * m) w.above w.way in
      ⊎_elim (λ f. let e = f.1 in absurd (omega arith))
      (λ q. let e = q.1 in
      q.2 (Continue s) ∙ way_last j (suc d) w.h w.start (2 * m) w.above w.way (omega arith) (omega arith) s)
      w.side

  -- ---- from a group that is passed
  module _ (g base m s : ℕ) (p : Passed summary at k whole g base m s) where
    pub passed-small : base + m ≤ 262144
    passed-small = located_small p.lies.words g base m p.lies.located

    pub passed-least : 64 ≤ m
    passed-least = located_least p.lies.words g base m p.lies.located

    pub passed-few : g ≤ 8192
    passed-few = located_few p.lies.words g base m p.lies.located

    pub none-behind : base + m ≡ whole → Ended summary at k whole (Continue s)
    none-behind end = sym (p.comes ∙ way_last p.j (suc p.d) g base m p.on p.way (omega (arith, passed-least)) end s)

    pub second_half_lem : g % 2 ≡ 1 → Ahead summary at k whole (g + 1) (base + m) m s
    second_half_lem odd = go p.j p.way
      where
        go : (j : ℕ) → Way summary at k whole j (suc p.d) g base m p.on
            → Ahead summary at k whole (g + 1) (base + m) m s
        go zero w = let e = w.0 in absurd (omega arith)
        go (suc j) w =
            ⊎_elim
            (λ f. let n : g + 1 ≡ 2 * w.h + 2 = omega (arith, f.0) in
            let b : base + m ≡ w.start + m = omega (arith, f.1) in
            let twice : 2 * m / 2 ≡ m = omega arith in
            let there : w.start + 2 * m / 2 ≡ base + m = omega (arith, f.1) in
            record {
              j = suc j;
              d = p.d;
              on = w.above;
              way = record {
                h = w.h;
                start = w.start;
                above = w.above;
                way = w.way;
                lies = w.lies;
                enough = w.enough;
                side = inr (n, b, λ r. refl);
              };
              lies = subst (λ (x : ℕ). Lies summary x (base + m) m) (sym n)
                  (subst (λ (x : ℕ). Lies summary (2 * w.h + 2) x m) there
                  (subst (λ (x : ℕ). Lies summary (2 * w.h + 2) (w.start + 2 * m / 2) x) twice
                  (lies_right summary w.h w.start (2 * m) w.lies (λ q. omega (arith, q, passed-least)))));
              enough = p.enough;
              behind = p.behind;
              short = p.short;
              comes = p.comes ∙ f.2 (Continue s)
                  ∙ ap₂ (λ (x y : ℕ). w.above (seek_in (suc p.d) summary at k x y m s)) (sym n) (sym b);
            })
            (λ q. let e = q.0 in absurd (omega arith))
            w.side

    -- a second half: its whole is passed
    pub record Behind : Type 0 where
      pub some : 2 ≤ g
      pub back : m ≤ base
      pub short_of : 2 * m ≤ 262144
      pub up : Passed summary at k whole (g / 2 - 1) (base - m) (2 * m) s

    pub whole-passed : (g % 2 ≡ 1 → ⊥) → (base + m ≡ whole → ⊥) → Behind
    whole-passed even more = go p.j p.way
      where
        go : (j : ℕ) → Way summary at k whole j (suc p.d) g base m p.on → Behind
        go zero w = let e = w.1 in let f = w.2 in absurd (more (omega arith))
        go (suc j) w =
            ⊎_elim
            (λ f. absurd (even (let e = f.0 in omega arith)))
            (λ q. let n : w.h ≡ g / 2 - 1 = omega (arith, q.0) in
            let b : w.start ≡ base - m = omega (arith, q.1) in
            record {
              some = omega (arith, q.0);
              back = omega (arith, q.1);
              short_of = omega (arith, q.1, passed-small);
              up = subst (λ (x : ℕ). Passed summary at k whole x (base - m) (2 * m) s) n
                  (subst (λ (x : ℕ). Passed summary at k whole w.h x (2 * m) s) b (record {
                    j = j;
                    d = suc p.d;
                    on = w.above;
                    way = w.way;
                    lies = w.lies;
                    enough = w.enough;
                    behind = λ l. let u = p.behind (omega (arith, q.1, l)) in omega (arith, u, q.1);
                    few = omega (arith, p.few, q.1);
                    short = p.short;
                    comes = p.comes ∙ q.2 (Continue s);
                  }));
            })
            w.side

  -- ---- from a group that is ahead
  module _ (g base m s : ℕ) (a : Ahead summary at k whole g base m s) where
    pub ahead_small : base + m ≤ 262144
    ahead_small = located_small a.lies.words g base m a.lies.located

    pub ahead-least : 64 ≤ m
    ahead-least = located_least a.lies.words g base m a.lies.located

    pub ahead-few : g ≤ 8192
    ahead-few = located_few a.lies.words g base m a.lies.located

    bounded : GlanceBounds at k (base + m) (glance_of (group_in summary g) at k base m s)
    bounded = glance_bounds (group_in summary g) at k base m s (omega (arith, ahead-least)) a.short a.behind

    found : (t : ℕ) → seek_in (suc a.d) summary at k g base m s ≡ Break t → Ended summary at k whole (Break t)
    found t e = sym (a.comes ∙ ap a.on e ∙ way_hit a.j (suc a.d) g base m a.on a.way t)

    pub told-hit : (t : ℕ) → glance_of (group_in summary g) at k base m s ≡ Some (Break t) → Ended summary at k whole (Break t)
    told-hit t e = found t (seek_settled summary at k a.d g base m s (Break t) e)

    pub in_word : glance_of (group_in summary g) at k base m s ≡ None → m ≡ 64 → (x : ℕ) → x ≡ max at base
        → Ended summary at k whole (Break x)
    in_word look e x q = found x (seek_word summary at k a.d g base m s look e ∙ ap Break (sym q))

    pub told-next : (c : ℕ) → glance_of (group_in summary g) at k base m s ≡ Some (Continue c)
        → Passed summary at k whole g base m c
    told-next c e =
        let b : Bounds at k (base + m) (Continue c) = subst (GlanceBounds at k (base + m)) e bounded in
        record {
          j = a.j;
          d = a.d;
          on = a.on;
          way = a.way;
          lies = a.lies;
          enough = a.enough;
          behind = b.2;
          few = b.1;
          short = b.0;
          comes = a.comes ∙ ap a.on (seek_settled summary at k a.d g base m s (Continue c) e);
        }

    pub first_half_lem : glance_of (group_in summary g) at k base m s ≡ None → (m ≡ 64 → ⊥)
        → Ahead summary at k whole (2 * g + 1) base (m / 2) s
    first_half_lem look ne = go a.d a.enough a.way a.comes
      where
        even : m ≡ 2 * (m / 2)
        even = located-even a.lies.words g base m a.lies.located ne

        least : 64 ≤ m / 2
        least = located_least a.lies.words (2 * g + 1) base (m / 2)
            (located-left a.lies.words g base m a.lies.located ne)

        go : (d : ℕ) → m ≤ 64 * suc d → Way summary at k whole a.j (suc d) g base m a.on
            → seek_in (whole / 64) summary at k 0 0 whole 0 ≡ a.on (seek_in (suc d) summary at k g base m s)
            → Ahead summary at k whole (2 * g + 1) base (m / 2) s
        go zero l w e = absurd (omega (arith, l, even, least))
        go (suc d) l w e = record {
          j = suc a.j;
          d = d;
          on = λ r. a.on (onward r (λ next. seek_in (suc d) summary at k (2 * g + 2) (base + m / 2) (m / 2) next));
          way = record {
            h = g;
            start = base;
            above = a.on;
            way = subst (λ (x : ℕ). Way summary at k whole a.j (suc (suc d)) g base x a.on) even w;
            lies = subst (λ (x : ℕ). Lies summary g base x) even a.lies;
            enough = omega (arith, l, even);
            side = inl (refl, refl, λ r. refl);
          };
          lies = lies_left summary g base m a.lies ne;
          enough = omega (arith, l, even, least);
          behind = a.behind;
          short = a.short;
          comes = e ∙ ap a.on (seek_halves summary at k (suc d) g base m s look ne);
        }

-- ---- the first group
pub first_ahead : (summary : List ℕ) (at k m : ℕ) → Lies summary 0 0 m → 0 < k → Ahead summary at k m 0 0 m 0
first_ahead summary at k m lies some =
    let l : Level m = located_level lies.words 0 0 m lies.located in
    let e : m ≡ 64 * 2 ^ l.0 = l.1 in
    let least : 64 ≤ m = located_least lies.words 0 0 m lies.located in
    let whole : suc (m / 64 - 1) ≡ m / 64 = omega (arith, least) in
    record {
      j = 0;
      d = m / 64 - 1;
      on = λ r. r;
      way = (refl, refl, refl, λ r. refl);
      lies = lies;
      enough = omega (arith, e, whole);
      behind = λ u. omega (arith, u);
      short = some;
      comes = ap (λ (d : ℕ). seek_in d summary at k 0 0 m 0) (sym whole);
    }
