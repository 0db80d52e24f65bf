-- The extent that moves next: of those that start at or after the end of those that have moved, the one with the least start,
-- and its place among the entries. The entries are those of a list that f has changed.
-- Assumes nothing.
use Rattle.std.proofs.Common.{◌≡◌, ℕ, suc, ◌+◌, ◌<◌, ◌≤◌, Bool, true, false, cond, ◌&&◌, leb, ◌⊎◌, List, [], ◌∷◌}
use Rattle.std.proofs.Common.{length, sym, refl, ap, ◌∙◌, subst, inl, inr, ⊎_elim, arith, ltb-true, ltb-false, le-leb, leb-true}
use Rattle.std.proofs.Common.{map}
use Rattle.std.specs.Prelude.{Some, None}
use Rattle.laws.proofs.Bools.{and_left, and_right, and_both, clash}
use Rattle.catalogue.specs.Entries.{entry_at}
use Rattle.catalogue.specs.declared.Entry.{Entry}
use Rattle.closing.specs.Rounds.{Nearest, starts_behind, is_nearer, nearer_of, nearest_from}
use Rattle.closing.proofs.Members.{Member}

-- something is found that starts at s or before, or s is where nothing is found
abbrev pub Falls : Nearest → ℕ → Type 0
Falls None s = 4294967295 ≤ s
Falls (Some p) s = p.1.start ≤ s

behind_falls : (t : Nearest) (e : Entry) (s : ℕ) → starts_behind t e ≡ true → Falls t s → e.start ≤ s
behind_falls None e s h l = let b : e.start < 4294967295 = ltb-true e.start 4294967295 h in omega arith
behind_falls (Some p) e s h l = let b : e.start < p.1.start = ltb-true e.start p.1.start h in omega arith

not_behind : (t : Nearest) (e : Entry) → starts_behind t e ≡ false → Falls t e.start
not_behind None e h = ltb-false e.start 4294967295 h
not_behind (Some p) e h = ltb-false e.start p.1.start h

-- what the test shows
module _ (at : ℕ) (t : Nearest) (e : Entry) where
  record Nearer : Type 0 where
    some : 1 ≤ e.length
    after : at ≤ e.start
    before : starts_behind t e ≡ true

  nearer_to : is_nearer at t e ≡ true → Nearer
  unfolding is_nearer
  nearer_to h =
      let a : Bool = leb 1 e.length in
      let b : Bool = leb at e.start in
      let c : Bool = starts_behind t e in
      let ab = and_left (a && b) c h in
      record {
        some = leb-true 1 e.length (and_left a b ab);
        after = leb-true at e.start (and_right a b ab);
        before = and_right (a && b) c h;
      }

  -- an entry that is passed over although it waits starts at what is found or behind it
  not_nearer : is_nearer at t e ≡ false → 1 ≤ e.length → at ≤ e.start → Falls t e.start
  unfolding is_nearer
  not_nearer h s a = by (starts_behind t e) refl
    where
      by : (b : Bool) → starts_behind t e ≡ b → Falls t e.start
      by true z =
          absurd (clash (leb 1 e.length && leb at e.start && starts_behind t e)
          (and_both (leb 1 e.length && leb at e.start) (starts_behind t e)
          (and_both (leb 1 e.length) (leb at e.start) (le-leb 1 e.length s) (le-leb at e.start a)) z) h)
      by false z = not_behind t e z

  pub taken : (sheet : ℕ) → is_nearer at t e ≡ true → nearer_of at sheet t e ≡ Some (sheet, e)
  unfolding nearer_of
  taken sheet h = ap (λ (b : Bool). cond b (Some (sheet, e)) t) h

  pub passed : (sheet : ℕ) → is_nearer at t e ≡ false → nearer_of at sheet t e ≡ t
  unfolding nearer_of
  passed sheet h = ap (λ (b : Bool). cond b (Some (sheet, e)) t) h

module _ (f : Entry → Entry) (at : ℕ) where
  -- it is the entry at a place, from which its sheet is counted
  pub record Picked (es : List Entry) (sheet : ℕ) (r : Nearest) : Type 0 where
    pub place : ℕ
    pub inside : place < length es
    pub is : r ≡ Some (sheet + place, f (entry_at es place))
    pub some : 1 ≤ (f (entry_at es place)).length
    pub after : at ≤ (f (entry_at es place)).start

  pub record Found (es : List Entry) (sheet : ℕ) (t r : Nearest) : Type 0 where
    pub found : (r ≡ t) ⊎ Picked es sheet r
    pub least : (e : Entry) → Member e es → 1 ≤ (f e).length → at ≤ (f e).start → Falls r (f e).start
    pub falls : (s : ℕ) → Falls t s → Falls r s

  module _ (x : Entry) (es : List Entry) (sheet : ℕ) (t r : Nearest) where
    -- a place of the rest is one further in the whole
    further : Picked es (suc sheet) r → Picked (x ∷ es) sheet r
    further k =
        let n : suc sheet + k.place ≡ sheet + suc k.place = omega arith in
        record {
          place = suc k.place;
          inside = omega (arith, k.inside);
          is = k.is ∙ ap (λ (i : ℕ). Some (i, f (entry_at es k.place))) n;
          some = k.some;
          after = k.after;
        }

    on-taken : is_nearer at t (f x) ≡ true → Found es (suc sheet) (Some (sheet, f x)) r → Found (x ∷ es) sheet t r
    on-taken h n =
        let w : Nearer at t (f x) = nearer_to at t (f x) h in
        let z : sheet ≡ sheet + 0 = omega arith in
        record {
          found = inr (⊎_elim
              (λ (k : r ≡ Some (sheet, f x)). record {
                place = 0;
                inside = omega arith;
                is = k ∙ ap (λ (i : ℕ). Some (i, f x)) z;
                some = w.some;
                after = w.after;
              })
              (λ (k : Picked es (suc sheet) r). further k)
              n.found);
          least = λ e m s l. ⊎_elim
              (λ (i : x ≡ e). subst (λ (y : Entry). Falls r (f y).start) i (n.falls (f x).start (omega arith)))
              (λ (i : Member e es). n.least e i s l)
              m;
          falls = λ s l. n.falls s (behind_falls t (f x) s w.before l);
        }

    on-passed : is_nearer at t (f x) ≡ false → Found es (suc sheet) t r → Found (x ∷ es) sheet t r
    on-passed h n = record {
      found = ⊎_elim (λ (k : r ≡ t). inl k) (λ (k : Picked es (suc sheet) r). inr (further k)) n.found;
      least = λ e m s l. ⊎_elim
          (λ (i : x ≡ e). subst (λ (y : Entry). 1 ≤ (f y).length → at ≤ (f y).start → Falls r (f y).start) i
          (λ (s' : 1 ≤ (f x).length) (l' : at ≤ (f x).start).
          n.falls (f x).start (not_nearer at t (f x) h s' l')) s l)
          (λ (i : Member e es). n.least e i s l)
          m;
      falls = n.falls;
    }

  pub nearest_found : (es : List Entry) (sheet : ℕ) (t : Nearest) → Found es sheet t (nearest_from at sheet (map f es) t)
  unfolding nearest_from
  nearest_found [] sheet t = record { found = inl refl; least = λ e m. absurd m; falls = λ s l. l }
  nearest_found (x ∷ es) sheet t = by (is_nearer at t (f x)) refl (λ u. nearest_found es (suc sheet) u)
    where
      by : (b : Bool) → is_nearer at t (f x) ≡ b
          → ((u : Nearest) → Found es (suc sheet) u (nearest_from at (suc sheet) (map f es) u))
          → Found (x ∷ es) sheet t (nearest_from at (suc sheet) (map f es) (nearer_of at sheet t (f x)))
      by true h rest =
          subst (λ (u : Nearest). Found (x ∷ es) sheet t (nearest_from at (suc sheet) (map f es) u))
          (sym (taken at t (f x) sheet h))
          (on-taken x es sheet t _ h (rest (Some (sheet, f x))))
      by false h rest =
          subst (λ (u : Nearest). Found (x ∷ es) sheet t (nearest_from at (suc sheet) (map f es) u))
          (sym (passed at t (f x) sheet h))
          (on-passed x es sheet t _ h (rest t))
