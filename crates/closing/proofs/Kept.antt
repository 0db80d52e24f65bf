-- What closing keeps: each entry has its old mark and length, extents follow each other in their old order, the blocks that are
-- covered are the first ones, as many as all extents have, and the state is sound with the free count that it had.
-- Assumes nothing.
use Rattle.std.proofs.Common.{◌≡◌, ℕ, zero, suc, ◌+◌, ◌*◌, ◌<◌, ◌≤◌, Bool, true, false, cond, ◌&&◌, eqb, ltb, leb, ◌⊎◌, List}
use Rattle.std.proofs.Common.{[], ◌∷◌, map, length, sym, refl, ap, ◌∙◌, subst, ap₂, inl, inr, ⊎_elim, arith, le-ltb, lt-ltb}
use Rattle.std.proofs.Common.{le-leb}
use borrow.Author.Tests.{lt-leb}
use Rattle.map_blocks.specs.Blocks.{free}
use Rattle.map_blocks.specs.Maps.{in_run}
use Rattle.laws.proofs.Bools.{order}
use Rattle.map_blocks.proofs.Maps.{map_free, map_length}
use Rattle.survey.specs.Survey.{counts_of}
use Rattle.catalogue.specs.Entries.{held}
use Rattle.catalogue.specs.declared.Entry.{Entry}
use Rattle.image_soundness.specs.Sound.{State, coverings, undamaged}
use Rattle.image_soundness.proofs.Covers.{one, in_run_lem, run_out, run_before, total, both_undamaged, none_undamaged}
use Rattle.image_soundness.proofs.Covers.{cover_outside, cover_total}
use Rattle.image_soundness.proofs.WhenSound.{Sound, balance, count_law}
use Rattle.closing.specs.Closed.{below, closed_entry, closed_entries, closed_map, closed_state}
use Rattle.closing.proofs.Members.{Member, Off, Apart}
use Rattle.closing.proofs.Below.{below_zero, below_adds}
use Rattle.closing.proofs.Moving.{starts_at_0, empty_undamaged, moved-undamaged}
use Rattle.closing.proofs.Placing.{member_undamaged, placed}

-- ---- marks, lengths and order
keeps : {X : Type 0} (part : Entry → X) (f : Entry → Entry) (es : List Entry) → ((e : Entry) → part (f e) ≡ part e)
    → map part (map f es) ≡ map part es
keeps part f [] h = refl
keeps part f (x ∷ xs) h = ap₂ ◌∷◌ (h x) (keeps part f xs h)

held_map : (f : Entry → Entry) (es : List Entry) → ((e : Entry) → (f e).length ≡ e.length) → held (map f es) ≡ held es
unfolding held
held_map f [] h = refl
held_map f (x ∷ xs) h = ap₂ ◌+◌ (h x) (held_map f xs h)

below_held : (es : List Entry) (t : ℕ) → below es t ≤ held es
unfolding below held
below_held [] t = omega arith
below_held (x ∷ xs) t = let q : below xs t ≤ held xs = below_held xs t in let p = part-most (ltb x.start t) in omega arith
  where
    part-most : (b : Bool) → cond b x.length 0 ≤ x.length
    part-most true = omega arith
    part-most false = omega arith

module _ (all : List Entry) where
  pub closed_marks : map (λ e. e.mark) (closed_entries all) ≡ map (λ e. e.mark) all
  unfolding closed_entries
  closed_marks = keeps (λ e. e.mark) (closed_entry all) all (λ e. refl)

  pub closed_lengths : map (λ e. e.length) (closed_entries all) ≡ map (λ e. e.length) all
  unfolding closed_entries
  closed_lengths = keeps (λ e. e.length) (closed_entry all) all (λ e. refl)

  pub closed_held : held (closed_entries all) ≡ held all
  unfolding closed_entries
  closed_held = held_map (closed_entry all) all (λ e. refl)

  -- an extent that started before another ends before that starts, or where it starts
  pub closed_order : (x e : Entry) → Member x all → x.start < e.start
      → (closed_entry all x).start + x.length ≤ (closed_entry all e).start
  closed_order x e m h = below_adds all x e.start m h

  pub closed_inside : (e : Entry) → Member e all → (closed_entry all e).start + e.length ≤ held all
  closed_inside e m = omega (arith, below_adds all e (e.start + 1) m (omega arith), below_held all (e.start + 1))

  -- ---- the blocks that are covered
  map_member : (f : Entry → Entry) (es : List Entry) (P : Entry → Type 0) → ((e : Entry) → Member e es → P (f e))
      → (y : Entry) → Member y (map f es) → P y
  map_member f [] P h y x'' = elim x'' [ ]
  map_member f (x ∷ xs) P h y (inl p) = subst P p (h x (inl refl))
  map_member f (x ∷ xs) P h y (inr m) = map_member f xs P (λ e k. h e (inr k)) y m

  apart_closed : (es : List Entry) → ((e : Entry) → Member e es → Member e all) → Apart es → Apart (map (closed_entry all) es)
  apart_closed [] sub a = tt
  apart_closed (x ∷ xs) sub a = (
    map_member (closed_entry all) xs (Off (closed_entry all x)) (λ e m lx le.
        ⊎_elim
        (λ (p : x.start + x.length ≤ e.start). inl (below_adds all x e.start (sub x (inl refl)) (omega arith)))
        (λ (p : e.start + e.length ≤ x.start). inr (below_adds all e x.start (sub e (inr m)) (omega arith)))
        (a.0 e m lx le)),
    apart_closed xs (λ e m. sub e (inr m)) a.1,
  )

none_cover : (es : List Entry) (b : ℕ) → ((e : Entry) → Member e es → (b < e.start) ⊎ (e.start + e.length ≤ b))
    → coverings es b ≡ 0
unfolding coverings
none_cover [] b h = refl
none_cover (x ∷ xs) b h =
    let q : coverings xs b ≡ 0 = none_cover xs b (λ e m. h e (inr m)) in
    let p : one (in_run x.start x.length b) ≡ 0 = ap one (off (in_run x.start x.length b) refl (h x (inl refl))) in
    omega arith
  where
    off : (t : Bool) → in_run x.start x.length b ≡ t → (b < x.start) ⊎ (x.start + x.length ≤ b) → t ≡ false
    off false e o = refl
    off true e o =
        let r = in_run_lem x.start x.length b e in
        ⊎_elim (λ (u : b < x.start). absurd (omega (arith, r.0)))
        (λ (u : x.start + x.length ≤ b). absurd (omega (arith, r.1))) o

at_most : (t : Bool) → one t ≤ 1
at_most true = omega arith
at_most false = omega arith

one_covers : (x : Entry) (xs : List Entry) → Apart (x ∷ xs) → (b : ℕ) → coverings xs b ≤ 1 → coverings (x ∷ xs) b ≤ 1
unfolding coverings
one_covers x xs a b rest =
    ⊎_elim
    (λ (lo : b < x.start). let z : one (in_run x.start x.length b) ≡ 0 = ap one
    (run_before x.start x.length b lo) in omega arith)
    (λ (hi : x.start ≤ b).
    ⊎_elim
    (λ (u : b < x.start + x.length).
    let z : coverings xs b ≡ 0 =
    none_cover xs b (λ e m.
    ⊎_elim
    (λ (l : e.length < 1). ⊎_elim (λ (v : b < e.start). inl v) (λ (v : e.start ≤ b). inr (omega arith)) (order b e.start))
    (λ (l : 1 ≤ e.length).
    ⊎_elim (λ (v : x.start + x.length ≤ e.start). inl (omega arith))
    (λ (v : e.start + e.length ≤ x.start). inr (omega arith)) (a.0 e m (omega arith) l))
    (order e.length 1)) in
    let c : one (in_run x.start x.length b) ≤ 1 = at_most (in_run x.start x.length b) in
    omega arith)
    (λ (u : x.start + x.length ≤ b). let z : one (in_run x.start x.length b) ≡ 0 = ap one
    (run_out x.start x.length b u) in omega arith)
    (order b (x.start + x.length)))
    (order b x.start)

apart_covers : (es : List Entry) → Apart es → (b : ℕ) → coverings es b ≤ 1
unfolding coverings
apart_covers [] a b = omega arith
apart_covers (x ∷ xs) a b = one_covers x xs a b (apart_covers xs a.1 b)

-- where all are at most 1 and make as many as there are, each is 1
total_least : (g : ℕ → ℕ) (m : ℕ) → ((b : ℕ) → g b ≤ 1) → total g m ≤ m
unfolding total
total_least g zero h = omega arith
total_least g (suc m) h = let q : total g m ≤ m = total_least g m h in omega (arith, h m)

total_full : (g : ℕ → ℕ) (m : ℕ) → ((b : ℕ) → g b ≤ 1) → total g m ≡ m → (b : ℕ) → b < m → g b ≡ 1
unfolding total
total_full g zero h e b l = absurd (omega arith)
total_full g (suc m) h e b l =
    let q : total g m ≤ m = total_least g m h in
    let k : g m ≤ 1 = h m in
    ⊎_elim
    (λ (u : b < m). total_full g m h (omega arith) b u)
    (λ (u : m ≤ b). let i : b ≡ m = omega arith in let j : g m ≡ 1 = omega arith in ap g i ∙ j)
    (order b m)

module _ (s : State) (p : Sound s) where
  abbrev all : List Entry
  all = s.entries

  abbrev n : ℕ
  n = s.blocks

  abbrev f : ℕ → Bool
  f = free s.map

  -- the entries are undamaged afterwards, where the first blocks are taken
  undamaged_closed : (m : ℕ) (g : ℕ → Bool) → held all ≤ m → ((b : ℕ) → b < held all → g b ≡ false) → (es : List Entry)
      → ((e : Entry) → Member e es → Member e all)
      → undamaged m g (map (closed_entry all) es) ≡ true
  undamaged_closed m g room taken [] sub = none_undamaged m g
  undamaged_closed m g room taken (x ∷ xs) sub =
      let d = member_undamaged n f all p.whole x (sub x (inl refl)) in
      let i : below all x.start + x.length ≤ held all = closed_inside all x (sub x (inl refl)) in
      both_undamaged m g (closed_entry all x) (map (closed_entry all) xs)
      (⊎_elim
      (λ (z : x.length < 1).
      let l : x.length ≡ 0 = omega arith in
      empty_undamaged n f x d m (below all x.start) g l (ap (below all) (starts_at_0 n f x d l) ∙ below_zero all))
      (λ (z : 1 ≤ x.length). moved-undamaged n f x d m (below all x.start) g z (omega arith)
      (λ b lo hi. taken b (omega arith)))
      (order x.length 1))
      (undamaged_closed m g room taken xs (λ e k. sub e (inr k)))

  pub closed_covers : (b : ℕ) → coverings (closed_entries all) b ≡ one (ltb b (held all))
  unfolding closed_entries
  closed_covers b =
      let a : Apart (map (closed_entry all) all) = apart_closed all all (λ e m. m) (placed s p).apart in
      let u = undamaged_closed (held all) (λ b. false) (omega arith) (λ b h. refl) all (λ e m. m) in
      let t : total (coverings (map (closed_entry all) all)) (held all) ≡ held all =
      cover_total (held all) (λ b. false) (map (closed_entry all) all) u ∙ held_map (closed_entry all) all (λ e. refl) in
      ⊎_elim
      (λ (lo : b < held all). total_full (coverings (map (closed_entry all) all)) (held all)
      (apart_covers (map (closed_entry all) all) a) t b lo ∙ ap one (sym (lt-ltb b (held all) lo)))
      (λ (hi : held all ≤ b). cover_outside (held all) (λ b. false) (map (closed_entry all) all) u b hi
      ∙ ap one (sym (le-ltb b (held all) hi)))
      (order b (held all))

  -- no more blocks than the card has
  pub held_fits : held all ≤ n
  held_fits =
      let t : total (coverings all) n ≡ held all = cover_total n f all p.whole in
      omega (arith, total_least (coverings all) n (apart_covers all (placed s p).apart))

module _ (s : State) (p : Sound s) (room : s.blocks ≤ 64 * length s.map) where
  abbrev h : ℕ
  h = held s.entries

  abbrev g : ℕ → Bool
  g = free (closed_map s.entries s.blocks s.map)

  pub closed_free : (b : ℕ) → b < 64 * length s.map → g b ≡ (leb h b && ltb b s.blocks)
  unfolding closed_map
  closed_free b l = map_free (λ b. leb h b && ltb b s.blocks) (length s.map) b (omega arith)

  closed_length : length (closed_map s.entries s.blocks s.map) ≡ length s.map
  unfolding closed_map
  closed_length = map_length (λ b. leb h b && ltb b s.blocks) (length s.map)

  pub taken_first : (b : ℕ) → b < h → g b ≡ false
  taken_first b l =
      let k : h ≤ s.blocks = held_fits s p in
      closed_free b (omega arith) ∙ ap (λ (t : Bool). t && ltb b s.blocks) (lt-leb h b l)

  pub free_then : (b : ℕ) → h ≤ b → b < s.blocks → g b ≡ true
  free_then b l u = closed_free b (omega arith) ∙ ap₂ (λ (t v : Bool). t && v) (le-leb h b l) (lt-ltb b s.blocks u)

  none_beyond : (b : ℕ) → s.blocks ≤ b → b < 64 * length s.map → g b ≡ false
  none_beyond b l u = closed_free b u ∙ both (leb h b) (le-ltb b s.blocks l)
    where
      both : (t : Bool) → ltb b s.blocks ≡ false → (t && ltb b s.blocks) ≡ false
      both true e = e
      both false e = refl

  covered : (b : ℕ) → b < h → coverings (closed_entries s.entries) b ≡ 1
  covered b l = closed_covers s p b ∙ ap one (lt-ltb b h l)

  uncovered : (b : ℕ) → h ≤ b → coverings (closed_entries s.entries) b ≡ 0
  uncovered b l = closed_covers s p b ∙ ap one (le-ltb b h l)

  whole_closed : undamaged s.blocks g (closed_entries s.entries) ≡ true
  unfolding closed_entries
  whole_closed = undamaged_closed s p s.blocks g (held_fits s p) taken_first s.entries (λ e m. m)

  balanced_closed : (b : ℕ) → b < s.blocks → coverings (closed_entries s.entries) b + one (g b) ≡ 1
  balanced_closed b u =
      ⊎_elim
      (λ (l : b < h). ap₂ ◌+◌ (covered b l) (ap one (taken_first b l)))
      (λ (l : h ≤ b). ap₂ ◌+◌ (uncovered b l) (ap one (free_then b l u)))
      (order b h)

  pub closed_sound : Sound (closed_state s)
  closed_sound =
      let before : h + (counts_of (free s.map) s.blocks).free ≡ s.blocks =
      count_law s.blocks (free s.map) s.entries p.whole
      (λ b u. balance (coverings s.entries b) (free s.map b) (p.disjoint b u) (p.uncovered b u)) in
      let after : held (closed_entries s.entries) + (counts_of g s.blocks).free ≡ s.blocks =
      count_law s.blocks g (closed_entries s.entries) whole_closed balanced_closed in
      let same : held (closed_entries s.entries) ≡ h = closed_held s.entries in
      record {
        whole = whole_closed;
        disjoint = λ b u. omega (arith, balanced_closed b u);
        uncovered = λ b u. ⊎_elim
            (λ (l : b < h). taken_first b l ∙ ap (λ (k : ℕ). eqb k 0) (sym (covered b l)))
            (λ (l : h ≤ b). free_then b l u ∙ ap (λ (k : ℕ). eqb k 0) (sym (uncovered b l)))
            (order b h);
        beyond = λ b l u. none_beyond b l (omega (arith, closed_length, u));
        counted = omega (arith, p.counted);
      }

  -- as many blocks are free as the free count says, and they are the last ones
  pub closed_spare : h + s.spare ≡ s.blocks
  closed_spare =
      omega (
        arith,
        p.counted,
        count_law s.blocks (free s.map) s.entries p.whole
            (λ b u. balance (coverings s.entries b) (free s.map b) (p.disjoint b u) (p.uncovered b u)),
      )
