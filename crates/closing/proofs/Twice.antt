-- Closing twice is closing once: on a closed card every extent is where it belongs, and no block moves.
-- Assumes nothing.
use Rattle.std.proofs.Common.{◌≡◌, ℕ, ◌+◌, ◌-◌, ◌<◌, ◌≤◌, Bool, true, false, cond, ltb, List, [], ◌∷◌, map, length, sym, refl}
use Rattle.std.proofs.Common.{ap, ◌∙◌, ap₂, inl, inr, ⊎_elim, arith, le-ltb, lt-ltb}
use Rattle.laws.proofs.Bools.{order}
use Rattle.map_blocks.specs.Maps.{in_run}
use Rattle.map_blocks.proofs.Maps.{map_length}
use Rattle.catalogue.specs.declared.Entry.{Entry}
use Rattle.closing_moves.proofs.Moved.{sourced_self}
use Rattle.image_soundness.proofs.Covers.{decide, in_run_lem}
use Rattle.closing.specs.Closed.{below, closed_entry, closed_entries, source, closed_card, first_taken, closed_map}
use Rattle.closing.proofs.Below.{below_adds, below_grows}
use Rattle.closing.proofs.Kept.{closed_held}
use Rattle.closing.proofs.Members.{Member, map_map, map_same}

module _ (all : List Entry) where
  abbrev moved : Entry → Entry
  moved = closed_entry all

  -- an extent starts before another afterwards exactly if it did so at first
  part : (x : Entry) (s : ℕ) → Member x all
      → cond (ltb (below all x.start) (below all s)) x.length 0 ≡ cond (ltb x.start s) x.length 0
  part x s m =
      ⊎_elim
      (λ (z : x.length < 1).
      let e : x.length ≡ 0 = omega arith in
      none (ltb (below all x.start) (below all s)) e ∙ sym (none (ltb x.start s) e))
      (λ (z : 1 ≤ x.length).
      ap (λ (b : Bool). cond b x.length 0)
      (⊎_elim
      (λ (l : x.start < s).
      lt-ltb (below all x.start) (below all s) (omega (arith, below_adds all x s m l)) ∙ sym (lt-ltb x.start s l))
      (λ (l : s ≤ x.start).
      le-ltb (below all x.start) (below all s) (below_grows all s x.start l) ∙ sym (le-ltb x.start s l))
      (order x.start s)))
      (order x.length 1)
    where
      none : (b : Bool) → x.length ≡ 0 → cond b x.length 0 ≡ 0
      none true e = e
      none false e = refl

  below_part : (es : List Entry) → ((e : Entry) → Member e es → Member e all) → (s : ℕ)
      → below (map moved es) (below all s) ≡ below es s
  unfolding below
  below_part [] sub s = refl
  below_part (x ∷ xs) sub s = ap₂ ◌+◌ (part x s (sub x (inl refl))) (below_part xs (λ e m. sub e (inr m)) s)

  pub below_twice : (s : ℕ) → below (closed_entries all) (below all s) ≡ below all s
  unfolding closed_entries
  below_twice s = below_part all (λ e m. m) s

  pub closed_twice : closed_entries (closed_entries all) ≡ closed_entries all
  unfolding closed_entries
  closed_twice =
      map_map moved (closed_entry (map moved all)) all
      ∙ map_same (λ e. closed_entry (map moved all) (moved e)) moved all (λ e m.
      ap (λ (s : ℕ). record { mark = e.mark; start = s; length = e.length }) (below_part all (λ y k. k) e.start))

  -- no block moves
  stays : (es : List Entry) (b : ℕ) → source (closed_entries all) (map moved es) b ≡ b
  unfolding source
  stays [] b = refl
  stays (x ∷ xs) b =
      let at : below (closed_entries all) (below all x.start) ≡ below all x.start = below_twice x.start in
      ⊎_elim
      (λ (h : in_run (below (closed_entries all) (below all x.start)) x.length b ≡ true).
      let k = in_run_lem (below (closed_entries all) (below all x.start)) x.length b h in
      ap (λ (c : Bool). cond c (below all x.start + (b - below (closed_entries all) (below all x.start)))
      (source (closed_entries all) (map moved xs) b)) h ∙ omega (arith, at, k.0))
      (λ (h : in_run (below (closed_entries all) (below all x.start)) x.length b ≡ false).
      ap (λ (c : Bool). cond c (below all x.start + (b - below (closed_entries all) (below all x.start)))
      (source (closed_entries all) (map moved xs) b)) h ∙ stays xs b)
      (decide (in_run (below (closed_entries all) (below all x.start)) x.length b))

  pub card_stays : (card : List ℕ) → closed_card (closed_entries all) card ≡ card
  unfolding closed_card closed_entries
  card_stays card = sym (sourced_self card (source (map moved all) (map moved all)) (λ b. stays all b))

  pub map_twice : (n : ℕ) (map : List ℕ) → closed_map (closed_entries all) n (closed_map all n map) ≡ closed_map all n map
  unfolding closed_map
  map_twice n map =
      ap₂ (λ (h w : ℕ). first_taken h n w) (closed_held all) (map_length _ (length map))
