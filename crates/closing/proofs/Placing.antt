-- The entries of a sound state can be packed: their extents lie inside n and apart, and an entry without blocks starts at 0.
-- Assumes nothing.
use Rattle.std.proofs.Common.{◌≡◌, ℕ, ◌+◌, ◌<◌, ◌≤◌, Bool, true, false, List, [], ◌∷◌, sym, refl, ap, ◌∙◌, inl, inr, ⊎_elim}
use Rattle.std.proofs.Common.{arith}
use Rattle.laws.proofs.Bools.{order}
use Rattle.map_blocks.specs.Blocks.{free}
use Rattle.map_blocks.specs.Maps.{in_run}
use Rattle.catalogue.specs.declared.Entry.{Entry}
use Rattle.catalogue_standings.specs.Standings.{standing_of, is_damaged}
use Rattle.image_soundness.specs.Sound.{State, coverings, undamaged}
use Rattle.image_soundness.proofs.Covers.{one, run_in, head_undamaged, tail_undamaged}
use Rattle.image_soundness.proofs.Damage.{extent_inside}
use Rattle.image_soundness.proofs.WhenSound.{Sound}
use Rattle.closing.proofs.Members.{Member, Apart}
use Rattle.closing.proofs.Moving.{starts_at_0}
use Rattle.closing.proofs.Packing.{Placed}

pub member_undamaged : (n : ℕ) (f : ℕ → Bool) (es : List Entry) → undamaged n f es ≡ true → (e : Entry) → Member e es
    → is_damaged (standing_of n f e) ≡ false
member_undamaged n f [] u e x'' = elim x'' [ ]
member_undamaged n f (x ∷ xs) u e (inl p) = ap (λ (z : Entry). is_damaged (standing_of n f z)) (sym p)
    ∙ head_undamaged n f x xs u
member_undamaged n f (x ∷ xs) u e (inr m) = member_undamaged n f xs (tail_undamaged n f x xs u) e m

member_covers : (es : List Entry) (e : Entry) (b : ℕ) → Member e es → e.start ≤ b → b < e.start + e.length
    → 1 ≤ coverings es b
unfolding coverings
member_covers [] e b x3 lo hi = elim x3 [ ]
member_covers (x ∷ xs) e b (inl p) lo hi =
    let s : x.start ≡ e.start = ap (λ (z : Entry). z.start) p in
    let l : x.length ≡ e.length = ap (λ (z : Entry). z.length) p in
    let c : one (in_run x.start x.length b) ≡ 1 = ap one (run_in x.start x.length b (omega arith) (omega arith)) in
    omega arith
member_covers (x ∷ xs) e b (inr m) lo hi = let c = member_covers xs e b m lo hi in omega arith

apart_of : (n : ℕ) (es : List Entry) → ((e : Entry) → Member e es → e.start + e.length ≤ n)
    → ((b : ℕ) → b < n → coverings es b ≤ 1) → Apart es
unfolding coverings
apart_of n [] inside once = tt
apart_of n (x ∷ xs) inside once = (
  λ e m lx le.
      let ix : x.start + x.length ≤ n = inside x (inl refl) in
      let ie : e.start + e.length ≤ n = inside e (inr m) in
      let twice : (b : ℕ) → x.start ≤ b → b < x.start + x.length → e.start ≤ b → b < e.start + e.length → ⊥ =
      λ b p q s u.
      let c : one (in_run x.start x.length b) ≡ 1 = ap one (run_in x.start x.length b p q) in
      let d : 1 ≤ coverings xs b = member_covers xs e b m s u in
      omega (arith, once b (omega arith)) in
      ⊎_elim
      (λ (p : e.start < x.start + x.length).
      ⊎_elim
      (λ (q : x.start < e.start + e.length).
      ⊎_elim
      (λ (o : x.start < e.start). absurd (twice e.start (omega arith) p (omega arith) (omega arith)))
      (λ (o : e.start ≤ x.start). absurd (twice x.start (omega arith) (omega arith) o q))
      (order x.start e.start))
      (λ (q : e.start + e.length ≤ x.start). inr q)
      (order x.start (e.start + e.length)))
      (λ (p : x.start + x.length ≤ e.start). inl p)
      (order e.start (x.start + x.length)),
  apart_of n xs (λ e m. inside e (inr m)) (λ b h. omega (arith, once b h)),
)

pub placed : (s : State) → Sound s → Placed s.blocks s.entries
placed s p =
    let inside : (e : Entry) → Member e s.entries → e.start + e.length ≤ s.blocks =
    λ e m. extent_inside s.blocks e (free s.map)
    (member_undamaged s.blocks (free s.map) s.entries p.whole e m) in
    record {
      apart = apart_of s.blocks s.entries inside p.disjoint;
      inside = inside;
      empty = λ e m z. starts_at_0 s.blocks (free s.map) e
          (member_undamaged s.blocks (free s.map) s.entries p.whole e m) z;
    }
