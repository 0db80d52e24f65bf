-- Which groups of a level have one of some words that have changed, and the level above.
-- Assumes nothing.
use mathlib.Core.Path.{◌≡◌, refl, sym, ap, ◌∙◌, subst}
use mathlib.Core.Logic.{inl, inr, ⊎_elim}
use mathlib.Core.List.{List}
use Prim.Native.Nat.{ℕ, zero, suc, ◌+◌, ◌-◌, ◌*◌, ◌/◌, ◌^◌, ◌≤◌, ◌<◌}
use native.Mathlib.Nat.{mul-le-mul_right, lt_of_mul-lt-mul_right}
use native.Mathlib.Omega.{arith}
use Rattle.laws.proofs.Bools.{order}
use Rattle.summary_groups.specs.declared.Group.{Group}
use Rattle.summary_groups.specs.Groups.{Span, first_half, place}
use Rattle.summary_groups.specs.Places.{Sited, Apart}
use Rattle.summary_groups.proofs.Places.{Power, sited_all, below_zero, place_left, sited_even, sited_pos, sited_index}
use Rattle.summary.specs.Summary.{group_in}
use Rattle.summary.specs.Walks.{Level, RestIn}
use Rattle.summary.proofs.Rebuilding.{apart, meets}
use Rattle.summary_write.specs.Climbs.{At}

-- ---- levels, from the words up

-- a group whose number is p - 1 + i is word i
word_at : (p i first size : ℕ) → Sited p (p - 1 + i) first size → i < p → (first ≡ i * 1) × (size ≡ 1)
word_at p i first size s l = go size s.sum s.inside (sited_pos p (p - 1 + i) first size s)
  where
    go : (z : ℕ) → first + p ≡ (p - 1 + i + 1) * z → first + z ≤ p → 0 < z → (first ≡ i * 1) × (z ≡ 1)
    go zero a b c = absurd (omega arith)
    go (suc zero) a b c = (omega arith, refl)
    go (suc (suc z)) a b c =
        let e : p - 1 + i + 1 ≡ p + i = omega arith in
        let m : first + p ≡ (p + i) * suc (suc z) = a ∙ ap (λ (x : ℕ). x * suc (suc z)) e in
        absurd (omega arith)

pub level_of_words : (p : ℕ) → Power p → p ≤ 4096 → 0 < p → Level p p 1
level_of_words p k few some = record {
  some = some;
  sited = λ i l.
      let s : Sited p (p - 1 + i) (place p (p - 1 + i)).first (place p (p - 1 + i)).size =
      sited_all p (p - 1 + i) k few (omega arith) (below_zero (p - 1 + i)) in
      let e = word_at p i (place p (p - 1 + i)).first (place p (p - 1 + i)).size s l in
      subst (λ (x : ℕ). Sited p (p - 1 + i) x 1) e.0
      (subst (λ (z : ℕ). Sited p (p - 1 + i) (place p (p - 1 + i)).first z) e.1 s);
}

-- the level above has half as many groups, of twice the size
module _ (p c half : ℕ) (k : Power p) (few : p ≤ 4096) (pos : 0 < c) (v : Level p (2 * c) half) (i : ℕ) (l : i < c) where
  abbrev above : ℕ
  above = c - 1 + i

  at_left : place p (2 * above + 1) ≡ record { first = 2 * i * half; size = half }
  at_left =
      let e : 2 * c - 1 + 2 * i ≡ 2 * above + 1 = omega arith in
      subst (λ (g : ℕ). place p g ≡ record { first = 2 * i * half; size = half }) e (v.sited (2 * i) (omega arith)).lies

  above_in : above + 1 < 2 * p
  above_in =
      let j : 2 * c - 1 + (2 * i + 1) + 1 < 2 * p =
      sited_index p (2 * c - 1 + (2 * i + 1)) ((2 * i + 1) * half) half (v.sited (2 * i + 1) (omega arith)) in
      omega arith

  placed : Sited p above (place p above).first (place p above).size
  placed = sited_all p above k few above_in (below_zero above)

  halved : ((place p above).first ≡ 2 * i * half) × ((place p above).size / 2 ≡ half)
  halved =
      let e : first_half (place p above) ≡ record { first = 2 * i * half; size = half } = sym (place_left p above) ∙ at_left in
      (ap (λ (x : Span). x.first) e, ap (λ (x : Span). x.size) e)

  twice : (place p above).size ≡ 2 * half
  twice =
      let pos-half : 0 < half = sited_pos p (2 * c - 1 + 2 * i) (2 * i * half) half (v.sited (2 * i) (omega arith)) in
      let z : (place p above).size / 2 ≡ half = halved.1 in
      let ne : (place p above).size ≡ 1 → ⊥ = λ e. omega arith in
      let even : (place p above).size ≡ 2 * ((place p above).size / 2) =
      sited_even p above (place p above).first (place p above).size placed ne in
      omega arith

  sited_above : Sited p above (i * (2 * half)) (2 * half)
  sited_above =
      let e : (place p above).first ≡ i * (2 * half) = halved.0 ∙ (let q : 2 * i * half ≡ i * (2 * half) = omega arith in q) in
      subst (λ (x : ℕ). Sited p above x (2 * half)) e
      (subst (λ (z : ℕ). Sited p above (place p above).first z) twice placed)

pub level_above : (p c half : ℕ) → Power p → p ≤ 4096 → 0 < c → Level p (2 * c) half → Level p c (2 * half)
level_above p c half k few pos v = record { some = pos; sited = λ i l. sited_above p c half k few pos v i l }

-- ---- the groups of a level that have one of the words lo to hi - 1: the numbers a to z of it, groups g to stop - 1

pub at_words : (p lo hi leaf : ℕ) → Power p → p ≤ 4096 → leaf + 1 ≡ p → lo < hi → hi ≤ p
    → At p lo hi 1 p (leaf + lo) (leaf + hi)
at_words p lo hi leaf k few e l u = record {
  power = k;
  level = level_of_words p k few (omega arith);
  a = lo;
  z = hi - 1;
  first = omega arith;
  last = omega arith;
  least = omega arith;
  inside = omega arith;
  from = omega arith;
  before = omega arith;
  to = omega arith;
  behind = omega arith;
}

-- twice as long, from a half on
module _ (a half lo : ℕ) where
  low_half : a * half ≤ lo → a / 2 * (2 * half) ≤ lo
  low_half l =
      let m : 2 * (a / 2) * half ≤ a * half = mul-le-mul_right half (let q : 2 * (a / 2) ≤ a = omega arith in q) in
      omega arith

  low_half_less : a * half < lo → a / 2 * (2 * half) < lo
  low_half_less l =
      let m : 2 * (a / 2) * half ≤ a * half = mul-le-mul_right half (let q : 2 * (a / 2) ≤ a = omega arith in q) in
      omega arith

  high_half : lo < a * half + half → lo < a / 2 * (2 * half) + 2 * half
  high_half l =
      let m : (a + 1) * half ≤ (2 * (a / 2) + 2) * half = mul-le-mul_right half
      (let q : a + 1 ≤ 2 * (a / 2) + 2 = omega arith in q) in
      omega arith

  high_half_most : lo ≤ a * half + half → lo ≤ a / 2 * (2 * half) + 2 * half
  high_half_most l =
      let m : (a + 1) * half ≤ (2 * (a / 2) + 2) * half = mul-le-mul_right half
      (let q : a + 1 ≤ 2 * (a / 2) + 2 = omega arith in q) in
      omega arith

pub even_count : (count : ℕ) → Power count → 1 < count → (c : ℕ) × (count ≡ 2 * c) × Power c
even_count count (zero, e) l = absurd (omega arith)
even_count count (suc k, e) l = (2 ^ k, omega arith, (k, refl))

module _ (p lo hi half count g stop : ℕ) (at : At p lo hi half count g stop) where
  pub more : 0 < g → 1 < count
  more l =
      let e : g + 1 ≡ count + at.a = at.first in
      let u : at.a ≤ at.z = at.least in
      let v : at.z < count = at.inside in
      omega arith

  pub at_above : Power p → p ≤ 4096 → (c : ℕ) → count ≡ 2 * c → Power c → 0 < g
      → At p lo hi (2 * half) c ((g - 1) / 2) (stop / 2)
  at_above k few c twice power l =
      let pos : 0 < c = omega (arith, more l) in
      let e : g + 1 ≡ count + at.a = at.first in
      let f : stop ≡ count + at.z = at.last in
      let v : at.z < count = at.inside in
      let u : at.a ≤ at.z = at.least in
      record {
        power = power;
        level = level_above p c half k few pos (subst (λ (x : ℕ). Level p x half) twice at.level);
        a = at.a / 2;
        z = at.z / 2;
        first = omega arith;
        last = omega arith;
        least = omega arith;
        inside = omega arith;
        from = low_half at.a half lo at.from;
        before = high_half at.a half lo at.before;
        to = low_half_less at.z half hi at.to;
        behind = high_half_most at.z half hi at.behind;
      }

  -- a group of the level is one of those, or apart
  module _ (h : ℕ) (a : count ≤ h + 1) (b : h + 1 < 2 * count) where
    abbrev number : ℕ
    number = h + 1 - count

    pub sited-here : Sited p h (number * half) half
    sited-here =
        let some : 0 < count = at.level.some in
        let e : count - 1 + number ≡ h = omega arith in
        subst (λ (x : ℕ). Sited p x (number * half) half) e (at.level.sited number (omega arith))

    pub one_of : (aim : ℕ → Group) (s : List ℕ) → RestIn p lo hi s aim
        → ((h : ℕ) → g ≤ h → h < stop → group_in s h ≡ aim h) → h + 1 < 2 * p → group_in s h ≡ aim h
    one_of aim s rest done u =
        let e : g + 1 ≡ count + at.a = at.first in
        let w : stop ≡ count + at.z = at.last in
        ⊎_elim
        (λ l. let m : (number + 1) * half ≤ at.a * half = mul-le-mul_right half
        (let q : number + 1 ≤ at.a = omega arith in q) in
        let from : at.a * half ≤ lo = at.from in
        rest h u (apart p lo hi h (number * half) half sited-here (inr (omega arith))))
        (λ l. ⊎_elim (λ v. done h l v)
        (λ v. let m : (at.z + 1) * half ≤ number * half = mul-le-mul_right half
        (let q : at.z + 1 ≤ number = omega arith in q) in
        let behind : hi ≤ at.z * half + half = at.behind in
        rest h u (apart p lo hi h (number * half) half sited-here (inl (omega arith)))) (order h stop)) (order h g)

    pub has_some : g ≤ h → h < stop → Apart p lo hi h → ⊥
    has_some l v =
        let e : g + 1 ≡ count + at.a = at.first in
        let w : stop ≡ count + at.z = at.last in
        let m : at.a * half ≤ number * half = mul-le-mul_right half (let q : at.a ≤ number = omega arith in q) in
        let m' : number * half ≤ at.z * half = mul-le-mul_right half (let q : number ≤ at.z = omega arith in q) in
        let before : lo < at.a * half + half = at.before in
        let to : at.z * half < hi = at.to in
        meets p lo hi h (number * half) half sited-here (omega arith) (omega arith)

-- the level above: its groups are groups of the summary, and so are their halves
module _ (p lo hi half count g stop : ℕ) (k : Power p) (few : p ≤ 4096) (at : At p lo hi half count g stop) where
  pub up : 0 < g → (c : ℕ) × At p lo hi (2 * half) c ((g - 1) / 2) (stop / 2)
  up l =
      let e = even_count count at.power (more p lo hi half count g stop at l) in
      (e.0, at_above p lo hi half count g stop at k few e.0 e.1 e.2 l)

  pub above_few : 0 < g → (stop / 2 < p) × (2 * half ≤ p)
  above_few l =
      let e = even_count count at.power (more p lo hi half count g stop at l) in
      let c : ℕ = e.0 in
      let twice : count ≡ 2 * c = e.1 in
      let here : At p lo hi (2 * half) c ((g - 1) / 2) (stop / 2) =
      at_above p lo hi half count g stop at k few c twice e.2 l in
      let w : stop / 2 ≡ c + here.z = here.last in
      let v : here.z < c = here.inside in
      let some : 0 < c = here.level.some in
      let m : ℕ = count - 1 in
      let n : count - 1 + m + 1 < 2 * p =
      sited_index p (count - 1 + m) (m * half) half (at.level.sited m (omega arith)) in
      let i : (c - 1) * (2 * half) + 2 * half ≤ p = (here.level.sited (c - 1) (omega arith)).inside in
      (omega arith, omega arith)

-- one group has all of the words, or there are several
module _ (p lo hi half count g stop : ℕ) (at : At p lo hi half count g stop) where
  pub single : stop ≤ g + 1 → stop ≡ g + 1
  single u =
      let e : g + 1 ≡ count + at.a = at.first in
      let w : stop ≡ count + at.z = at.last in
      let v : at.a ≤ at.z = at.least in
      omega arith

  pub several : g + 1 < stop → 0 < g
  several u =
      let e : g + 1 ≡ count + at.a = at.first in
      let w : stop ≡ count + at.z = at.last in
      let v : at.z < count = at.inside in
      omega arith

-- where one group has all of the words, it is the only one of the level
pub only_one : (p lo hi half count g stop : ℕ) (at : At p lo hi half count g stop) (h : ℕ) → count ≤ h + 1 → h + 1 < 2 * count
    → (place p h).first ≤ lo → hi ≤ (place p h).first + (place p h).size → (h ≡ g) × (stop ≡ g + 1)
only_one p lo hi half count g stop at h a b low high =
    let s : Sited p h ((h + 1 - count) * half) half = sited-here p lo hi half count g stop at h a b in
    let first : (place p h).first ≡ (h + 1 - count) * half = ap (λ (l : Span). l.first) s.lies in
    let size : (place p h).size ≡ half = ap (λ (l : Span). l.size) s.lies in
    let e : g + 1 ≡ count + at.a = at.first in
    let w : stop ≡ count + at.z = at.last in
    let v : at.a ≤ at.z = at.least in
    let before : lo < at.a * half + half = at.before in
    let to : at.z * half < hi = at.to in
    let i : h + 1 - count < at.a + 1 = lt_of_mul-lt-mul_right half
    (let q : (h + 1 - count) * half < (at.a + 1) * half = omega arith in q) in
    let j : at.z < h + 1 - count + 1 = lt_of_mul-lt-mul_right half
    (let q : at.z * half < (h + 1 - count + 1) * half = omega arith in q) in
    (omega arith, omega arith)
