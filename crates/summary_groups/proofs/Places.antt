-- Where the groups of a summary lie: the halves of a group, and the groups below one.
-- Assumes nothing.
use Rattle.std.proofs.Common.{◌≡◌, ℕ, zero, suc, ◌+◌, ◌-◌, ◌*◌, ◌/◌, ◌%◌, ◌^◌, ◌<◌, ◌≤◌, Bool, true, false, cond, eqb, ltb, ◌⊎◌}
use Rattle.std.proofs.Common.{sym, refl, ap, ◌∙◌, subst, inl, inr, ⊎_elim, arith, pow_pos, pow_mono, ltb-false, ltb-true}
use Rattle.std.proofs.Common.{eq-eqb, ne_eqb}
use Rattle.laws.proofs.Bools.{order}
use Rattle.summary_groups.specs.Groups.{doubled, power, Span, first_half, second_half, half_of, place_in, place}
use Rattle.summary_groups.specs.Places.{Below, same, left, right, Sited, Apart}

-- ---- the least power of two

abbrev pub Power : ℕ → Type 0
Power q = (k : ℕ) × (q ≡ 2 ^ k)

doubled_power : (m q w : ℕ) → Power q → Power (doubled m q w)
unfolding doubled
doubled_power zero q w k = k
doubled_power (suc m) q w k = pick (ltb q w) (doubled_power m (2 * q) w (twice q k)) k
  where
    twice : (q : ℕ) → Power q → Power (2 * q)
    twice q k = (suc k.0, let e : q ≡ 2 ^ k.0 = k.1 in omega arith)

    pick : (t : Bool) {a b : ℕ} → Power a → Power b → Power (cond t a b)
    pick true x y = x
    pick false x y = y

doubled_enough : (m q w : ℕ) → 0 < q → w ≤ q + m → w ≤ doubled m q w
unfolding doubled
doubled_enough zero q w a b = omega arith
doubled_enough (suc m) q w a b = go (ltb q w) refl (doubled_enough m (2 * q) w (omega arith) (omega arith))
  where
    go : (t : Bool) → ltb q w ≡ t → w ≤ doubled m (2 * q) w → w ≤ cond t (doubled m (2 * q) w) q
    go true e h = h
    go false e h = ltb-false q w e

doubled_least : (m q w : ℕ) → (doubled m q w ≡ q) ⊎ (doubled m q w < 2 * w)
unfolding doubled
doubled_least zero q w = inl refl
doubled_least (suc m) q w = go (ltb q w) refl (doubled_least m (2 * q) w)
  where
    go : (t : Bool) → ltb q w ≡ t → (doubled m (2 * q) w ≡ 2 * q) ⊎ (doubled m (2 * q) w < 2 * w)
        → (cond t (doubled m (2 * q) w) q ≡ q) ⊎ (cond t (doubled m (2 * q) w) q < 2 * w)
    go true e h = let l : q < w = ltb-true q w e in ⊎_elim (λ z. inr (omega arith)) (λ z. inr z) h
    go false e h = inl refl

pub power_power : (w : ℕ) → Power (power w)
unfolding power
power_power w = doubled_power w 1 w (0, refl)

pub power_enough : (w : ℕ) → w ≤ power w
unfolding power
power_enough w = doubled_enough w 1 w (omega arith) (omega arith)

-- no smaller power of two is enough
pub power_least : (w : ℕ) → (power w ≡ 1) ⊎ (power w < 2 * w)
unfolding power
power_least w = doubled_least w 1 w

pub power_pos : (w : ℕ) → 0 < power w
power_pos w = let k = power_power w in let e : power w ≡ 2 ^ k.0 = k.1 in omega (arith, pow_pos k.0)

pub power_small : (w : ℕ) → w ≤ 4096 → power w ≤ 4096
power_small w h = go (power_power w)
  where
    go : Power (power w) → power w ≤ 4096
    go (k, e) =
        ⊎_elim (λ l. let u : k ≤ 12 = omega arith in let m : 2 ^ k ≤ 2 ^ 12 = pow_mono u in omega arith)
        (λ g. let m : 2 ^ 13 ≤ 2 ^ k = pow_mono g in ⊎_elim (λ z. absurd (omega arith)) (λ z. absurd (omega arith))
        (power_least w)) (order k 13)

-- ---- where a group lies

abbrev whole : ℕ → Span
whole p = record { first = 0; size = p }

whole_at : (m p g : ℕ) → g ≡ 0 → place_in m p g ≡ whole p
unfolding place_in
whole_at zero p g e = refl
whole_at (suc m) p g e = ap (λ (x : Bool). cond x (whole p) (half_of g (place_in m p ((g - 1) / 2)))) (eq-eqb g 0 e)

fuel : (m n p g : ℕ) → g ≤ m → g ≤ n → place_in m p g ≡ place_in n p g
unfolding place_in
fuel zero n p g a b = sym (whole_at n p g (omega arith))
fuel (suc m) zero p g a b = whole_at (suc m) p g (omega arith)
fuel (suc m) (suc n) p g a b =
    ap (λ (x : Span). cond (eqb g 0) (whole p) (half_of g x)) (fuel m n p ((g - 1) / 2) (omega arith) (omega arith))

-- any group but 0 is a half of another
half_of_lem : (p g h m : ℕ) → h ≡ suc m → (h - 1) / 2 ≡ g → place p h ≡ half_of h (place p g)
unfolding place place_in
half_of_lem p g h m e q =
    ap (λ (i : ℕ). place_in i p h) e
    ∙ ap (λ (x : Bool). cond x (whole p) (half_of h (place_in m p ((h - 1) / 2)))) (ne_eqb h 0 (λ z. omega arith))
    ∙ ap (λ (i : ℕ). half_of h (place_in m p i)) q ∙ ap (half_of h) (fuel m g p g (omega arith) (omega arith))

pub place_zero : (p : ℕ) → place p 0 ≡ record { first = 0; size = p }
unfolding place place_in
place_zero p = refl

first_half_lem : (g : ℕ) (l : Span) → half_of (2 * g + 1) l ≡ first_half l
unfolding half_of
first_half_lem g l = ap (λ (x : Bool). cond x (first_half l) (second_half l)) (eq-eqb ((2 * g + 1) % 2) 1 (omega arith))

second_half_lem : (g : ℕ) (l : Span) → half_of (2 * g + 2) l ≡ second_half l
unfolding half_of
second_half_lem g l = ap (λ (x : Bool). cond x (first_half l) (second_half l)) (ne_eqb ((2 * g + 2) % 2) 1 (λ z. omega arith))

pub place_left : (p g : ℕ) → place p (2 * g + 1) ≡ first_half (place p g)
place_left p g = half_of_lem p g (2 * g + 1) (2 * g) (omega arith) (omega arith) ∙ first_half_lem g (place p g)

pub place_right : (p g : ℕ) → place p (2 * g + 2) ≡ second_half (place p g)
place_right p g = half_of_lem p g (2 * g + 2) (2 * g + 1) (omega arith) (omega arith) ∙ second_half_lem g (place p g)

-- ---- the groups below one

pub below_split : (g h : ℕ) → Below g h → (h ≡ g) ⊎ (Below (2 * g + 1) h ⊎ Below (2 * g + 2) h)
below_split g h same = inl refl
below_split g h (left i b) =
    ⊎_elim (λ e. inr (inl (subst (λ (x : ℕ). Below (2 * g + 1) (2 * x + 1)) (sym e) same)))
    (λ u. inr (⊎_elim (λ v. inl (left i v)) (λ v. inr (left i v)) u)) (below_split g i b)
below_split g h (right i b) =
    ⊎_elim (λ e. inr (inr (subst (λ (x : ℕ). Below (2 * g + 2) (2 * x + 2)) (sym e) same)))
    (λ u. inr (⊎_elim (λ v. inl (right i v)) (λ v. inr (right i v)) u)) (below_split g i b)

pub below_least : (g h : ℕ) → Below g h → (h ≡ g) ⊎ (2 * g + 1 ≤ h)
below_least g h same = inl refl
below_least g h (left i b) = ⊎_elim (λ e. inr (omega arith)) (λ l. inr (omega arith)) (below_least g i b)
below_least g h (right i b) = ⊎_elim (λ e. inr (omega arith)) (λ l. inr (omega arith)) (below_least g i b)

-- every group is below group 0
pub below_zero : (h : ℕ) → Below 0 h
below_zero h = go h h (omega arith)
  where
    go : (n h : ℕ) → h ≤ n → Below 0 h
    go zero h l = let e : 0 ≡ h = omega arith in subst (Below 0) e same
    go (suc n) h l = half n h (λ i u. go n i u) l
      where
        half : (n h : ℕ) → ((i : ℕ) → i ≤ n → Below 0 i) → h ≤ suc n → Below 0 h
        half n h rec l =
            ⊎_elim (λ z. let e : 0 ≡ h = omega arith in subst (Below 0) e same)
            (λ p. ⊎_elim (λ o. let e : 2 * ((h - 1) / 2) + 2 ≡ h = omega arith in subst (Below 0) e
            (right ((h - 1) / 2) (rec ((h - 1) / 2) (omega arith))))
            (λ o. let e : 2 * ((h - 1) / 2) + 1 ≡ h = omega arith in subst (Below 0) e
            (left ((h - 1) / 2) (rec ((h - 1) / 2) (omega arith)))) (order (h % 2) 1)) (order h 1)

-- its words are among those of the group above
pub record Within (a b : Span) : Type 0 where
  pub low : b.first ≤ a.first
  pub high : a.first + a.size ≤ b.first + b.size

pub below_within : (p g h : ℕ) → Below g h → Within (place p h) (place p g)
below_within p g h same = record { low = omega arith; high = omega arith }
below_within p g h (left i b) = subst (λ (x : Span). Within x (place p g)) (sym (place_left p i))
    (go (place p i) (place p g) (below_within p g i b))
  where
    go : (a c : Span) → Within a c → Within (first_half a) c
    go a c w = record { low = omega arith; high = omega arith }
below_within p g h (right i b) = subst (λ (x : Span). Within x (place p g)) (sym (place_right p i))
    (go (place p i) (place p g) (below_within p g i b))
  where
    go : (a c : Span) → Within a c → Within (second_half a) c
    go a c w = record { low = omega arith; high = omega arith }

pub apart_below : (p lo hi g h : ℕ) → Below g h → Apart p lo hi g → Apart p lo hi h
apart_below p lo hi g h b a =
    let w : Within (place p h) (place p g) = below_within p g h b in
    ⊎_elim (λ l. inl (omega arith)) (λ l. inr (omega arith)) a

-- ---- sited groups

pub sited_zero : (p : ℕ) → Power p → p ≤ 4096 → Sited p 0 0 p
sited_zero p k l = record { lies = place_zero p; level = k; sum = omega arith; inside = omega arith; small = l }

halved : (size : ℕ) → Power size → (size ≡ 1 → ⊥) → (h : ℕ) × (size ≡ 2 * h) × Power h
halved size (zero, e) ne = absurd (ne e)
halved size (suc k, e) ne = (2 ^ k, omega arith, (k, refl))

sited_halves : (p g first size h : ℕ) → size ≡ 2 * h → Power h → Sited p g first size → Sited p (2 * g + 1) first (size / 2)
    × Sited p (2 * g + 2) (first + size / 2) (size / 2)
sited_halves p g first size h e k s =
    let q : size / 2 ≡ h = omega arith in
    let sum : first + p ≡ (g + 1) * (2 * h) = s.sum ∙ ap (λ (x : ℕ). (g + 1) * x) e in
    let i : first + size ≤ p = s.inside in
    let one : first + p ≡ (2 * g + 1 + 1) * h = omega arith in
    let two : first + h + p ≡ (2 * g + 2 + 1) * h = omega arith in (
      record {
        lies = place_left p g ∙ ap first_half s.lies;
        level = (k.0, q ∙ k.1);
        sum = one ∙ ap (λ (x : ℕ). (2 * g + 1 + 1) * x) (sym q);
        inside = omega arith;
        small = s.small;
      },
      record {
        lies = place_right p g ∙ ap second_half s.lies;
        level = (k.0, q ∙ k.1);
        sum = ap (λ (x : ℕ). first + x + p) q ∙ two ∙ ap (λ (x : ℕ). (2 * g + 2 + 1) * x) (sym q);
        inside = omega arith;
        small = s.small;
      },
    )

module _ (p g first size : ℕ) (s : Sited p g first size) where
  pub sited_left : (size ≡ 1 → ⊥) → Sited p (2 * g + 1) first (size / 2)
  sited_left ne = let h = halved size s.level ne in (sited_halves p g first size h.0 h.1 h.2 s).0

  pub sited_right : (size ≡ 1 → ⊥) → Sited p (2 * g + 2) (first + size / 2) (size / 2)
  sited_right ne = let h = halved size s.level ne in (sited_halves p g first size h.0 h.1 h.2 s).1

  pub sited_even : (size ≡ 1 → ⊥) → size ≡ 2 * (size / 2)
  sited_even ne = let h = halved size s.level ne in let e : size ≡ 2 * h.0 = h.1 in omega arith

  pub sited_pos : 0 < size
  sited_pos = let k = s.level in let e : size ≡ 2 ^ k.0 = k.1 in omega (arith, pow_pos k.0)

  -- it is a group of the summary
  pub sited_index : g + 1 < 2 * p
  sited_index = go size s.sum s.inside sited_pos
    where
      go : (z : ℕ) → first + p ≡ (g + 1) * z → first + z ≤ p → 0 < z → g + 1 < 2 * p
      go zero a b c = absurd (omega arith)
      go (suc z) a b c = omega arith

  -- a group of one word has none below it
  pub sited_last : size ≡ 1 → (h : ℕ) → h + 1 < 2 * p → Below g h → h ≡ g
  sited_last e h l b =
      let sum : first + p ≡ (g + 1) * 1 = s.sum ∙ ap (λ (x : ℕ). (g + 1) * x) e in
      ⊎_elim (λ q. q) (λ u. absurd (omega arith)) (below_least g h b)

-- every group of a summary lies somewhere
pub sited_all : (p h : ℕ) → Power p → p ≤ 4096 → h + 1 < 2 * p → Below 0 h → Sited p h (place p h).first (place p h).size
sited_all p h k l u same = subst (λ (x : Span). Sited p 0 x.first x.size) (sym (place_zero p)) (sited_zero p k l)
sited_all p h k l u (left i b) =
    let s = sited_all p i k l (omega arith) b in
    subst (λ (x : Span). Sited p (2 * i + 1) x.first x.size) (sym (place_left p i))
    (sited_left p i (place p i).first (place p i).size s (more i s u))
  where
    more : (i : ℕ) → Sited p i (place p i).first (place p i).size → 2 * i + 1 + 1 < 2 * p → (place p i).size ≡ 1 → ⊥
    more i s u e = let sum : (place p i).first + p ≡ (i + 1) * 1 = s.sum ∙ ap (λ (x : ℕ). (i + 1) * x) e in omega arith
sited_all p h k l u (right i b) =
    let s = sited_all p i k l (omega arith) b in
    subst (λ (x : Span). Sited p (2 * i + 2) x.first x.size) (sym (place_right p i))
    (sited_right p i (place p i).first (place p i).size s (more i s u))
  where
    more : (i : ℕ) → Sited p i (place p i).first (place p i).size → 2 * i + 2 + 1 < 2 * p → (place p i).size ≡ 1 → ⊥
    more i s u e = let sum : (place p i).first + p ≡ (i + 1) * 1 = s.sum ∙ ap (λ (x : ℕ). (i + 1) * x) e in omega arith

-- what is below a half is below the group
pub below_left : (g h : ℕ) → Below (2 * g + 1) h → Below g h
below_left g h same = left g same
below_left g h (left i b) = left i (below_left g i b)
below_left g h (right i b) = right i (below_left g i b)

pub below_right : (g h : ℕ) → Below (2 * g + 2) h → Below g h
below_right g h same = right g same
below_right g h (left i b) = left i (below_right g i b)
below_right g h (right i b) = right i (below_right g i b)
