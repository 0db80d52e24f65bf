-- The entries of a list, one of them changed, and extents that lie apart.
-- Assumes nothing.
use Rattle.std.proofs.Common.{◌≡◌, ℕ, zero, suc, ◌+◌, ◌<◌, ◌≤◌, ◌⊎◌, List, [], ◌∷◌, map, length, set, sym, refl, ap, ◌∙◌, subst}
use Rattle.std.proofs.Common.{ap₂, inl, inr, ⊎_elim, arith}
use Rattle.catalogue.specs.Entries.{entry_at}
use Rattle.catalogue.specs.declared.Entry.{Entry}

abbrev pub Member : Entry → List Entry → Type 0
Member e [] = ⊥
Member e (x ∷ xs) = (x ≡ e) ⊎ Member e xs

pub map_same : (f g : Entry → Entry) (es : List Entry) → ((e : Entry) → Member e es → f e ≡ g e) → map f es ≡ map g es
map_same f g [] h = refl
map_same f g (x ∷ xs) h = ap₂ ◌∷◌ (h x (inl refl)) (map_same f g xs (λ e m. h e (inr m)))

pub map_map : (f g : Entry → Entry) (es : List Entry) → map g (map f es) ≡ map (λ e. g (f e)) es
map_map f g [] = refl
map_map f g (x ∷ xs) = ap (◌∷◌ (g (f x))) (map_map f g xs)

-- the entry at a place is one of the list
pub at_member : (es : List Entry) (i : ℕ) → i < length es → Member (entry_at es i) es
at_member [] i h = absurd (omega arith)
at_member (x ∷ xs) zero h = inl refl
at_member (x ∷ xs) (suc i) h = inr (at_member xs i (omega arith))

pub map_at : (f : Entry → Entry) (es : List Entry) (i : ℕ) → i < length es → entry_at (map f es) i ≡ f (entry_at es i)
map_at f [] i h = absurd (omega arith)
map_at f (x ∷ xs) zero h = refl
map_at f (x ∷ xs) (suc i) h = map_at f xs i (omega arith)

pub set_past : (es : List Entry) (i : ℕ) (e : Entry) → length es ≤ i → set es i e ≡ es
set_past [] i e h = refl
set_past (x ∷ xs) zero e h = absurd (omega arith)
set_past (x ∷ xs) (suc i) e h = ap (◌∷◌ x) (set_past xs i e (omega arith))

pub map_self : (f : Entry → Entry) (es : List Entry) → ((e : Entry) → Member e es → f e ≡ e) → map f es ≡ es
map_self f [] h = refl
map_self f (x ∷ xs) h = ap₂ ◌∷◌ (h x (inl refl)) (map_self f xs (λ e m. h e (inr m)))

-- two extents lie apart
abbrev pub Off : Entry → Entry → Type 0
Off x e = 1 ≤ x.length → 1 ≤ e.length → (x.start + x.length ≤ e.start) ⊎ (e.start + e.length ≤ x.start)

-- all extents lie apart
abbrev pub Apart : List Entry → Type 0
Apart [] = Unit {0}
Apart (x ∷ xs) = ((e : Entry) → Member e xs → Off x e) × Apart xs

pub two_apart : (es : List Entry) → Apart es → (x e : Entry) → Member x es → Member e es → 1 ≤ x.length → 1 ≤ e.length
    → ((x.start + x.length ≤ e.start) ⊎ (e.start + e.length ≤ x.start)) ⊎ (x ≡ e)
two_apart [] a x e x7 _ lx le = elim x7 [ ]
two_apart (y ∷ ys) a x e (inl p) (inl q) lx le = inr (sym p ∙ q)
two_apart (y ∷ ys) a x e (inl p) (inr q) lx le = inl (subst (λ (z : Entry). Off z e) p (a.0 e q) lx le)
two_apart (y ∷ ys) a x e (inr p) (inl q) lx le =
    inl (⊎_elim (λ h. inr h) (λ h. inl h) (subst (λ (z : Entry). Off z x) q (a.0 x p) le lx))
two_apart (y ∷ ys) a x e (inr p) (inr q) lx le = two_apart ys a.1 x e p q lx le

-- of two extents, the one that starts later starts after the other's end
pub starts_after : (es : List Entry) → Apart es → (x e : Entry) → Member x es → Member e es → 1 ≤ x.length → 1 ≤ e.length
    → x.start < e.start → x.start + x.length ≤ e.start
starts_after es a x e mx me lx le lt =
    ⊎_elim
    (λ (o : (x.start + x.length ≤ e.start) ⊎ (e.start + e.length ≤ x.start)).
    ⊎_elim (λ h. h) (λ (h : e.start + e.length ≤ x.start). absurd (omega arith)) o)
    (λ (p : x ≡ e). let q : x.start ≡ e.start = ap (λ (z : Entry). z.start) p in absurd (omega arith))
    (two_apart es a x e mx me lx le)

-- and those that start together are one
pub same_extent : (es : List Entry) → Apart es → (x e : Entry) → Member x es → Member e es → 1 ≤ x.length → 1 ≤ e.length
    → x.start ≡ e.start → x ≡ e
same_extent es a x e mx me lx le eq =
    ⊎_elim
    (λ (o : (x.start + x.length ≤ e.start) ⊎ (e.start + e.length ≤ x.start)).
    ⊎_elim (λ (h : x.start + x.length ≤ e.start). absurd (omega arith))
    (λ (h : e.start + e.length ≤ x.start). absurd (omega arith)) o)
    (λ (p : x ≡ e). p)
    (two_apart es a x e mx me lx le)

-- one entry is changed: all others, which lie apart from it, are the same by f and by g
pub set_one : (f g : Entry → Entry) (es : List Entry) (i : ℕ) → i < length es → Apart es
    → ((y : Entry) → Member y es → Off (entry_at es i) y → f y ≡ g y) → set (map f es) i (g (entry_at es i)) ≡ map g es
set_one f g [] i l a h = absurd (omega arith)
set_one f g (x ∷ xs) zero l a h = ap (◌∷◌ (g x)) (map_same f g xs (λ y m. h y (inr m) (a.0 y m)))
set_one f g (x ∷ xs) (suc i) l a h =
    ap₂ ◌∷◌
    (h x (inl refl) (λ le lx.
    ⊎_elim (λ q. inr q) (λ q. inl q) (a.0 (entry_at xs i) (at_member xs i (omega arith)) lx le)))
    (set_one f g xs i (omega arith) a.1 (λ y m. h y (inr m)))
