-- How many blocks the extents before a start have, and how many extents wait at or after one.
-- Assumes nothing.
use Rattle.std.proofs.Common.{◌≡◌, ℕ, ◌+◌, ◌<◌, ◌≤◌, Bool, true, false, cond, ◌&&◌, ltb, leb, ◌⊎◌, List, [], ◌∷◌, length, sym}
use Rattle.std.proofs.Common.{refl, ap, ◌∙◌, subst, inl, inr, ⊎_elim, arith, le-ltb, lt-ltb, le-leb}
use borrow.Author.Tests.{lt-leb}
use Rattle.laws.proofs.Bools.{order}
use Rattle.catalogue.specs.declared.Entry.{Entry}
use Rattle.catalogue.specs.Entries.{held}
use Rattle.closing.specs.Closed.{below}
use Rattle.closing.proofs.Members.{Member, Apart}

-- what one entry adds
abbrev part : Entry → ℕ → ℕ
part e s = cond (ltb e.start s) e.length 0

part_in : (e : Entry) (s : ℕ) → e.start < s → part e s ≡ e.length
part_in e s h = ap (λ (b : Bool). cond b e.length 0) (lt-ltb e.start s h)

part_out : (e : Entry) (s : ℕ) → s ≤ e.start → part e s ≡ 0
part_out e s h = ap (λ (b : Bool). cond b e.length 0) (le-ltb e.start s h)

part_empty : (e : Entry) (s : ℕ) → e.length ≡ 0 → part e s ≡ 0
part_empty e s h = ⊎_elim (λ (l : e.start < s). part_in e s l ∙ h) (λ (l : s ≤ e.start). part_out e s l) (order e.start s)

part_grows : (e : Entry) (s t : ℕ) → s ≤ t → part e s ≤ part e t
part_grows e s t h =
    ⊎_elim
    (λ (l : e.start < s). let p : part e s ≡ e.length = part_in e s l in
    let q : part e t ≡ e.length = part_in e t (omega arith) in omega arith)
    (λ (l : s ≤ e.start). let p : part e s ≡ 0 = part_out e s l in omega arith)
    (order e.start s)

pub below_zero : (es : List Entry) → below es 0 ≡ 0
unfolding below
below_zero [] = refl
below_zero (e ∷ es) = let p : part e 0 ≡ 0 = part_out e 0 (omega arith) in let q = below_zero es in omega arith

pub below_grows : (es : List Entry) (s t : ℕ) → s ≤ t → below es s ≤ below es t
unfolding below
below_grows [] s t h = omega arith
below_grows (e ∷ es) s t h =
    let p : part e s ≤ part e t = part_grows e s t h in
    let q : below es s ≤ below es t = below_grows es s t h in
    omega arith

-- an extent that starts before t ends, once it is packed, where those before t end, or before that
pub below_adds : (es : List Entry) (e : Entry) (t : ℕ) → Member e es → e.start < t
    → below es e.start + e.length ≤ below es t
unfolding below
below_adds [] e t x'' h = elim x'' [ ]
below_adds (x ∷ xs) e t (inl p) h =
    subst (λ (z : Entry). z.start < t → below (x ∷ xs) z.start + z.length ≤ below (x ∷ xs) t) p (λ (g : x.start < t).
    let a : part x x.start ≡ 0 = part_out x x.start (omega arith) in
    let b : part x t ≡ x.length = part_in x t g in
    let c : below xs x.start ≤ below xs t = below_grows xs x.start t (omega arith) in
    omega arith) h
below_adds (x ∷ xs) e t (inr m) h =
    let a : part x e.start ≤ part x t = part_grows x e.start t (omega arith) in
    let b : below xs e.start + e.length ≤ below xs t = below_adds xs e t m h in
    omega arith

-- no extent starts from t on and before s
pub below_same : (es : List Entry) (t s : ℕ) → t ≤ s
    → ((e : Entry) → Member e es → 1 ≤ e.length → t ≤ e.start → s ≤ e.start) → below es s ≡ below es t
unfolding below
below_same [] t s h none = refl
below_same (x ∷ xs) t s h none =
    let q : below xs s ≡ below xs t = below_same xs t s h (λ e m. none e (inr m)) in
    let p : part x s ≡ part x t =
    ⊎_elim
    (λ (l : x.start < t). part_in x s (omega arith) ∙ sym (part_in x t l))
    (λ (l : t ≤ x.start).
    ⊎_elim
    (λ (z : x.length < 1). let z' : x.length ≡ 0 = omega arith in part_empty x s z' ∙ sym (part_empty x t z'))
    (λ (z : 1 ≤ x.length). part_out x s (none x (inl refl) z l) ∙ sym (part_out x t l))
    (order x.length 1))
    (order x.start t) in
    omega arith

-- one extent starts at its start
pub below_one : (es : List Entry) → Apart es → (e : Entry) → Member e es → 1 ≤ e.length
    → below es (e.start + 1) ≡ below es e.start + e.length
unfolding below
below_one [] a e x3 l = elim x3 [ ]
below_one (x ∷ xs) a e (inl p) l =
    subst (λ (z : Entry). 1 ≤ z.length → below (x ∷ xs) (z.start + 1) ≡ below (x ∷ xs) z.start + z.length) p
    (λ (g : 1 ≤ x.length).
    let i : part x (x.start + 1) ≡ x.length = part_in x (x.start + 1) (omega arith) in
    let o : part x x.start ≡ 0 = part_out x x.start (omega arith) in
    let q : below xs (x.start + 1) ≡ below xs x.start =
    below_same xs x.start (x.start + 1) (omega arith) (λ y m ly h.
    ⊎_elim (λ (u : x.start + x.length ≤ y.start). omega arith)
    (λ (u : y.start + y.length ≤ x.start). absurd (omega arith)) (a.0 y m g ly)) in
    omega arith) l
below_one (x ∷ xs) a e (inr m) l =
    let q : below xs (e.start + 1) ≡ below xs e.start + e.length = below_one xs a.1 e m l in
    let p : part x (e.start + 1) ≡ part x e.start =
    ⊎_elim
    (λ (z : x.length < 1). let z' : x.length ≡ 0 = omega arith in
    part_empty x (e.start + 1) z' ∙ sym (part_empty x e.start z'))
    (λ (z : 1 ≤ x.length).
    ⊎_elim
    (λ (u : x.start + x.length ≤ e.start). part_in x (e.start + 1) (omega arith) ∙ sym (part_in x e.start (omega arith)))
    (λ (u : e.start + e.length ≤ x.start). part_out x (e.start + 1) (omega arith)
    ∙ sym (part_out x e.start (omega arith)))
    (a.0 e m z l))
    (order x.length 1) in
    omega arith

-- all extents start before t
pub below_all : (es : List Entry) (t : ℕ) → ((e : Entry) → Member e es → 1 ≤ e.length → e.start < t) → below es t ≡ held es
unfolding below held
below_all [] t h = refl
below_all (x ∷ xs) t h =
    let q : below xs t ≡ held xs = below_all xs t (λ e m. h e (inr m)) in
    let p : part x t ≡ x.length =
    ⊎_elim
    (λ (z : x.length < 1). let z' : x.length ≡ 0 = omega arith in part_empty x t z' ∙ sym z')
    (λ (z : 1 ≤ x.length). part_in x t (h x (inl refl) z))
    (order x.length 1) in
    omega arith

-- ---- how many extents wait from t on
abbrev waits : Entry → ℕ → ℕ
waits e t = cond (leb 1 e.length && leb t e.start) 1 0

unfoldable pub waiting : List Entry → ℕ → ℕ
waiting [] t = 0
waiting (e ∷ es) t = waits e t + waiting es t

waits_in : (e : Entry) (t : ℕ) → 1 ≤ e.length → t ≤ e.start → waits e t ≡ 1
waits_in e t l h =
    ap (λ (b : Bool). cond (b && leb t e.start) 1 0) (le-leb 1 e.length l)
    ∙ ap (λ (b : Bool). cond b 1 0) (le-leb t e.start h)

waits_past : (e : Entry) (t : ℕ) → e.start < t → waits e t ≡ 0
waits_past e t h = by (leb 1 e.length) (lt-leb t e.start h)
  where
    by : (b : Bool) → leb t e.start ≡ false → ◌≡◌ {A = ℕ} (cond (b && leb t e.start) 1 0) 0
    by true p = ap (λ (c : Bool). cond c 1 0) p
    by false p = refl

waits_empty : (e : Entry) (t : ℕ) → e.length ≡ 0 → waits e t ≡ 0
waits_empty e t h = ap (λ (b : Bool). cond (b && leb t e.start) 1 0) (lt-leb 1 e.length (omega arith))

-- in each case
waits_cases : (e : Entry) (t : ℕ)
    → ((1 ≤ e.length) × (t ≤ e.start) × (waits e t ≡ 1)) ⊎ (((e.length ≡ 0) ⊎ (e.start < t)) × (waits e t ≡ 0))
waits_cases e t =
    ⊎_elim
    (λ (z : e.length < 1). let z' : e.length ≡ 0 = omega arith in inr (inl z', waits_empty e t z'))
    (λ (z : 1 ≤ e.length).
    ⊎_elim (λ (l : e.start < t). inr (inr l, waits_past e t l)) (λ (l : t ≤ e.start). inl (z, l, waits_in e t z l))
    (order e.start t))
    (order e.length 1)

pub waiting_most : (es : List Entry) (t : ℕ) → waiting es t ≤ length es
unfolding waiting
waiting_most [] t = omega arith
waiting_most (x ∷ xs) t =
    let q : waiting xs t ≤ length xs = waiting_most xs t in
    ⊎_elim
    (λ c. let p : waits x t ≡ 1 = c.2 in omega arith)
    (λ c. let p : waits x t ≡ 0 = c.1 in omega arith)
    (waits_cases x t)

waits_falls : (x : Entry) (s t : ℕ) → s ≤ t → waits x t ≤ waits x s
waits_falls x s t h =
    ⊎_elim
    (λ c. let p : waits x t ≡ 1 = c.2 in let q : waits x s ≡ 1 = waits_in x s c.0 (omega (arith, c.1)) in omega arith)
    (λ c. let p : waits x t ≡ 0 = c.1 in omega arith)
    (waits_cases x t)

pub waiting_falls : (es : List Entry) (s t : ℕ) → s ≤ t → waiting es t ≤ waiting es s
unfolding waiting
waiting_falls [] s t h = omega arith
waiting_falls (x ∷ xs) s t h =
    let p : waits x t ≤ waits x s = waits_falls x s t h in
    let q : waiting xs t ≤ waiting xs s = waiting_falls xs s t h in
    omega arith

-- one of them is packed
pub waiting_less : (es : List Entry) (e : Entry) (t : ℕ) → Member e es → 1 ≤ e.length → t ≤ e.start
    → waiting es (e.start + 1) + 1 ≤ waiting es t
unfolding waiting
waiting_less [] e t x3 l h = elim x3 [ ]
waiting_less (x ∷ xs) e t (inl p) l h =
    subst (λ (z : Entry). 1 ≤ z.length → t ≤ z.start → waiting (x ∷ xs) (z.start + 1) + 1 ≤ waiting (x ∷ xs) t) p
    (λ (g : 1 ≤ x.length) (k : t ≤ x.start).
    let a : waits x (x.start + 1) ≡ 0 = waits_past x (x.start + 1) (omega arith) in
    let b : waits x t ≡ 1 = waits_in x t g k in
    let c : waiting xs (x.start + 1) ≤ waiting xs t = waiting_falls xs t (x.start + 1) (omega arith) in
    omega arith) l h
waiting_less (x ∷ xs) e t (inr m) l h =
    let a : waits x (e.start + 1) ≤ waits x t = waits_falls x t (e.start + 1) (omega arith) in
    let b : waiting xs (e.start + 1) + 1 ≤ waiting xs t = waiting_less xs e t m l h in
    omega arith

-- none waits
pub none_waits : (es : List Entry) (t : ℕ) → waiting es t ≡ 0 → (e : Entry) → Member e es → 1 ≤ e.length → e.start < t
unfolding waiting
none_waits [] t z e x3 l = elim x3 [ ]
none_waits (x ∷ xs) t z e (inl p) l =
    subst (λ (y : Entry). 1 ≤ y.length → y.start < t) p (λ (g : 1 ≤ x.length).
    ⊎_elim
    (λ c. let q : waits x t ≡ 1 = c.2 in absurd (omega arith))
    (λ c. ⊎_elim (λ (k : x.length ≡ 0). absurd (omega arith)) (λ (k : x.start < t). k) c.0)
    (waits_cases x t)) l
none_waits (x ∷ xs) t z e (inr m) l = none_waits xs t (omega arith) e m l

pub waits_none : (es : List Entry) (t : ℕ) → ((e : Entry) → Member e es → 1 ≤ e.length → e.start < t) → waiting es t ≡ 0
unfolding waiting
waits_none [] t h = refl
waits_none (x ∷ xs) t h =
    let q : waiting xs t ≡ 0 = waits_none xs t (λ e m. h e (inr m)) in
    ⊎_elim
    (λ c. let k : x.start < t = h x (inl refl) c.0 in absurd (omega (arith, c.1)))
    (λ c. let p : waits x t ≡ 0 = c.1 in omega arith)
    (waits_cases x t)
