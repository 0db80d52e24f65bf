-- How a change of one byte or of two moves the sums A and B.
-- Assumes nothing.
use mathlib.Core.Path.{◌≡◌, refl, sym, ap, ap₂, ◌∙◌}
use mathlib.Core.Bool.{Bool, true, false, cond}
use mathlib.Core.List.{List, [], ◌∷◌}
use Prim.Native.Nat.{ℕ, suc, ◌+◌, ◌*◌, ◌-◌, ◌%◌, ◌≤◌, ◌<◌}
use native.Mathlib.Nat.{mod-add-mod, add-mod-mod}
use native.Mathlib.Omega.{arith}
use lib.Dec.{eqb}
use lib.ListN.{length}
use borrow.Author.Tests.{eqb-true, eqb-false}
use Rattle.block_seals.specs.Sealed.{sums}
use Rattle.image_frames.specs.Frames.{Bytes}
use Rattle.check_power.specs.Damage.{apart}
use Rattle.check_power.proofs.Apart.{apart_none}
use Rattle.check_power.proofs.Multiples.{unequal_remainders}

-- the bytes added up, and added up with their weights: the last one counts once, the one before it twice
unfoldable pub total : List ℕ → ℕ
total [] = 0
total (x ∷ xs) = x + total xs

unfoldable pub weighted : List ℕ → ℕ
weighted [] = 0
weighted (x ∷ xs) = suc (length xs) * x + weighted xs

-- A and B with one reduction, at the end
plain : (a b : ℕ) (xs : List ℕ)
    → sums (a % 65521) (b % 65521) xs ≡ ((a + total xs) % 65521, (b + length xs * a + weighted xs) % 65521)
unfolding sums total weighted
plain a b [] =
    let ea : a ≡ a + 0 = omega arith in
    let eb : b ≡ b + 0 * a + 0 = omega arith in
    ap₂ (λ (m n : ℕ). (m % 65521, n % 65521)) ea eb
plain a b (x ∷ xs) =
    let ea : a + x + total xs ≡ a + (x + total xs) = omega arith in
    let eb : b + (a + x) + length xs * (a + x) + weighted xs ≡ b + suc (length xs) * a + (suc (length xs) * x + weighted xs) =
    omega arith in
    rw (mod-add-mod a 65521, mod-add-mod b 65521, add-mod-mod b)
    (plain (a + x) (b + (a + x)) xs ∙ ap₂ (λ (m n : ℕ). (m % 65521, n % 65521)) ea eb)

-- one byte changed from x to y: A moves by the difference, B by w times the difference
pub record Moved (us vs : List ℕ) : Type 0 where
  pub x : ℕ
  pub y : ℕ
  pub w : ℕ
  pub x_byte : x < 256
  pub y_byte : y < 256
  pub differ : x ≡ y → ⊥
  pub w_low : 0 < w
  pub w_high : w ≤ length us
  pub in_total : total us + y ≡ total vs + x
  pub in_weighted : weighted us + w * y ≡ weighted vs + w * x

-- two bytes changed, from x to y and from x' to y', the first e places before the second
pub record Twice (us vs : List ℕ) : Type 0 where
  pub x : ℕ
  pub y : ℕ
  pub x' : ℕ
  pub y' : ℕ
  pub w : ℕ
  pub e : ℕ
  pub x_byte : x < 256
  pub y_byte : y < 256
  pub x'_byte : x' < 256
  pub y'_byte : y' < 256
  pub differ : x ≡ y → ⊥
  pub e_low : 0 < e
  pub e_high : e ≤ length us
  pub in_total : total us + (y + y') ≡ total vs + (x + x')
  pub in_weighted : weighted us + ((w + e) * y + w * y') ≡ weighted vs + ((w + e) * x + w * x')

-- an equal byte in front changes neither; a changed byte in front is one change more
module _ (x y : ℕ) (us vs : List ℕ) (long : length us ≡ length vs) where
  weight : suc (length vs) * y + weighted vs ≡ suc (length us) * y + weighted vs
  weight = ap (λ (n : ℕ). suc n * y + weighted vs) (sym long)

  moved_on : x ≡ y → Moved us vs → Moved (x ∷ us) (y ∷ vs)
  unfolding total weighted
  moved_on same m = record {
    x = m.x;
    y = m.y;
    w = m.w;
    x_byte = m.x_byte;
    y_byte = m.y_byte;
    differ = m.differ;
    w_low = m.w_low;
    w_high = omega (arith, m.w_high);
    in_total = omega (arith, same, m.in_total);
    in_weighted = omega (arith, ap (λ (n : ℕ). suc (length us) * n) same, weight, m.in_weighted);
  }

  moved_first : us ≡ vs → x < 256 → y < 256 → (x ≡ y → ⊥) → Moved (x ∷ us) (y ∷ vs)
  unfolding total weighted
  moved_first rest hx hy d = record {
    x = x;
    y = y;
    w = suc (length us);
    x_byte = hx;
    y_byte = hy;
    differ = d;
    w_low = omega arith;
    w_high = omega arith;
    in_total = omega (arith, ap total rest);
    in_weighted = omega (arith, ap weighted rest, weight);
  }

  twice_on : x ≡ y → Twice us vs → Twice (x ∷ us) (y ∷ vs)
  unfolding total weighted
  twice_on same m = record {
    x = m.x;
    y = m.y;
    x' = m.x';
    y' = m.y';
    w = m.w;
    e = m.e;
    x_byte = m.x_byte;
    y_byte = m.y_byte;
    x'_byte = m.x'_byte;
    y'_byte = m.y'_byte;
    differ = m.differ;
    e_low = m.e_low;
    e_high = omega (arith, m.e_high);
    in_total = omega (arith, same, m.in_total);
    in_weighted = omega (arith, ap (λ (n : ℕ). suc (length us) * n) same, weight, m.in_weighted);
  }

  twice_first : Moved us vs → x < 256 → y < 256 → (x ≡ y → ⊥) → Twice (x ∷ us) (y ∷ vs)
  unfolding total weighted
  twice_first m hx hy d =
      let e : ℕ = suc (length us) - m.w in
      let all : suc (length us) ≡ m.w + e = omega (arith, m.w_high) in
      record {
        x = x;
        y = y;
        x' = m.x;
        y' = m.y;
        w = m.w;
        e = e;
        x_byte = hx;
        y_byte = hy;
        x'_byte = m.x_byte;
        y'_byte = m.y_byte;
        differ = d;
        e_low = omega (arith, m.w_high);
        e_high = omega (arith, m.w_low);
        in_total = omega (arith, m.in_total);
        in_weighted = omega (arith, weight, ap (λ (n : ℕ). n * x) all, ap (λ (n : ℕ). n * y) all, m.in_weighted);
      }

-- bytes behind the first
rest_bytes : (x : ℕ) (us : List ℕ) → Bytes (x ∷ us) → Bytes us
rest_bytes x us h i = h (suc i)

pub moved : (us vs : List ℕ) → length us ≡ length vs → Bytes us → Bytes vs → apart us vs ≡ 1 → Moved us vs
unfolding apart
moved [] vs l su sv e = absurd (omega arith)
moved (x ∷ us) [] l su sv e = absurd (omega arith)
moved (x ∷ us) (y ∷ vs) l su sv e =
    by (eqb x y) refl e (λ k. moved us vs (omega arith) (rest_bytes x us su) (rest_bytes y vs sv) k)
  where
    by : (r : Bool) → eqb x y ≡ r → cond r 0 1 + apart us vs ≡ 1 → (apart us vs ≡ 1 → Moved us vs) → Moved (x ∷ us) (y ∷ vs)
    by true p e next = moved_on x y us vs (omega arith) (eqb-true x y p) (next (omega arith))
    by false p e next =
        moved_first x y us vs (omega arith) (apart_none us vs (omega arith) (omega arith)) (su 0) (sv 0) (eqb-false x y p)

pub twice : (us vs : List ℕ) → length us ≡ length vs → Bytes us → Bytes vs → apart us vs ≡ 2 → Twice us vs
unfolding apart
twice [] vs l su sv e = absurd (omega arith)
twice (x ∷ us) [] l su sv e = absurd (omega arith)
twice (x ∷ us) (y ∷ vs) l su sv e =
    by (eqb x y) refl e (λ k. twice us vs (omega arith) (rest_bytes x us su) (rest_bytes y vs sv) k)
  where
    by : (r : Bool) → eqb x y ≡ r → cond r 0 1 + apart us vs ≡ 2 → (apart us vs ≡ 2 → Twice us vs) → Twice (x ∷ us) (y ∷ vs)
    by true p e next = twice_on x y us vs (omega arith) (eqb-true x y p) (next (omega arith))
    by false p e next =
        twice_first x y us vs (omega arith) (moved us vs (omega arith) (rest_bytes x us su) (rest_bytes y vs sv) (omega arith))
        (su 0) (sv 0) (eqb-false x y p)

-- ---- what that does to A and B

pub A-plain : (xs : List ℕ) → (sums 1 0 xs).0 ≡ (1 + total xs) % 65521
A-plain xs = ap (λ r. r.0) (plain 1 0 xs)

pub B-plain : (xs : List ℕ) → (sums 1 0 xs).1 ≡ (0 + length xs * 1 + weighted xs) % 65521
B-plain xs = ap (λ r. r.1) (plain 1 0 xs)

other_a : (p q x y : ℕ) → x < 256 → y < 256 → (x ≡ y → ⊥) → p + y ≡ q + x → (1 + p) % 65521 ≡ (1 + q) % 65521 → ⊥
other_a p q x y hx hy d e same = omega arith

same_a : (p q x y : ℕ) → x < 512 → y < 512 → p + y ≡ q + x → (1 + p) % 65521 ≡ (1 + q) % 65521 → x ≡ y
same_a p q x y hx hy e same = omega arith

-- two changes that leave A: B moves as if one of them had the difference of their weights
joined : (p q w e x y x' y' : ℕ) → x + x' ≡ y + y' → p + ((w + e) * y + w * y') ≡ q + ((w + e) * x + w * x')
    → p + e * y ≡ q + e * x
joined p q w e x y x' y' s h = omega (arith, ap (λ (n : ℕ). w * n) s)

module _ (us vs : List ℕ) (long : length us ≡ length vs) (short : length us ≤ 504) where
  lengths : 0 + length us * 1 ≡ 0 + length vs * 1
  lengths = omega arith

  pub A-moves : Moved us vs → (sums 1 0 us).0 ≡ (sums 1 0 vs).0 → ⊥
  A-moves m same =
      other_a (total us) (total vs) m.x m.y m.x_byte m.y_byte m.differ m.in_total
      (sym (A-plain us) ∙ same ∙ A-plain vs)

  weighted_moves : (w x y : ℕ) → 0 < w → w ≤ 504 → x < 256 → y < 256 → (x ≡ y → ⊥) → weighted us + w * y ≡ weighted vs + w * x
      → (sums 1 0 us).1 ≡ (sums 1 0 vs).1 → ⊥
  weighted_moves w x y hw hw' hx hy d e same =
      unequal_remainders (0 + length us * 1 + weighted us) (0 + length vs * 1 + weighted vs) w x y hw hw' hx hy d
      (omega (arith, lengths, e)) (sym (B-plain us) ∙ same ∙ B-plain vs)

  pub B-moves : Moved us vs → (sums 1 0 us).1 ≡ (sums 1 0 vs).1 → ⊥
  B-moves m same =
      weighted_moves m.w m.x m.y m.w_low (omega (arith, m.w_high)) m.x_byte m.y_byte m.differ
      m.in_weighted same

  pub one_moves : Twice us vs → (sums 1 0 us).0 ≡ (sums 1 0 vs).0 → (sums 1 0 us).1 ≡ (sums 1 0 vs).1 → ⊥
  one_moves m same-a same-b =
      let s : m.x + m.x' ≡ m.y + m.y' =
      same_a (total us) (total vs) (m.x + m.x') (m.y + m.y') (omega (arith, m.x_byte, m.x'_byte))
      (omega (arith, m.y_byte, m.y'_byte)) m.in_total
      (sym (A-plain us) ∙ same-a ∙ A-plain vs) in
      weighted_moves m.e m.x m.y m.e_low (omega (arith, m.e_high)) m.x_byte m.y_byte m.differ
      (joined (weighted us) (weighted vs) m.w m.e m.x m.y m.x' m.y' s m.in_weighted) same-b
