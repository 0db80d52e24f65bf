-- The multiples of a step.
-- Assumes nothing.
use mathlib.Core.Path.{◌≡◌, refl, sym, ap, ap₂, ◌∙◌}
use mathlib.Core.Logic.{⊎_elim}
use mathlib.Core.Bool.{Bool, true, false, ◌&&◌, ◌||◌}
use Prim.Native.Nat.{ℕ, zero, suc, ◌+◌, ◌-◌, ◌*◌, ◌/◌, ◌%◌, ◌^◌, ◌≤◌, ◌<◌}
use native.Mathlib.Nat.{mod-add-mod, mod_self, mod-eq_of_lt, zero-add, zero-mod, mul-mod_left, div-add-mod'}
use native.Mathlib.Omega.{arith}
use lib.Dec.{eqb, leb, ltb}
use lib.Bits.{bit_or}
use borrow.Author.Tests.{lt-ltb, le-ltb, le-leb}
use Rattle.map_blocks.specs.Blocks.{on_step}
use Rattle.map_blocks.specs.Words.{bit, Mask}
use Rattle.laws.proofs.Bools.{not_true, order}
use Rattle.map_blocks.proofs.Bits.{bit_or_lem, bit_shr, bit_shr_none}
use Rattle.map_blocks.proofs.Fits.{on_mod, mod_on}
use Rattle.map_search_starts.specs.Starts.{Marks}

-- as far behind a multiple
pub on_add : (step d j : ℕ) → d % step ≡ 0 → on_step step (d + j) ≡ on_step step j
unfolding on_step
on_add step d j e = ap (λ (x : ℕ). eqb x 0) (sym (mod-add-mod d step j) ∙ ap (λ (x : ℕ). (x + j) % step) e
    ∙ ap (λ (x : ℕ). x % step) (zero-add j))

-- none between a multiple and the next
pub between : (step d j : ℕ) → d % step ≡ 0 → 0 < j → j < step → on_step step (d + j) ≡ false
between step d j e a b =
    not_true (on_step step (d + j)) (λ h.
    let z : j % step ≡ 0 = on_mod step j (sym (on_add step d j e) ∙ h) in
    let w : j % step ≡ j = mod-eq_of_lt b in
    omega arith)

-- none before the next multiple
pub none_ahead : (step base r j : ℕ) → (base + r) % step ≡ 0 → j < r → r < step → on_step step (base + j) ≡ false
none_ahead step base r j e a b =
    not_true (on_step step (base + j)) (λ h.
    let q : base + r ≡ base + j + (r - j) = omega arith in
    let z : (r - j) % step ≡ 0 = on_mod step (r - j)
    (sym (on_add step (base + j) (r - j) (on_mod step (base + j) h))
    ∙ mod_on step (base + j + (r - j)) (ap (λ (x : ℕ). x % step) (sym q) ∙ e)) in
    let w : (r - j) % step ≡ r - j = mod-eq_of_lt (less r j step a b) in
    omega arith)
  where
    less : (r j step : ℕ) → j < r → r < step → r - j < step
    less r j step a b = omega arith

-- ---- as bits

-- the multiples below `done`, a multiple itself
abbrev pub Below : ℕ → ℕ → ℕ → Type 0
Below step done m = (j : ℕ) → j < 64 → bit m j ≡ (ltb j done && on_step step j)

pub one_below : (step m : ℕ) → 0 < step → Mask 0 1 m → Below step step m
one_below step m h mask j l = mask j l ∙ by j
  where
    by : (j : ℕ) → (leb 0 j && ltb j 1) ≡ (ltb j step && on_step step j)
    by zero =
        ap₂ ◌&&◌ (le-leb 0 0 (omega arith)) (lt-ltb 0 1 (omega arith))
        ∙ sym (ap₂ ◌&&◌ (lt-ltb 0 step h) (mod_on step 0 (zero-mod step)))
    by (suc j) =
        ap₂ ◌&&◌ (le-leb 0 (suc j) (omega arith)) (le-ltb (suc j) 1 (omega arith))
        ∙ ⊎_elim (λ (u : suc j < step). let e : 0 + suc j ≡ suc j = omega arith in
        sym (ap₂ ◌&&◌ (lt-ltb (suc j) step u) (ap (on_step step) (sym e)
        ∙ between step 0 (suc j) (zero-mod step) (omega arith) u)))
        (λ (u : step ≤ suc j). sym (ap (λ (x : Bool). x && on_step step (suc j)) (le-ltb (suc j) step u))) (order (suc j) step)

pub twice_below : (step done m : ℕ) → done < 64 → m < 2 ^ 64 → done % step ≡ 0 → Below step done m
    → Below step (done + done) (bit_or m (m / 2 ^ done))
twice_below step done m h b e below j l =
    bit_or_lem m (m / 2 ^ done) j
    ∙ ⊎_elim
    (λ (u : j < done). ap₂ ◌||◌ (below j l) (bit_shr_none m done j b (omega arith) u) ∙ or-none (ltb j done && on_step step j)
    ∙ ap (λ (x : Bool). x && on_step step j) (lt-ltb j done u ∙ sym (lt-ltb j (done + done) (omega arith))))
    (λ (u : done ≤ j).
    let q : done + (j - done) ≡ j = omega arith in
    ap₂ ◌||◌ (below j l ∙ ap (λ (x : Bool). x && on_step step j) (le-ltb j done u))
    (ap (bit (m / 2 ^ done)) (sym q) ∙ bit_shr m done (j - done) (omega arith) ∙ below (j - done) (omega arith)
    ∙ ap₂ ◌&&◌ (moved (j - done) j q) (sym (on_add step done (j - done) e) ∙ ap (on_step step) q)))
    (order j done)
  where
    or-none : (a : Bool) → (a || false) ≡ a
    or-none true = refl
    or-none false = refl

    moved : (i j : ℕ) → done + i ≡ j → ltb i done ≡ ltb j (done + done)
    moved i j q = ⊎_elim (λ (u : i < done). lt-ltb i done u ∙ sym (lt-ltb j (done + done) (omega arith)))
        (λ (u : done ≤ i). le-ltb i done u ∙ sym (le-ltb j (done + done) (omega arith))) (order i done)

pub all_below : (step done m : ℕ) → 64 ≤ done → Below step done m → Marks (on_step step) 0 m
all_below step done m h below j l =
    below j l ∙ ap (λ (x : Bool). x && on_step step j) (lt-ltb j done (omega arith)) ∙ ap (on_step step) (sym (zero-add j))

pub shifted : (step base r m : ℕ) → m < 2 ^ 64 → Marks (on_step step) 0 m → r < step → r < 64 → (base + r) % step ≡ 0
    → Marks (on_step step) base (m / 2 ^ r)
shifted step base r m b marks h l e j u =
    ⊎_elim (λ (v : j < r). bit_shr_none m r j b (omega arith) v ∙ sym (none_ahead step base r j e v h))
    (λ (v : r ≤ j).
    let p : r + (j - r) ≡ j = omega arith in
    let q : base + r + (j - r) ≡ base + j = omega arith in
    ap (bit (m / 2 ^ r)) (sym p) ∙ bit_shr m r (j - r) (omega arith) ∙ marks (j - r) (omega arith)
    ∙ ap (on_step step) (zero-add (j - r)) ∙ sym (on_add step (base + r) (j - r) e) ∙ ap (on_step step) q) (order j r)

-- ---- from a word to the next

-- behind as many blocks as are a multiple
moved : (step base far d : ℕ) → (base + far) % step ≡ 0 → d % step ≡ 0 → (d + (base + far)) % step ≡ 0
moved step base far d e p = on_mod step (d + (base + far)) (on_add step d (base + far) p ∙ mod_on step (base + far) e)

module _ (step base far rest : ℕ) (is : rest ≡ 64 % step) (e : (base + far) % step ≡ 0) where
  whole : 64 / step * step + rest ≡ 64
  whole = ap (λ (x : ℕ). 64 / step * step + x) is ∙ div-add-mod' 64 step

  pub next_back : rest ≤ far → (base + 64 + (far - rest)) % step ≡ 0
  next_back l = ap (λ (x : ℕ). x % step) (same (64 / step * step) whole)
      ∙ moved step base far (64 / step * step) e (mul-mod_left (64 / step) step)
    where
      same : (d : ℕ) → d + rest ≡ 64 → base + 64 + (far - rest) ≡ d + (base + far)
      same d p = omega arith

  pub next_on : rest < step → (base + 64 + (far + step - rest)) % step ≡ 0
  next_on l = ap (λ (x : ℕ). x % step) (same (64 / step * step) whole)
      ∙ moved step base far (64 / step * step + step) e (on_mod step (64 / step * step + step)
      (on_add step (64 / step * step) step (mul-mod_left (64 / step) step) ∙ mod_on step step (mod_self step)))
    where
      same : (d : ℕ) → d + rest ≡ 64 → base + 64 + (far + step - rest) ≡ (d + step) + (base + far)
      same d p = omega arith

-- where 64 is a multiple, so is the first block of each word
words_on : (step a : ℕ) → 64 % step ≡ 0 → (a * 64) % step ≡ 0
words_on step zero e = zero-mod step
words_on step (suc a) e =
    let p : suc a * 64 ≡ 64 + a * 64 = omega arith in
    ap (λ (x : ℕ). x % step) p
    ∙ on_mod step (64 + a * 64) (on_add step 64 (a * 64) e ∙ mod_on step (a * 64) (words_on step a e))

pub same_bits : (step m : ℕ) → 64 % step ≡ 0 → Marks (on_step step) 0 m → (t : ℕ) → on_step step t ≡ true → bit m (t % 64)
    ≡ true
same_bits step m e marks t on =
    let p : t / 64 * 64 + t % 64 ≡ t = omega arith in
    marks (t % 64) (omega arith) ∙ ap (on_step step) (zero-add (t % 64))
    ∙ sym (on_add step (t / 64 * 64) (t % 64) (words_on step (t / 64) e)) ∙ ap (on_step step) p ∙ on
