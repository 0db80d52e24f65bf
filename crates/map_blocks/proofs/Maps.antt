-- The words of a map and its blocks: each block is a bit of its word, and `map_of` is the only list of words with its blocks
-- free.
-- Assumes nothing.
use mathlib.Core.Path.{◌≡◌, refl, sym, ap, ap₂, ◌∙◌, subst}
use mathlib.Core.Bool.{Bool, true, false, ◌&&◌, cond, not}
use mathlib.Core.List.{List}
use Prim.Native.Nat.{ℕ, zero, suc, ◌+◌, ◌-◌, ◌*◌, ◌/◌, ◌%◌, ◌<◌, ◌^◌}
use native.Mathlib.Nat.{zero-add, div-one}
use native.Mathlib.Omega.{arith}
use lib.Dec.{eqb, leb, ltb}
use lib.Arith.{digits_div, digits_mod}
use lib.Bits.{bit_and}
use lib.ListN.{length, get_or}
use lib.Seq.{ext_get_or}
use lib.Pow.{shr-shr}
use native.Mathlib.Numerals.{one-add}
use Rattle.map_blocks.specs.Blocks.{free}
use Rattle.map_blocks.specs.Maps.{pack, words, map_of, marked, in_state, in_run}
use Rattle.map_blocks.specs.Words.{bit, in_window}
use Rattle.laws.proofs.Bools.{and_swap}
use Rattle.map_blocks.proofs.Bits.{low, word_ext, bit_and_lem}

-- block j of word i of a map
pub free_bit : (map : List ℕ) (i j : ℕ) → j < 64 → free map (i * 64 + j) ≡ bit (get_or map i 0) j
unfolding free bit
free_bit map i j l =
    let q : (i * 64 + j) / 64 ≡ i = omega arith in
    let r : 63 - (i * 64 + j) % 64 ≡ 63 - j = omega arith in
    ap₂ (λ (x y : ℕ). eqb (get_or map x 0 / 2 ^ y % 2) 1) q r
    ∙ ap (λ (x : ℕ). eqb (x % 2) 1) (sym (low (get_or map i 0) (63 - j) j (omega arith)))

-- a word with the bits of blocks outside a window set to 0 shows the blocks inside it
pub cut_word : (map : List ℕ) (from before i m : ℕ)
    → ((j : ℕ) → j < 64 → bit m j ≡ (leb from (i * 64 + j) && ltb (i * 64 + j) before))
    → (j : ℕ) → j < 64 → bit (bit_and (get_or map i 0) m) j ≡ in_window (free map) from before (i * 64 + j)
cut_word map from before i m mask j l =
    bit_and_lem (get_or map i 0) m j ∙ and_swap (bit (get_or map i 0) j) (bit m j)
    ∙ ap₂ ◌&&◌ (mask j l) (sym (free_bit map i j l))

digit_lt : (a : Bool) → cond a 1 0 < 2
digit_lt true = omega arith
digit_lt false = omega arith

pub pack_lt : (f : ℕ → Bool) (b m : ℕ) → pack f b m < 2 ^ m
unfolding pack
pack_lt f b zero = omega arith
pack_lt f b (suc m) = let h : pack f b m < 2 ^ m = pack_lt f b m in let d : cond (f (b + m)) 1 0 < 2 = digit_lt (f (b + m)) in
    omega arith

-- digit i from the least significant end, where i and j + 1 make m
pack_low : (f : ℕ → Bool) (b m i j : ℕ) → suc (i + j) ≡ m → pack f b m / 2 ^ i % 2 ≡ cond (f (b + j)) 1 0
unfolding pack
pack_low f b zero i j e = absurd (omega arith)
pack_low f b (suc m) zero j e =
    let q : m ≡ j = omega arith in
    ap (λ (x : ℕ). x % 2) (div-one (pack f b m * 2 + cond (f (b + m)) 1 0)) ∙ digits_mod (pack f b m) (digit_lt (f (b + m)))
    ∙ ap (λ (x : ℕ). cond (f (b + x)) 1 0) q
pack_low f b (suc m) (suc i) j e =
    ap (λ (x : ℕ). x % 2)
    (sym (shr-shr (pack f b m * 2 + cond (f (b + m)) 1 0) 1 i
    ∙ ap (λ (y : ℕ). (pack f b m * 2 + cond (f (b + m)) 1 0) / 2 ^ y) (one-add i)))
    ∙ ap (λ (x : ℕ). x / 2 ^ i % 2) (digits_div (pack f b m) (digit_lt (f (b + m))))
    ∙ pack_low f b m i j (omega arith)

is_one : (a : Bool) → eqb (cond a 1 0) 1 ≡ a
is_one true = refl
is_one false = refl

pub pack_bit : (f : ℕ → Bool) (b j : ℕ) → j < 64 → bit (pack f b 64) j ≡ f (b + j)
unfolding bit
pack_bit f b j l =
    ap (λ (x : ℕ). eqb (x % 2) 1) (low (pack f b 64) (63 - j) j (omega arith))
    ∙ ap (λ (x : ℕ). eqb x 1) (pack_low f b 64 (63 - j) j (omega arith)) ∙ is_one (f (b + j))

pub words_length : (f : ℕ → Bool) (b w : ℕ) → length (words f b w) ≡ w
unfolding words
words_length f b zero = refl
words_length f b (suc w) = ap suc (words_length f (b + 64) w)

pub words_at_lem : (f : ℕ → Bool) (b w i : ℕ) → i < w → get_or (words f b w) i 0 ≡ pack f (b + i * 64) 64
unfolding words
words_at_lem f b zero i l = absurd (omega arith)
words_at_lem f b (suc w) zero l = let e : b ≡ b + 0 * 64 = omega arith in ap (λ (x : ℕ). pack f x 64) e
words_at_lem f b (suc w) (suc i) l = let e : b + 64 + i * 64 ≡ b + suc i * 64 = omega arith in
    words_at_lem f (b + 64) w i (omega arith) ∙ ap (λ (x : ℕ). pack f x 64) e

pub map_length : (f : ℕ → Bool) (w : ℕ) → length (map_of f w) ≡ w
unfolding map_of
map_length f w = words_length f 0 w

-- a map whose blocks were marked has the words it had
pub marked_length : (map : List ℕ) (start k : ℕ) (to : Bool) → length (marked map start k to) ≡ length map
unfolding marked
marked_length map start k to = map_length (λ b. cond (in_run start k b) to (free map b)) (length map)

pub map_at : (f : ℕ → Bool) (w i : ℕ) → i < w → get_or (map_of f w) i 0 ≡ pack f (i * 64) 64
unfolding map_of
map_at f w i l = words_at_lem f 0 w i l ∙ ap (λ (x : ℕ). pack f x 64) (zero-add (i * 64))

-- which blocks are free
pub map_free : (f : ℕ → Bool) (w b : ℕ) → b < w * 64 → free (map_of f w) b ≡ f b
map_free f w b l =
    let e : b / 64 * 64 + b % 64 ≡ b = omega arith in
    subst (λ (x : ℕ). free (map_of f w) x ≡ f x) e
    (free_bit (map_of f w) (b / 64) (b % 64) (omega arith) ∙ ap (λ (x : ℕ). bit x (b % 64)) (map_at f w (b / 64) (omega arith))
    ∙ pack_bit f (b / 64 * 64) (b % 64) (omega arith))

-- the only such list of words
pub map_ext : (f : ℕ → Bool) (w : ℕ) (l : List ℕ) → length l ≡ w → ((i : ℕ) → i < w → get_or l i 0 < 2 ^ 64)
    → ((b : ℕ) → b < w * 64 → free l b ≡ f b) → l ≡ map_of f w
map_ext f w l e small same =
    ext_get_or 0 l (map_of f w) (e ∙ sym (map_length f w)) (λ i h.
    let u : i < w = omega arith in
    word_ext (get_or l i 0) (pack f (i * 64) 64) (small i u) (pack_lt f (i * 64) 64) (λ j v.
    sym (free_bit l i j v) ∙ same (i * 64 + j) (omega arith) ∙ sym (pack_bit f (i * 64) j v))
    ∙ sym (map_at f w i u))

-- a block is in a state exactly if that is its bit
pub in_state_lem : (map : List ℕ) (state : Bool) (b : ℕ) → in_state map state b ≡ true → free map b ≡ state
in_state_lem map true b e = e
in_state_lem map false b e = not-not (free map b) e
  where
    not-not : (a : Bool) → not a ≡ true → a ≡ false
    not-not true e = sym e
    not-not false e = refl

pub state_of : (map : List ℕ) (state : Bool) (b : ℕ) → free map b ≡ state → in_state map state b ≡ true
state_of map true b e = e
state_of map false b e = ap not e
