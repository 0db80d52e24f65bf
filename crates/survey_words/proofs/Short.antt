-- A word none of whose bytes is all free: its head and tail are those of a byte, and its longest run is 14 at the most.
-- Assumes nothing.
use mathlib.Core.Path.{◌≡◌, refl, sym, ◌∙◌, subst}
use mathlib.Core.Bool.{Bool}
use mathlib.Core.List.{List, [], ◌++◌}
use Prim.Native.Nat.{ℕ, zero, suc, ◌+◌, ◌/◌, ◌%◌, ◌<◌, ◌≤◌, max}
use native.Mathlib.Omega.{arith}
use lib.ListN.{length}
use Rattle.survey_bytes.specs.Runs.{head_of, tail_of, longest_of, runs_of}
use Rattle.survey_bytes.specs.Bytes.{bits_of}
use Rattle.survey_words.specs.Passing.{Summary, Short}
use Rattle.survey_bytes.proofs.Bytes.{eight}
use Rattle.survey_words.proofs.Joining.{longest_append, head_short, tail_short, tail_longest, head_longest}
use Rattle.survey_words.proofs.Words.{bytes, word_bits, nothing_behind}

-- what is known of a list of bytes, none of which is all free: its head and tail, and its longest run
pub record Known (head tail : ℕ) (xs : List Bool) : Type 0 where
  pub heads : head_of xs ≡ head
  pub low : head < 8
  pub tails : tail_of xs ≡ tail
  pub broken : tail_of xs < length xs
  pub short : longest_of xs ≤ 14

-- the head of the first of k + 1 bytes
abbrev pub top : ℕ → ℕ → ℕ
top zero w = head_of (bits_of 8 (w % 256))
top (suc k) w = top k (w / 256)

one_byte : (b : ℕ) → longest_of (bits_of 8 b) < 8
    → Known (head_of (bits_of 8 b)) (tail_of (bits_of 8 b)) (bits_of 8 b ++ [])
one_byte b l =
    subst (Known (head_of (bits_of 8 b)) (tail_of (bits_of 8 b))) (sym (nothing_behind (bits_of 8 b)))
    (record {
      heads = refl;
      low = omega (arith, head_longest (bits_of 8 b));
      tails = refl;
      broken = omega (arith, tail_longest (bits_of 8 b), eight b);
      short = omega arith;
    })

-- a byte more
more : (b head tail : ℕ) (zs : List Bool) → longest_of (bits_of 8 b) < 8 → Known head tail zs
    → Known (head_of (bits_of 8 b)) tail (bits_of 8 b ++ zs)
more b head tail zs l k =
    let xs : List Bool = bits_of 8 b in
    let h : head_of xs < length xs = omega (arith, head_longest xs, eight b) in
    let t = tail_short xs zs k.broken in
    record {
      heads = head_short xs zs h;
      low = omega (arith, head_longest xs);
      tails = t.0 ∙ k.tails;
      broken = t.1;
      short = omega (arith, longest_append xs zs, tail_longest xs, k.heads, k.low, k.short);
    }

others : (k w head tail : ℕ) (ys : List Bool) → head ≡ head_of (bits_of 8 (w % 256))
    → Known head tail (bits_of 8 (w % 256) ++ ys) → Short k (w / 256)
    → Known (top k w) tail (bytes k (w / 256) (bits_of 8 (w % 256) ++ ys))
others zero w head tail ys e known s = subst (λ (h : ℕ). Known h tail (bits_of 8 (w % 256) ++ ys)) e known
others (suc k) w head tail ys e known s =
    others k (w / 256) _ tail (bits_of 8 (w % 256) ++ ys) refl
    (more (w / 256 % 256) head tail (bits_of 8 (w % 256) ++ ys) s.0 known) s.1

pub short_word : (w : ℕ) → Short 8 w → Known (top 7 w) (tail_of (bits_of 8 (w % 256))) (bits_of 64 w)
short_word w s =
    subst (Known (top 7 w) (tail_of (bits_of 8 (w % 256)))) (word_bits 8 w [] ∙ nothing_behind (bits_of 64 w))
    (others 7 w _ _ [] refl (one_byte (w % 256) s.0) s.1)

word_length : (w : ℕ) → length (bits_of 64 w) ≡ 64
unfolding bits_of
word_length w = refl

-- the word before others
pub summary_short : (w head longest runs h t r2 r3 : ℕ) → Short 8 w → h ≡ top 7 w → t ≡ tail_of (bits_of 8 (w % 256))
    → 14 ≤ longest → r2 ≡ max longest (t + head)
    → ((ys : List Bool) → head ≡ head_of ys → runs ≡ runs_of ys → r3 ≡ runs_of (bits_of 64 w ++ ys))
    → (ys : List Bool) → Summary head longest runs ys → Summary h r2 r3 (bits_of 64 w ++ ys)
summary_short w head longest runs h t r2 r3 short eh et l e2 e3 ys s =
    let xs : List Bool = bits_of 64 w in
    let k : Known (top 7 w) (tail_of (bits_of 8 (w % 256))) xs = short_word w short in
    record {
      heads = eh ∙ sym (head_short xs ys (omega (arith, word_length w, k.heads, k.low)) ∙ k.heads);
      longests = omega (arith, longest_append xs ys, k.short, k.tails, s.heads, s.longests, e2, et);
      counts = e3 ys s.heads s.counts;
    }
