-- The longest run of a word, by runs that grow, and the group that a word's numbers make.
-- Assumes nothing.
use Rattle.std.proofs.Common.{◌≡◌, ℕ, ◌+◌, ◌-◌, ◌*◌, ◌%◌, ◌^◌, ◌<◌, ◌≤◌, Bool, true, false, ◌&&◌, sym, refl, ap, ◌∙◌, subst}
use Rattle.std.proofs.Common.{ap₂, ⊎_elim, add_assoc, add-one, arith}
use lib.Bits.{bit_and, and_lt}
use lib.Count.{count_leading_zeros}
use Rattle.laws.proofs.Bools.{order, clash, both_ways, and_left, and_right, and_both}
use Rattle.map_blocks.specs.Blocks.{all}
use Rattle.map_blocks.specs.Words.{bit}
use Rattle.map_blocks.proofs.Bits.{bit_and_lem, bit_shl, bit_past, bit_zero, bit_ones}
use Rattle.map_blocks.proofs.Runs.{all_intro, all_elim, all_one, all_break}
use Rattle.map_search_starts.specs.Starts.{Head}
use Rattle.map_search_word.specs.Scan.{Tail}
use Rattle.map_search_word.proofs.Ends.{First, first_set}
use Rattle.survey_bytes.specs.Runs.{longest_of}
use Rattle.survey.specs.Survey.{blocks}
use Rattle.summary_groups.specs.declared.Group.{Group}
use Rattle.summary_groups.specs.Groups.{group_of}
use Rattle.summary_groups.specs.Words.{StartsOf, Reaching, Longest}
use Rattle.summary_groups.proofs.Ends.{HeadRun, TailRun, longest_least, longest_most}
use Rattle.summary_groups.proofs.Joins.{group_is}

-- ---- runs that grow

-- a run of a ones, and one of b right behind it
all_behind : (f : ℕ → Bool) (s a b : ℕ) → (all f s a && all f (a + s) b) ≡ all f s (a + b)
all_behind f s a b =
    both_ways (all f s a && all f (a + s) b) (all f s (a + b))
    (λ e. all_intro f s (a + b) (λ t l u.
    ⊎_elim (λ v. all_elim f s a (and_left (all f s a) (all f (a + s) b) e) t l v)
    (λ v. all_elim f (a + s) b (and_right (all f s a) (all f (a + s) b) e) t (omega arith) (omega arith)) (order t (s + a))))
    (λ e. and_both (all f s a) (all f (a + s) b) (all_intro f s a (λ t l u. all_elim f s (a + b) e t l (omega arith)))
    (all_intro f (a + s) b (λ t l u. all_elim f s (a + b) e t (omega arith) (omega arith))))

pub behind : (w x a y b : ℕ) → StartsOf w a x → StartsOf w b y → StartsOf w (a + b) (bit_and x ((y * 2 ^ a) % 2 ^ 64))
behind w x a y b p q j =
    bit_and_lem x ((y * 2 ^ a) % 2 ^ 64) j ∙ ap (λ (t : Bool). bit x j && t) (bit_shl y a j) ∙ ap₂ ◌&&◌ (p j) (q (a + j))
    ∙ all_behind (bit w) j a b

pub ones : (w : ℕ) → StartsOf w 1 w
ones w j = sym (all_one (bit w) j)

pub reach_first : (w : ℕ) → 0 < w → w < 2 ^ 64 → Reaching w w 1 (32 + 32)
reach_first w p b = record {
  at = ones w;
  some = p;
  word = b;
  none = λ j. all_break (bit w) j 65 (j + 64) (omega arith) (omega arith) (bit_past w (j + 64) (omega arith));
}

module _ (w x a m y : ℕ) (r : Reaching w x a (m + m)) (q : StartsOf w m y) where
  pub reach_on : 0 < bit_and x ((y * 2 ^ a) % 2 ^ 64) → Reaching w (bit_and x ((y * 2 ^ a) % 2 ^ 64)) (a + m) m
  reach_on p = record {
    at = behind w x a y m r.at q;
    some = p;
    word = and_lt 64 x ((y * 2 ^ a) % 2 ^ 64) r.word (omega arith);
    none = λ j. ap (all (bit w) j) (add_assoc a m m) ∙ r.none j;
  }

  pub reach_same : bit_and x ((y * 2 ^ a) % 2 ^ 64) ≡ 0 → Reaching w x a m
  reach_same e = record {
    at = r.at;
    some = r.some;
    word = r.word;
    none = λ j. sym (behind w x a y m r.at q j) ∙ ap (λ (z : ℕ). bit z j) e ∙ bit_zero j;
  }

pub reach_last : (w x a : ℕ) → Reaching w x a 1 → Longest w a
reach_last w x a r =
    let h : First x (count_leading_zeros 64 x) = first_set x r.some r.word in
    let run : all (bit w) (count_leading_zeros 64 x) a ≡ true = sym (r.at (count_leading_zeros 64 x)) ∙ h.here in
    let l : count_leading_zeros 64 x < 64 = h.within in
    record {
      start = count_leading_zeros 64 x;
      within = ⊎_elim
          (λ u. absurd (clash (bit w 64) (all_elim (bit w) (count_leading_zeros 64 x) a run 64 (omega arith) u)
          (bit_past w 64 (omega arith))))
          (λ u. u) (order 64 (count_leading_zeros 64 x + a));
      run = run;
      none = λ j. ap (all (bit w) j) (sym (add-one a)) ∙ r.none j;
    }

-- ---- the group of a word

module _ (w : ℕ) where
  head_of : (r : ℕ) → Head w r → HeadRun (bit w) 0 64 r
  head_of r h = record {
    within = h.within;
    held = λ t a b. h.held t (omega arith);
    stop = λ t a b. let e : r ≡ t = omega arith in subst (λ (j : ℕ). bit w j ≡ false) e (h.stop b);
  }

  tail_of : (r : ℕ) → Tail w r → TailRun (bit w) 0 64 r
  tail_of r h = record {
    within = h.within;
    held = λ t a b. h.held t (omega arith) (omega arith);
    stop = λ t a b. h.stop t (omega arith);
  }

  longest_of_lem : (r : ℕ) → Longest w r → r ≡ longest_of (blocks (bit w) 0 64)
  longest_of_lem r h =
      let lo : r ≤ longest_of (blocks (bit w) 0 64) =
      longest_least (bit w) 0 64 h.start r (omega arith) (omega (arith, h.within)) h.run in
      let hi : longest_of (blocks (bit w) 0 64) ≤ r = longest_most (bit w) 0 64 r (λ t a b. h.none t) in
      omega arith

  pub word_is : (h t l : ℕ) → Head w h → Tail w t → Longest w l
      → ◌≡◌ {A = Group} (record { head = h; tail = t; longest = l }) (group_of (bit w) 0 64)
  word_is h t l p q r = group_is (bit w) 0 64 h t l (head_of h p) (tail_of t q) (longest_of_lem l r)

-- ---- words that need no work

module _ (w : ℕ) where
  pub head_none : w ≡ 0 → Head w 0
  head_none e = record {
    within = omega arith;
    held = λ j l. absurd (omega arith);
    stop = λ l. ap (λ (x : ℕ). bit x 0) e ∙ bit_zero 0;
  }

  pub tail_none : w ≡ 0 → Tail w 0
  tail_none e = record {
    within = omega arith;
    held = λ j l u. absurd (omega arith);
    stop = λ j u. ap (λ (x : ℕ). bit x j) e ∙ bit_zero j;
  }

  pub longest_none : w ≡ 0 → Longest w 0
  unfolding all
  longest_none e = record {
    start = 0;
    within = omega arith;
    run = refl;
    none = λ j. all_one (bit w) j ∙ ap (λ (x : ℕ). bit x j) e ∙ bit_zero j;
  }

  full : w ≡ 2 ^ 64 - 1 → (j : ℕ) → j < 64 → bit w j ≡ true
  full e j l = ap (λ (x : ℕ). bit x j) e ∙ bit_ones j l

  pub head_full : w ≡ 2 ^ 64 - 1 → Head w 64
  head_full e = record { within = omega arith; held = full e; stop = λ l. absurd (omega arith) }

  pub tail_full : w ≡ 2 ^ 64 - 1 → Tail w 64
  tail_full e = record { within = omega arith; held = λ j l u. full e j l; stop = λ j u. absurd (omega arith) }

  pub longest_full : w ≡ 2 ^ 64 - 1 → Longest w 64
  longest_full e = record {
    start = 0;
    within = omega arith;
    run = all_intro (bit w) 0 64 (λ t a b. full e t (omega arith));
    none = λ j. all_break (bit w) j 65 (j + 64) (omega arith) (omega arith) (bit_past w (j + 64) (omega arith));
  }
