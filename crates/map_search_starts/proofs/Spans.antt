-- Two words one after the other: the runs of free blocks that start in the first, and the first of them at a start.
-- Assumes nothing.
use mathlib.Core.Path.{◌≡◌, refl, sym, ap, ◌∙◌}
use mathlib.Core.Logic.{◌⊎◌, inl, inr, ⊎_elim}
use mathlib.Core.Bool.{Bool, true, false, ◌&&◌, ◌||◌}
use Prim.Native.Nat.{ℕ, ◌+◌, ◌-◌, ◌*◌, ◌/◌, ◌%◌, ◌^◌, ◌≤◌, ◌<◌, min}
use native.Mathlib.Omega.{arith}
use lib.Dec.{leb, ltb}
use lib.Bits.{bit_and, bit_or}
use borrow.Author.Tests.{lt-ltb, le-leb, leb-true, ltb-true}
use Rattle.map_blocks.specs.Blocks.{all}
use Rattle.map_blocks.specs.Words.{bit, Mask}
use Rattle.laws.proofs.Bools.{and_left, and_right, and_both, or_left, or_right, both_ways, clash, not_true, order}
use Rattle.map_blocks.proofs.Bits.{bit_past, bit_and_lem, bit_or_lem, bit_zero, bit_shl, bit_shr}
use Rattle.map_blocks.proofs.Runs.{all_intro, all_elim}
use Rattle.map_search_word.specs.Scan.{Tail}
use Rattle.map_search_word.proofs.Ends.{First}
use Rattle.map_search_starts.specs.Starts.{Marks, Head, Alone, NoRun, FirstRun}

or_either : (a b : Bool) → (a || b) ≡ true → (a ≡ true) ⊎ (b ≡ true)
or_either true b e = inl refl
or_either false b e = inr e

module _ (f : ℕ → Bool) (base w n : ℕ) (here : Marks f base w) (behind : Marks f (base + 64) n) where
  -- a block of the first word, and one of the second
  in_first : (t : ℕ) → base ≤ t → t < base + 64 → bit w (t - base) ≡ f t
  in_first t a b = let e : base + (t - base) ≡ t = omega arith in here (t - base) (omega arith) ∙ ap f e

  in_second : (t : ℕ) → base + 64 ≤ t → t < base + 128 → bit n (t - (base + 64)) ≡ f t
  in_second t a b = let e : base + 64 + (t - (base + 64)) ≡ t = omega arith in behind (t - (base + 64)) (omega arith) ∙ ap f e

  -- a block that is free, with the next one free too or alone
  pub pair : (lone k : ℕ) → Alone k lone → (j : ℕ) → j < 64 → all f (base + j) k ≡ true
      → bit (bit_and w (bit_or (bit_or ((w * 2 ^ 1) % 2 ^ 64) (n / 2 ^ 63)) lone)) j ≡ true
  pair lone k alone j l e =
      let x : ℕ = (w * 2 ^ 1) % 2 ^ 64 in
      let y : ℕ = n / 2 ^ 63 in
      let p : 0 < k = alone.0 in
      bit_and_lem w (bit_or (bit_or x y) lone) j
      ∙ and_both (bit w j) (bit (bit_or (bit_or x y) lone) j)
      (here j l ∙ all_elim f (base + j) k e (base + j) (omega arith) (omega arith))
      (bit_or_lem (bit_or x y) lone j ∙ ⊎_elim
      (λ (u : k < 2). or_right (bit (bit_or x y) j) (bit lone j) (alone.1 u j l))
      (λ (u : 2 ≤ k). or_left (bit (bit_or x y) j) (bit lone j) (bit_or_lem x y j ∙ next x y refl refl
      (all_elim f (base + j) k e (base + j + 1) (omega arith) (omega arith)) (order j 63))) (order k 2))
    where
      next : (x y : ℕ) → x ≡ (w * 2 ^ 1) % 2 ^ 64 → y ≡ n / 2 ^ 63 → f (base + j + 1) ≡ true → (j < 63) ⊎ (63 ≤ j)
          → (bit x j || bit y j) ≡ true
      next x y p q free (inl u) =
          let e : base + (1 + j) ≡ base + j + 1 = omega arith in
          or_left (bit x j) (bit y j) (ap (λ (v : ℕ). bit v j) p ∙ bit_shl w 1 j ∙ here (1 + j) (omega arith) ∙ ap f e ∙ free)
      next x y p q free (inr u) =
          let e : base + 64 + 0 ≡ base + j + 1 = omega arith in
          let at : 63 + 0 ≡ j = omega arith in
          or_right (bit x j) (bit y j) (ap (λ (v : ℕ). bit v j) q ∙ ap (bit (n / 2 ^ 63)) (sym at) ∙ bit_shr n 63 0 (omega
          arith)
          ∙ behind 0 (omega arith) ∙ ap f e ∙ free)

  -- a run lies in the first word, or is made of the ones that it ends in and those that the second begins with
  module _ (k t l p e s g : ℕ) (some : 0 < k) (few : k ≤ 64) (tail : Tail w t) (ending : Mask (64 - t) 64 e) (head : Head n l)
      (mask : Mask 0 p s) (is : p ≡ min (65 + l - k) 64) (says : (j : ℕ) → bit g j ≡ all (bit w) j k) where
    within : (j : ℕ) → bit g j ≡ true → all f (base + j) k ≡ true
    within j h =
        let ones : all (bit w) j k ≡ true = sym (says j) ∙ h in
        let fits : j + k ≤ 64 =
        ⊎_elim (λ (u : 64 < j + k). absurd (clash (bit w (j + k - 1)) (all_elim (bit w) j k ones (j + k - 1) (omega arith)
        (omega arith)) (bit_past w (j + k - 1) (omega arith)))) (λ u. u) (order 64 (j + k)) in
        all_intro f (base + j) k (λ b u v. sym (in_first b (omega arith) (omega arith))
        ∙ all_elim (bit w) j k ones (b - base) (omega arith) (omega arith))

    over : (j : ℕ) → j < 64 → bit e j ≡ true → bit s j ≡ true → all f (base + j) k ≡ true
    over j h x y =
        let a : 64 - t ≤ j = leb-true (64 - t) j (and_left (leb (64 - t) j) (ltb j 64) (sym (ending j h) ∙ x)) in
        let b : j < p = ltb-true j p (and_right (leb 0 j) (ltb j p) (sym (mask j h) ∙ y)) in
        let lt : t ≤ 64 = tail.within in
        all_intro f (base + j) k (λ c u v. ⊎_elim
        (λ (z : c < base + 64). sym (in_first c (omega arith) z) ∙ tail.held (c - base) (omega arith) (omega arith))
        (λ (z : base + 64 ≤ c). sym (in_second c z (omega arith)) ∙ head.held (c - (base + 64)) (omega arith))
        (order c (base + 64)))

    back : (j : ℕ) → j < 64 → all f (base + j) k ≡ true → (j + k < 65) ⊎ (65 ≤ j + k)
        → bit (bit_or g (bit_and e s)) j ≡ true
    back j h x (inl u) =
        bit_or_lem g (bit_and e s) j ∙ or_left (bit g j) (bit (bit_and e s) j)
        (says j ∙ all_intro (bit w) j k (λ c a b. here c (omega arith)
        ∙ all_elim f (base + j) k x (base + c) (omega arith) (omega arith)))
    back j h x (inr u) =
        let lt : t ≤ 64 = tail.within in
        let a : 64 - t ≤ j =
        ⊎_elim (λ (z : j < 64 - t). absurd (clash (bit w (63 - t)) (here (63 - t) (omega arith)
        ∙ all_elim f (base + j) k x (base + (63 - t)) (omega arith) (omega arith)) (tail.stop (63 - t) (omega arith))))
        (λ z. z) (order j (64 - t)) in
        let b : j + k ≤ 64 + l =
        ⊎_elim (λ (z : 64 + l < j + k). absurd (clash (bit n l) (behind l (omega arith)
        ∙ all_elim f (base + j) k x (base + 64 + l) (omega arith) (omega arith)) (head.stop (omega arith))))
        (λ z. z) (order (64 + l) (j + k)) in
        bit_or_lem g (bit_and e s) j ∙ or_right (bit g j) (bit (bit_and e s) j)
        (bit_and_lem e s j ∙ and_both (bit e j) (bit s j)
        (ending j h ∙ and_both (leb (64 - t) j) (ltb j 64) (le-leb (64 - t) j a) (lt-ltb j 64 h))
        (mask j h ∙ and_both (leb 0 j) (ltb j p) (le-leb 0 j (omega arith)) (lt-ltb j p (omega arith))))

    pub run-bits : (j : ℕ) → j < 64 → bit (bit_or g (bit_and e s)) j ≡ all f (base + j) k
    run-bits j h =
        both_ways (bit (bit_or g (bit_and e s)) j) (all f (base + j) k)
        (λ x. ⊎_elim (λ y. within j y)
        (λ y. let both : (bit e j && bit s j) ≡ true = sym (bit_and_lem e s j) ∙ y in
        over j h (and_left (bit e j) (bit s j) both) (and_right (bit e j) (bit s j) both))
        (or_either (bit g j) (bit (bit_and e s) j) (sym (bit_or_lem g (bit_and e s) j) ∙ x)))
        (λ x. back j h x (order (j + k) 65))

-- ---- the first run at a start

-- g has a bit for each block that a run of k starts at, and may have more
module _ (q f : ℕ → Bool) (k c base g m : ℕ) (room : c ≤ base + 64)
    (may : (j : ℕ) → j < 64 → all f (base + j) k ≡ true → bit g j ≡ true)
    (marks : Marks (λ (b : ℕ). q b && leb c b) base m) (before : NoRun q f k c base) where
  -- a block of the word without a bit
  no_bit : (t : ℕ) → base ≤ t → t < base + 64 → c ≤ t → q t ≡ true → bit (bit_and g m) (t - base) ≡ false → all f t k ≡ false
  no_bit t a b l x e =
      let p : base + (t - base) ≡ t = omega arith in
      let on : bit m (t - base) ≡ true = marks (t - base) (omega arith) ∙ ap (λ (b : ℕ). q b && leb c b) p
      ∙ and_both (q t) (leb c t) x (le-leb c t l) in
      not_true (all f t k) (λ h. clash (bit (bit_and g m) (t - base))
      (bit_and_lem g m (t - base) ∙ and_both (bit g (t - base)) (bit m (t - base))
      (may (t - base) (omega arith) (ap (λ (b : ℕ). all f b k) p ∙ h)) on) e)

  pub nothing_there : bit_and g m ≡ 0 → NoRun q f k c (base + 64)
  nothing_there z = λ t a b x. ⊎_elim (λ u. before t a u x)
      (λ u. no_bit t u b a x (ap (λ (v : ℕ). bit v (t - base)) z ∙ bit_zero (t - base))) (order t base)

  pub there : (r : ℕ) → First (bit_and g m) r → (bit g r ≡ true → all f (base + r) k ≡ true)
      → FirstRun q f k c (base + 64) (base + r)
  there r first is =
      let l : r < 64 = first.within in
      let both : (bit g r && bit m r) ≡ true = sym (bit_and_lem g m r) ∙ first.here in
      let on : (q (base + r) && leb c (base + r)) ≡ true = sym (marks r l) ∙ and_right (bit g r) (bit m r) both in
      record {
        low = leb-true c (base + r) (and_right (q (base + r)) (leb c (base + r)) on);
        high = omega arith;
        none = λ t a b x. ⊎_elim (λ u. before t a u x)
            (λ u. no_bit t u (omega arith) a x (first.before (t - base) (omega arith))) (order t base);
        start = and_left (q (base + r)) (leb c (base + r)) on;
        fits = is (and_left (bit g r) (bit m r) both);
      }
