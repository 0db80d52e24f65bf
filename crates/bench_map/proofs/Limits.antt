-- What the test of the limits shows, and the answers on either side of it.
-- Assumes nothing.
use mathlib.Core.Path.{◌≡◌, refl, ap, sym}
use mathlib.Core.Bool.{Bool, true, false, ◌&&◌}
use mathlib.Core.List.{List}
use Prim.Native.Nat.{ℕ, ◌*◌, ◌≤◌, ◌<◌}
use native.Mathlib.Omega.{arith}
use lib.Dec.{eqb, leb}
use lib.ListN.{length}
use borrow.Author.Tests.{leb-true, eqb-true, le-leb, lt-leb}
use Rattle.map_blocks.specs.Maps.{words_for}
use Rattle.map_blocks.specs.Blocks.{free, least_fit}
use Rattle.survey.specs.Survey.{counts_of}
use Rattle.bench_map.specs.Answers.{within_limits, start_for, counts_for, searched, surveyed}
use Rattle.bench_map.specs.declared.Counts.{Counts}

and_left : (a b : Bool) → (a && b) ≡ true → a ≡ true
and_left true b e = refl
and_left false b e = e

and_right : (a b : Bool) → (a && b) ≡ true → b ≡ true
and_right true b e = e
and_right false b e = absurd (let z : ◌≡◌ {A = ℕ} 0 1 = cc in omega arith)

pub fits : (map : List ℕ) (n : ℕ) → within_limits map n ≡ true → (n ≤ 262144) × (n ≤ 64 * length map)
unfolding within_limits
fits map n e =
    let below : n ≤ 262144 = leb-true n 262144 (and_right (leb 1 n) _ (and_left _ (eqb (length map) (words_for n)) e)) in
    let long : length map ≡ words_for n = eqb-true _ _ (and_right (leb 1 n && leb n 262144) _ e) in
    (below, omega arith)

pub empty : (map : List ℕ) (n : ℕ) → n ≡ 0 → false ≡ within_limits map n
unfolding within_limits
empty map n e = sym (ap (λ (b : Bool). b && leb n 262144 && eqb (length map) (words_for n)) (lt-leb 1 n (omega arith)))

pub large : (map : List ℕ) (n : ℕ) → 262144 < n → false ≡ within_limits map n
unfolding within_limits
large map n l = simp (le-leb 1 n (omega arith), lt-leb n 262144 l)

pub sized : (map : List ℕ) (n : ℕ) → 0 < n → n ≤ 262144 → eqb (length map) (words_for n) ≡ within_limits map n
unfolding within_limits
sized map n p l = simp (le-leb 1 n p, le-leb n 262144 l)

pub no_search : (map : List ℕ) (n k : ℕ) → k ≡ 0 → 0xffff_fffe ≡ searched map n k
unfolding searched
no_search map n k e = simp (lt-leb 1 k (omega arith))

pub search_outside : (map : List ℕ) (n k : ℕ) → 0 < k → within_limits map n ≡ false → 0xffff_fffe ≡ searched map n k
unfolding searched
search_outside map n k p e = simp (le-leb 1 k p, e)

pub search_within : (map : List ℕ) (n k : ℕ) → 0 < k → within_limits map n ≡ true
    → start_for (least_fit (free map) 0 n 1 k) ≡ searched map n k
unfolding searched
search_within map n k p e = simp (le-leb 1 k p, e)

pub survey_outside : (map : List ℕ) (n : ℕ) → within_limits map n ≡ false
    → ◌≡◌ {A = Counts} (record { free = 0; runs = 0; longest = 0 }) (surveyed map n)
unfolding surveyed
survey_outside map n e = simp e

pub survey_within : (map : List ℕ) (n : ℕ) → within_limits map n ≡ true → counts_for (counts_of (free map) n) ≡ surveyed map n
unfolding surveyed
survey_within map n e = simp e
