-- `map_search_placed::taken::past_words` meets its contract.
-- Assumes nothing.

use native.Mathlib.Omega.{arith}
use mathlib.Core.Path.{◌≡◌}
use mathlib.Core.Logic.{⊎_elim}
use Prim.Native.Nat.{ℕ, ◌≤◌, ◌<◌}
use lib.ListN.{get_or}
use Rattle.std.specs.Prelude.{Option, Some, None, MatchOption}
use Rattle.laws.proofs.Bools.{order}
use Rattle.map_search_placed.proofs.taken.past_words.Goals.{After-some_word-2}
use Rattle.map_search_placed.proofs.taken.past_words.Goals as goal

-- the words before those that are looked at last
before : (c : After-some_word-2) (end : ℕ) → ((t : ℕ) → c.taken_words.result ≤ t → t < end → get_or c.args.map.now t 0 ≡ 0)
    → (t : ℕ) → c.args.first ≤ t → t < end → get_or c.args.map.now t 0 ≡ 0
before c end rest t a b =
    ⊎_elim (λ (u : t < c.group_end-few.result). c.in_default.ensures t a u)
    (λ (u : c.group_end-few.result ≤ t). ⊎_elim (λ (v : t < c.taken_words.result). c.taken_words.ensures.2 t u v)
    (λ (v : c.taken_words.result ≤ t). rest t v b) (order t c.taken_words.result))
    (order t c.group_end-few.result)

changed : (P P' : Type 0) (Q Q' : ℕ → Type 0) (r : Option ℕ) → (P → P') → ((i : ℕ) → Q i → Q' i) → MatchOption r P Q
    → MatchOption r P' Q'
changed P P' Q Q' None p q m = p m
changed P P' Q Q' (Some i) p q m = q i m

pub returns : goal.returns
returns c = let at = (goal.at.returns c).After-some_word-2 in
    changed _ _ _ _ c.some_word-2.result (before at c.args.stop)
    (λ i h. (omega (arith, h.0), h.1, before at i h.2)) c.some_word-2.ensures
