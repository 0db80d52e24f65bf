-- The limits that go with a call which takes blocks: one for each of the eight wings (document 02 (k)).
-- Assumes nothing.
use Rattle.std.specs.Prelude.{ℕ, ◌+◌, Bool, cond, List, [], ◌∷◌, eqb, ltb, get_or}
use Rattle.catalogue_standings.specs.Rows.{Row}

-- The limit of a wing.
abbrev pub limit_of : List ℕ → ℕ → ℕ
limit_of limits wing = get_or limits wing 0

-- Row 18: the blocks held by the wing and the blocks wanted together exceed the wing's limit.
abbrev pub over_limit : List ℕ → ℕ → ℕ → ℕ → Bool
over_limit limits wing held k = ltb (limit_of limits wing) (held + k)

-- A table without row 18: as the calls were before they carried limits.
unfoldable pub without_limits : List Row → List Row
without_limits [] = []
without_limits (r ∷ rows) = cond (eqb r.number 18) (without_limits rows) (r ∷ without_limits rows)
