-- "In a list, rows 1 and 4 hold for none of the calls" (document 01, "The ledger, call by call"; document 02 (a)): whatever
-- list of calls from a fresh card came before, guided by whatever summaries, no call that may stand in a list, whoever makes
-- it and by the map or by any summary, is answered 1 or 4 if it is lent a scratch and a summary of their lengths. That it
-- holds is `never_one_nor_four` in proofs/Never.antt.
-- Assumes nothing.
use Rattle.std.specs.Prelude.{ℕ, ◌≡◌, List, length}
use Rattle.image_soundness.specs.Scratch.{scratch_words}
use Rattle.card.specs.Calls.{Kept}
use Rattle.card.specs.Public.{End}
use Rattle.ledger.specs.Lists.{Made, end_of, told_of, Runs, Joins, Long, ByAny, fresh_state}

pub record Sized (s : Kept) (m : Made) : Type 0 where
  pub joins : Joins m.call
  pub scratch : length m.beside.scratch ≡ scratch_words (length s.map)
  pub summary : Long s m.beside.summary

abbrev pub NeitherOneNorFour : ℕ → Type 0
NeitherOneNorFour number = (number ≡ 1 → ⊥) × (number ≡ 4 → ⊥)

abbrev pub NeverOneNorFour : ℕ → ℕ → List ℕ → Type 0
NeverOneNorFour n c card =
    (made : List Made) (es : List End) (t : Kept) → ByAny (fresh_state n c card) made → Runs (fresh_state n c card) made es t
    → (next : Made) → Sized t next → NeitherOneNorFour (told_of (end_of t next)).number
