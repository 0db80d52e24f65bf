-- What an accepted fresh left, whoever made it: n and c are within their limits, and a list starts from the state of
-- `fresh_state` (`fresh_left`); and fresh is accepted for all n and c within their limits (`fresh_accepts`).
-- Assumes nothing.
use Prim.Native.Nat.{ℕ, ◌≤◌}
use mathlib.Core.Path.{◌≡◌, refl, sym, ap, ◌∙◌}
use mathlib.Core.Bool.{Bool, true, false, cond, not, ◌&&◌}
use mathlib.Core.List.{[], ◌∷◌}
use native.Mathlib.Omega.{arith}
use lib.Dec.{eqb, leb}
use lib.ListN.{length, replicate}
use borrow.Author.Tests.{leb-true, eqb-true, le-leb, eq-eqb, ne_eqb, not-false}
use Rattle.map_blocks.specs.Maps as maps
use Rattle.map_blocks.specs.Maps.{words_for}
use Rattle.laws.proofs.Bools.{and_left, and_right}
use Rattle.catalogue.specs.Entries.{absent, cleared_if}
use Rattle.catalogue_standings.specs.Answers.{number_of}
use Rattle.catalogue_standings.specs.Limits.{fresh_fits, shape_fits, sheets_fit}
use Rattle.catalogue_standings.specs.Rows.{row, Verdict, accepted, refused, settle, row_number}
use Rattle.catalogue_standings.specs.declared.Answer.TheVariants.{Done, Refused}
use Rattle.catalogue_standings.proofs.Openings.{skip, none_left}
use Rattle.catalogue_standings.proofs.Rows.{clear, never_says}
use Rattle.call_search.specs.Answers.{fresh_verdict}
use Rattle.roles.specs.Roles as roles
use Rattle.roles.specs.Roles.{may}
use Rattle.card.specs.Calls.{Kept, told, is_done, fresh_outcome, fresh_map, fresh_entries}
use Rattle.card.specs.Public.{fresh, Manner, turned, Beside, ends, kept_after}
use Rattle.card.specs.declared.Outcome.{Outcome}
use Rattle.ledger.specs.Lists.{fresh_state}

pub record Limits (n c : ℕ) : Type 0 where
  pub n_low : 1 ≤ n
  pub n_high : n ≤ 262144
  pub c_low : 1 ≤ c
  pub c_high : c ≤ 1024

module _ (m : Manner) (s : Kept) (b : Beside) (n : ℕ) where
  abbrev c : ℕ
  c = length s.entries

  abbrev away : Bool
  away = turned m (fresh n)

  abbrev verdict : Verdict
  verdict = fresh_verdict away n (length s.map) c

  -- what is handed back and left, by the verdict
  abbrev told_by : Verdict → Outcome
  told_by v = cond (eqb (row_number v) 0) (told (record { blocks = n; free = n }) Done) (told s.shape (Refused (row_number v)))

  abbrev Left : Type 0
  Left = Limits n c × (kept_after (ends m s b (fresh n)) ≡ fresh_state n c s.card)

  by_verdict : (v : Verdict) → verdict ≡ v → number_of (told_by v).answer ≡ 0 → Left
  unfolding fresh_verdict fresh_fits shape_fits sheets_fit
  by_verdict (refused number) e h =
      let some : eqb number 0 ≡ false = ne_eqb number 0
      (λ z. never_says 0 (row 21 away ∷ row 1 (not (fresh_fits n (length s.map) c)) ∷ []) refl (e ∙ ap refused z)) in
      let is : number ≡ 0 =
      sym (ap (λ (t : Bool). number_of (cond t (told (record { blocks = n; free = n }) Done)
      (told s.shape (Refused number))).answer)
      some) ∙ h in
      absurd (never_says 0 (row 21 away ∷ row 1 (not (fresh_fits n (length s.map) c)) ∷ []) refl (e ∙ ap refused is))
  by_verdict accepted e h = (
    record {
      n_low = leb-true 1 n (and_left _ _ (and_left _ _ (and_left _ _ fits)));
      n_high = leb-true n 262144 (and_right (leb 1 n) _ (and_left _ _ (and_left _ _ fits)));
      c_low = leb-true 1 c (and_left _ _ sheets);
      c_high = leb-true c 1024 (and_right (leb 1 c) _ sheets);
    },
    λ x. record { shape = (outcome x).shape; map = marks x; entries = stored x; card = s.card },
  )
    where
      fresh-fits : fresh_fits n (length s.map) c ≡ true
      fresh-fits = not-false _ (clear 1 (row 21 away ∷ row 1 (not (fresh_fits n (length s.map) c)) ∷ []) e).0

      fits : (leb 1 n && leb n 262144 && leb n n && eqb (length s.map) (words_for n)) ≡ true
      fits = and_left _ _ fresh-fits

      sheets : (leb 1 c && leb c 1024) ≡ true
      sheets = and_right (leb 1 n && leb n 262144 && leb n n && eqb (length s.map) (words_for n)) _ fresh-fits

      outcome : fresh_outcome away s.shape n s.map s.entries ≡ told (record { blocks = n; free = n }) Done
      outcome = ap told_by e

      marks : fresh_map away s.shape n s.map s.entries ≡ maps.fresh_map n (words_for n)
      marks =
          ap (λ (v : Verdict). settle v (maps.fresh_map n (length s.map)) (λ number. s.map)) e
          ∙ ap (maps.fresh_map n) (eqb-true (length s.map) (words_for n)
          (and_right (leb 1 n && leb n 262144 && leb n n) _ fits))

      stored : fresh_entries away s.shape n s.map s.entries ≡ replicate c absent
      stored = ap (λ (v : Verdict). cleared_if s.entries (is_done (told_by v).answer)) e

  pub fresh_left : number_of (ends m s b (fresh n)).outcome.answer ≡ 0 → Left
  fresh_left h = by_verdict verdict refl h

  pub fresh_accepts : may m.role roles.fresh ≡ true → Limits n c → length s.map ≡ words_for n
      → number_of (ends m s b (fresh n)).outcome.answer ≡ 0
  unfolding fresh_verdict fresh_fits shape_fits sheets_fit
  fresh_accepts may-fresh limits e =
      let fits : fresh_fits n (length s.map) c ≡ true =
      simp (
        le-leb 1 n limits.n_low,
        le-leb n 262144 limits.n_high,
        le-leb n n (omega arith),
        eq-eqb (length s.map) (words_for n) e,
        le-leb 1 c limits.c_low,
        le-leb c 1024 limits.c_high,
      ) in
      ap (λ (v : Verdict). number_of (told_by v).answer)
      (skip 21 _ _ accepted (ap not may-fresh) (skip 1 _ _ accepted (ap not fits) none_left))
