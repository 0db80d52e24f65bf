-- Offer: the start that a plain reserve would get then, and the length; nothing changes.
-- Assumes nothing.
use Prim.Native.Nat.{ℕ, ◌<◌}
use mathlib.Core.Path.{◌≡◌, refl, ap, ◌∙◌}
use mathlib.Core.Bool.{Bool}
use mathlib.Core.List.{List, [], map}
use native.Mathlib.Omega.{arith}
use borrow.Author.Tests.{eqb-false}
use Rattle.map_blocks.specs.Blocks as map-blocks
use Rattle.map_blocks.specs.Blocks.{least_fit}
use Rattle.laws.proofs.Bools.{not_true}
use Rattle.map_blocks.proofs.Fits.{fit_is}
use Rattle.catalogue_standings.specs.Searches.{start_at}
use Rattle.catalogue_standings.specs.Rows.{Row, Verdict, accepted, first_of, before, settle}
use Rattle.catalogue_standings.specs.declared.Answer.TheVariants.{Start, Refused}
use Rattle.card.specs.Calls.{told}
use Rattle.refusals.specs.Effects as effects
use Rattle.refusals.specs.Table.{Ask, offer, rows_for, lowest_blank, table_of}
use Rattle.refusals.specs.Placement.{plain, figures_in, fit_within, least_within}
use Rattle.refusals.specs.declared.Figures.{Figures}
use Rattle.catalogue_standings.proofs.Rows.{clear, onwards, from_there}
use Rattle.ledger.specs.Calls.{Call, on, turned_in}
use Rattle.ledger.specs.Ledger.{Sheet, free_in, spare_in, least_in, view_in, listed, rows_in, verdict_in, deed_in}
use Rattle.ledger.specs.Answers.{told_in}
use Rattle.ledger.specs.Claim.{entry_in, Came, Searched}
use Rattle.ledger.proofs.Plain.{End, ending, end_of}
use Rattle.ledger.proofs.Agreement.{map_in, state_of, Matches, NeverRows, Sharing, says_on, free_map, verdict-within}
use Rattle.ledger.proofs.Results as results
use Rattle.ledger.proofs.Results.{Result, plain_back, no_change, result-of}
use Rattle.ledger.proofs.Search.{searched}
use Rattle.ledger.proofs.step.Reserve as reserving

module _ (n : ℕ) (l : List Sheet) (card : List ℕ) (k : Matches n l card) (role i : ℕ) (limits : List ℕ) (m : ℕ) where
  abbrev call : Call
  call = on role i (offer limits m)

  abbrev ask : Ask
  ask = offer limits m

  abbrev g : Figures
  g = figures_in n plain

  abbrev rows : List Row
  rows = rows_in n l call

  -- what it comes to, for a start
  abbrev tells_at : ℕ → Verdict → End
  tells_at start v =
      ending (told (record { blocks = n; free = spare_in n l }) (settle v (Start start m) Refused)) (map_in n l)
      (map entry_in l)
      card []

  abbrev ends : Verdict → End
  ends = tells_at (least_in n l m plain)

  -- its rows are those of the plain reserve
  never : NeverRows n l card k role i (offer limits m)
  unfolding rows_for
  never = reserving.never_for n l card k role i limits m plain (turned_in role ask)

  sharing : Sharing n l role i ask
  unfolding rows_for
  sharing x y same = ap
      (λ (h : ℕ). says_on n l role i ask (record { blank = y.blank; sound = y.sound; term = y.term; held = h })) same

  ends_so : end_of (state_of n l card) call ≡ ends (verdict_in n l call)
  unfolding effects.offer_answer rows_for
  ends_so =
      ap (tells_at (start_at (least_within (map-blocks.free (map_in n l)) g m)))
      (verdict-within n l card k role i ask limits sharing never)
      ∙ ap (λ (f : ℕ → Bool). tells_at (start_at (least_within f g m)) (verdict_in n l call)) (free_map n l)

  accepts : verdict_in n l call ≡ accepted → results.Done n l card call (ends accepted)
  unfolding table_of listed deed_in
  accepts h = no_change n l card k call (ends accepted) (Start (least_in n l m plain) m) refl refl (λ j p m. refl) refl
      (refl, refl)

  by_search : Came 10 n l call → Searched 10 (fit_within (free_in n l) g m) (λ start. m) (told_in n l call)
  unfolding table_of listed before onwards first_of deed_in least_fit
  by_search came =
      let some : 0 < m = omega (arith, eqb-false m 0 (clear 3 (before 10 rows) came).0) in
      searched 10 (omega arith) (fit_within (free_in n l) g m) (λ start. m) g.before
      (λ s le. not_true _ (λ q. omega (arith, (fit_is (free_in n l) g.from g.before g.step m s q).high)))
      (verdict_in n l call) (lowest_blank (view_in n l i)) (from_there 10 rows came)

  pub offer_result : Result n l card call (verdict_in n l call)
  unfolding table_of listed deed_in
  offer_result = result-of n l card k call ends ends_so refl accepts (plain_back n l card k call _ refl (λ number. refl))
      by_search
