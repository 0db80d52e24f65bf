-- No call that stands in a list is answered 1 or 4: what specs/Never.antt claims.
-- Assumes nothing.
use Prim.Native.Nat.{ℕ, ◌*◌}
use mathlib.Core.Path.{◌≡◌, refl, sym, ap, subst, ◌∙◌}
use mathlib.Core.Bool.{Bool, true, false, cond, not, ◌&&◌, ◌||◌, true≢false}
use mathlib.Core.List.{List, [], ◌∷◌, map}
use native.Mathlib.Omega.{arith}
use lib.Dec.{eqb}
use lib.ListN.{length}
use borrow.Author.Tests.{eq-eqb}
use Rattle.laws.proofs.Bools.{and_both, or_right}
use Rattle.map_blocks.specs.Blocks as map-blocks
use Rattle.map_blocks.specs.Blocks.{least_fit}
use Rattle.survey.specs.Survey.{counts_of}
use Rattle.catalogue_standings.specs.Answers.{number_of}
use Rattle.catalogue_standings.specs.Limits.{shape_fits, sheets_fit}
use Rattle.catalogue_standings.specs.Rows.{Row, row, Verdict, accepted, refused, first_of, settle, row_number}
use Rattle.catalogue_standings.specs.Searches.{none, start_at, start_with_space}
use Rattle.catalogue_standings.specs.declared.Answer.{Answer}
use Rattle.catalogue_standings.specs.declared.Answer.TheVariants.{Done, Own, Refused, Counted}
use Rattle.catalogue_standings.proofs.Rows.{says, never_says}
use Rattle.call_search.specs.Answers.{search_answer, survey_answer}
use Rattle.call_summary.specs.Answers.{summary_fits, build_answer, check_answer}
use Rattle.summary.specs.Summary.{summary_length, is_own}
use Rattle.image_soundness.specs.Scratch.{scratch_words}
use Rattle.image_soundness.specs.Sound.{sound}
use Rattle.image.specs.Effects.{save_number}
use Rattle.image.specs.Image.{frames_for}
use Rattle.image.specs.Table.{save_fits, save_rows, save_verdict}
use Rattle.roles.specs.Roles as roles
use Rattle.roles.specs.Roles.{pharmacist, turned_away}
use Rattle.refusals.specs.Effects.{unsearched_verdict}
use Rattle.refusals.specs.Placement.{Placement}
use Rattle.refusals.proofs.Reserve as reserving
use Rattle.refusals.specs.Table.{Ask, reserve, put, grow, complete, change, release, show, standing, offer, accept, show_dated}
use Rattle.card.specs.Calls.{Kept, lent_by_within}
use Rattle.card.specs.Public as public
use Rattle.card.specs.Public.{Public, fresh, search, survey, save, load, build, check, kind_on, Beside, End, end_on, ends}
use Rattle.card.specs.Public.{kept_after}
use Rattle.card.proofs.TurnedAway.{turned_on}
use Rattle.ledger.specs.Answers.{Told}
use Rattle.ledger.specs.Calls.{Call, on, close}
use Rattle.ledger.specs.Ledger.{Sheet, spare_in, dropped, listed, rows_in, verdict_in, after, begun}
use Rattle.ledger.specs.Claim.{entry_in}
use Rattle.ledger.specs.Lists.{Made, end_of, response_of, told_of, Joins, Long, saved_of, heard_in, heard_replies}
use Rattle.ledger.specs.Never.{Sized, NeitherOneNorFour, NeverOneNorFour}
use Rattle.ledger.proofs.Agreement.{map_in, state_of, Matches, shape_fits_lem, sheets_fit_lem}
use Rattle.ledger.proofs.AnySummary.{Ruled, nowhere, short_of, taken, ruled, done-so, too_few, before_refuses}
use Rattle.ledger.proofs.Demand.{Left, answered, left_by_any}
use Rattle.ledger.proofs.Feeding.{by_map, all_may, heard_on, heard_one}
use Rattle.ledger.proofs.Fresh.{Limits}
use Rattle.ledger.proofs.GuidedEnds.{reserve_refuses, accept_refuses}
use Rattle.ledger.proofs.Plain as plain
use Rattle.ledger.proofs.Soundness.{kept_sound}
use Rattle.ledger.proofs.WideLimits.{told_number}

-- ---- the ledger's rows have no 1 and no 4

unlisted : (number : ℕ) → ((r : Row) → eqb r.number number ≡ true → dropped r ≡ true) → (rows : List Row)
    → says number (listed rows) ≡ false
unfolding listed
unlisted number out [] = refl
unlisted number out (r ∷ rows) = go (dropped r) refl (eqb r.number number) refl (unlisted number out rows)
  where
    go : (d : Bool) → dropped r ≡ d → (e : Bool) → eqb r.number number ≡ e → says number (listed rows) ≡ false
        → says number (cond d (listed rows) (r ∷ listed rows)) ≡ false
    go true d e q rest = rest
    go false d true q rest = absurd (true≢false (sym (out r q) ∙ d))
    go false d false q rest = ap (λ (x : Bool). x || says number (listed rows)) q ∙ rest

one_out : (r : Row) → eqb r.number 1 ≡ true → dropped r ≡ true
one_out r e = ap (λ (x : Bool). x || eqb r.number 4) e

four_out : (r : Row) → eqb r.number 4 ≡ true → dropped r ≡ true
four_out r e = or_right (eqb r.number 1) (eqb r.number 4) e

-- so no verdict of the ledger is one of them
ledger_never : (n : ℕ) (l : List Sheet) (c : Call) → NeitherOneNorFour (row_number (verdict_in n l c))
unfolding first_of
ledger_never n l (on role sheet ask) = go (verdict_in n l (on role sheet ask)) refl
  where
    rows : List Row
    rows = rows_in n l (on role sheet ask)

    go : (v : Verdict) → verdict_in n l (on role sheet ask) ≡ v → NeitherOneNorFour (row_number v)
    go accepted h = (λ z. omega (arith, z), λ z. omega (arith, z))
    go (refused number) h = (
      λ z. never_says 1 rows (unlisted 1 one_out _) (h ∙ ap refused z),
      λ z. never_says 4 rows (unlisted 4 four_out _) (h ∙ ap refused z),
    )
ledger_never n l (close role) = go (turned_away role roles.close)
  where
    go : (t : Bool) → NeitherOneNorFour (row_number (cond t (refused 21) accepted))
    go true = (λ z. omega (arith, z), λ z. omega (arith, z))
    go false = (λ z. omega (arith, z), λ z. omega (arith, z))

-- ---- the rows of the calls that stand between, where row 1 does not hold, nor 4

abbrev Never : Answer → Type 0
Never answer = NeitherOneNorFour (number_of answer)

search_rows : (told : Answer) → number_of told ≡ 0 → (a c d : Bool)
    → Never (settle (first_of (row 21 a ∷ row 1 false ∷ row 3 c ∷ row 10 d ∷ [])) told Refused)
unfolding first_of
search_rows told zero true c d = (λ z. omega (arith, z), λ z. omega (arith, z))
search_rows told zero false true d = (λ z. omega (arith, z), λ z. omega (arith, z))
search_rows told zero false false true = (λ z. omega (arith, z), λ z. omega (arith, z))
search_rows told zero false false false = (λ z. omega (arith, zero, z), λ z. omega (arith, zero, z))

-- survey, build and check
one_row : (told : Answer) → number_of told ≡ 0 → (a : Bool) → Never
    (settle (first_of (row 21 a ∷ row 1 false ∷ [])) told Refused)
unfolding first_of
one_row told zero true = (λ z. omega (arith, z), λ z. omega (arith, z))
one_row told zero false = (λ z. omega (arith, zero, z), λ z. omega (arith, zero, z))

abbrev saved_by : ℕ → Answer
saved_by number = cond (eqb number 0) Done (Refused number)

save_rows_lem : (a d : Bool) → Never (saved_by (row_number (first_of (row 21 a ∷ row 1 false ∷ row 4 false ∷ row 12 d ∷ []))))
unfolding first_of
save_rows_lem true d = (λ z. omega (arith, z), λ z. omega (arith, z))
save_rows_lem false true = (λ z. omega (arith, z), λ z. omega (arith, z))
save_rows_lem false false = (λ z. omega (arith, z), λ z. omega (arith, z))

-- ---- a call in a state that a list left

module _ (n : ℕ) (l : List Sheet) (card : List ℕ) (k : Matches n l card) where
  abbrev s : Kept
  s = state_of n l card

  -- one that is told as the ledger says
  fed_never : (e : End) (c : Call) (u : Kept) → plain.Step s c (response_of e) u → NeitherOneNorFour (told_of e).number
  fed_never e c u st =
      subst NeitherOneNorFour
      (sym (ap (λ (x : Told). x.number) (answered n l card k c (response_of e) u st)
      ∙ told_number (verdict_in n l c) _ _ refl (λ j. refl)))
      (ledger_never n l c)

  module _ (b : Beside) (sheet : ℕ) where
    abbrev number : End → ℕ
    number e = (told_of e).number

    -- by the map, of one who may
    plain-never : (a : Ask) → NeitherOneNorFour (number (end_on false false s b sheet a))
    plain-never a =
        let t : Bool = turned_away pharmacist (kind_on a).name in
        subst (λ (u : Bool). NeitherOneNorFour (number (end_on (not u) false s b sheet a))) (all_may (kind_on a).name)
        (fed_never (end_on t false s b sheet a) (on pharmacist sheet a) (kept_after (end_on t false s b sheet a))
        (ap plain.response_of (by_map t s b sheet a), ap plain.state_on (by_map t s b sheet a)))

    module _ (long : Long s b.summary) (limits : List ℕ) (m : ℕ) (p : Placement) where
      abbrev reserved : Bool → End
      reserved t = end_on t true s b sheet (reserve limits m p)

      unsearched-never : (v : Verdict) → unsearched_verdict (lent_by_within false false [] s card limits sheet) m p ≡ v
          → NeitherOneNorFour (number (reserved false))
      unsearched-never (refused j) h =
          let guided = before_refuses s b limits sheet long m p j h in
          let by_itself = reserve_refuses false false s b sheet j limits m p
          (reserving.refused_before (lent_by_within false false [] s card limits sheet) m p j h) in
          subst NeitherOneNorFour (ap number (by_itself ∙ sym guided)) (plain-never (reserve limits m p))
      unsearched-never accepted h = go (ruled s b limits sheet long m p h)
        where
          go : Ruled s b limits sheet long m p h → NeitherOneNorFour (number (reserved false))
          go (nowhere e) = subst NeitherOneNorFour (sym (ap number e)) (λ z. omega (arith, z), λ z. omega (arith, z))
          go (short_of t f more e) =
              absurd ((plain-never (accept limits t m)).1 (ap number (accept_refuses false false s b sheet 4 limits t m
              (too_few s b limits sheet long m p h t f more))))
          go (taken t f few) =
              subst NeitherOneNorFour (sym (done-so s b limits sheet long m p h t f few))
              (λ z. omega (arith, z), λ z. omega (arith, z))

      reserve-never : (t : Bool) → NeitherOneNorFour (number (reserved t))
      reserve-never true =
          subst NeitherOneNorFour (sym (ap number (turned_on true true s b sheet (reserve limits m p) refl)))
          (λ z. omega (arith, z), λ z. omega (arith, z))
      reserve-never false = unsearched-never _ refl

    abbrev guided-end : ℕ → Ask → End
    guided-end role a = end_on (turned_away role (kind_on a).name) true s b sheet a

    fed_on : (role : ℕ) (a : Ask) → plain.Runs s (on role sheet a ∷ []) (response_of (guided-end role a) ∷ [])
        (kept_after (guided-end role a)) → NeitherOneNorFour (number (guided-end role a))
    fed_on role a h = fed_never (guided-end role a) (on role sheet a) h.0 h.1

    guided-never : (role : ℕ) → Long s b.summary → (a : Ask) → NeitherOneNorFour (number (guided-end role a))
    guided-never role long (reserve limits m p) = reserve-never long limits m p (turned_away role roles.reserve)
    guided-never role long (offer limits m) = fed_on role (offer limits m) (heard_on role s b long sheet (offer limits m))
    guided-never role long (accept limits start m) = fed_on role (accept limits start m)
        (heard_on role s b long sheet (accept limits start m))
    guided-never role long (put p payload) = fed_on role (put p payload) (heard_on role s b long sheet (put p payload))
    guided-never role long (grow limits m) = fed_on role (grow limits m) (heard_on role s b long sheet (grow limits m))
    guided-never role long complete = fed_on role complete (heard_on role s b long sheet complete)
    guided-never role long (change c) = fed_on role (change c) (heard_on role s b long sheet (change c))
    guided-never role long release = fed_on role release (heard_on role s b long sheet release)
    guided-never role long (show p buffer) = fed_on role (show p buffer) (heard_on role s b long sheet (show p buffer))
    guided-never role long (show_dated p date buffer) = fed_on role (show_dated p date buffer)
        (heard_on role s b long sheet (show_dated p date buffer))
    guided-never role long standing = fed_on role standing (heard_on role s b long sheet standing)

    on-never : (role : ℕ) (guided : Bool) → Long s b.summary → (a : Ask)
        → NeitherOneNorFour (number (end_on (turned_away role (kind_on a).name) guided s b sheet a))
    on-never role true long a = guided-never role long a
    on-never role false long a =
        let t : Bool = turned_away role (kind_on a).name in
        fed_never (end_on t false s b sheet a) (on role sheet a) (kept_after (end_on t false s b sheet a))
        (ap plain.response_of (by_map t s b sheet a), ap plain.state_on (by_map t s b sheet a))

  -- ---- the calls that stand between

  fits : shape_fits n (spare_in n l) (length (map_in n l)) ≡ true
  fits = shape_fits_lem n l card k

  search_never : (t : Bool) (m : ℕ) → Never (search_answer t n (spare_in n l) (map_in n l) m)
  unfolding search_answer
  search_never t m =
      let found = least_fit (map-blocks.free (map_in n l)) 0 n 1 m in
      let told = start_with_space (map-blocks.free (map_in n l)) n (start_at found) in
      subst (λ (f : Bool). Never (settle (first_of (row 21 t ∷ row 1 (not f) ∷ row 3 (eqb m 0)
      ∷ row 10 (none found) ∷ [])) told Refused)) (sym fits) (search_rows told refl t (eqb m 0) (none found))

  survey_never : (t : Bool) → Never (survey_answer t n (spare_in n l) (map_in n l))
  unfolding survey_answer
  survey_never t =
      let counts = counts_of (map-blocks.free (map_in n l)) n in
      let told : Answer = Counted counts.free counts.runs counts.longest in
      subst (λ (f : Bool). Never (settle (first_of (row 21 t ∷ row 1 (not f) ∷ [])) told Refused)) (sym fits)
      (one_row told refl t)

  -- a summary of its length fits
  beside_fits_lem : (summary : List ℕ) → Long s summary
      → summary_fits n (spare_in n l) (length (map_in n l)) (length summary) ≡ true
  unfolding summary_fits
  beside_fits_lem summary long = and_both _ _ fits (eq-eqb (length summary) (summary_length (length (map_in n l))) long)

  build_never : (t : Bool) (summary : List ℕ) → Long s summary → Never (build_answer t n (spare_in n l) (map_in n l) summary)
  unfolding build_answer
  build_never t summary long =
      subst (λ (f : Bool). Never (settle (first_of (row 21 t ∷ row 1 (not f) ∷ [])) Done Refused))
      (sym (beside_fits_lem summary long)) (one_row Done refl t)

  check_never : (t : Bool) (summary : List ℕ) → Long s summary → Never (check_answer t n (spare_in n l) (map_in n l) summary)
  unfolding check_answer
  check_never t summary long =
      subst (λ (f : Bool). Never (settle (first_of (row 21 t ∷ row 1 (not f) ∷ []))
      (Own (cond (is_own (map_in n l) n summary) 1 0)) Refused))
      (sym (beside_fits_lem summary long)) (one_row _ refl t)

  save_never : (t : Bool) (scratch image : List ℕ) → length scratch ≡ scratch_words (length (map_in n l))
      → Never (saved_by (save_number t n (spare_in n l) (map_in n l) (map entry_in l) scratch image))
  unfolding save_number save_verdict save_rows save_fits
  save_never t scratch image e =
      let whole : (shape_fits n (spare_in n l) (length (map_in n l)) && sheets_fit (length (map entry_in l))
      && eqb (length scratch) (scratch_words (length (map_in n l)))) ≡ true =
      and_both _ _ (and_both _ _ fits (sheets_fit_lem n l card k))
      (eq-eqb (length scratch) (scratch_words (length (map_in n l))) e) in
      let rest : Bool = not (eqb (length image) (512 * frames_for n (length (map entry_in l)))) in
      subst (λ (f : Bool). Never (saved_by (row_number (first_of (row 21 t ∷ row 1 (not f) ∷ row 4 (not (sound (saved_of s)))
      ∷ row 12 rest ∷ []))))) (sym whole)
      (subst (λ (f : Bool). Never (saved_by (row_number (first_of
      (row 21 t ∷ row 1 false ∷ row 4 (not f) ∷ row 12 rest ∷ [])))))
      (sym (kept_sound n l card k)) (save_rows_lem t rest))

  -- ---- every call

  never : (role : ℕ) (guided : Bool) (b : Beside) (c : Public) → Joins c
      → length b.scratch ≡ scratch_words (length s.map) → Long s b.summary
      → NeitherOneNorFour (told_of (ends (record { role = role; guided = guided }) s b c)).number
  never role guided b (public.on sheet a) j fit long = on-never b sheet role guided long a
  never role guided b (fresh m) j fit long = absurd j
  never role guided b (search m) j fit long = search_never (turned_away role roles.search) m
  never role guided b survey j fit long = survey_never (turned_away role roles.survey)
  never role guided b save j fit long = save_never (turned_away role roles.save) b.scratch b.image fit
  never role guided b (load image) j fit long = absurd j
  never role guided b public.close j fit long =
      let m : Made = record { manner = record { role = role; guided = guided }; beside = b; call = public.close } in
      let h = heard_one s m (record { joins = tt; scratch = λ e. fit; summary = λ e. long }) in
      fed_never (end_of s m) (close role) h.0 h.1
  never role guided b build j fit long = build_never (turned_away role roles.build_summary) b.summary long
  never role guided b check j fit long = check_never (turned_away role roles.check_summary) b.summary long

module _ (n c : ℕ) (card : List ℕ) (limits : Limits n c) (room : length card ≡ 512 * n) where
  pub never_one_nor_four : NeverOneNorFour n c card
  never_one_nor_four made es t any runs next fit =
      let w : Left n (begun c) (heard_in made es) (heard_replies made es) t =
      left_by_any n c card limits room made es t any runs in
      let at : state_of n (after n (begun c) (heard_in made es)) w.card_left ≡ t = sym w.state_left in
      subst (λ (x : Kept). Sized x next → NeitherOneNorFour (told_of (end_of x next)).number) at
      (λ here. never n (after n (begun c) (heard_in made es)) w.card_left w.kept_left next.manner.role
      next.manner.guided next.beside next.call here.joins here.scratch here.summary) fit
