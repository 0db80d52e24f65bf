-- What a carer learns, and that a carer changes nothing: what specs/Carers.antt claims of every public call and of every list.
-- Assumes nothing.
use Prim.Native.Nat.{ℕ}
use mathlib.Core.Path.{◌≡◌, refl, sym, ap, subst, ◌∙◌}
use mathlib.Core.Bool.{Bool, true, false, cond, not}
use mathlib.Core.List.{List, [], ◌∷◌, ◌++◌}
use native.Mathlib.Omega.{arith}
use lib.ListN.{length}
use Rattle.calendar.specs.Calendar.{Date}
use Rattle.catalogue_standings.specs.Rows.{Verdict, accepted, refused, first_of, settle}
use Rattle.catalogue_standings.specs.declared.Answer.TheVariants.{Refused}
use Rattle.catalogue_standings.proofs.Openings.{stop}
use Rattle.image.specs.Effects.{zeros_for}
use Rattle.roles.specs.Roles as roles
use Rattle.roles.specs.Roles.{may, carer, turned_away}
use Rattle.refusals.specs.Effects as effects
use Rattle.refusals.specs.Table.{Ask, reserve, put, grow, complete, change, release, show, standing, offer, accept, show_dated}
use Rattle.refusals.specs.Table.{table_of}
use Rattle.card.specs.Calls.{Kept, kept, lent_to, told, survey_outcome, standing_outcome}
use Rattle.card.specs.Public as public
use Rattle.card.specs.Public.{Public, on, fresh, search, survey, save, load, build, check, kind_on, kind_of, Manner, Beside}
use Rattle.card.specs.Public.{with_scratch, End, refused_end, ends, kept_after}
use Rattle.card.specs.declared.Shape.{Shape}
use Rattle.card.proofs.TurnedAway.{every_call_turned_away}
use Rattle.ledger.specs.Calls as ledgers
use Rattle.ledger.specs.Calls.{Call, turned_in}
use Rattle.ledger.specs.Ledger.{Sheet, listed, verdict_in, deed_in, step_in, after}
use Rattle.ledger.specs.Lists.{Made, Runs, call_in, calls_in}
use Rattle.role_lists.specs.Carers.{Agree, asked_with, bringing, LearnsTheSame, ChangesNothing, AllBy, SameCalls, SameCame}
use Rattle.role_lists.specs.Carers.{ListsLearnTheSame, ListsChangeNothing, LeavesTheLedger}
use Rattle.role_lists.proofs.Cases.{carers_calls}
use Rattle.role_lists.proofs.Learning.{same_answer, same-buffer}

-- ---- a call with another buffer

none_long : (buffer : List ℕ) → length {A = ℕ} [] ≡ length buffer → [] ≡ buffer
none_long [] e = refl
none_long (x ∷ xs) e = absurd (omega (arith, e))

asked_name : (buffer : List ℕ) (a : Ask) → (kind_on (asked_with buffer a)).name ≡ (kind_on a).name
asked_name buffer (reserve limits k p) = refl
asked_name buffer (offer limits k) = refl
asked_name buffer (accept limits start k) = refl
asked_name buffer (put p payload) = refl
asked_name buffer (grow limits m) = refl
asked_name buffer complete = refl
asked_name buffer (change c) = refl
asked_name buffer release = refl
asked_name buffer (show p other) = refl
asked_name buffer (show_dated p date other) = refl
asked_name buffer standing = refl

same_name : (buffer : List ℕ) (c : Public) → (kind_of (bringing buffer c)).name ≡ (kind_of c).name
same_name buffer (on sheet a) = asked_name buffer a
same_name buffer (fresh n) = refl
same_name buffer (search k) = refl
same_name buffer survey = refl
same_name buffer save = refl
same_name buffer (load image) = refl
same_name buffer public.close = refl
same_name buffer build = refl
same_name buffer check = refl

asked_brings : (buffer : List ℕ) (a : Ask) → length (kind_on a).brings ≡ length buffer → (kind_on (asked_with buffer a)).brings
    ≡ buffer
asked_brings buffer (reserve limits k p) e = none_long buffer e
asked_brings buffer (offer limits k) e = none_long buffer e
asked_brings buffer (accept limits start k) e = none_long buffer e
asked_brings buffer (put p payload) e = none_long buffer e
asked_brings buffer (grow limits m) e = none_long buffer e
asked_brings buffer complete e = none_long buffer e
asked_brings buffer (change c) e = none_long buffer e
asked_brings buffer release e = none_long buffer e
asked_brings buffer (show p other) e = refl
asked_brings buffer (show_dated p date other) e = refl
asked_brings buffer standing e = none_long buffer e

brought : (buffer : List ℕ) (c : Public) → length (kind_of c).brings ≡ length buffer → (kind_of (bringing buffer c)).brings
    ≡ buffer
brought buffer (on sheet a) e = asked_brings buffer a e
brought buffer (fresh n) e = none_long buffer e
brought buffer (search k) e = none_long buffer e
brought buffer survey e = none_long buffer e
brought buffer save e = none_long buffer e
brought buffer (load image) e = none_long buffer e
brought buffer public.close e = none_long buffer e
brought buffer build e = none_long buffer e
brought buffer check e = none_long buffer e

-- ---- one call

module _ (m : Manner) (by : m.role ≡ carer) (s : Kept) (b : Beside) where
  -- not in a carer's row
  turned_so : (c : Public) → may carer (kind_of c).name ≡ false → ends m s b c ≡ refused_end 21 s b (kind_of c)
  turned_so c e =
      every_call_turned_away m s b c (ap (λ (r : ℕ). turned_away r (kind_of c).name) by ∙ ap not e)

module _ (s t : Kept) (agree : Agree s t) (m o : Manner) (by : m.role ≡ carer) (too : o.role ≡ carer) (a b : Beside) where
  abbrev Same : Public → Type 0
  Same c = (buffer : List ℕ) → length (kind_of c).brings ≡ length buffer
      → ((ends m s a c).outcome ≡ (ends o t b (bringing buffer c)).outcome)
      × ((kind_of c).brings ≡ buffer → (ends m s a c).buffer ≡ (ends o t b (bringing buffer c)).buffer)

  -- whether either is turned away
  turns : (name : ℕ) → turned_away m.role name ≡ turned_away o.role name
  turns name = ap (λ (r : ℕ). turned_away r name) (by ∙ sym too)

  away : (c : Public) → may carer (kind_of c).name ≡ false → Same c
  away c e buffer long =
      let x = turned_so m by s a c e in
      let y = turned_so o too t b (bringing buffer c) (ap (may carer) (same_name buffer c) ∙ e) in (
        ap (λ (z : End). z.outcome) x ∙ ap (λ (shape : Shape). told shape (Refused 21)) agree.shapes
            ∙ sym (ap (λ (z : End). z.outcome) y),
        λ same. ap (λ (z : End). z.buffer) x ∙ same ∙ sym (brought buffer c long) ∙ sym (ap (λ (z : End). z.buffer) y),
      )

  surveys : Same survey
  surveys buffer long = (λ z. survey_outcome (turns roles.survey z) (agree.shapes z) (agree.maps z), λ same. refl)

  stands : (sheet : ℕ) → Same (on sheet standing)
  stands sheet buffer long = (
    λ z. standing_outcome (turns roles.standing z) (kept (agree.shapes z) (agree.maps z) (agree.catalogues z) []) sheet,
    λ same. refl,
  )

  shows : (sheet place : ℕ) (date : Date) (brings : List ℕ) → Same (on sheet (show_dated place date brings))
  shows sheet place date brings buffer long =
      let tm : Bool = turned_away m.role roles.show_dated in (
        ap (told s.shape) (same_answer tm s sheet place date s.card t.card agree.lengths
            agree.blocks brings buffer
            long)
            ∙ (λ z. told (agree.shapes z) (effects.show_dated_answer (lent_to (turns roles.show_dated z)
            (kept (agree.shapes z) (agree.maps z) (agree.catalogues z) t.card) t.card sheet) place date buffer)),
        λ same. same-buffer tm s sheet place date s.card t.card agree.lengths agree.blocks brings
            ∙ (λ z. effects.show_dated_buffer (lent_to (turns roles.show_dated z)
            (kept (agree.shapes z) (agree.maps z) (agree.catalogues z) t.card) t.card sheet) place date (same z)),
      )

pub learns_the_same : LearnsTheSame
learns_the_same s t agree m o by too a b c =
    carers_calls (Same s t agree m o by too a b) (away s t agree m o by too a b) (surveys s t agree m o by too a b)
    (stands s t agree m o by too a b) (shows s t agree m o by too a b) c

-- ---- nothing is changed

module _ (s : Kept) (m : Manner) (by : m.role ≡ carer) (b : Beside) where
  abbrev Left : End → Type 0
  Left e = (kept_after e ≡ s) × (e.beside.image ≡ b.image) × (e.beside.summary ≡ b.summary)

  -- whether a scratch is lent or not
  refused_left : (number : ℕ) (c : Public) → Left (refused_end number s b (kind_of c))
  refused_left number c = go (kind_of c).scratched
    where
      go : (lent : Bool) → (s ≡ s) × ((cond lent (with_scratch (zeros_for b.scratch) b) b).image ≡ b.image)
          × ((cond lent (with_scratch (zeros_for b.scratch) b) b).summary ≡ b.summary)
      go true = (refl, refl, refl)
      go false = (refl, refl, refl)

  left : (c : Public) → Left (ends m s b c)
  left =
      carers_calls (λ c. Left (ends m s b c))
      (λ c e. subst Left (sym (turned_so m by s b c e)) (refused_left 21 c))
      (refl, refl, refl)
      (λ sheet. (refl, refl, refl))
      (λ sheet place date buffer. (refl, refl, refl))

pub changes_nothing : ChangesNothing
changes_nothing s m by b c = left s m by b c

-- ---- lists

pub lists_change_nothing : ListsChangeNothing
lists_change_nothing s t [] [] all h = h
lists_change_nothing s t [] (e ∷ es) all h = absurd h
lists_change_nothing s t (m ∷ made) [] all h = absurd h
lists_change_nothing s t (m ∷ made) (e ∷ es) all h =
    lists_change_nothing (kept_after e) t made es all.1 h.1 ∙ ap kept_after h.0
    ∙ (left s m.manner all.0 m.beside m.call).0

module _ (s t : Kept) (agree : Agree s t) where
  all_the_way : (xs ys : List Made) → AllBy carer xs → AllBy carer ys → SameCalls xs ys → (gs hs : List End) (s' t' : Kept)
      → Runs s xs gs s' → Runs t ys hs t' → SameCame xs ys gs hs
  all_the_way [] ys all too same gs hs s' t' g h = tt
  all_the_way (x ∷ xs) [] all too same gs hs s' t' g h = absurd same
  all_the_way (x ∷ xs) (y ∷ ys) all too same [] hs s' t' g h = absurd g
  all_the_way (x ∷ xs) (y ∷ ys) all too same (j ∷ gs) [] s' t' g h = absurd h
  all_the_way (x ∷ xs) (y ∷ ys) all too same (j ∷ gs) (k ∷ hs) s' t' g h =
      let buffer : List ℕ = same.0.0 in
      let long = same.0.2 in
      let here = learns_the_same s t agree x.manner y.manner all.0 too.0 x.beside y.beside x.call buffer
      long in
      let other : ends y.manner t y.beside (bringing buffer x.call) ≡ k =
      ap (ends y.manner t y.beside) same.0.1 ∙ sym h.0 in (
        ap (λ (z : End). z.outcome) g.0 ∙ here.0 ∙ ap (λ (z : End). z.outcome) other,
        λ equal. ap (λ (z : End). z.buffer) g.0
            ∙ here.1 (equal ∙ sym (ap (λ (c : Public). (kind_of c).brings) same.0.1) ∙ brought buffer x.call long)
            ∙ ap (λ (z : End). z.buffer) other,
        all_the_way xs ys all.1 too.1 same.1 gs hs s' t'
            (subst (λ (u : Kept). Runs u xs gs s')
            (ap kept_after g.0 ∙ (left s x.manner all.0 x.beside x.call).0) g.1)
            (subst (λ (u : Kept). Runs u ys hs t')
            (ap kept_after h.0 ∙ (left t y.manner too.0 y.beside y.call).0) h.1),
      )

pub lists_learn_the_same : ListsLearnTheSame
lists_learn_the_same s t agree = all_the_way s t agree

-- ---- the ledger

-- a call that is turned away is refused with 21 in the ledger too
away_on : (n : ℕ) (l : List Sheet) (role sheet : ℕ) (a : Ask) → turned_in role a ≡ true
    → verdict_in n l (ledgers.on role sheet a) ≡ refused 21
unfolding table_of listed
away_on n l role sheet a e = stop 21 _ _ e

either_way : (l : List Sheet) (v : Verdict) → settle v l (λ number. l) ≡ l
either_way l accepted = refl
either_way l (refused number) = refl

module _ (n : ℕ) (l : List Sheet) (role : ℕ) (by : role ≡ carer) where
  abbrev Stays : Public → Type 0
  Stays c = after n l (call_in role c) ≡ l

  turned_stays : (c : Public) → may carer (kind_of c).name ≡ false → Stays c
  unfolding first_of
  turned_stays (on sheet a) e =
      ap (λ (v : Verdict). settle v (deed_in n l (ledgers.on role sheet a)).ledger (λ number. l))
      (away_on n l role sheet a (ap (λ (r : ℕ). turned_away r (kind_on a).name) by ∙ ap not e))
  turned_stays (fresh k) e = refl
  turned_stays (search k) e = refl
  turned_stays survey e = refl
  turned_stays save e = refl
  turned_stays (load image) e = refl
  turned_stays public.close e =
      ap (λ (t : Bool). settle (cond t (refused 21) accepted) (deed_in n l (ledgers.close role)).ledger (λ number. l))
      (ap (λ (r : ℕ). turned_away r roles.close) by ∙ ap not e)
  turned_stays build e = refl
  turned_stays check e = refl

  stays : (c : Public) → Stays c
  unfolding deed_in
  stays =
      carers_calls Stays turned_stays refl
      (λ sheet. either_way l (verdict_in n l (ledgers.on role sheet standing)))
      (λ sheet place date buffer. either_way l (verdict_in n l (ledgers.on role sheet (show_dated place date buffer))))

after_both : (n : ℕ) (l : List Sheet) (xs ys : List Call) → after n l (xs ++ ys) ≡ after n (after n l xs) ys
after_both n l [] ys = refl
after_both n l (x ∷ xs) ys = after_both n (step_in n l x) xs ys

pub leaves_the_ledger : LeavesTheLedger
leaves_the_ledger n l [] all = refl
leaves_the_ledger n l (m ∷ made) all =
    after_both n l (call_in m.manner.role m.call) (calls_in made)
    ∙ ap (λ (x : List Sheet). after n x (calls_in made)) (stays n l m.manner.role all.0 m.call)
    ∙ leaves_the_ledger n l made all.1
