-- Every list of public calls is a list of the calls that the ledger is fed, as they are made by the map alone: with the map's
-- own summary or none the calls are those that were made (`fed`), with any summary a run that a guided reserve was granted is
-- an accept of it (`heard`). The calls that stand between leave all that is kept as it was.
-- Assumes nothing.
use Prim.Native.Nat.{ℕ}
use mathlib.Core.Path.{◌≡◌, refl, sym, ap, subst, ◌∙◌}
use mathlib.Core.Bool.{Bool, true, false, cond, not}
use mathlib.Core.List.{List, [], ◌∷◌, ◌++◌}
use lib.ListN.{length, length-replicate}
use Rattle.catalogue_standings.specs.Rows.{Verdict, accepted, refused, settle, row_number}
use Rattle.catalogue_standings.specs.Searches.{start_with_space}
use Rattle.map_blocks.specs.Blocks.{free}
use Rattle.catalogue_standings.specs.declared.Answer.{Answer}
use Rattle.catalogue_standings.specs.declared.Answer.TheVariants.{Done, Start, Reads, Counted, Own, Blank, Refused}
use Rattle.image_soundness.specs.Scratch.{scratch_words}
use Rattle.closing.specs.Closed.{closed_map, closed_entries, closed_card}
use Rattle.closing.specs.Effects as closings
use Rattle.closing.specs.Table.{close_verdict}
use Rattle.roles.specs.Roles as roles
use Rattle.roles.specs.Roles.{may, turned_away, pharmacist}
use Rattle.refusals.specs.Effects.{unsearched_verdict}
use Rattle.refusals.specs.Lent.{Lent}
use Rattle.refusals.specs.Placement.{Placement}
use Rattle.refusals.specs.Table.{Ask, reserve, put, grow, complete, change, release, show, standing, offer, accept, show_dated}
use Rattle.card.specs.Calls.{Kept, save_outcome_by, lent_by_within}
use Rattle.card.specs.Closings.{close_outcome, close_map, close_entries, close_card}
use Rattle.card.specs.Public as public
use Rattle.card.specs.Public.{Public, fresh, search, survey, save, load, build, check, kind_on, Manner, Beside, refused_end}
use Rattle.card.specs.Public.{end_on, end_close, ends, kept_after}
use Rattle.card.proofs.TurnedAway.{turned_on}
use Rattle.ledger.specs.Calls.{Call, on, close}
use Rattle.ledger.specs.Lists as lists
use Rattle.ledger.specs.Lists.{Made, Response, response_of, saved_of, Joins, Listed, Long, IsOwn, ByAny, ByOwn, own_of}
use Rattle.ledger.specs.Lists.{All, call_in, calls_in, replies_to, replies_in, taken_at, guided_in, heard_of, heard_in}
use Rattle.ledger.specs.Lists.{heard_replies}
use Rattle.ledger.proofs.AnySummary.{accept_any, grow_any, release_any, close_any, Ruled, nowhere, short_of, taken}
use Rattle.ledger.proofs.AnySummary.{ruled, answers}
use Rattle.ledger.proofs.AnySummary.{does}
use Rattle.ledger.proofs.AnySummary.{before_refuses}
use Rattle.ledger.proofs.GuidedClosings.{own_fits}
use Rattle.ledger.proofs.OwnSummary.{same_on}
use Rattle.ledger.proofs.Plain.{End, ending, came, scratch_of, lends, end_of, state_on, Runs}

-- ---- two lists of calls, one after the other

pub joined : (xs : List Call) (rs : List Response) (s m : Kept) (ys : List Call) (qs : List Response) (t : Kept)
    → Runs s xs rs m → Runs m ys qs t → Runs s (xs ++ ys) (rs ++ qs) t
joined [] [] s m ys qs t h k = subst (λ (x : Kept). Runs x ys qs t) h k
joined [] (r ∷ rs) s m ys qs t h k = absurd h
joined (x ∷ xs) [] s m ys qs t h k = absurd h
joined (x ∷ xs) (r ∷ rs) s m ys qs t h k = (h.0, h.1, joined xs rs h.0 m ys qs t h.2 k)

-- ---- one call

-- what is kept, and the reply, are read off what a call comes to but for what it is lent beside
one : (s : Kept) (c : Call) (e : public.End) → came e ≡ end_of s c → Runs s (c ∷ []) (response_of e ∷ []) (kept_after e)
one s c e h = (
  kept_after e,
  (ap (λ (x : End). record { answer = x.outcome.answer; buffer = x.buffer }) h, ap state_on h),
  refl,
)

-- by the map alone what else is lent to a call on a sheet changes nothing
module _ (t : Bool) (s : Kept) (b : Beside) (sheet : ℕ) where
  pub by_map : (a : Ask) → came (end_on t false s b sheet a) ≡ came (end_on t false s (lends s []) sheet a)
  by_map (reserve limits k p) = refl
  by_map (offer limits k) = refl
  by_map (accept limits start k) = refl
  by_map (put p payload) = refl
  by_map (grow limits m) = refl
  by_map complete = refl
  by_map (change c) = refl
  by_map release = refl
  by_map (show p buffer) = refl
  by_map (show_dated p date buffer) = refl
  by_map standing = refl

-- a closing goes by the length of its scratch, whatever that holds
module _ (t : Bool) (s : Kept) (a b : List ℕ) (same : length a ≡ length b) where
  abbrev verdict_for : ℕ → Verdict
  verdict_for = close_verdict t (saved_of s) true (length s.card)

  same_closing : ending (close_outcome t s a) (close_map t s a) (close_entries t s a) (close_card t s a) []
      ≡ ending (close_outcome t s b) (close_map t s b) (close_entries t s b) (close_card t s b) []
  unfolding closings.close_number closings.close_map closings.close_entries closings.close_card
  same_closing =
      ap (λ (k : ℕ). ending (save_outcome_by s.shape (row_number (verdict_for k)))
      (settle (verdict_for k) (closed_map s.entries s.shape.blocks s.map) (λ number. s.map))
      (settle (verdict_for k) (closed_entries s.entries) (λ number. s.entries))
      (settle (verdict_for k) (closed_card s.entries s.card) (λ number. s.card)) []) same

module _ (s : Kept) (b : Beside) (fits : length b.scratch ≡ scratch_words (length s.map)) where
  close_by_map : (t : Bool) → came (end_close t false s b) ≡ came (end_close t false s (lends s []))
  close_by_map t =
      same_closing t s b.scratch (scratch_of s) (fits ∙ sym (length-replicate (scratch_words (length s.map)) 0))

  close_by : (guided : Bool) → (guided ≡ true → Long s b.summary) → (t : Bool)
      → came (end_close t guided s b) ≡ came (end_close t false s (lends s []))
  close_by true long t = ap came (close_any s b (long refl) t) ∙ close_by_map t
  close_by false long t = close_by_map t

-- ---- with the map's own summary, or none

module _ (role : ℕ) (s : Kept) (b : Beside) where
  abbrev comes_to : Bool → Public → public.End
  comes_to guided c = ends (record { role = role; guided = guided }) s b c

  fed_on : (guided : Bool) → (guided ≡ true → b.summary ≡ own_of s) → (sheet : ℕ) (a : Ask)
      → came (end_on (turned_away role (kind_on a).name) guided s b sheet a) ≡ end_of s (on role sheet a)
  fed_on true own sheet a =
      ap came (same_on s b (own refl) sheet (turned_away role (kind_on a).name) a)
      ∙ by_map (turned_away role (kind_on a).name) s b sheet a
  fed_on false own sheet a = by_map (turned_away role (kind_on a).name) s b sheet a

  fed_once : (guided : Bool) → (guided ≡ true → b.summary ≡ own_of s) → (c : Public) → Joins c
      → (c ≡ public.close → length b.scratch ≡ scratch_words (length s.map))
      → Runs s (call_in role c) (replies_to (comes_to guided c) (call_in role c)) (kept_after (comes_to guided c))
  fed_once guided own (public.on sheet a) j fits = one s (on role sheet a) (comes_to guided (public.on sheet a))
      (fed_on guided own sheet a)
  fed_once guided own (fresh n) j fits = absurd j
  fed_once guided own (search k) j fits = refl
  fed_once guided own survey j fits = refl
  fed_once guided own save j fits = refl
  fed_once guided own (load image) j fits = absurd j
  fed_once guided own public.close j fits =
      one s (close role) (comes_to guided public.close)
      (close_by s b (fits refl) guided (λ h. ap length (own h) ∙ own_fits s) (turned_away role roles.close))
  fed_once guided own build j fits = refl
  fed_once guided own check j fits = refl

pub fed_one : (s : Kept) (m : Made) → Listed IsOwn s m → Runs s (call_in m.manner.role m.call)
    (replies_to (lists.end_of s m) (call_in m.manner.role m.call)) (kept_after (lists.end_of s m))
fed_one s m h = fed_once m.manner.role s m.beside m.manner.guided h.summary m.call h.joins h.scratch

pub fed : (s : Kept) (made : List Made) (es : List public.End) (t : Kept) → ByOwn s made → lists.Runs s made es t
    → Runs s (calls_in made) (replies_in made es) t
fed s [] [] t own runs = runs
fed s [] (e ∷ es) t own runs = absurd runs
fed s (m ∷ made) [] t own runs = absurd runs
fed s (m ∷ made) (e ∷ es) t own runs =
    let first = subst (λ (x : public.End). Runs s (call_in m.manner.role m.call)
    (replies_to x (call_in m.manner.role m.call)) (kept_after x)) (sym runs.0) (fed_one s m own.0) in
    joined (call_in m.manner.role m.call) _ s (kept_after e) (calls_in made) (replies_in made es) t first
    (fed (kept_after e) made es t (subst (λ (x : public.End). ByOwn (kept_after x) made) (sym runs.0) own.1) runs.1)

-- ---- with any summary of its length

pub all_may : (call : ℕ) → may pharmacist call ≡ true
unfolding may
all_may call = refl

module _ (role : ℕ) (s : Kept) (b : Beside) (long : Long s b.summary) (sheet : ℕ) where
  abbrev away : Ask → Bool
  away a = turned_away role (kind_on a).name

  abbrev end : Ask → public.End
  end a = end_on (away a) true s b sheet a

  module _ (limits : List ℕ) (k : ℕ) (p : Placement) where
    abbrev plainly : Lent
    plainly = lent_by_within false false [] s s.card limits sheet

    -- what is fed of a reserve, by what it comes to
    abbrev HeardAs : public.End → Type 0
    HeardAs e = Runs s (taken_at sheet limits k e.outcome.answer)
        (replies_to e (taken_at sheet limits k e.outcome.answer)) (kept_after e)

    -- a refusal leaves all as it was
    refused_so : (number : ℕ) (e : public.End) → e ≡ refused_end number s b (kind_on (reserve limits k p)) → HeardAs e
    refused_so number e h = subst HeardAs (sym h) refl

    -- a run granted is that of an accept, of one who may
    taken-so : (start : ℕ) (e : public.End) → e.outcome.answer ≡ start_with_space (free s.map) s.shape.blocks start
        → e ≡ end_on false true s b sheet (accept limits start k) → HeardAs e
    taken-so start e said does =
        subst (λ (a : Answer). Runs s (taken_at sheet limits k a) (replies_to e (taken_at sheet limits k a)) (kept_after e))
        (sym said)
        (one s (on pharmacist sheet (accept limits start k)) e
        (ap came does ∙ ap came (accept_any s b sheet long false limits start k)
        ∙ by_map false s b sheet (accept limits start k)
        ∙ sym (ap (λ (t : Bool). came (end_on (not t) false s (lends s []) sheet (accept limits start k)))
        (all_may roles.accept))))

    heard-reserve : (t : Bool) → HeardAs (end_on t true s b sheet (reserve limits k p))
    heard-reserve true = refused_so 21 _ (turned_on true true s b sheet (reserve limits k p) refl)
    heard-reserve false = by (unsearched_verdict plainly k p) refl
      where
        ruling : (comes : unsearched_verdict plainly k p ≡ accepted) → Ruled s b limits sheet long k p comes
            → HeardAs (end_on false true s b sheet (reserve limits k p))
        ruling comes (nowhere h) = refused_so 10 _ h
        ruling comes (short_of start f more h) = refused_so 4 _ h
        ruling comes (taken start f few) =
            taken-so start _ (answers s b limits sheet long k p comes start f few)
            (does s b limits sheet long k p comes start f few)

        by : (v : Verdict) → unsearched_verdict plainly k p ≡ v → HeardAs (end_on false true s b sheet (reserve limits k p))
        by accepted h = ruling h (ruled s b limits sheet long k p h)
        by (refused number) h = refused_so number _ (before_refuses s b limits sheet long k p number h)

  abbrev Heard : Ask → Type 0
  Heard a = Runs s (guided_in role sheet a (end a).outcome.answer)
      (replies_to (end a) (guided_in role sheet a (end a).outcome.answer)) (kept_after (end a))

  pub heard_on : (a : Ask) → Heard a
  heard_on (reserve limits k p) = heard-reserve limits k p (turned_away role roles.reserve)
  heard_on (offer limits k) = one s (on role sheet (offer limits k)) (end (offer limits k)) refl
  heard_on (accept limits start k) =
      one s (on role sheet (accept limits start k)) (end (accept limits start k))
      (ap came (accept_any s b sheet long (turned_away role roles.accept) limits start k)
      ∙ by_map (turned_away role roles.accept) s b sheet (accept limits start k))
  heard_on (put q payload) = one s (on role sheet (put q payload)) (end (put q payload)) refl
  heard_on (grow limits m) =
      one s (on role sheet (grow limits m)) (end (grow limits m))
      (ap came (grow_any s b sheet long (turned_away role roles.grow) limits m)
      ∙ by_map (turned_away role roles.grow) s b sheet (grow limits m))
  heard_on complete = one s (on role sheet complete) (end complete) refl
  heard_on (change c) = one s (on role sheet (change c)) (end (change c)) refl
  heard_on release =
      one s (on role sheet release) (end release)
      (ap came (release_any s b sheet long (turned_away role roles.release))
      ∙ by_map (turned_away role roles.release) s b sheet release)
  heard_on (show q buffer) = one s (on role sheet (show q buffer)) (end (show q buffer)) refl
  heard_on (show_dated q date buffer) = one s (on role sheet (show_dated q date buffer)) (end (show_dated q date buffer)) refl
  heard_on standing = one s (on role sheet standing) (end standing) refl

module _ (role : ℕ) (s : Kept) (b : Beside) where
  abbrev then : Bool → Public → public.End
  then = comes_to role s b

  abbrev feeds : Bool → Public → List Call
  feeds guided c = heard_of (record { role = role; guided = guided }) c (then guided c).outcome.answer

  heard_once : (guided : Bool) → (guided ≡ true → Long s b.summary) → (c : Public) → Joins c
      → (c ≡ public.close → length b.scratch ≡ scratch_words (length s.map))
      → Runs s (feeds guided c) (replies_to (then guided c) (feeds guided c)) (kept_after (then guided c))
  heard_once true long (public.on sheet a) j fits = heard_on role s b (long refl) sheet a
  heard_once false long (public.on sheet a) j fits =
      one s (on role sheet a) (then false (public.on sheet a)) (by_map (turned_away role (kind_on a).name) s b sheet a)
  heard_once guided long (fresh n) j fits = absurd j
  heard_once guided long (search k) j fits = refl
  heard_once guided long survey j fits = refl
  heard_once guided long save j fits = refl
  heard_once guided long (load image) j fits = absurd j
  heard_once guided long public.close j fits =
      one s (close role) (then guided public.close) (close_by s b (fits refl) guided long (turned_away role roles.close))
  heard_once guided long build j fits = refl
  heard_once guided long check j fits = refl

-- what the ledger is fed of a call, made in state s
abbrev pub heard_from : Kept → Made → List Call
heard_from s m = heard_of m.manner m.call (lists.end_of s m).outcome.answer

pub heard_one : (s : Kept) (m : Made) → Listed Long s m → Runs s (heard_from s m)
    (replies_to (lists.end_of s m) (heard_from s m))
    (kept_after (lists.end_of s m))
heard_one s m h = heard_once m.manner.role s m.beside m.manner.guided h.summary m.call h.joins h.scratch

pub heard : (s : Kept) (made : List Made) (es : List public.End) (t : Kept) → ByAny s made → lists.Runs s made es t
    → Runs s (heard_in made es) (heard_replies made es) t
heard s [] [] t any runs = runs
heard s [] (e ∷ es) t any runs = absurd runs
heard s (m ∷ made) [] t any runs = absurd runs
heard s (m ∷ made) (e ∷ es) t any runs =
    let first = subst (λ (x : public.End). Runs s (heard_of m.manner m.call x.outcome.answer)
    (replies_to x (heard_of m.manner m.call x.outcome.answer)) (kept_after x)) (sym runs.0)
    (heard_one s m any.0) in
    joined (heard_of m.manner m.call e.outcome.answer) _ s (kept_after e) (heard_in made es)
    (heard_replies made es) t first
    (heard (kept_after e) made es t (subst (λ (x : public.End). ByAny (kept_after x) made) (sym runs.0) any.1) runs.1)

-- the map's own summary is one of its length
pub own_any : (s : Kept) (made : List Made) → ByOwn s made → ByAny s made
own_any s [] own = tt
own_any s (m ∷ made) own = (
  record {
    joins = own.0.joins;
    scratch = own.0.scratch;
    summary = λ h. ap length (own.0.summary h) ∙ own_fits s;
  },
  own_any (kept_after (lists.end_of s m)) made own.1,
)

-- ---- what holds of each call that was made holds of each that the ledger is fed

module _ (P : Call → Type 0)
    (as-accept : (role sheet : ℕ) (limits : List ℕ) (k start : ℕ) (p : Placement) → P (on role sheet (reserve limits k p))
    → P (on pharmacist sheet (accept limits start k))) where
  all_split : (xs ys : List Call) → All P (xs ++ ys) → All P xs × All P ys
  all_split [] ys h = (tt, h)
  all_split (x ∷ xs) ys h = let rest = all_split xs ys h.1 in ((h.0, rest.0), rest.1)

  all_join : (xs ys : List Call) → All P xs → All P ys → All P (xs ++ ys)
  all_join [] ys h k = k
  all_join (x ∷ xs) ys h k = (h.0, all_join xs ys h.1 k)

  all_taken : (role sheet : ℕ) (limits : List ℕ) (k : ℕ) (p : Placement) (answer : Answer)
      → P (on role sheet (reserve limits k p))
      → All P (taken_at sheet limits k answer)
  all_taken role sheet limits k p (Start start space) h = (as-accept role sheet limits k start p h, tt)
  all_taken role sheet limits k p Done h = tt
  all_taken role sheet limits k p (Reads mark start length) h = tt
  all_taken role sheet limits k p (Counted free runs longest) h = tt
  all_taken role sheet limits k p (Own own) h = tt
  all_taken role sheet limits k p (Blank place) h = tt
  all_taken role sheet limits k p (Refused number) h = tt

  all_guided : (role sheet : ℕ) (a : Ask) (answer : Answer) → P (on role sheet a) → All P (guided_in role sheet a answer)
  all_guided role sheet (reserve limits k p) answer h = all_taken role sheet limits k p answer h
  all_guided role sheet (offer limits k) answer h = (h, tt)
  all_guided role sheet (accept limits start k) answer h = (h, tt)
  all_guided role sheet (put q payload) answer h = (h, tt)
  all_guided role sheet (grow limits m) answer h = (h, tt)
  all_guided role sheet complete answer h = (h, tt)
  all_guided role sheet (change c) answer h = (h, tt)
  all_guided role sheet release answer h = (h, tt)
  all_guided role sheet (show q buffer) answer h = (h, tt)
  all_guided role sheet (show_dated q date buffer) answer h = (h, tt)
  all_guided role sheet standing answer h = (h, tt)

  all_on : (guided : Bool) (role sheet : ℕ) (a : Ask) (answer : Answer) → P (on role sheet a)
      → All P (cond guided (guided_in role sheet a answer) (on role sheet a ∷ []))
  all_on true role sheet a answer h = all_guided role sheet a answer h
  all_on false role sheet a answer h = (h, tt)

  all_of : (m : Manner) (c : Public) (answer : Answer) → All P (call_in m.role c) → All P (heard_of m c answer)
  all_of m (public.on sheet a) answer h = all_on m.guided m.role sheet a answer h.0
  all_of m (fresh n) answer h = tt
  all_of m (search k) answer h = tt
  all_of m survey answer h = tt
  all_of m save answer h = tt
  all_of m (load image) answer h = tt
  all_of m public.close answer h = h
  all_of m build answer h = tt
  all_of m check answer h = tt

  pub all_from : (s : Kept) (m : Made) (more : List Call) → All P (call_in m.manner.role m.call ++ more)
      → All P (heard_from s m) × All P more
  all_from s m more h =
      let both = all_split (call_in m.manner.role m.call) more h in (all_of m.manner m.call _ both.0, both.1)

  pub all_heard : (made : List Made) (es : List public.End) → All P (calls_in made) → All P (heard_in made es)
  all_heard [] es h = tt
  all_heard (m ∷ made) [] h = tt
  all_heard (m ∷ made) (e ∷ es) h =
      let both = all_split (call_in m.manner.role m.call) (calls_in made) h in
      all_join (heard_of m.manner m.call e.outcome.answer) (heard_in made es)
      (all_of m.manner m.call e.outcome.answer both.0) (all_heard made es both.1)
