-- Demand 3: every list of public calls from a fresh card answers and leaves what the ledger says, by whomever each call is
-- made: by the map or by the map's own summary (`every_list`; `document_01` of a pharmacist's calls by the map;
-- `every_list_from_fresh` from the fresh call itself; `every_list_with_summary` from a build), and guided by any summaries,
-- where a run that a guided reserve was granted is an accept of it (`every_list_by_any`). Every list has a run
-- (`every_list_runs`).
-- Assumes nothing.
use Prim.Native.Nat.{ℕ, zero, suc, ◌+◌, ◌*◌, ◌≤◌, ◌<◌}
use mathlib.Core.Path.{◌≡◌, refl, sym, ap, ap₂, subst, ◌∙◌}
use mathlib.Core.Bool.{and-true, Bool, true, false, ◌&&◌, false≢true}
use mathlib.Core.List.{List, [], ◌∷◌, map}
use native.Mathlib.Nat.{not-suc-le-zero}
use native.Mathlib.Omega.{arith}
use lib.Dec.{eqb, ltb}
use lib.ListN.{length, get_or, replicate, length-replicate}
use borrow.Author.Tests.{lt-ltb, le-ltb, lt-leb, eq-eqb}
use Rattle.map_blocks.specs.Blocks.{free}
use Rattle.map_blocks.specs.Maps.{fresh_map, words_for}
use Rattle.blocks_of_card.specs.Card.{block_of}
use Rattle.catalogue.specs.Entries.{absent}
use Rattle.catalogue.specs.declared.Entry.{Entry}
use Rattle.catalogue_standings.specs.Answers.{number_of}
use Rattle.catalogue_standings.specs.Rows.{Verdict, accepted, first_of, settle}
use Rattle.roles.specs.Roles as roles
use Rattle.roles.specs.Roles.{may, pharmacist}
use Rattle.refusals.specs.Table as table
use Rattle.refusals.specs.Table.{Ask, SheetCall, show, lowest_blank, table_of}
use Rattle.ledger.specs.Calls.{Call, on}
use Rattle.ledger.specs.Ledger.{Place, Blank, Payload, Sheet, Absent, Complete, standing_in, start_in, length_in, places_in}
use Rattle.ledger.specs.Ledger.{bytes_of, sheet_at, place_at, cover, free_in, spare_in, listed, verdict_in, deed_in, step_in}
use Rattle.ledger.specs.Ledger.{held, view_in, after, begun}
use Rattle.ledger.specs.Answers.{Told, done, refused_with, told_in, all_told_in}
use Rattle.ledger.specs.Claim.{SearchedBy, AllSearched, granted, returned, last_put, entry_in}
use Rattle.ledger.specs.Claim.{Agrees, Gives, Claim}
use Rattle.card.specs.Calls.{Kept}
use Rattle.card.specs.Public as public
use Rattle.card.specs.Public.{Public, fresh, search, survey, save, load, build, check, Manner, Beside, End, ends, kept_after}
use Rattle.ledger.specs.Lists as lists
use Rattle.ledger.specs.Lists.{Made, end_of, Response, told_by, response_of, fresh_state, Along, Listed, OfAnyLength}
use Rattle.ledger.specs.Lists.{ByAny, ByOwn, HandedOn, own_of, pharmacists_calls, plain_calls}
use Rattle.ledger.specs.Lists.{calls_in, replies_in, heard_in, heard_replies}
use Rattle.ledger.proofs.Plain.{Step, Runs}
use Rattle.ledger.proofs.Agreement.{map_in, state_of, Matches, free_map}
use Rattle.ledger.proofs.Feeding.{fed, heard}
use Rattle.ledger.proofs.Fresh.{Limits, fresh_left}
use Rattle.ledger.proofs.Cover.{covers_absent}
use Rattle.ledger.proofs.Listed.{spare_is}
use Rattle.ledger.proofs.Marks.{map_same}
use Rattle.ledger.proofs.OwnSummary.{built_own, own_runs}
use Rattle.ledger.proofs.Results.{Result}
use Rattle.ledger.proofs.Sheets.{holding, Has}
use Rattle.ledger.proofs.step.{result}

-- ---- one call

module _ (n : ℕ) (l : List Sheet) (card : List ℕ) (k : Matches n l card) (c : Call) (reply : Response) (t : Kept)
    (st : Step (state_of n l card) c reply t) where
  pub answered : told_by reply ≡ told_in n l c
  answered = ap told_by st.0 ∙ (result n l card k c).told_so

  by_search : SearchedBy n l c (told_by reply)
  by_search = subst (SearchedBy n l c) (sym answered) (result n l card k c).searched

-- ---- a list of calls

-- what a list leaves, from the state that ledger l calls for
pub record Left (n : ℕ) (l : List Sheet) (calls : List Call) (replies : List Response) (t : Kept) : Type 0 where
  pub card_left : List ℕ
  pub state_left : t ≡ state_of n (after n l calls) card_left
  pub kept_left : Matches n (after n l calls) card_left
  pub answers : map told_by replies ≡ all_told_in n l calls
  pub searches : AllSearched n l calls replies
  pub sum : held (after n l calls) + returned n l calls ≡ held l + granted n l calls
  -- what a place holds is what the history has last put there since the sheet's reserve
  pub noted_so : (j p : ℕ) (m : Place) → Has p m (sheet_at l j)
      → Has p (last_put j p m calls replies) (sheet_at (after n l calls) j)

pub lists_left : (n : ℕ) (calls : List Call) (replies : List Response) (l : List Sheet) (card : List ℕ) (s t : Kept)
    → Matches n l card → s ≡ state_of n l card
    → Runs s calls replies t → Left n l calls replies t
lists_left n [] [] l card s t k e h =
    record {
      card_left = card;
      state_left = h ∙ e;
      kept_left = k;
      answers = refl;
      searches = tt;
      sum = refl;
      noted_so = λ j p m was. was;
    }
lists_left n [] (reply ∷ replies) l card s t k e h = absurd h
lists_left n (c ∷ calls) [] l card s t k e h = absurd h
lists_left n (c ∷ calls) (reply ∷ replies) l card s t k e h =
    let st : Step (state_of n l card) c reply h.0 = subst (λ (x : Kept). Step x c reply h.0) e h.1 in
    let r : Result n l card c (verdict_in n l c) = result n l card k c in
    let rest : Left n (step_in n l c) calls replies t =
    lists_left n calls replies (step_in n l c) r.card_left h.0 t r.kept_left (st.1 ∙ r.state_left) h.2 in
    record {
      card_left = rest.card_left;
      state_left = rest.state_left;
      kept_left = rest.kept_left;
      answers = ap₂ ◌∷◌ (answered n l card k c reply h.0 st) rest.answers;
      searches = (by_search n l card k c reply h.0 st, rest.searches);
      sum = omega (arith, rest.sum, r.sum);
      noted_so = λ j p m was. rest.noted_so j p _
          (rw (ap (λ (x : Response). eqb (told_by x).number 0) st.0 ∙ ap (λ (x : Told). eqb x.number 0) r.told_so)
          (r.noted_so j p m was));
    }

-- ---- a fresh card

sheet_begun : (c i : ℕ) → sheet_at (begun c) i ≡ Absent
sheet_begun zero i = refl
sheet_begun (suc c) zero = refl
sheet_begun (suc c) (suc i) = sheet_begun c i

cover_begun : (c b : ℕ) → cover (begun c) b ≡ 0
cover_begun zero b = refl
cover_begun (suc c) b = omega (arith, cover_begun c b, covers_absent b)

pub held_begun : (c : ℕ) → held (begun c) ≡ 0
held_begun zero = refl
held_begun (suc c) = omega (arith, held_begun c)

entries_begun : (c : ℕ) → replicate c absent ≡ map entry_in (begun c)
entries_begun zero = refl
entries_begun (suc c) = ap (λ (r : List Entry). absent ∷ r) (entries_begun c)

module _ (n c : ℕ) (card : List ℕ) (n_low : 1 ≤ n) (n_high : n ≤ 262144) (c_low : 1 ≤ c) (c_high : c ≤ 1024)
    (room : length card ≡ 512 * n) where
  pub kept_begun : Matches n (begun c) card
  kept_begun = record {
    low = n_low;
    high = n_high;
    some_sheet = omega (arith, length-replicate c Absent);
    few_sheets = omega (arith, length-replicate c Absent);
    sound = record {
      once = λ b. omega (arith, cover_begun c b);
      fine = λ i. rw (sheet_begun c i) (record { inside = omega arith; needed = omega arith; sized = λ p. tt });
    };
    room = room;
    blocks = λ i p h. absurd (not-suc-le-zero (subst (λ (x : Sheet). p < length_in x) (sheet_begun c i) h));
  }

  pub state_begun : fresh_state n c card ≡ state_of n (begun c) card
  unfolding fresh_map
  state_begun =
      let spare : n ≡ spare_in n (begun c) = omega (arith, spare_is n (begun c) kept_begun.sound, held_begun c) in
      let whole : fresh_map n (words_for n) ≡ map_in n (begun c) =
      map_same (λ b. ltb b n) (free_in n (begun c)) (words_for n)
      (λ b lt. sym (ap (λ (x : Bool). ltb b n && x) (eq-eqb (cover (begun c) b) 0 (cover_begun c b))
      ∙ and-true (ltb b n))) in
      λ x. record { shape = record { blocks = n; free = spare x }; map = whole x; entries = entries_begun c x; card = card }

-- ---- a complete sheet shows what was put

listed_sheet : (l : List Sheet) (i s : ℕ) (xs : List (List ℕ)) → sheet_at l i ≡ Complete s xs → i < length l
listed_sheet [] i s xs e = absurd (false≢true (ap holding e))
listed_sheet (x ∷ l) zero s xs e = omega arith
listed_sheet (x ∷ l) (suc i) s xs e = let later = listed_sheet l i s xs e in omega arith

payload_of_lem : (xs : List (List ℕ)) (p : ℕ) → p < length xs → get_or (map Payload xs) p Blank ≡ Payload (get_or xs p [])
payload_of_lem [] p h = absurd (not-suc-le-zero h)
payload_of_lem (x ∷ xs) zero h = refl
payload_of_lem (x ∷ xs) (suc p) h = payload_of_lem xs p (omega arith)

-- a show of a complete sheet's place is accepted
show_accepted : (n : ℕ) (l : List Sheet) (i s : ℕ) (xs : List (List ℕ)) → sheet_at l i ≡ Complete s xs → (p : ℕ) → p < length xs
    → (role : ℕ) → may role roles.show ≡ true → (buffer : List ℕ) → length buffer ≡ 496
    → verdict_in n l (on role i (show p buffer)) ≡ accepted
unfolding table_of listed first_of
show_accepted n l i s xs e p lp role may-show buffer len =
    rw (
      may-show,
      ap standing_in e,
      lt-leb (length l) i (listed_sheet l i s xs e),
      lt-leb (length xs) p lp,
      eq-eqb (length buffer) 496 len,
    ) refl

module _ (n : ℕ) (l : List Sheet) (card : List ℕ) (k : Matches n l card) (i s : ℕ) (xs : List (List ℕ))
    (e-at : sheet_at l i ≡ Complete s xs) (p : ℕ) (lp : p < length xs) where
  pub place_of : place_at l i p ≡ Payload (get_or xs p [])
  place_of = ap (λ (x : Sheet). get_or (places_in x) p Blank) e-at ∙ payload_of_lem xs p lp

  pub shown : (t : Kept) → t ≡ state_of n l card → Gives t i p (get_or xs p [])
  unfolding deed_in
  shown t at m may-show b buffer len =
      let call : Call = on m.role i (show p buffer) in
      let e = ends m t b (public.on i (show p buffer)) in
      let st : Step (state_of n l card) call (response_of e) (kept_after e) =
      subst (λ (x : Kept). Step x call (response_of e) (kept_after e)) at (refl, refl) in
      answered n l card k call (response_of e) (kept_after e) st
      ∙ ap (λ (v : Verdict). settle v (done [] (bytes_of (place_at l i p)))
      (refused_with buffer (lowest_blank (view_in n l i))))
      (show_accepted n l i s xs e-at p lp m.role may-show buffer len)
      ∙ ap (λ (x : Place). done [] (bytes_of x)) place_of

-- ---- the claim

module _ (n c : ℕ) (card : List ℕ) (n_low : 1 ≤ n) (n_high : n ≤ 262144) (c_low : 1 ≤ c) (c_high : c ≤ 1024)
    (room : length card ≡ 512 * n) (calls : List Call) where
  abbrev l : List Sheet
  l = after n (begun c) calls

  agreeing : (t : Kept) (card' : List ℕ) → t ≡ state_of n l card' → Matches n l card' → Agrees n l t
  agreeing t card' e k = record {
    map_whole = ap (λ (x : Kept). x.map) e;
    entries_whole = ap (λ (x : Kept). x.entries) e;
    shape_whole = ap (λ (x : Kept). x.shape) e;
    card_length = ap (λ (x : Kept). length x.card) e ∙ k.room;
    card_blocks = λ i p h. ap (λ (x : Kept). block_of x.card (start_in (sheet_at l i) + p)) e ∙ k.blocks i p h;
    free_uncovered = λ b h. reads b ∙ ap (λ (x : Bool). x && eqb (cover l b) 0) (lt-ltb b n h);
    free_beyond = λ b h. reads b ∙ ap (λ (x : Bool). x && eqb (cover l b) 0) (le-ltb b n h);
    covered_once = k.sound.once;
  }
    where
      reads : (b : ℕ) → free t.map b ≡ free_in n l b
      reads b = ap (λ (x : Kept). free x.map b) e ∙ ap (λ (f : ℕ → Bool). f b) (free_map n l)

  pub claimed : (replies : List Response) (t : Kept) → Runs (fresh_state n c card) calls replies t → Claim n c calls replies t
  claimed replies t runs =
      let w : Left n (begun c) calls replies t =
      lists_left n calls replies (begun c) card (fresh_state n c card) t (kept_begun n c card n_low n_high c_low c_high room)
      (state_begun n c card n_low n_high c_low c_high room) runs in
      record {
        answers = w.answers;
        agrees = agreeing t w.card_left w.state_left w.kept_left;
        sum = omega (
          arith,
          w.sum,
          spare_is n l w.kept_left.sound,
          held_begun c,
          ap (λ (x : Kept). x.shape.free) w.state_left,
        );
        searches = w.searches;
        shows = λ i s xs e p lp. (
          get_or xs p [],
          sym (w.noted_so i p Blank (λ h. absurd (false≢true (subst (λ (x : Sheet). holding x ≡ true) (sheet_begun c i) h)))
              (ap holding e))
              ∙ place_of n l w.card_left w.kept_left i s xs e p lp,
          shown n l w.card_left w.kept_left i s xs e p lp t w.state_left,
        );
      }

-- ---- every list

-- every list has a run, whatever the calls are and whatever they are lent: what a call comes to is a function
pub has_run : (s : Kept) (made : List Made) → (es : List End) × (t : Kept) × lists.Runs s made es t
has_run s [] = ([], s, refl)
has_run s (m ∷ made) =
    let e = end_of s m in
    let rest = has_run (kept_after e) made in (e ∷ rest.0, rest.1, (refl, rest.2))

module _ (n c : ℕ) (card : List ℕ) (limits : Limits n c) (room : length card ≡ 512 * n) where
  claim_of : (calls : List Call) (replies : List Response) (t : Kept) → Runs (fresh_state n c card) calls replies t
      → Claim n c calls replies t
  claim_of calls replies t = claimed n c card limits.n_low limits.n_high limits.c_low
      limits.c_high room calls replies t

  -- by the map or by the map's own summary
  pub every_list : (made : List Made) (es : List End) (t : Kept) → ByOwn (fresh_state n c card) made
      → lists.Runs (fresh_state n c card) made es t → Claim n c (calls_in made) (replies_in made es) t
  every_list made es t own runs =
      claim_of (calls_in made) (replies_in made es) t (fed (fresh_state n c card) made es t own runs)

  -- guided by any summaries
  pub every_list_by_any : (made : List Made) (es : List End) (t : Kept) → ByAny (fresh_state n c card) made
      → lists.Runs (fresh_state n c card) made es t → Claim n c (heard_in made es) (heard_replies made es) t
  every_list_by_any made es t any runs =
      claim_of (heard_in made es) (heard_replies made es) t (heard (fresh_state n c card) made es t any runs)

  pub every_list_runs : (made : List Made) → (es : List End) × (t : Kept) × lists.Runs (fresh_state n c card) made es t
  every_list_runs = has_run (fresh_state n c card)

  -- where a list of them leaves off, another may go on
  pub left_by_any : (made : List Made) (es : List End) (t : Kept) → ByAny (fresh_state n c card) made
      → lists.Runs (fresh_state n c card) made es t → Left n (begun c) (heard_in made es) (heard_replies made es) t
  left_by_any made es t any runs =
      lists_left n (heard_in made es) (heard_replies made es) (begun c) card (fresh_state n c card) t
      (kept_begun n c card limits.n_low limits.n_high limits.c_low limits.c_high room)
      (state_begun n c card limits.n_low limits.n_high limits.c_low limits.c_high room)
      (heard (fresh_state n c card) made es t any runs)

  pub left_by_own : (made : List Made) (es : List End) (t : Kept) → ByOwn (fresh_state n c card) made
      → lists.Runs (fresh_state n c card) made es t → Left n (begun c) (calls_in made) (replies_in made es) t
  left_by_own made es t own runs =
      lists_left n (calls_in made) (replies_in made es) (begun c) card (fresh_state n c card) t
      (kept_begun n c card limits.n_low limits.n_high limits.c_low limits.c_high room)
      (state_begun n c card limits.n_low limits.n_high limits.c_low limits.c_high room)
      (fed (fresh_state n c card) made es t own runs)

  -- document 01's lists: a pharmacist's calls on sheets, by the map alone
  plain_own : (s : Kept) (calls : List SheetCall) → ByOwn s (pharmacists_calls calls)
  plain_own s [] = tt
  plain_own s (table.on sheet ask ∷ calls) = (
    record {
      joins = tt;
      scratch = λ e. absurd (false≢true (ap isClose e));
      summary = λ e. absurd (false≢true e);
    },
    plain_own (kept_after (end_of s (asked sheet ask))) calls,
  )
    where
      asked : ℕ → Ask → Made
      asked sheet ask = record {
        manner = public.by_map pharmacist;
        beside = record { summary = []; scratch = []; image = [] };
        call = public.on sheet ask;
      }

      isClose : Public → Bool
      isClose (public.on sheet ask) = false
      isClose (fresh n) = false
      isClose (search k) = false
      isClose survey = false
      isClose save = false
      isClose (load image) = false
      isClose public.close = true
      isClose build = false
      isClose check = false

  plain_fed : (calls : List SheetCall) → calls_in (pharmacists_calls calls) ≡ plain_calls calls
  plain_fed [] = refl
  plain_fed (table.on sheet ask ∷ calls) = ap (λ (rest : List Call). on pharmacist sheet ask ∷ rest) (plain_fed calls)

  plain_heard : (s t : Kept) (calls : List SheetCall) (es : List End) → lists.Runs s (pharmacists_calls calls) es t
      → replies_in (pharmacists_calls calls) es ≡ map response_of es
  plain_heard s t [] [] runs = refl
  plain_heard s t [] (e ∷ es) runs = absurd runs
  plain_heard s t (table.on sheet ask ∷ calls) [] runs = absurd runs
  plain_heard s t (table.on sheet ask ∷ calls) (e ∷ es) runs =
      ap (λ (rest : List Response). response_of e ∷ rest) (plain_heard (kept_after e) t calls es runs.1)

  pub document_01 : (calls : List SheetCall) (es : List End) (t : Kept)
      → lists.Runs (fresh_state n c card) (pharmacists_calls calls) es t → Claim n c (plain_calls calls) (map response_of es) t
  document_01 calls es t runs =
      let claim = every_list (pharmacists_calls calls) es t (plain_own (fresh_state n c card) calls) runs in
      subst (λ (replies : List Response). Claim n c (plain_calls calls) replies t)
      (plain_heard (fresh_state n c card) t calls es runs)
      (subst (λ (fed-so : List Call). Claim n c fed-so (replies_in (pharmacists_calls calls) es) t) (plain_fed calls) claim)

  -- from a summary that was built from the fresh map, each call lent it as the one before left it (document 02 (j)): answers
  -- and ledger are those of every list, and the summary ends as one built anew
  pub every_list_with_summary : (m : Manner) (b : Beside)
      → number_of (ends m (fresh_state n c card) b build).outcome.answer ≡ 0
      → (made : List Made) (es : List End) (t : Kept) (last : List ℕ)
      → HandedOn (ends m (fresh_state n c card) b build).beside.summary (fresh_state n c card) made last
      → Along (Listed OfAnyLength) (fresh_state n c card) made → lists.Runs (fresh_state n c card) made es t
      → Claim n c (calls_in made) (replies_in made es) t × (last ≡ own_of t)
  every_list_with_summary m b built made es t last handed-on listed-so runs =
      let own = own_runs (fresh_state n c card) made last es t runs
      (subst (λ (x : List ℕ). HandedOn x (fresh_state n c card) made last) (built_own m (fresh_state n c card) b built)
      handed-on)
      listed-so in
      (every_list made es t own.0 runs, own.1)

-- The same from the fresh call itself: what it left when it answered that it was done, whoever made it, and a card of 512·n
-- bytes.
pub every_list_from_fresh : (m : Manner) (s : Kept) (b : Beside) (n : ℕ) → length s.card ≡ 512 * n
    → number_of (ends m s b (fresh n)).outcome.answer ≡ 0
    → (made : List Made) (es : List End) (t : Kept) → ByOwn (kept_after (ends m s b (fresh n))) made
    → lists.Runs (kept_after (ends m s b (fresh n))) made es t
    → Claim n (length s.entries) (calls_in made) (replies_in made es) t
every_list_from_fresh m s b n room done-so made es t own runs =
    let left = fresh_left m s b n done-so in
    every_list n (length s.entries) s.card left.0 room made es t
    (subst (λ (x : Kept). ByOwn x made) left.1 own)
    (subst (λ (x : Kept). lists.Runs x made es t) left.1 runs)
