-- Lists of public calls, as a dispenser makes them: each takes the shape last handed back, and the same map, catalogue and card
-- as the call before left them (document 01, "The ledger, call by call"). What a call comes to is `ends` of the crate card,
-- which the contracts of the methods and of the C functions are read off.
-- Assumes nothing.
use Rattle.std.specs.Prelude.{ℕ, ◌≡◌, true, cond, List, [], ◌∷◌, ◌++◌, map, length, replicate}
use Rattle.map_blocks.specs.Maps.{words_for}
use Rattle.map_blocks.specs.Maps as maps
use Rattle.summary.specs.Summary.{summary_length, own_summary}
use Rattle.catalogue.specs.Entries.{absent}
use Rattle.catalogue_standings.specs.Answers.{number_of, values_of}
use Rattle.catalogue_standings.specs.declared.Answer.{Answer}
use Rattle.catalogue_standings.specs.declared.Answer.TheVariants.{Done, Start, Reads, Counted, Own, Blank, Refused}
use Rattle.roles.specs.Roles.{pharmacist}
use Rattle.refusals.specs.Table as table
use Rattle.refusals.specs.Table.{SheetCall}
use Rattle.refusals.specs.Table.{Ask, reserve, put, grow, complete, change, release, show, standing, offer, accept, show_dated}
use Rattle.image_soundness.specs.Scratch.{scratch_words}
use Rattle.image_soundness.specs.Sound as saved
use Rattle.card.specs.Calls.{Kept, saved_state}
use Rattle.card.specs.Public as public
use Rattle.card.specs.Public.{Public, fresh, search, survey, save, load, build, check, kind_of, Manner, by_map, Beside, End}
use Rattle.card.specs.Public.{ends}
use Rattle.card.specs.Public.{kept_after}
use Rattle.ledger.specs.Calls.{Call, on, close}
use Rattle.ledger.specs.Answers.{Told}

-- ---- runs

-- A call as it is made: by whom and in which form, with what else lent to it.
pub record Made : Type 0 where
  pub manner : Manner
  pub beside : Beside
  pub call : Public

abbrev pub end_of : Kept → Made → End
end_of s m = ends m.manner s m.beside m.call

-- A list of calls from state s comes to these ends, and leaves state t.
abbrev pub Runs : Kept → List Made → List End → Kept → Type 0
Runs s [] [] t = t ≡ s
Runs s [] (e ∷ es) t = ⊥
Runs s (m ∷ made) [] t = ⊥
Runs s (m ∷ made) (e ∷ es) t = (e ≡ end_of s m) × Runs (kept_after e) made es t

-- Something holds of each call of a list, in the state in which it is made.
abbrev pub Along : (Kept → Made → Type 0) → Kept → List Made → Type 0
Along P s [] = Unit {0}
Along P s (m ∷ made) = P s m × Along P (kept_after (end_of s m)) made

-- What an accepted fresh left, and a card.
abbrev pub fresh_state : ℕ → ℕ → List ℕ → Kept
fresh_state n c card = record {
  shape = record { blocks = n; free = n };
  map = maps.fresh_map n (words_for n);
  entries = replicate c absent;
  card = card;
}

-- What a save of a state is of.
abbrev pub saved_of : Kept → saved.State
saved_of t = saved_state t.shape t.map t.entries

-- ---- what a caller gets

-- Its answer, and what its buffer holds then (nothing for a call that brings no buffer).
pub record Response : Type 0 where
  pub answer : Answer
  pub buffer : List ℕ

-- The numbers of document 01.
abbrev pub told_by : Response → Told
told_by reply = record { number = number_of reply.answer; values = values_of reply.answer; buffer = reply.buffer }

abbrev pub response_of : End → Response
response_of e = record { answer = e.outcome.answer; buffer = e.buffer }

abbrev pub told_of : End → Told
told_of e = told_by (response_of e)

-- ---- what may stand in a list

-- Fresh and load are no members of a list, nor may they stand between.
abbrev pub Joins : Public → Type 0
Joins (public.on sheet ask) = Unit {0}
Joins (fresh n) = ⊥
Joins (search k) = Unit {0}
Joins survey = Unit {0}
Joins save = Unit {0}
Joins (load image) = ⊥
Joins public.close = Unit {0}
Joins build = Unit {0}
Joins check = Unit {0}

-- A summary of the length that row 1 asks for, the map's own or not; and the map's own.
abbrev pub Long : Kept → List ℕ → Type 0
Long s summary = length summary ≡ summary_length (length s.map)

abbrev pub own_of : Kept → List ℕ
own_of s = own_summary s.map s.shape.blocks

abbrev pub IsOwn : Kept → List ℕ → Type 0
IsOwn s summary = summary ≡ own_of s

abbrev pub OfAnyLength : Kept → List ℕ → Type 0
OfAnyLength s summary = Unit {0}

-- A call of a list: a closing is lent a scratch of the length that row 1 asks for, and a call that is guided by a summary one
-- of this kind.
pub record Listed (kind : Kept → List ℕ → Type 0) (s : Kept) (m : Made) : Type 0 where
  pub joins : Joins m.call
  pub scratch : m.call ≡ public.close → length m.beside.scratch ≡ scratch_words (length s.map)
  pub summary : m.manner.guided ≡ true → kind s m.beside.summary

-- Lists guided by any summaries, or by none; and lists guided by the map's own alone, or by none.
abbrev pub ByAny : Kept → List Made → Type 0
ByAny = Along (Listed Long)

abbrev pub ByOwn : Kept → List Made → Type 0
ByOwn = Along (Listed IsOwn)

-- Each call is lent the summary as the one before left it, and every call that has a form with a summary is that form; after
-- the list it is `last`.
abbrev pub HandedOn : List ℕ → Kept → List Made → List ℕ → Type 0
HandedOn summary s [] last = last ≡ summary
HandedOn summary s (m ∷ made) last =
    (m.beside.summary ≡ summary) × ((kind_of m.call).formed ≡ true → m.manner.guided ≡ true)
    × HandedOn (end_of s m).beside.summary (kept_after (end_of s m)) made last

-- Document 01's lists: calls on sheets, all made by a pharmacist and by the map, with nothing lent beside.
abbrev pub pharmacists_calls : List SheetCall → List Made
pharmacists_calls [] = []
pharmacists_calls (table.on sheet ask ∷ calls) =
    record {
      manner = by_map pharmacist;
      beside = record { summary = []; scratch = []; image = [] };
      call = public.on sheet ask;
    }
    ∷ pharmacists_calls calls

-- as the ledger has them
abbrev pub plain_calls : List SheetCall → List Call
plain_calls [] = []
plain_calls (table.on sheet ask ∷ calls) = on pharmacist sheet ask ∷ plain_calls calls

-- ---- what the ledger is fed of a list

-- The calls on a sheet and the closings; a search, a survey, a save, a build or a check of a summary stands between.
abbrev pub call_in : ℕ → Public → List Call
call_in role (public.on sheet ask) = on role sheet ask ∷ []
call_in role (fresh n) = []
call_in role (search k) = []
call_in role survey = []
call_in role save = []
call_in role (load image) = []
call_in role public.close = close role ∷ []
call_in role build = []
call_in role check = []

abbrev pub calls_in : List Made → List Call
calls_in [] = []
calls_in (m ∷ made) = call_in m.manner.role m.call ++ calls_in made

-- Something holds of each of them.
abbrev pub All : (Call → Type 0) → List Call → Type 0
All P [] = Unit {0}
All P (c ∷ calls) = P c × All P calls

-- The replies to them.
abbrev pub replies_to : End → List Call → List Response
replies_to e calls = map (λ c. response_of e) calls

abbrev pub replies_in : List Made → List End → List Response
replies_in [] es = []
replies_in (m ∷ made) [] = []
replies_in (m ∷ made) (e ∷ es) = replies_to e (call_in m.manner.role m.call) ++ replies_in made es

-- Where a summary may be false, the outcome of a reserve's search is open. A run that was granted is then fed to the ledger as
-- an accept of that run, and a reserve that was refused is not.
abbrev pub taken_at : ℕ → List ℕ → ℕ → Answer → List Call
taken_at sheet limits k (Start start space) = on pharmacist sheet (accept limits start k) ∷ []
taken_at sheet limits k Done = []
taken_at sheet limits k (Reads mark start length) = []
taken_at sheet limits k (Counted free runs longest) = []
taken_at sheet limits k (Own own) = []
taken_at sheet limits k (Blank place) = []
taken_at sheet limits k (Refused number) = []

abbrev pub guided_in : ℕ → ℕ → Ask → Answer → List Call
guided_in role sheet (reserve limits k placement) answer = taken_at sheet limits k answer
guided_in role sheet (offer limits k) answer = on role sheet (offer limits k) ∷ []
guided_in role sheet (accept limits start k) answer = on role sheet (accept limits start k) ∷ []
guided_in role sheet (put place payload) answer = on role sheet (put place payload) ∷ []
guided_in role sheet (grow limits m) answer = on role sheet (grow limits m) ∷ []
guided_in role sheet complete answer = on role sheet complete ∷ []
guided_in role sheet (change c) answer = on role sheet (change c) ∷ []
guided_in role sheet release answer = on role sheet release ∷ []
guided_in role sheet (show place buffer) answer = on role sheet (show place buffer) ∷ []
guided_in role sheet (show_dated place date buffer) answer = on role sheet (show_dated place date buffer) ∷ []
guided_in role sheet standing answer = on role sheet standing ∷ []

abbrev pub heard_of : Manner → Public → Answer → List Call
heard_of m (public.on sheet ask) answer =
    cond m.guided (guided_in m.role sheet ask answer) (on m.role sheet ask ∷ [])
heard_of m (fresh n) answer = []
heard_of m (search k) answer = []
heard_of m survey answer = []
heard_of m save answer = []
heard_of m (load image) answer = []
heard_of m public.close answer = close m.role ∷ []
heard_of m build answer = []
heard_of m check answer = []

abbrev pub heard_in : List Made → List End → List Call
heard_in [] es = []
heard_in (m ∷ made) [] = []
heard_in (m ∷ made) (e ∷ es) = heard_of m.manner m.call e.outcome.answer ++ heard_in made es

abbrev pub heard_replies : List Made → List End → List Response
heard_replies [] es = []
heard_replies (m ∷ made) [] = []
heard_replies (m ∷ made) (e ∷ es) =
    replies_to e (heard_of m.manner m.call e.outcome.answer) ++ heard_replies made es
