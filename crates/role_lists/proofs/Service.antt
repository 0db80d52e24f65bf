-- Every list of public calls that service makes, but fresh and load: every sheet that stands Complete shows what it showed,
-- from any state. What specs/Service.antt claims.
-- Assumes nothing.
use Prim.Native.Nat.{ℕ, ◌*◌, ◌<◌}
use mathlib.Core.Path.{◌≡◌, refl, sym, ap, subst, ◌∙◌}
use mathlib.Core.Bool.{Bool, false, cond, not}
use mathlib.Core.List.{List, [], ◌∷◌}
use lib.ListN.{length, length-map}
use Rattle.calendar.specs.Calendar.{Date}
use Rattle.roles.specs.Roles as roles
use Rattle.roles.specs.Roles.{may, service, turned_away}
use Rattle.catalogue_standings.specs.Rows.{Verdict, accepted, refused}
use Rattle.catalogue_standings.specs.declared.Standing.TheVariants.{Complete}
use Rattle.card.specs.Calls.{Kept, show_outcome, show_buffer, show_dated_outcome, show_dated_buffer}
use Rattle.card.specs.Public.{Public, kind_of, Manner, Beside, End}
use Rattle.card.specs.Public.{end_close, ends, kept_after}
use Rattle.card.proofs.Closings.{verdict_by, close_refused, close_accepted}
use Rattle.card.proofs.TurnedAway.{every_call_turned_away}
use Rattle.ledger.specs.Claim.{entry_in}
use Rattle.ledger.specs.Ledger.{Sheet, standing_in, after, begun}
use Rattle.ledger.specs.Lists.{Made, told_by, Runs, heard_in, heard_replies}
use Rattle.ledger.proofs.Agreement.{stands_same}
use Rattle.ledger.proofs.Demand.{Left, every_list_by_any, left_by_any}
use Rattle.ledger.proofs.Fresh.{Limits}
use Rattle.ledger.proofs.Pauses.{held_listed}
use Rattle.ledger.proofs.Sheets.{holding}
use Rattle.role_lists.specs.Carers.{stands, AllBy}
use Rattle.role_lists.specs.Service.{NeitherFreshNorLoad, ServiceShowsAsBefore, ServiceShowsTheSame}
use Rattle.role_lists.proofs.Cases.{services_calls}
use Rattle.role_lists.proofs.ClosedSheets.{closed_kept, closed_moved}
use Rattle.role_lists.proofs.Shown.{show-same, show-buffer-same, dated-same, dated-buffer-same}

-- ---- a sheet that stands Complete and shows the same

pub record Still (s u : Kept) (sheet count : ℕ) : Type 0 where
  pub start : ℕ
  pub there : sheet < length u.entries
  pub standing_so : stands u sheet ≡ Complete start count
  pub shows : (t : Bool) (place : ℕ) (buffer : List ℕ)
      → (show_outcome t u sheet place buffer ≡ show_outcome t s sheet place buffer)
      × (show_buffer t u sheet place buffer ≡ show_buffer t s sheet place buffer)
  pub shows_dated : (t : Bool) (place : ℕ) (date : Date) (buffer : List ℕ)
      → (show_dated_outcome t u sheet place date buffer ≡ show_dated_outcome t s sheet place date buffer)
      × (show_dated_buffer t u sheet place date buffer ≡ show_dated_buffer t s sheet place date buffer)

-- of every sheet
abbrev AllStill : Kept → Kept → Type 0
AllStill s u =
    (sheet start count : ℕ) → sheet < length s.entries → stands s sheet ≡ Complete start count → Still s u sheet count

unmoved : (s : Kept) → AllStill s s
unmoved s sheet start count listed stood = record {
  start = start;
  there = listed;
  standing_so = stood;
  shows = λ t place buffer. (refl, refl);
  shows_dated = λ t place date buffer. (refl, refl);
}

as_it_was : (s u : Kept) → u ≡ s → AllStill s u
as_it_was s u e = subst (λ (x : Kept). AllStill s x) (sym e) (unmoved s)

one_by_one : (s t u : Kept) → AllStill s t → AllStill t u → AllStill s u
one_by_one s t u f g sheet start count listed stood =
    let a = f sheet start count listed stood in
    let b = g sheet a.start count a.there a.standing_so in
    record {
      start = b.start;
      there = b.there;
      standing_so = b.standing_so;
      shows = λ t place buffer. (
        (b.shows t place buffer).0 ∙ (a.shows t place buffer).0,
        (b.shows t place buffer).1 ∙ (a.shows t place buffer).1,
      );
      shows_dated = λ t place date buffer. (
        (b.shows_dated t place date buffer).0 ∙ (a.shows_dated t place date buffer).0,
        (b.shows_dated t place date buffer).1 ∙ (a.shows_dated t place date buffer).1,
      );
    }

-- ---- a closing

module _ (away guided : Bool) (s : Kept) (b : Beside) where
  abbrev guide : List ℕ
  guide = cond guided b.summary []

  closed : verdict_by away guided guide s b.scratch ≡ accepted → AllStill s (closed_kept s)
  closed ok sheet start count listed stood =
      let m = closed_moved away guided guide s b.scratch ok sheet start count listed stood in
      record {
        start = _;
        there = subst (λ (x : ℕ). sheet < x) (sym m.sheets) listed;
        standing_so = m.afterwards;
        shows = λ t place buffer. (
          show-same t s (closed_kept s) sheet start _ count m place buffer,
          show-buffer-same t s (closed_kept s) sheet start _ count m place buffer,
        );
        shows_dated = λ t place date buffer. (
          dated-same t s (closed_kept s) sheet start _ count m place date buffer,
          dated-buffer-same t s (closed_kept s) sheet start _ count m place date buffer,
        );
      }

  closing_stays : AllStill s (kept_after (end_close away guided s b))
  closing_stays = by (verdict_by away guided guide s b.scratch) refl
    where
      by : (v : Verdict) → verdict_by away guided guide s b.scratch ≡ v → AllStill s (kept_after (end_close away guided s b))
      by accepted ok =
          let a = close_accepted away guided guide s b.scratch ok in
          let same : kept_after (end_close away guided s b) ≡ closed_kept s = λ x. record {
            shape = (a.outcome x).shape;
            map = a.words x;
            entries = a.sheets x;
            card = a.bytes x;
          } in
          subst (λ (x : Kept). AllStill s x) (sym same) (closed ok)
      by (refused number) refusal =
          let a = close_refused away guided guide s b.scratch number refusal in
          as_it_was s (kept_after (end_close away guided s b)) (λ x. record {
            shape = (a.outcome x).shape;
            map = a.words x;
            entries = a.sheets x;
            card = a.bytes x;
          })

-- ---- one call

module _ (m : Manner) (by : m.role ≡ service) (s : Kept) (b : Beside) where
  abbrev Stays : Public → Type 0
  Stays c = ((kind_of c).name ≡ roles.fresh → ⊥) → ((kind_of c).name ≡ roles.load → ⊥) → AllStill s (kept_after (ends m s b c))

  away : (c : Public) → may service (kind_of c).name ≡ false → Stays c
  away c e no-fresh no_load =
      as_it_was s (kept_after (ends m s b c)) (ap kept_after (every_call_turned_away m s b c
      (ap (λ (r : ℕ). turned_away r (kind_of c).name) by ∙ ap not e)))

  stays : (c : Public) → Stays c
  stays =
      services_calls Stays away (λ n no-fresh no_load. absurd (no-fresh refl)) (λ image no-fresh no_load. absurd (no_load refl))
      (λ no-fresh no_load. unmoved s) (λ no-fresh no_load. unmoved s)
      (λ no-fresh no_load. closing_stays (turned_away m.role roles.close) m.guided s b)
      (λ sheet no-fresh no_load. unmoved s)

-- ---- lists

all_still : (s u : Kept) (made : List Made) (es : List End) → AllBy service made → NeitherFreshNorLoad made → Runs s made es u
    → AllStill s u
all_still s u [] [] all neither h = as_it_was s u h
all_still s u [] (e ∷ es) all neither h = absurd h
all_still s u (m ∷ made) [] all neither h = absurd h
all_still s u (m ∷ made) (e ∷ es) all neither h =
    one_by_one s (kept_after e) u
    (subst (λ (x : End). AllStill s (kept_after x)) (sym h.0)
    (stays m.manner all.0 s m.beside m.call neither.0 neither.1))
    (all_still (kept_after e) u made es all.1 neither.2 h.1)

pub service_shows_as_before : ServiceShowsAsBefore
service_shows_as_before s u made es all neither runs sheet start count listed stood =
    let k = all_still s u made es all neither runs sheet start count listed stood in (
      k.start,
      k.standing_so,
      record {
        plainly = λ m b place buffer. k.shows (turned_away m.role roles.show) place buffer;
        on_a_day = λ m b place date buffer. k.shows_dated (turned_away m.role roles.show_dated) place date buffer;
      },
    )

-- ---- from a fresh card

module _ (n c : ℕ) (card : List ℕ) (limits : Limits n c) (room : length card ≡ 512 * n) where
  pub service_shows_the_same : ServiceShowsTheSame n c card
  service_shows_the_same made es t any runs more came u all neither then i s xs e p lp =
      let l : List Sheet = after n (begun c) (heard_in made es) in
      let w : Left n (begun c) (heard_in made es) (heard_replies made es) t =
      left_by_any n c card limits room made es t any runs in
      let below : i < length l = held_listed l i (ap holding e) in
      let stood : stands t i ≡ Complete s (length xs) =
      ap (λ (x : Kept). stands x i) w.state_left ∙ stands_same n l w.card_left w.kept_left false i below
      ∙ ap standing_in e in
      let listed : i < length t.entries =
      subst (λ (x : ℕ). i < x) (sym (ap (λ (x : Kept). length x.entries) w.state_left ∙ length-map l entry_in)) below in
      let k = all_still t u more came all neither then i s (length xs) listed stood in
      let shown = (every_list_by_any n c card limits room made es t any runs).shows i s xs e p lp in (
        shown.0,
        shown.2,
        λ m may-show b buffer long.
            (λ x. told_by (record {
              answer = ((k.shows (turned_away m.role roles.show) p buffer).0 x).answer;
              buffer = (k.shows (turned_away m.role roles.show) p buffer).1 x;
            }))
            ∙ shown.2 m may-show b buffer long,
      )
