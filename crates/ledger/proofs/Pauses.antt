-- A sheet paused and resumed shows what it showed before, whatever calls on other sheets come between (document 02 (g)).
-- Assumes nothing.
use Prim.Native.Nat.{ℕ, zero, suc, ◌*◌, ◌<◌}
use mathlib.Core.Path.{◌≡◌, refl, sym, ap, subst, ◌∙◌}
use mathlib.Core.Logic.{◌≢◌}
use mathlib.Core.Bool.{Bool, true, false, cond, not, ◌||◌, false≢true}
use mathlib.Core.List.{List, [], ◌∷◌, map}
use native.Mathlib.Omega.{arith}
use lib.Dec.{eqb, leb}
use lib.ListN.{length, get_or, set}
use lib.Seq.{get_or-set_same, get_or-set_other}
use borrow.Author.Tests.{lt-leb}
use Rattle.catalogue_standings.specs.Rows.{Verdict, accepted, refused, first_of, settle}
use Rattle.roles.specs.Roles as roles
use Rattle.roles.specs.Roles.{may, turned_away}
use Rattle.refusals.specs.Table.{Ask}
use Rattle.refusals.specs.Table.{reserve, put, grow, complete, change, release, show, standing, lowest_blank}
use Rattle.refusals.specs.Table.{show_dated}
use Rattle.refusals.specs.Table.{offer, accept, table_of, pause, resume}
use Rattle.card.specs.Calls.{Kept}
use Rattle.card.specs.Public as public
use Rattle.card.specs.Public.{ends, kept_after}
use Rattle.ledger.specs.Calls.{Call, on, close}
use Rattle.ledger.specs.Ledger.{below_in, restart_in, start_in}
use Rattle.ledger.specs.Ledger.{Blank, Payload, Sheet, Absent, Paused, PausedWith, Open, Complete, standing_in}
use Rattle.ledger.specs.Ledger.{places_in, bytes_of}
use Rattle.ledger.specs.Ledger.{sheet_at, place_at, view_in, listed, verdict_in, pause_in, resume_in, deed_in, step_in}
use Rattle.ledger.specs.Ledger.{after, begun}
use Rattle.ledger.specs.Answers.{done, refused_with, told_in}
use Rattle.ledger.specs.Pauses.{NotFor, NoneFor, PausedAndResumed}
use Rattle.ledger.specs.Lists.{Response, told_by, response_of, heard_in, heard_replies}
use Rattle.ledger.proofs.Plain.{Step}
use Rattle.ledger.proofs.Closed.{closed_at}
use Rattle.ledger.proofs.Demand.{Left, answered, lists_left, left_by_any}
use Rattle.ledger.proofs.Feeding.{heard, all_heard}
use Rattle.ledger.proofs.Fresh.{Limits}
use Rattle.ledger.proofs.Sheets.{holding}

-- ---- calls on other sheets leave a sheet as it is

-- it is as it was, but for its start
abbrev Restarted : Sheet → Sheet → Type 0
Restarted x y = (s : ℕ) × (x ≡ restart_in s y)

same_start : (y : Sheet) → y ≡ restart_in (start_in y) y
same_start Absent = refl
same_start Paused = refl
same_start (PausedWith s xs) = refl
same_start (Open s ps) = refl
same_start (Complete s xs) = refl

same_sheet : (x y : Sheet) → x ≡ y → Restarted x y
same_sheet x y e = (start_in y, e ∙ same_start y)

twice : (s t : ℕ) (y : Sheet) → restart_in s (restart_in t y) ≡ restart_in s y
twice s t Absent = refl
twice s t Paused = refl
twice s t (PausedWith u xs) = refl
twice s t (Open u ps) = refl
twice s t (Complete u xs) = refl

again : (x y z : Sheet) → Restarted x y → Restarted y z → Restarted x z
again x y z p q = (p.0, p.1 ∙ ap (restart_in p.0) q.1 ∙ twice p.0 q.0 z)

ask_elsewhere : (n : ℕ) (l : List Sheet) (role j : ℕ) (a : Ask) (i : ℕ) → i ≢ j
    → sheet_at (deed_in n l (on role j a)).ledger i ≡ sheet_at l i
unfolding deed_in
ask_elsewhere n l role j (reserve limits k placement) i ne = get_or-set_other l j i _ Absent ne
ask_elsewhere n l role j (put p payload) i ne = get_or-set_other l j i _ Absent ne
ask_elsewhere n l role j (grow limits m) i ne = get_or-set_other l j i _ Absent ne
ask_elsewhere n l role j complete i ne = get_or-set_other l j i _ Absent ne
ask_elsewhere n l role j (change c) i ne = get_or-set_other l j i _ Absent ne
ask_elsewhere n l role j release i ne = get_or-set_other l j i _ Absent ne
ask_elsewhere n l role j (show p buffer) i ne = refl
ask_elsewhere n l role j (show_dated p date buffer) i ne = refl
ask_elsewhere n l role j standing i ne = refl
ask_elsewhere n l role j (offer limits k) i ne = refl
ask_elsewhere n l role j (accept limits start k) i ne = get_or-set_other l j i _ Absent ne

deed_elsewhere : (n : ℕ) (l : List Sheet) (c : Call) (i : ℕ) → NotFor i c
    → Restarted (sheet_at (deed_in n l c).ledger i) (sheet_at l i)
unfolding deed_in
deed_elsewhere n l (on role j a) i ne = same_sheet _ _ (ask_elsewhere n l role j a i (λ e. ne (sym e)))
deed_elsewhere n l (close role) i ne = (below_in l (start_in (sheet_at l i)), closed_at l i)

settled : (v : Verdict) (x l : List Sheet) (i : ℕ) → Restarted (sheet_at x i) (sheet_at l i)
    → Restarted (sheet_at (settle v x (λ number. l)) i) (sheet_at l i)
settled accepted x l i e = e
settled (refused number) x l i e = same_sheet _ _ refl

after_elsewhere : (n : ℕ) (calls : List Call) (l : List Sheet) (i : ℕ) → NoneFor i calls
    → Restarted (sheet_at (after n l calls) i) (sheet_at l i)
after_elsewhere n [] l i none = same_sheet _ _ refl
after_elsewhere n (c ∷ calls) l i none =
    again (sheet_at (after n (step_in n l c) calls) i) (sheet_at (step_in n l c) i) (sheet_at l i)
    (after_elsewhere n calls (step_in n l c) i none.1)
    (settled (verdict_in n l c) (deed_in n l c).ledger l i (deed_elsewhere n l c i none.0))

-- a sheet with places is one of the ledger's
pub held_listed : (l : List Sheet) (i : ℕ) → holding (sheet_at l i) ≡ true → i < length l
held_listed [] i h = absurd (false≢true h)
held_listed (x ∷ l) zero h = omega arith
held_listed (x ∷ l) (suc i) h = let later = held_listed l i h in omega arith

-- ---- pause, resume and show of such a sheet

module _ (n : ℕ) (l : List Sheet) (i s : ℕ) (xs : List (List ℕ)) where
  module _ (e : sheet_at l i ≡ Complete s xs) where
    here : leb (length l) i ≡ false
    here = lt-leb (length l) i (held_listed l i (ap holding e))

    pause-accepted : (role : ℕ) → may role roles.pause ≡ true → verdict_in n l (on role i (change pause)) ≡ accepted
    unfolding table_of listed first_of
    pause-accepted role m = rw (m, ap standing_in e, here) refl

    pub pauses : (role : ℕ) → may role roles.pause ≡ true → (told_in n l (on role i (change pause)) ≡ done [] [])
        × (sheet_at (step_in n l (on role i (change pause))) i ≡ PausedWith s xs)
    unfolding deed_in
    pauses role m = (
      ap (λ (v : Verdict). settle v (done [] []) (refused_with [] (lowest_blank (view_in n l i)))) (pause-accepted role m),
      ap (λ (v : Verdict). sheet_at (settle v (set l i (pause_in (sheet_at l i))) (λ number. l)) i) (pause-accepted role m)
          ∙ get_or-set_same l i (pause_in (sheet_at l i)) Absent (held_listed l i (ap holding e)) ∙ ap pause_in e,
    )

    -- a show is refused with 3, or gives the payload of the place
    show-verdict : (role p : ℕ) (buffer : List ℕ) → verdict_in n l (on role i (show p buffer))
        ≡ cond (turned_away role roles.show) (refused 21)
        (cond (leb (length xs) p || not (eqb (length buffer) 496)) (refused 3) accepted)
    unfolding table_of listed first_of
    show-verdict role p buffer = rw (ap standing_in e, here) refl

    pub shows : (role p : ℕ) (buffer : List ℕ) → told_in n l (on role i (show p buffer))
        ≡ cond (turned_away role roles.show) (refused_with buffer 0 21)
        (cond (leb (length xs) p || not (eqb (length buffer) 496)) (refused_with buffer 0 3)
        (done [] (bytes_of (get_or (map Payload xs) p Blank))))
    unfolding deed_in
    shows role p buffer =
        ap (λ (v : Verdict). settle v (done [] (bytes_of (place_at l i p)))
        (refused_with buffer (lowest_blank (view_in n l i))))
        (show-verdict role p buffer)
        ∙ go (turned_away role roles.show) (leb (length xs) p || not (eqb (length buffer) 496))
      where
        go : (u t : Bool) → settle (cond u (refused 21) (cond t (refused 3) accepted)) (done [] (bytes_of (place_at l i p)))
            (refused_with buffer (lowest_blank (view_in n l i)))
            ≡ cond u (refused_with buffer 0 21) (cond t (refused_with buffer 0 3)
            (done [] (bytes_of (get_or (map Payload xs) p Blank))))
        go true t = refl
        go false true = refl
        go false false = ap (λ (x : Sheet). done [] (bytes_of (get_or (places_in x) p Blank))) e

  module _ (e : sheet_at l i ≡ PausedWith s xs) where
    resume-accepted : (role : ℕ) → may role roles.resume ≡ true → verdict_in n l (on role i (change resume)) ≡ accepted
    unfolding table_of listed first_of
    resume-accepted role m = rw (m, ap standing_in e, lt-leb (length l) i (held_listed l i (ap holding e))) refl

    pub resumes : (role : ℕ) → may role roles.resume ≡ true → (told_in n l (on role i (change resume)) ≡ done [] [])
        × (sheet_at (step_in n l (on role i (change resume))) i ≡ Complete s xs)
    unfolding deed_in
    resumes role m = (
      ap (λ (v : Verdict). settle v (done [] []) (refused_with [] (lowest_blank (view_in n l i)))) (resume-accepted role m),
      ap (λ (v : Verdict). sheet_at (settle v (set l i (resume_in (sheet_at l i))) (λ number. l)) i) (resume-accepted role m)
          ∙ get_or-set_same l i (resume_in (sheet_at l i)) Absent (held_listed l i (ap holding e)) ∙ ap resume_in e,
    )

-- ---- the run

-- the answer to a call, and what one more call leaves, from a state that a list has left
module _ {n : ℕ} {l : List Sheet} {calls : List Call} {replies : List Response} {t : Kept} (w : Left n l calls replies t)
    (c : Call) (reply : Response) (u : Kept) (st : Step t c reply u) where
  pub told_after : told_by reply ≡ told_in n (after n l calls) c
  told_after = answered n (after n l calls) w.card_left w.kept_left c reply u
      (subst (λ (x : Kept). Step x c reply u) w.state_left st)

  pub then : Left n (after n l calls) (c ∷ []) (reply ∷ []) u
  then = lists_left n (c ∷ []) (reply ∷ []) (after n l calls) w.card_left t u w.kept_left w.state_left (u, st, refl)

module _ (n c : ℕ) (card : List ℕ) (limits : Limits n c) (room : length card ≡ 512 * n) where
  pub paused_and_resumed : PausedAndResumed n c card
  paused_and_resumed made es i t stopped resumed course s xs e =
      let calls : List Call = heard_in made es in
      let w : Left n (begun c) calls (heard_replies made es) t =
      left_by_any n c card limits room made es t course.listed course.runs in
      let l : List Sheet = after n (begun c) calls in
      let role : ℕ = course.pauser.role in
      let p = pauses n l i s xs e role course.may_pause in
      let pausing : Step t (on role i (change pause)) (response_of stopped) (kept_after stopped) =
      (ap response_of course.pauses, ap kept_after course.pauses) in
      let left = then w (on role i (change pause)) (response_of stopped) (kept_after stopped) pausing in
      let l' : List Sheet = step_in n l (on role i (change pause)) in
      let between : List Call = heard_in course.between course.came in
      let waits : Left n l' between (heard_replies course.between course.came) course.waiting =
      lists_left n between (heard_replies course.between course.came) l' left.card_left (kept_after stopped)
      course.waiting left.kept_left left.state_left
      (heard (kept_after stopped) course.between course.came course.waiting course.listed_between
      course.goes_on) in
      let l'' : List Sheet = after n l' between in
      let there = after_elsewhere n between l' i
      (all_heard (NotFor i) (λ role sheet limits k start p h. h) course.between course.came course.elsewhere) in
      let s' : ℕ = there.0 in
      let still : sheet_at l'' i ≡ PausedWith there.0 xs = there.1 ∙ ap (restart_in there.0) p.1 in
      let by : ℕ = course.resumer.role in
      let r = resumes n l'' i s' xs still by course.may_resume in
      let resuming : Step course.waiting (on by i (change resume)) (response_of resumed) (kept_after resumed) =
      (ap response_of course.resumes, ap kept_after course.resumes) in
      let taken-up = then waits (on by i (change resume)) (response_of resumed) (kept_after resumed) resuming in
      record {
        pause_done = told_after w (on role i (change pause)) (response_of stopped) (kept_after stopped) pausing ∙ p.0;
        resume_done = told_after waits (on by i (change resume)) (response_of resumed) (kept_after resumed) resuming ∙ r.0;
        shows_the_same = λ m b q buffer.
            told_after w (on m.role i (show q buffer)) (response_of (ends m t b (public.on i (show q buffer))))
            (kept_after (ends m t b (public.on i (show q buffer)))) (refl, refl)
            ∙ shows n l i s xs e m.role q buffer
            ∙ sym (told_after taken-up (on m.role i (show q buffer))
            (response_of (ends m (kept_after resumed) b (public.on i (show q buffer))))
            (kept_after (ends m (kept_after resumed) b (public.on i (show q buffer)))) (refl, refl)
            ∙ shows n (step_in n l'' (on by i (change resume))) i s' xs r.1 m.role q buffer);
      }
