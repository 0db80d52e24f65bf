-- What a call comes to on the state that a ledger calls for: it answers as the ledger does, and leaves the state that the
-- ledger calls for then; the sum and the history go on with it. What the calls share is here: a refused call leaves all as it
-- was, and a call that changes one sheet leaves the others. What is a call's own is in its file in step/.
-- Assumes nothing.
use Prim.Native.Nat.{ℕ, ◌+◌, ◌<◌}
use mathlib.Core.Path.{◌≡◌, refl, sym, ap, subst, ◌∙◌}
use mathlib.Core.Logic.{◌≢◌}
use mathlib.Core.Bool.{Bool, true, false, cond}
use mathlib.Core.List.{List, [], ◌∷◌, map}
use native.Mathlib.Omega.{arith}
use lib.Dec.{eqb}
use lib.ListN.{length, set}
use lib.Seq.{get_or-set_same, get_or-set_other}
use borrow.Author.Tests.{ne_eqb, eqb-true, eqb-false}
use Rattle.catalogue.specs.Entries.{entry_at}
use Rattle.catalogue.specs.declared.Entry.{Entry}
use Rattle.catalogue.proofs.Storing.{stored_back}
use Rattle.catalogue_standings.specs.Answers.{number_of, values_of}
use Rattle.catalogue_standings.specs.Rows.{Verdict, accepted, refused, settle}
use Rattle.catalogue_standings.specs.declared.Answer.{Answer}
use Rattle.catalogue_standings.specs.declared.Answer.TheVariants.{Refused}
use Rattle.refusals.specs.Effects.{out_of, refusal_out}
use Rattle.refusals.specs.Table.{Ask, lowest_blank}
use Rattle.refusals.specs.declared.Out.{Out}
use Rattle.card.specs.Calls.{told, outcome_of}
use Rattle.ledger.specs.Calls.{Call, on, sheet_of}
use Rattle.ledger.specs.Ledger.{Place, Sheet, Absent, length_in, sheet_at, spare_in, view_in, rows_in}
use Rattle.ledger.specs.Ledger.{held, verdict_in, deed_in}
use Rattle.ledger.specs.Answers.{Told, done, refused_with}
use Rattle.ledger.specs.Claim.{entry_in, noted, note_of, SearchedBy}
use Rattle.ledger.specs.Lists.{told_by}
use Rattle.ledger.proofs.Plain.{End, ending, end_of, response_of, state_on}
use Rattle.ledger.proofs.Agreement.{map_in, state_of, Matches}
use Rattle.ledger.proofs.Cover.{held_set}
use Rattle.ledger.proofs.Keeping.{entries_set, Changed}
use Rattle.catalogue_standings.proofs.Rows.{says, never_says}
use Rattle.ledger.proofs.Sheets.{Has}

-- what the ledger answers to a call, by its verdict
abbrev pub tells : ℕ → List Sheet → Call → Verdict → Told
tells n l c v = settle v (done (deed_in n l c).values (deed_in n l c).left)
    (refused_with (deed_in n l c).brought (lowest_blank (view_in n l (sheet_of c))))

-- what a call comes to, by its verdict
pub record Result (n : ℕ) (l : List Sheet) (card : List ℕ) (c : Call) (v : Verdict) : Type 0 where
  pub card_left : List ℕ
  pub state_left : state_on (end_of (state_of n l card) c) ≡ state_of n (settle v (deed_in n l c).ledger (λ number. l))
      card_left
  pub kept_left : Matches n (settle v (deed_in n l c).ledger (λ number. l)) card_left
  pub told_so : told_by (response_of (end_of (state_of n l card) c)) ≡ tells n l c v
  pub sum : held (settle v (deed_in n l c).ledger (λ number. l)) + settle v (deed_in n l c).returns (λ number. 0)
      ≡ held l + settle v (deed_in n l c).grants (λ number. 0)
  pub noted_so : (j p : ℕ) (m : Place) → Has p m (sheet_at l j)
      → Has p (cond (eqb (tells n l c v).number 0) (noted j p m (note_of c)) m)
      (sheet_at (settle v (deed_in n l c).ledger (λ number. l)) j)
  pub searched : SearchedBy n l c (tells n l c v)

module _ (n : ℕ) (l : List Sheet) (card : List ℕ) where
  -- what a call comes to where it leaves the state that ledger l' calls for
  abbrev pub end_in : List Sheet → List ℕ → Answer → List ℕ → End
  end_in l' card' answer buffer = ending (told (record { blocks = n; free = spare_in n l' }) answer) (map_in n l')
      (map entry_in l') card' buffer

  -- an accepted call, which comes to e
  pub record Done (c : Call) (e : End) : Type 0 where
    pub card_left : List ℕ
    pub answer : Answer
    pub ends_so : e ≡ end_in (deed_in n l c).ledger card_left answer (deed_in n l c).left
    pub says_so : (number_of answer ≡ 0) × (values_of answer ≡ (deed_in n l c).values)
    pub kept_left : Matches n (deed_in n l c).ledger card_left
    pub sum : held (deed_in n l c).ledger + (deed_in n l c).returns ≡ held l + (deed_in n l c).grants
    pub noted_so : (j p : ℕ) (m : Place) → Has p m (sheet_at l j)
        → Has p (noted j p m (note_of c)) (sheet_at (deed_in n l c).ledger j)

  -- a refused call, which comes to `ends number`: all is as it was, and with 9 goes the ledger's lowest blank place
  pub record Back (c : Call) (ends : ℕ → End) : Type 0 where
    pub answer : ℕ → Answer
    pub ends_so : (number : ℕ) → ends number ≡ end_in l card (answer number) (deed_in n l c).brought
    pub says_so : (number : ℕ) → verdict_in n l c ≡ refused number
        → (number_of (answer number) ≡ number)
        × (values_of (answer number) ≡ cond (eqb number 9) (lowest_blank (view_in n l (sheet_of c)) ∷ []) [])

  module _ (k : Matches n l card) where
    pub result-of : (c : Call) (ends : Verdict → End) → end_of (state_of n l card) c ≡ ends (verdict_in n l c)
        → says 0 (rows_in n l c) ≡ false
        → (verdict_in n l c ≡ accepted → Done c (ends accepted)) → Back c (λ number. ends (refused number))
        → SearchedBy n l c (tells n l c (verdict_in n l c)) → Result n l card c (verdict_in n l c)
    result-of c ends is zero accept refuse sought = go (verdict_in n l c) refl sought
      where
        says_all : (a : Answer) (buffer : List ℕ) (number : ℕ) (values : List ℕ) → (number_of a ≡ number)
            × (values_of a ≡ values)
            → ◌≡◌ {A = Told} (record { number = number_of a; values = values_of a; buffer = buffer })
            (record { number = number; values = values; buffer = buffer })
        says_all a buffer number values h = λ t. record { number = h.0 t; values = h.1 t; buffer = buffer }

        go : (v : Verdict) → verdict_in n l c ≡ v → SearchedBy n l c (tells n l c v) → Result n l card c v
        go accepted h sought =
            let d = accept h in
            let so = is ∙ ap ends h ∙ d.ends_so in
            record {
              card_left = d.card_left;
              state_left = ap state_on so;
              kept_left = d.kept_left;
              told_so = ap (λ (e : End). told_by (response_of e)) so
                  ∙ says_all d.answer (deed_in n l c).left 0 (deed_in n l c).values d.says_so;
              sum = d.sum;
              noted_so = d.noted_so;
              searched = sought;
            }
        go (refused number) h sought =
            let so = is ∙ ap ends h ∙ refuse.ends_so number in
            record {
              card_left = card;
              state_left = ap state_on so;
              kept_left = k;
              told_so = ap (λ (e : End). told_by (response_of e)) so
                  ∙ says_all (refuse.answer number) (deed_in n l c).brought number
                  (cond (eqb number 9) (lowest_blank (view_in n l (sheet_of c)) ∷ []) []) (refuse.says_so number h);
              sum = refl;
              noted_so = λ j p m was. rw (ne_eqb number 0 (λ z. never_says 0 (rows_in n l c) zero (h ∙ ap refused z))) was;
              searched = sought;
            }

    -- a call without a row 9
    pub plain_back : (c : Call) (ends : ℕ → End) → says 9 (rows_in n l c) ≡ false
        → ((number : ℕ) → ends number ≡ end_in l card (Refused number) (deed_in n l c).brought) → Back c ends
    plain_back c ends unheard so = record {
      answer = Refused;
      ends_so = so;
      says_so = λ number h. (
        refl,
        ap {B = List ℕ} (λ (t : Bool). cond t (lowest_blank (view_in n l (sheet_of c)) ∷ []) [])
            (sym (ne_eqb number 9 (λ q. never_says 9 (rows_in n l c) unheard (h ∙ ap refused q)))),
      );
    }

    -- ---- a call that stores the entry of sheet i

    abbrev pub e : ℕ → Entry
    e i = entry_at (map entry_in l) i

    abbrev pub outEnd : ℕ → Out → List ℕ → List ℕ → End
    outEnd i out marks card' = ending (outcome_of (record { blocks = n; free = spare_in n l }) out) marks
        (set (map entry_in l) i out.entry) card' []

    pub stored-again : (i : ℕ) (answer : Answer)
        → outEnd i (out_of (spare_in n l) (e i) answer) (map_in n l) card ≡ end_in l card answer []
    stored-again i answer =
        ap (λ (es : List Entry). ending (told (record { blocks = n; free = spare_in n l }) answer) (map_in n l) es card [])
        (stored_back (map entry_in l) i)

    pub out-back : (i number : ℕ) → outEnd i (refusal_out (spare_in n l) (e i) number) (map_in n l) card
        ≡ end_in l card (Refused number) []
    out-back i number = stored-again i (Refused number)

    -- ---- an accepted call that changes one sheet

    -- sheet i becomes `sheet`
    pub record OneSheet (role i : ℕ) (a : Ask) (end : End) : Type 0 where
      pub inside : i < length l
      pub sheet : Sheet
      pub becomes : (deed_in n l (on role i a)).ledger ≡ set l i sheet
      -- what the program then keeps, and answers
      pub spare : ℕ
      pub marks : List ℕ
      pub card_left : List ℕ
      pub entry : Entry
      pub answer : Answer
      pub changed : Changed n l i sheet spare marks card_left
      pub stored : entry ≡ entry_in sheet
      pub ends_so : end ≡ ending (told (record { blocks = n; free = spare }) answer) marks
          (set (map entry_in l) i entry) card_left (deed_in n l (on role i a)).left
      pub says_so : (number_of answer ≡ 0) × (values_of answer ≡ (deed_in n l (on role i a)).values)
      -- the blocks that it has now, and what is noted of its places and of no other sheet's
      pub moved : length_in sheet + (deed_in n l (on role i a)).returns ≡ length_in (sheet_at l i)
          + (deed_in n l (on role i a)).grants
      pub noted_here : (p : ℕ) (m : Place) → Has p m (sheet_at l i) → Has p (noted i p m (note_of (on role i a))) sheet
      pub noted_there : (j p : ℕ) (m : Place) → j ≢ i → noted j p m (note_of (on role i a)) ≡ m

    pub one-sheet : (role i : ℕ) (a : Ask) (end : End) → OneSheet role i a end → Done (on role i a) end
    one-sheet role i a end o = record {
      card_left = o.card_left;
      answer = o.answer;
      ends_so = o.ends_so ∙ left ∙ ap (λ (l' : List Sheet). end_in l' o.card_left o.answer
          (deed_in n l (on role i a)).left)
          (sym o.becomes);
      says_so = o.says_so;
      kept_left = rw o.becomes o.changed.kept_left;
      sum = omega (arith, o.moved, held_set l i o.sheet o.inside, ap held o.becomes);
      noted_so = λ j p m was. rw o.becomes (go j p m was (eqb j i) refl);
    }
      where
        stored : set (map entry_in l) i o.entry ≡ map entry_in (set l i o.sheet)
        stored = ap (set (map entry_in l) i) o.stored ∙ entries_set l i o.sheet

        left : ending (told (record { blocks = n; free = o.spare }) o.answer) o.marks (set (map entry_in l) i o.entry)
            o.card_left (deed_in n l (on role i a)).left
            ≡ end_in (set l i o.sheet) o.card_left o.answer (deed_in n l (on role i a)).left
        left = λ t. ending (told (record { blocks = n; free = o.changed.spare_left t }) o.answer) (o.changed.map_left_lem t)
            (stored t) o.card_left (deed_in n l (on role i a)).left

        go : (j p : ℕ) (m : Place) → Has p m (sheet_at l j) → (t : Bool) → eqb j i ≡ t
            → Has p (noted j p m (note_of (on role i a))) (sheet_at (set l i o.sheet) j)
        go j p m was true q =
            rw (eqb-true j i q, get_or-set_same l i o.sheet Absent o.inside)
            (o.noted_here p m (subst (λ (i' : ℕ). Has p m (sheet_at l i')) (eqb-true j i q) was))
        go j p m was false q = rw (
          get_or-set_other l i j o.sheet Absent (eqb-false j i q),
          o.noted_there j p m (eqb-false j i q),
        ) was

    -- ---- an accepted call that changes nothing

    pub no_change : (c : Call) (end : End) (answer : Answer) → (deed_in n l c).ledger ≡ l
        → (deed_in n l c).returns ≡ (deed_in n l c).grants
        → ((j p : ℕ) (m : Place) → noted j p m (note_of c) ≡ m) → end ≡ end_in l card answer (deed_in n l c).left
        → (number_of answer ≡ 0) × (values_of answer ≡ (deed_in n l c).values)
        → Done c end
    no_change c end answer same moved unnoted so says_so = record {
      card_left = card;
      answer = answer;
      ends_so = rw same so;
      says_so = says_so;
      kept_left = rw same k;
      sum = rw same (ap (λ (b : ℕ). held l + b) moved);
      noted_so = λ j p m was. rw (same, unnoted j p m) was;
    }
