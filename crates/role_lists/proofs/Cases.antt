-- The public calls by the rows of the table of roles: a carer's (document 02, request (n): "dated show, standing, survey"),
-- service's ("fresh, save, load, closing, standing, survey"), and those that are turned away; a pharmacist's are all
-- (`rows_of_roles`).
-- Assumes nothing.
use Prim.Native.Nat.{ℕ}
use mathlib.Core.Path.{◌≡◌, refl, sym, ap, ◌∙◌}
use mathlib.Core.Logic.{inl, inr, ⊎_elim}
use mathlib.Core.Bool.{true, false, false≢true}
use mathlib.Core.List.{List}
use borrow.Author.Tests.{ne_eqb}
use Rattle.calendar.specs.Calendar.{Date}
use Rattle.roles.specs.Roles as roles
use Rattle.roles.specs.Roles.{may, carer_may, service_may, pharmacist, carer, service}
use Rattle.refusals.specs.Table.{Ask, reserve, put, grow, complete, change, release, show, standing, offer, accept, show_dated}
use Rattle.refusals.specs.Table.{pause, resume}
use Rattle.card.specs.Public.{Public, on, fresh, search, survey, save, load, close, build, check, kind_of}
use Rattle.role_lists.specs.Rows.{CarersCall, ServicesCall, RowsOfRoles}

-- "Role 1, pharmacist: every call."
pub pharmacist_may : (c : Public) → may pharmacist (kind_of c).name ≡ true
unfolding may
pharmacist_may c = refl

-- what holds of a carer's three calls and of any that is turned away holds of every call that a carer makes
module _ (P : Public → Type 0) (away : (c : Public) → may carer (kind_of c).name ≡ false → P c) (surveys : P survey)
    (stands : (sheet : ℕ) → P (on sheet standing))
    (shows : (sheet place : ℕ) (date : Date) (buffer : List ℕ) → P (on sheet (show_dated place date buffer))) where
  carers_asks : (sheet : ℕ) (a : Ask) → P (on sheet a)
  unfolding may carer_may
  carers_asks sheet (reserve limits k placement) = away (on sheet (reserve limits k placement)) refl
  carers_asks sheet (offer limits k) = away (on sheet (offer limits k)) refl
  carers_asks sheet (accept limits start k) = away (on sheet (accept limits start k)) refl
  carers_asks sheet (put place payload) = away (on sheet (put place payload)) refl
  carers_asks sheet (grow limits m) = away (on sheet (grow limits m)) refl
  carers_asks sheet complete = away (on sheet complete) refl
  carers_asks sheet (change pause) = away (on sheet (change pause)) refl
  carers_asks sheet (change resume) = away (on sheet (change resume)) refl
  carers_asks sheet release = away (on sheet release) refl
  carers_asks sheet (show place buffer) = away (on sheet (show place buffer)) refl
  carers_asks sheet (show_dated place date buffer) = shows sheet place date buffer
  carers_asks sheet standing = stands sheet

  pub carers_calls : (c : Public) → P c
  unfolding may carer_may
  carers_calls (on sheet a) = carers_asks sheet a
  carers_calls (fresh n) = away (fresh n) refl
  carers_calls (search k) = away (search k) refl
  carers_calls survey = surveys
  carers_calls save = away save refl
  carers_calls (load image) = away (load image) refl
  carers_calls close = away close refl
  carers_calls build = away build refl
  carers_calls check = away check refl

-- and of service's calls but fresh and load
module _ (P : Public → Type 0) (away : (c : Public) → may service (kind_of c).name ≡ false → P c)
    (freshens : (n : ℕ) → P (fresh n)) (loads : (image : List ℕ) → P (load image)) (surveys : P survey) (saves : P save)
    (closes : P close) (stands : (sheet : ℕ) → P (on sheet standing)) where
  services_asks : (sheet : ℕ) (a : Ask) → P (on sheet a)
  unfolding may service_may
  services_asks sheet (reserve limits k placement) = away (on sheet (reserve limits k placement)) refl
  services_asks sheet (offer limits k) = away (on sheet (offer limits k)) refl
  services_asks sheet (accept limits start k) = away (on sheet (accept limits start k)) refl
  services_asks sheet (put place payload) = away (on sheet (put place payload)) refl
  services_asks sheet (grow limits m) = away (on sheet (grow limits m)) refl
  services_asks sheet complete = away (on sheet complete) refl
  services_asks sheet (change pause) = away (on sheet (change pause)) refl
  services_asks sheet (change resume) = away (on sheet (change resume)) refl
  services_asks sheet release = away (on sheet release) refl
  services_asks sheet (show place buffer) = away (on sheet (show place buffer)) refl
  services_asks sheet (show_dated place date buffer) = away (on sheet (show_dated place date buffer)) refl
  services_asks sheet standing = stands sheet

  pub services_calls : (c : Public) → P c
  unfolding may service_may
  services_calls (on sheet a) = services_asks sheet a
  services_calls (fresh n) = freshens n
  services_calls (search k) = away (search k) refl
  services_calls survey = surveys
  services_calls save = saves
  services_calls (load image) = loads image
  services_calls close = closes
  services_calls build = away build refl
  services_calls check = away check refl

-- ---- the rows

in_carers : (may carer roles.show_dated ≡ true) × (may carer roles.standing ≡ true) × (may carer roles.survey ≡ true)
unfolding may carer_may
in_carers = (refl, refl, refl)

in_services : (may service roles.fresh ≡ true) × (may service roles.save ≡ true) × (may service roles.load ≡ true)
    × (may service roles.close ≡ true) × (may service roles.standing ≡ true) × (may service roles.survey ≡ true)
unfolding may service_may
in_services = (refl, refl, refl, refl, refl, refl)

-- where a call is not in a row, it is none of those
clashes : {A : Type 0} (c : Public) (role : ℕ) → may role (kind_of c).name ≡ false → may role (kind_of c).name ≡ true → A
clashes c role e h = absurd (false≢true (sym e ∙ h))

carers_so : (c : Public) → may carer (kind_of c).name ≡ true → CarersCall c
carers_so =
    carers_calls (λ c. may carer (kind_of c).name ≡ true → CarersCall c) (λ c e h. clashes c carer e h)
    (λ h. inr (inr refl)) (λ sheet h. inr (inl (sheet, refl)))
    (λ sheet place date buffer h. inl (sheet, place, date, buffer, refl))

carers_then : (c : Public) → CarersCall c → may carer (kind_of c).name ≡ true
carers_then c =
    ⊎_elim
    (λ (x : (sheet place : ℕ) × (date : Date) × (buffer : List ℕ) × (c ≡ on sheet (show_dated place date buffer))).
    named c (on x.0 (show_dated x.1 x.2 x.3)) x.4 in_carers.0)
    (⊎_elim (λ (x : (sheet : ℕ) × (c ≡ on sheet standing)). named c (on x.0 standing) x.1 in_carers.1)
    (λ (x : c ≡ survey). named c survey x in_carers.2))
  where
    named : (c d : Public) → c ≡ d → may carer (kind_of d).name ≡ true → may carer (kind_of c).name ≡ true
    named c d e h = ap (λ (x : Public). may carer (kind_of x).name) e ∙ h

services_so : (c : Public) → may service (kind_of c).name ≡ true → ServicesCall c
services_so =
    services_calls (λ c. may service (kind_of c).name ≡ true → ServicesCall c) (λ c e h. clashes c service e h)
    (λ n h. inl (n, refl)) (λ image h. inr (inr (inl (image, refl)))) (λ h. inr (inr (inr (inr (inr refl)))))
    (λ h. inr (inl refl)) (λ h. inr (inr (inr (inl refl)))) (λ sheet h. inr (inr (inr (inr (inl (sheet, refl))))))

services_then : (c : Public) → ServicesCall c → may service (kind_of c).name ≡ true
services_then c =
    ⊎_elim (λ (x : (n : ℕ) × (c ≡ fresh n)). named (fresh x.0) x.1 in_services.0)
    (⊎_elim (λ (x : c ≡ save). named save x in_services.1)
    (⊎_elim (λ (x : (image : List ℕ) × (c ≡ load image)). named (load x.0) x.1 in_services.2)
    (⊎_elim (λ (x : c ≡ close). named close x in_services.3)
    (⊎_elim (λ (x : (sheet : ℕ) × (c ≡ on sheet standing)). named (on x.0 standing) x.1 in_services.4)
    (λ (x : c ≡ survey). named survey x in_services.5)))))
  where
    named : (d : Public) → c ≡ d → may service (kind_of d).name ≡ true → may service (kind_of c).name ≡ true
    named d e h = ap (λ (x : Public). may service (kind_of x).name) e ∙ h

-- an unknown role
nobody : (role call : ℕ) → (role ≡ pharmacist → ⊥) → (role ≡ carer → ⊥) → (role ≡ service → ⊥) → may role call ≡ false
unfolding may
nobody role call p c s = rw (ne_eqb role pharmacist p, ne_eqb role carer c, ne_eqb role service s) refl

pub rows_of_roles : RowsOfRoles
rows_of_roles = record {
  every_call = pharmacist_may;
  carers_row = λ c. (carers_so c, carers_then c);
  services_row = λ c. (services_so c, services_then c);
  unknown = λ role p c s call. nobody role (kind_of call).name p c s;
}
