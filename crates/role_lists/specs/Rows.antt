-- The table of roles by the public calls themselves (document 02, request (n)). That it holds is `rows_of_roles` in
-- proofs/Cases.antt.
-- Assumes nothing.
use Rattle.std.specs.Prelude.{ℕ, ◌≡◌, ◌⊎◌, ◌↔◌, true, false, List}
use Rattle.calendar.specs.Calendar.{Date}
use Rattle.roles.specs.Roles.{may, pharmacist, carer, service}
use Rattle.refusals.specs.Table.{standing, show_dated}
use Rattle.card.specs.Public.{Public, on, fresh, survey, save, load, close, kind_of}

-- "Role 2, carer: dated show, standing, survey."
abbrev pub CarersCall : Public → Type 0
CarersCall c =
    ((sheet place : ℕ) × (date : Date) × (buffer : List ℕ) × (c ≡ on sheet (show_dated place date buffer)))
    ⊎ (((sheet : ℕ) × (c ≡ on sheet standing)) ⊎ (c ≡ survey))

-- "Role 3, service: fresh, save, load, closing, standing, survey."
abbrev pub ServicesCall : Public → Type 0
ServicesCall c =
    ((n : ℕ) × (c ≡ fresh n)) ⊎ ((c ≡ save) ⊎ (((image : List ℕ) × (c ≡ load image)) ⊎ ((c ≡ close)
    ⊎ (((sheet : ℕ) × (c ≡ on sheet standing)) ⊎ (c ≡ survey)))))

pub record RowsOfRoles : Type 0 where
  -- "Role 1, pharmacist: every call."
  pub every_call : (c : Public) → may pharmacist (kind_of c).name ≡ true
  pub carers_row : (c : Public) → (may carer (kind_of c).name ≡ true) ↔ CarersCall c
  pub services_row : (c : Public) → (may service (kind_of c).name ≡ true) ↔ ServicesCall c
  pub unknown : (role : ℕ) → (role ≡ pharmacist → ⊥) → (role ≡ carer → ⊥) → (role ≡ service → ⊥) → (c : Public)
      → may role (kind_of c).name ≡ false
