-- What a call on a sheet is lent.
-- Assumes nothing.
use Rattle.std.specs.Prelude.{ℕ, Bool, false, List, []}
use Rattle.catalogue.specs.declared.Entry.{Entry}
use Rattle.catalogue_standings.specs.declared.opening.Asked.{Asked}
use Rattle.roles.specs.Roles.{turned_away}

-- n and the free count of the shape; the map and the card; c, the sheet's entry in the catalogue, and the sheet's number;
-- whether a summary is lent beside the map, with its numbers; and for a call that takes blocks how many the sheet's wing holds,
-- and the limits of the wings (document 02 (k)).
pub record Lent : Type 0 where
  pub n : ℕ
  pub spare : ℕ
  pub map : List ℕ
  pub card : List ℕ
  pub sheets : ℕ
  pub entry : Entry
  pub sheet : ℕ
  pub guided : Bool
  pub summary : List ℕ
  pub held : ℕ
  pub limits : List ℕ
  -- whoever calls may not make this call
  pub turned : Bool

-- For a call that takes no blocks.
abbrev pub lent_beside : Bool → List ℕ → ℕ → ℕ → List ℕ → List ℕ → ℕ → Entry → ℕ → Lent
lent_beside guided summary n spare map card c e sheet = record {
  n = n;
  spare = spare;
  map = map;
  card = card;
  sheets = c;
  entry = e;
  sheet = sheet;
  guided = guided;
  summary = summary;
  held = 0;
  limits = [];
  turned = false;
}

-- The same, within limits.
abbrev pub within : ℕ → List ℕ → Lent → Lent
within held limits q = record {
  n = q.n;
  spare = q.spare;
  map = q.map;
  card = q.card;
  sheets = q.sheets;
  entry = q.entry;
  sheet = q.sheet;
  guided = q.guided;
  summary = q.summary;
  held = held;
  limits = limits;
  turned = q.turned;
}

abbrev pub lent_within : ℕ → List ℕ → Bool → List ℕ → ℕ → ℕ → List ℕ → List ℕ → ℕ → Entry → ℕ → Lent
lent_within held limits guided summary n spare map card c e sheet =
    within held limits (lent_beside guided summary n spare map card c e sheet)

-- The same of one who may make the call, or may not.
abbrev pub called_by : Bool → Lent → Lent
called_by turned q = record {
  n = q.n;
  spare = q.spare;
  map = q.map;
  card = q.card;
  sheets = q.sheets;
  entry = q.entry;
  sheet = q.sheet;
  guided = q.guided;
  summary = q.summary;
  held = q.held;
  limits = q.limits;
  turned = turned;
}

-- For one that is lent no summary.
abbrev pub lent : ℕ → ℕ → List ℕ → List ℕ → ℕ → Entry → ℕ → Lent
lent n spare map card c e sheet = lent_beside false [] n spare map card c e sheet

-- For a call that is not lent the card.
abbrev pub no_card : List ℕ
no_card = []

-- What a call is lent, by what it is asked and its name in the table of roles: guided by a summary or not, with map and card.
abbrev pub lent_for : Asked → ℕ → Bool → List ℕ → List ℕ → List ℕ → Lent
lent_for asked call guided summary map card =
    called_by (turned_away asked.role call)
    (lent_beside guided summary asked.n asked.free map card asked.sheets asked.entry asked.sheet)
