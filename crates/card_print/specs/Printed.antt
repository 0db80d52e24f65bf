-- What the card printer prints of an image (document 01, "Saved image"): the text of the state that load accepts, or of the
-- refusal that load gives.
-- Assumes nothing.
use Rattle.std.specs.Prelude.{ℕ, ◌≡◌, Bool, List, length, take}
use Rattle.catalogue.specs.declared.Entry.{Entry}
use Rattle.catalogue_standings.specs.Rows.{settle}
use Rattle.roles.specs.Roles as names
use Rattle.roles.specs.Roles.{turned_away}
use Rattle.card.specs.declared.Shape.{Shape}
use Rattle.image.specs.Effects.{zeros_for, load_map, load_entries}
use Rattle.image.specs.Image.{state_in}
use Rattle.image.specs.Table.{load_verdict}
use Rattle.printer.specs.Text.{state_text, refusal_text}
use Rattle.printer.specs.Writing.{Writes}

-- Of an image, loaded into a map, a catalogue and a scratch of these lengths. `turned`: whoever loads may not.
abbrev pub printed_of : Bool → List ℕ → ℕ → ℕ → ℕ → List ℕ
printed_of turned image maplen count scratchlen =
    settle (load_verdict turned image maplen count scratchlen)
    (state_text (state_in image).blocks (state_in image).spare (state_in image).map (state_in image).entries)
    refusal_text

-- r bytes are written at the beginning of a text, of an image that a role loads; map and catalogue are what load leaves of
-- them,
-- and the scratch is all zeros.
abbrev pub Prints : Shape → ℕ → List ℕ → List ℕ → List Entry → List ℕ → List ℕ → ℕ → List ℕ → List Entry → List ℕ → List ℕ
    → Type 0
Prints shape role image map entries scratch text r map' entries' scratch' text' =
    Writes (printed_of (turned_away role names.load) image (length map) (length entries) (length scratch)) text 0 r text'
    × (map' ≡ load_map (turned_away role names.load) image map entries scratch)
    × (entries' ≡ load_entries (turned_away role names.load) image map entries scratch)
    × (scratch' ≡ zeros_for scratch)

-- The same with the first c of some entries, of which nothing is handed back.
abbrev pub PrintsWith : Shape → ℕ → List ℕ → List ℕ → List Entry → ℕ → List ℕ → List ℕ → ℕ → List ℕ → List ℕ → List ℕ
    → Type 0
PrintsWith shape role image map entries c scratch text r map' scratch' text' =
    Writes (printed_of (turned_away role names.load) image (length map) (length (take c entries)) (length scratch)) text 0 r
    text'
    × (map' ≡ load_map (turned_away role names.load) image map (take c entries) scratch) × (scratch' ≡ zeros_for scratch)

-- So many bytes a text has in which all that is to be printed finds room (proofs/Whole.antt), as the program's has.
abbrev pub room : ℕ
room = 32768

-- All of some bytes stand at the beginning of a text, and r is their number.
abbrev pub Begins : List ℕ → ℕ → List ℕ → Type 0
Begins bytes r text = (r ≡ length bytes) × (take r text ≡ bytes)
