-- What the card printer prints (document 01, "Saved image"), in ASCII. The lines of a card's text are those of Lines.antt,
-- beside this file.
-- Assumes nothing.
use Rattle.std.specs.Prelude.{List, [], ◌∷◌, ◌++◌, ℕ, suc, ◌<◌, ◌≤◌, length}
use Rattle.map_blocks.specs.Blocks.{free}
use Rattle.catalogue.specs.Entries.{entry_at}
use Rattle.catalogue.specs.declared.Entry.{Entry}
use Rattle.survey.specs.Survey.{counts_of}
use Rattle.survey.specs.declared.Counts.{Counts}
use Rattle.printer.specs.Decimal.{numeral}
use Rattle.printer.specs.Lines.{space, newline, card_line, runs_line, sheet_line}

-- `refused `
abbrev pub refused_word : List ℕ
refused_word = 0x72 ∷ 0x65 ∷ 0x66 ∷ 0x75 ∷ 0x73 ∷ 0x65 ∷ 0x64 ∷ space ∷ []

-- A line for each sheet, the first being number `sheet`.
unfoldable pub sheet_lines : ℕ → List Entry → List ℕ
sheet_lines sheet [] = []
sheet_lines sheet (e ∷ es) = sheet_line sheet e ++ sheet_lines (suc sheet) es

-- The text of a card of n blocks, its free count, what a survey of its map answers, and its entries.
unfoldable pub card_text : ℕ → ℕ → Counts → List Entry → List ℕ
card_text n spare counts entries = card_line n spare (length entries) ++ runs_line counts ++ sheet_lines 0 entries

-- The text of a state: n, free count, map and entries.
abbrev pub state_text : ℕ → ℕ → List ℕ → List Entry → List ℕ
state_text n spare map entries = card_text n spare (counts_of (free map) n) entries

-- The text of a refusal: only `refused` and the number.
unfoldable pub refusal_text : ℕ → List ℕ
refusal_text number = refused_word ++ numeral number newline

-- What a card's numbers are within: each has 32 bits, and there are at most 1,024 sheets.
abbrev pub AllNumbers : List Entry → Type 0
AllNumbers entries = (i : ℕ) → ((entry_at entries i).start < 4294967296) × ((entry_at entries i).length < 4294967296)

pub record Printable (n spare : ℕ) (counts : Counts) (entries : List Entry) : Type 0 where
  pub blocks : n < 4294967296
  pub free : spare < 4294967296
  pub runs : counts.runs < 4294967296
  pub longest : counts.longest < 4294967296
  pub sheets : length entries ≤ 1024
  pub numbers : AllNumbers entries
