-- The lines of the text that the card printer prints of a card (document 01, "Saved image"), in ASCII.
-- Assumes nothing.
use Rattle.std.specs.Prelude.{List, [], ◌∷◌, ◌++◌, ℕ, ◌%◌}
use Rattle.catalogue.specs.declared.Entry.{Entry}
use Rattle.survey.specs.declared.Counts.{Counts}
use Rattle.printer.specs.Decimal.{decimal, numeral}

abbrev pub space : ℕ
space = 0x20

abbrev pub newline : ℕ
newline = 0x0A

-- `card `, `runs ` and ` longest `
abbrev pub card_word : List ℕ
card_word = 0x63 ∷ 0x61 ∷ 0x72 ∷ 0x64 ∷ space ∷ []

abbrev pub runs_word : List ℕ
runs_word = 0x72 ∷ 0x75 ∷ 0x6E ∷ 0x73 ∷ space ∷ []

abbrev pub longest_word : List ℕ
longest_word = space ∷ 0x6C ∷ 0x6F ∷ 0x6E ∷ 0x67 ∷ 0x65 ∷ 0x73 ∷ 0x74 ∷ space ∷ []

-- The first line: n, free count, c.
unfoldable pub card_line : ℕ → ℕ → ℕ → List ℕ
card_line n spare c = card_word ++ numeral n space ++ numeral spare space ++ numeral c newline

-- The second line: runs and longest run.
unfoldable pub runs_line : Counts → List ℕ
runs_line counts = runs_word ++ decimal counts.runs ++ longest_word ++ numeral counts.longest newline

-- The line of a sheet: number, mark as a letter, start, length. A mark is the ASCII code of its letter: 41, 50, 4F and 43 (hex)
-- are A, P, O and C.
unfoldable pub sheet_line : ℕ → Entry → List ℕ
sheet_line sheet e = numeral sheet space ++ (e.mark % 256 ∷ space ∷ []) ++ numeral e.start space
    ++ numeral e.length newline
