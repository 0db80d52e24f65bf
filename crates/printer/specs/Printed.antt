-- What is printed of the fresh card of n = 64, c = 1, as document 01 ("Saved image") has it, of a worked card whose values all
-- differ, as the program in tests/ works it out (ExampleFigures.antt), and of the other marks and a refusal: one theorem,
-- `printed`.
-- Assumes nothing.
use Rattle.std.specs.Prelude.{◌≡◌, refl, List, [], ◌∷◌}
use Rattle.map_blocks.specs.Blocks.{free}
use Rattle.map_blocks.specs.Maps.{fresh_map}
use Rattle.survey.specs.Survey.{counts_of}
use Rattle.catalogue.specs.Entries.{absent}
use Rattle.catalogue.specs.declared.Entry.{Entry}
use Rattle.printer.specs.Decimal.{decimal, numeral}
use Rattle.printer.specs.Lines.{card_line, runs_line, sheet_line}
use Rattle.printer.specs.Text.{sheet_lines, card_text, state_text, refusal_text}
use Rattle.printer.specs.ExampleFigures.{blocks, spare, mark_0, start_0, length_0, mark_1, start_1, length_1, map, text}

-- The sheets of the worked card: sheet 0 is Open, sheet 1 Complete.
abbrev pub entries : List Entry
entries =
    record { mark = mark_0; start = start_0; length = length_0 }
    ∷ record { mark = mark_1; start = start_1; length = length_1 }
    ∷ []

pub record Printed : Type 0 where
  -- card 64 64 1
  -- runs 1 longest 64
  -- 0 A 0 0
  pub fresh_card :
      state_text 64 64 (fresh_map 64 1) (absent ∷ [])
      ≡ 0x63 ∷ 0x61 ∷ 0x72 ∷ 0x64 ∷ 0x20 ∷ 0x36 ∷ 0x34 ∷ 0x20 ∷ 0x36 ∷ 0x34 ∷ 0x20 ∷ 0x31 ∷ 0x0A
      ∷ 0x72 ∷ 0x75 ∷ 0x6E ∷ 0x73 ∷ 0x20 ∷ 0x31 ∷ 0x20 ∷ 0x6C ∷ 0x6F ∷ 0x6E ∷ 0x67 ∷ 0x65 ∷ 0x73 ∷ 0x74 ∷ 0x20 ∷ 0x36 ∷ 0x34
      ∷ 0x0A
      ∷ 0x30 ∷ 0x20 ∷ 0x41 ∷ 0x20 ∷ 0x30 ∷ 0x20 ∷ 0x30 ∷ 0x0A
      ∷ []
  -- card 70 36 2
  -- runs 3 longest 24
  -- 0 O 9 4
  -- 1 C 37 30
  pub worked_card : state_text blocks spare map entries ≡ text
  -- 7 P 0 0
  pub paused_sheet : sheet_line 7 (record { mark = 0x50; start = 0; length = 0 }) ≡ 0x37 ∷ 0x20 ∷ 0x50 ∷ 0x20 ∷ 0x30 ∷ 0x20
      ∷ 0x30 ∷ 0x0A ∷ []
  -- 8 P 60 31 (document 02 (g))
  pub paused_course :
      sheet_line 8 (record { mark = 0x50; start = 60; length = 31 })
      ≡ 0x38 ∷ 0x20 ∷ 0x50 ∷ 0x20 ∷ 0x36 ∷ 0x30 ∷ 0x20 ∷ 0x33 ∷ 0x31 ∷ 0x0A ∷ []
  -- 10 O 262143 1
  pub open_sheet :
      sheet_line 10 (record { mark = 0x4F; start = 262143; length = 1 })
      ≡ 0x31 ∷ 0x30 ∷ 0x20 ∷ 0x4F ∷ 0x20 ∷ 0x32 ∷ 0x36 ∷ 0x32 ∷ 0x31 ∷ 0x34 ∷ 0x33 ∷ 0x20 ∷ 0x31 ∷ 0x0A ∷ []
  -- 1023 C 205 99
  pub complete_sheet :
      sheet_line 1023 (record { mark = 0x43; start = 205; length = 99 })
      ≡ 0x31 ∷ 0x30 ∷ 0x32 ∷ 0x33 ∷ 0x20 ∷ 0x43 ∷ 0x20 ∷ 0x32 ∷ 0x30 ∷ 0x35 ∷ 0x20 ∷ 0x39 ∷ 0x39 ∷ 0x0A ∷ []
  -- refused 13
  pub refusal : refusal_text 13 ≡ 0x72 ∷ 0x65 ∷ 0x66 ∷ 0x75 ∷ 0x73 ∷ 0x65 ∷ 0x64 ∷ 0x20 ∷ 0x31 ∷ 0x33 ∷ 0x0A ∷ []

pub printed : Printed
unfolding fresh_map free counts_of decimal numeral card_line runs_line sheet_line sheet_lines card_text refusal_text
printed = record {
  fresh_card = refl;
  worked_card = refl;
  paused_sheet = refl;
  paused_course = refl;
  open_sheet = refl;
  complete_sheet = refl;
  refusal = refl;
}
