-- The text of a card finds room in 32,768 bytes, and that of a refusal in 19. Where a text finds room, it is written whole.
-- Assumes nothing.
use mathlib.Core.Path.{◌≡◌, ap, ◌∙◌}
use mathlib.Core.List.{List, [], ◌∷◌, ◌++◌}
use Prim.Native.Nat.{ℕ, suc, ◌+◌, ◌*◌, ◌%◌, ◌≤◌, ◌<◌}
use native.Mathlib.Omega.{arith}
use lib.ListN.{length, take, drop, length-append}
use lib.Seq.{sets-eq, take-append_seam}
use Rattle.catalogue.specs.declared.Entry.{Entry}
use Rattle.survey.specs.declared.Counts.{Counts}
use Rattle.printer.specs.Decimal.{decimal, numeral}
use Rattle.printer.specs.Writing.{behind, written, Writes}
use Rattle.printer.specs.Lines.{space, newline, card_word, runs_word, longest_word, card_line, runs_line, sheet_line}
use Rattle.printer.specs.Text.{refused_word, sheet_lines, card_text, refusal_text, AllNumbers, Printable}
use Rattle.printer.proofs.Decimals.{power, decimal_length}

-- what finds room stands there whole
pub whole : (bytes text text' : List ℕ) (r : ℕ) → length bytes ≤ length text → Writes bytes text 0 r text'
    → (r ≡ length bytes) × (take r text' ≡ bytes)
unfolding behind written
whole bytes text text' r h w =
    let all : r ≡ length bytes = omega (arith, w.ends, h) in
    let fits : 0 + length bytes ≤ length text = omega (arith, h) in (
      all,
      ap (λ (k : ℕ). take k text') all ∙ ap (take (length bytes)) (w.leaves ∙ sets-eq bytes text 0 fits)
          ∙ take-append_seam bytes (drop (0 + length bytes) text),
    )

-- a 32-bit number has at most 10 digits, and a sheet's number at most 4
word_digits : (n : ℕ) → n < 4294967296 → length (decimal n) ≤ 10
unfolding power
word_digits n h = decimal_length 9 n (omega (arith, h))

sheet_digits : (n : ℕ) → n < 10000 → length (decimal n) ≤ 4
unfolding power
sheet_digits n h = decimal_length 3 n (omega (arith, h))

numeral_length : (n end : ℕ) → length (numeral n end) ≡ length (decimal n) + 1
unfolding numeral
numeral_length n end = length-append (decimal n) (end ∷ [])

line_length : (sheet : ℕ) (e : Entry) → sheet < 10000 → e.start < 4294967296 → e.length < 4294967296
    → length (sheet_line sheet e) ≤ 29
unfolding sheet_line
line_length sheet e h s l =
    let mark : List ℕ = e.mark % 256 ∷ space ∷ [] in
    let first = numeral sheet space in
    let start = numeral e.start space in
    let last = numeral e.length newline in
    omega (
      arith,
      length-append (first ++ mark ++ start) last,
      length-append (first ++ mark) start,
      length-append first mark,
      numeral_length sheet space,
      numeral_length e.start space,
      numeral_length e.length newline,
      sheet_digits sheet h,
      word_digits e.start s,
      word_digits e.length l,
    )

lines_length : (es : List Entry) (sheet : ℕ) → sheet + length es ≤ 10000 → AllNumbers es
    → length (sheet_lines sheet es) ≤ 29 * length es
unfolding sheet_lines
lines_length [] sheet h a = omega arith
lines_length (e ∷ es) sheet h a =
    let one = line_length sheet e (omega (arith, h)) (a 0).0 (a 0).1 in
    let rest = lines_length es (suc sheet) (omega (arith, h)) (λ i. a (suc i)) in
    omega (arith, one, rest, length-append (sheet_line sheet e) (sheet_lines (suc sheet) es))

card_line_length : (n spare c : ℕ) → n < 4294967296 → spare < 4294967296 → c < 10000 → length (card_line n spare c) ≤ 32
unfolding card_line
card_line_length n spare c hn hs hc =
    let one = numeral n space in
    let two = numeral spare space in
    let three = numeral c newline in
    omega (
      arith,
      length-append (card_word ++ one ++ two) three,
      length-append (card_word ++ one) two,
      length-append card_word one,
      numeral_length n space,
      numeral_length spare space,
      numeral_length c newline,
      word_digits n hn,
      word_digits spare hs,
      sheet_digits c hc,
    )

runs_line_length : (counts : Counts) → counts.runs < 4294967296 → counts.longest < 4294967296 → length (runs_line counts) ≤ 35
unfolding runs_line
runs_line_length counts hr hl =
    let runs = decimal counts.runs in
    let last = numeral counts.longest newline in
    omega (
      arith,
      length-append (runs_word ++ runs ++ longest_word) last,
      length-append (runs_word ++ runs) longest_word,
      length-append runs_word runs,
      numeral_length counts.longest newline,
      word_digits counts.runs hr,
      word_digits counts.longest hl,
    )

pub card_fits : (n spare : ℕ) (counts : Counts) (entries : List Entry) → Printable n spare counts entries
    → length (card_text n spare counts entries) ≤ 32768
unfolding card_text
card_fits n spare counts entries p =
    let first = card_line n spare (length entries) in
    omega (
      arith,
      length-append (first ++ runs_line counts) (sheet_lines 0 entries),
      length-append first (runs_line counts),
      card_line_length n spare (length entries) p.blocks p.free (omega (arith, p.sheets)),
      runs_line_length counts p.runs p.longest,
      lines_length entries 0 (omega (arith, p.sheets)) p.numbers,
      p.sheets,
    )

pub card_whole : (n spare : ℕ) (counts : Counts) (entries : List Entry) (text text' : List ℕ) (r : ℕ)
    → Printable n spare counts entries → 32768 ≤ length text
    → Writes (card_text n spare counts entries) text 0 r text'
    → (r ≡ length (card_text n spare counts entries)) × (take r text' ≡ card_text n spare counts entries)
card_whole n spare counts entries text text' r p h w =
    whole (card_text n spare counts entries) text text' r (omega (arith, h, card_fits n spare counts entries p)) w

refusal_fits : (number : ℕ) → number < 4294967296 → length (refusal_text number) ≤ 19
unfolding refusal_text
refusal_fits number h = omega (
  arith,
  length-append refused_word (numeral number newline),
  numeral_length number newline,
  word_digits number h,
)

pub refusal_whole : (number : ℕ) (text text' : List ℕ) (r : ℕ) → number < 4294967296 → 19 ≤ length text
    → Writes (refusal_text number) text 0 r text'
    → (r ≡ length (refusal_text number)) × (take r text' ≡ refusal_text number)
refusal_whole number text text' r k h w = whole (refusal_text number) text text' r (omega (arith, h, refusal_fits number k)) w
