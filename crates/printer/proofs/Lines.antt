-- The lines of the sheets, one after the other.
-- Assumes nothing.
use mathlib.Core.Path.{◌≡◌, refl, sym, ap, ◌∙◌, subst}
use mathlib.Core.Logic.{◌⊎◌, inl, inr}
use mathlib.Core.List.{List, [], ◌∷◌, ◌++◌, append_assoc, append-nil}
use Prim.Native.Nat.{ℕ, zero, suc, ◌+◌, ◌-◌, ◌%◌, ◌≤◌, ◌<◌, min}
use native.Mathlib.Omega.{arith}
use lib.ListN.{length, get_or, take, drop, length-append}
use lib.Seq.{length-take-le, take_all}
use Rattle.laws.proofs.Bools.{order}
use Rattle.catalogue.specs.Entries.{zeros}
use Rattle.catalogue.specs.declared.Entry.{Entry}
use Rattle.printer.specs.Decimal.{decimal, numeral}
use Rattle.printer.specs.Writing.{Writes}
use Rattle.printer.specs.Lines.{space, newline, sheet_line}
use Rattle.printer.specs.Text.{sheet_lines}
use Rattle.printer.proofs.Written.{then, writes_past, writes_full}

-- one line more
one_more : (es : List Entry) (sheet i : ℕ) → i < length es
    → sheet_lines sheet (take (suc i) es) ≡ sheet_lines sheet (take i es) ++ sheet_line (sheet + i) (get_or es i zeros)
unfolding sheet_lines
one_more [] sheet i h = absurd (omega arith)
one_more (e ∷ es) sheet zero h =
    let s : sheet ≡ sheet + 0 = omega arith in
    append-nil (sheet_line sheet e) ∙ ap (λ (n : ℕ). sheet_line n e) s
one_more (e ∷ es) sheet (suc i) h =
    let s : suc sheet + i ≡ sheet + suc i = omega arith in
    ap (λ (l : List ℕ). sheet_line sheet e ++ l) (one_more es (suc sheet) i (omega arith))
    ∙ sym (append_assoc (sheet_line sheet e) (sheet_lines (suc sheet) (take i es))
    (sheet_line (suc sheet + i) (get_or es i zeros)))
    ∙ ap (λ (n : ℕ). sheet_line sheet e ++ sheet_lines (suc sheet) (take i es) ++ sheet_line n (get_or es i zeros)) s

pub line_more : (es : List Entry) (first i : ℕ) (text text' text'' : List ℕ) (at at' at'' : ℕ) → i < length es
    → Writes (sheet_lines first (take i es)) text at at' text'
    → Writes (sheet_line (first + i) (get_or es i zeros)) text' at' at'' text''
    → Writes (sheet_lines first (take (i + 1) es)) text at at'' text''
line_more es first i text text' text'' at at' at'' h w w' =
    let s : i + 1 ≡ suc i = omega arith in
    subst (λ (bytes : List ℕ). Writes bytes text at at'' text'')
    (sym (ap (λ (n : ℕ). sheet_lines first (take n es)) s ∙ one_more es first i h))
    (then w w')

take_fewer : (es : List Entry) (k m : ℕ) → k ≡ min (length es) m → take k es ≡ take m es
take_fewer es k m e = which (order m (length es))
  where
    which : (m < length es) ⊎ (length es ≤ m) → take k es ≡ take m es
    which (inl l) = let same : k ≡ m = omega (arith, e, l) in ap (λ (n : ℕ). take n es) same
    which (inr l) = take_all k es (omega (arith, e, l)) ∙ sym (take_all m es l)

-- of the first m entries, or of all where there are fewer
pub lines_all : (es : List Entry) (first k m i : ℕ) (text text' : List ℕ) (at at' : ℕ) → k ≡ min (length es) m
    → length (take k es) ≤ i → Writes (sheet_lines first (take i (take k es))) text at at' text'
    → Writes (sheet_lines first (take m es)) text at at' text'
lines_all es first k m i text text' at at' e h =
    subst (λ (l : List Entry). Writes (sheet_lines first l) text at at' text') (take_all i (take k es) h ∙ take_fewer es k m e)

-- ---- no line past the text's length finds room

-- a line has a byte
line_long : (sheet : ℕ) (e : Entry) → 0 < length (sheet_line sheet e)
unfolding sheet_line numeral
line_long sheet e =
    let front : List ℕ = numeral sheet space ++ (e.mark % 256 ∷ space ∷ []) ++ numeral e.start space in
    omega (arith, length-append front (numeral e.length newline), length-append (decimal e.length) (newline ∷ []))

lines_long : (es : List Entry) (sheet : ℕ) → length es ≤ length (sheet_lines sheet es)
unfolding sheet_lines
lines_long [] sheet = omega arith
lines_long (e ∷ es) sheet = omega (
  arith,
  length-append (sheet_line sheet e) (sheet_lines (suc sheet) es),
  line_long sheet e,
  lines_long es (suc sheet),
)

-- the lines of the first m entries, and those of the others
lines_both : (es : List Entry) (sheet m : ℕ)
    → sheet_lines sheet es ≡ sheet_lines sheet (take m es) ++ sheet_lines (sheet + m) (drop m es)
unfolding sheet_lines
lines_both es sheet zero = let s : sheet ≡ sheet + 0 = omega arith in ap (λ (n : ℕ). sheet_lines n es) s
lines_both [] sheet (suc m) = refl
lines_both (e ∷ es) sheet (suc m) =
    let s : suc sheet + m ≡ sheet + suc m = omega arith in
    ap (λ (l : List ℕ). sheet_line sheet e ++ l) (lines_both es (suc sheet) m)
    ∙ sym (append_assoc (sheet_line sheet e) (sheet_lines (suc sheet) (take m es)) (sheet_lines (suc sheet + m) (drop m es)))
    ∙ ap (λ (n : ℕ). sheet_line sheet e ++ sheet_lines (suc sheet) (take m es) ++ sheet_lines n (drop m es)) s

-- From a place at or behind the first sheet's number on, the lines of the sheets whose numbers are below the text's length are
-- all that is written of the lines of all sheets.
pub every_line : (es : List Entry) (first : ℕ) (text text' : List ℕ) (at r : ℕ) → first ≤ at
    → Writes (sheet_lines first (take (length text - first) es)) text at r text'
    → Writes (sheet_lines first es) text at r text'
every_line es first text text' at r h w = which (length text - first) refl (order (length text - first) (length es)) w
  where
    which : (m : ℕ) → m ≡ length text - first → (m < length es) ⊎ (length es ≤ m)
        → Writes (sheet_lines first (take m es)) text at r text' → Writes (sheet_lines first es) text at r text'
    which m e (inl l) w =
        let reached : length text ≤ at + length (sheet_lines first (take m es)) =
        omega (arith, h, e, l, length-take-le m es (omega (arith, l)), lines_long (take m es) first) in
        subst (λ (bytes : List ℕ). Writes bytes text at r text') (sym (lines_both es first m))
        (then w (writes_past (sheet_lines (first + m) (drop m es)) text' r (writes_full w reached)))
    which m e (inr l) w =
        subst (λ (entries : List Entry). Writes (sheet_lines first entries) text at r text') (take_all m es l) w
