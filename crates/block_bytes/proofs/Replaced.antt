-- Bytes replaced: those written, the others, and writes one behind the other.
-- Assumes nothing.
use mathlib.Core.Path.{◌≡◌, sym, ap, ap₂, ◌∙◌}
use mathlib.Core.List.{List, [], ◌++◌, append_assoc, append-nil}
use Prim.Native.Nat.{ℕ, ◌+◌, ◌-◌, ◌≤◌, ◌<◌}
use native.Mathlib.Omega.{arith}
use lib.ListN.{length, get_or, take, drop, length-append, length-drop, take-append-drop, drop_of_length-le, get_or-append}
use lib.Seq.{take_at, drop_at, drop-drop, length-take-le, get_or-append-add, get_or-take, get_or-drop}
use Rattle.block_bytes.specs.Replaced.{replaced}

pub replaced_none : (bytes : List ℕ) (at : ℕ) → replaced bytes at [] ≡ bytes
unfolding replaced
replaced_none bytes at = take-append-drop at bytes

pub replaced_all : (bytes news : List ℕ) → length bytes ≤ length news → replaced bytes 0 news ≡ news
unfolding replaced
replaced_all bytes news e = ap (λ (l : List ℕ). news ++ l) (drop_of_length-le bytes {i = length news} e) ∙ append-nil news

module _ (bytes : List ℕ) (at : ℕ) (news : List ℕ) (fits : at + length news ≤ length bytes) where
  head_length : length (take at bytes) ≡ at
  head_length = length-take-le at bytes (omega arith)

  pub replaced_length : length (replaced bytes at news) ≡ length bytes
  unfolding replaced
  replaced_length =
      let rest : List ℕ = drop (length news) (drop at bytes) in
      omega (
        arith,
        length-append (take at bytes) (news ++ rest),
        length-append news rest,
        length-drop (length news) (drop at bytes),
        length-drop at bytes,
        head_length,
      )

  pub replaced_before : (j : ℕ) → j < at → get_or (replaced bytes at news) j 0 ≡ get_or bytes j 0
  unfolding replaced
  replaced_before j h =
      get_or-append (take at bytes) (news ++ drop (length news) (drop at bytes)) 0 j (omega (arith, head_length))
      ∙ get_or-take at bytes j 0 h

  -- a place behind the head
  behind : (y : ℕ) → get_or (replaced bytes at news) (at + y) 0 ≡ get_or (news ++ drop (length news) (drop at bytes)) y 0
  unfolding replaced
  behind y =
      let q : at + y ≡ length (take at bytes) + y = omega (arith, head_length) in
      ap (λ (x : ℕ). get_or (take at bytes ++ (news ++ drop (length news) (drop at bytes))) x 0) q
      ∙ get_or-append-add (take at bytes) (news ++ drop (length news) (drop at bytes)) y 0

  pub replaced_in : (y : ℕ) → y < length news → get_or (replaced bytes at news) (at + y) 0 ≡ get_or news y 0
  replaced_in y h = behind y ∙ get_or-append news (drop (length news) (drop at bytes)) 0 y h

  pub replaced_after : (j : ℕ) → at + length news ≤ j → get_or (replaced bytes at news) j 0 ≡ get_or bytes j 0
  replaced_after j h =
      let y : ℕ = j - (at + length news) in
      let q : j ≡ at + (length news + (j - (at + length news))) = omega arith in
      let p : at + (length news + (j - (at + length news))) ≡ j = omega arith in
      ap (λ (x : ℕ). get_or (replaced bytes at news) x 0) q
      ∙ behind (length news + y) ∙ get_or-append-add news (drop (length news) (drop at bytes)) y 0
      ∙ get_or-drop (length news) (drop at bytes) y 0 ∙ get_or-drop at bytes (length news + y) 0
      ∙ ap (λ (x : ℕ). get_or bytes x 0) p

  -- a write behind the one before it
  pub replaced_more : (more : List ℕ) → replaced (replaced bytes at news) (at + length news) more
      ≡ replaced bytes at (news ++ more)
  unfolding replaced
  replaced_more more =
      let rest : List ℕ = drop (length news) (drop at bytes) in
      let front : List ℕ = take at bytes ++ news in
      let long : length (take at bytes ++ news) ≡ at + length news = length-append (take at bytes) news
      ∙ ap (λ (k : ℕ). k + length news) head_length in
      let whole : take at bytes ++ (news ++ rest) ≡ front ++ rest = sym (append_assoc (take at bytes) news rest) in
      let t : take (at + length news) (take at bytes ++ (news ++ rest)) ≡ front = ap (take (at + length news)) whole
      ∙ take_at front rest (at + length news) long in
      let d : drop (at + length news) (take at bytes ++ (news ++ rest)) ≡ rest = ap (drop (at + length news)) whole
      ∙ drop_at front rest (at + length news) long in
      let r : drop (length more) rest ≡ drop (length (news ++ more)) (drop at bytes) =
      drop-drop (length more) (length news) (drop at bytes)
      ∙ ap (λ (k : ℕ). drop k (drop at bytes)) (sym (length-append news more)) in
      ap₂ (λ (x y : List ℕ). x ++ (more ++ drop (length more) y)) t d
      ∙ append_assoc (take at bytes) news (more ++ drop (length more) rest)
      ∙ ap (λ (x : List ℕ). take at bytes ++ x) (sym (append_assoc news more (drop (length more) rest))
      ∙ ap (λ (x : List ℕ). (news ++ more) ++ x) r)
