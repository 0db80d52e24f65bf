-- `write_entry` meets its contract: the numbers of an entry that stand together in a frame stand at their places.
-- Assumes nothing.
use mathlib.Core.List.{List}
use mathlib.Core.Path.{◌≡◌, sym, ap, ◌∙◌}
use Prim.Native.Nat.{ℕ, ◌+◌, ◌/◌, ◌<◌}
use native.Mathlib.Omega.{arith}
use lib.ListN.{length}
use Rattle.block_bytes.specs.Numbers.{bytes4}
use Rattle.block_bytes.specs.Replaced.{replaced}
use Rattle.image_frames.specs.Frames.{total_of}
use Rattle.image_frames.specs.Numbers.{place_of, with_number}
use Rattle.image_frames.proofs.Numbered.{stored_in, stored_length}
use Rattle.image_save.proofs.write_entry.Goals as goal

stored : (image next : List ℕ) (k at number : ℕ) → at ≡ place_of k → k / 124 < total_of image
    → next ≡ replaced image at (bytes4 number) → next ≡ with_number image k number
stored image next k at number e h en =
    en ∙ ap (λ (x : ℕ). replaced image x (bytes4 number)) e ∙ sym (stored_in image k number h)

pub returns-then-k : goal.returns-then-k
returns-then-k c =
    let a = c.args in
    let k : ℕ = a.k in
    let at = c.place-at.ensures in
    let first = stored a.image.now _ k _ a.entry.mark at (omega arith) c.put_here.ensures in
    let long = ap length first ∙ stored_length a.image.now k a.entry.mark in
    let second = stored _ _ (k + 1) _ a.entry.start (omega (arith, at)) (omega (arith, long)) c.put_here-then-k.ensures in
    let longer = ap length second ∙ stored_length _ (k + 1) a.entry.start in
    let third = stored _ _ (k + 2) _ a.entry.length (omega (arith, at)) (omega (arith, long, longer))
    c.put_here-then-k-2.ensures in
    third
    ∙ ap (λ (l : List ℕ). with_number l (k + 2) a.entry.length)
    (second ∙ ap (λ (l : List ℕ). with_number l (k + 1) a.entry.start) first)
