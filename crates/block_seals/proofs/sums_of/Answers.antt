-- `sums_of` meets its contract. The invariant: going on over the rest from the A and B so far, reduced, gives the sums of the
-- whole. A turn is the last if two bytes are left.
-- Assumes nothing.
use mathlib.Core.Path.{◌∙◌}
use Prim.Native.Nat.{◌+◌}
use native.Mathlib.Omega.{arith}
use Rattle.block_seals.proofs.Checksum.{two_bytes, all_bytes}
use Rattle.block_seals.proofs.sums_of.Goals as goal
use Rattle.block_seals.proofs.sums_of.Goals.{else-loop-i-test, then-loop-i-test+else-i-end-i-gt2}

pub loop-i-preserved : goal.loop-i-preserved
loop-i-preserved c = let more =
    two_bytes c.loop-i.even c.loop-i.odd c.loop-i.evens c.loop-i.odds c.from-even.result c.from-odd.result
    c.loop-i.i c.args.s.now (omega arith) c.from-even.ensures c.from-odd.ensures in
    (omega arith, omega arith, more ∙ c.loop-i.invariant.2, omega arith, omega arith, omega arith, omega arith)

pub returns : goal.returns
returns c = elim c.loop-i-test.branch [
  | else-loop-i-test w ↦
      rw (w.even-is, w.odd-is, w.evens-is, w.odds-is)
      (all_bytes c.loop-i.even c.loop-i.odd c.loop-i.evens c.loop-i.odds c.loop-i.i c.args.s.now (omega arith) (omega arith)
      c.loop-i.invariant.2)
  | then-loop-i-test+else-i-end-i-gt2 w ↦
      rw (w.even-is, w.odd-is, w.evens-is, w.odds-is)
      (all_bytes _ _ _ _ (c.loop-i.i + 2) c.args.s.now (omega arith) (omega arith)
      (two_bytes c.loop-i.even c.loop-i.odd c.loop-i.evens c.loop-i.odds w.from-even.result w.from-odd.result
      c.loop-i.i c.args.s.now (omega arith) w.from-even.ensures w.from-odd.ensures ∙ c.loop-i.invariant.2))
]
