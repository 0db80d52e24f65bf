-- `map_search::scan_groups` meets its contract. The loop's invariant: what is carried from `first` on to `i`.
-- Assumes nothing.

use Rattle.std.specs.declared.ops.ControlFlow.TheVariants.{Break}
use mathlib.Core.Path.{◌≡◌, sym, subst}
use mathlib.Core.Bool.{Bool}
use Prim.Native.Nat.{ℕ, ◌-◌, ◌*◌}
use native.Mathlib.Omega.{arith}
use Rattle.map_search_word.specs.Scan.{Carried, Stepped, Bounded}
use Rattle.map_search.specs.Search.{HasBits}
use Rattle.map_search.proofs.Words.{past_taken, shows_part, zero_words}
use Rattle.map_search.proofs.scan_groups.Goals.{After-scan_words}
use Rattle.map_search.proofs.scan_groups.Goals as goal

-- what a group of words tells
group : (c : After-scan_words) (f : ℕ → Bool)
    → HasBits c.args.map.now
    c.args.first c.args.stop f
    → Carried f c.args.sought.k
    (c.args.first * 64) c.args.s
    → Stepped f c.args.sought.k (c.group_end-end.result * 64) c.scan_words.result
group c f shows at =
    let loop = c.loop-i in
    let a = c.args in
    c.scan_words.ensures.by_index f (shows_part a.map.now a.first a.stop loop.i c.group_end-end.result f
    (omega arith) (omega arith) shows) (loop.invariant.4 f shows at)

pub loop-i-init : goal.loop-i-init
loop-i-init c = (omega arith, omega arith, omega arith, omega arith, λ f shows at. at)

pub returns-in_err-carried : goal.returns-in_err-carried
returns-in_err-carried c = let a = c.args in
    let end : ℕ = c.group_end-end.result * 64 in
    let out = sym c.from_residual.ensures in
    let bounds : Bounded a.sought.k end (Break c.in_err-carried.field-0.0) =
    subst (Bounded a.sought.k end) c.in_err-carried.was c.scan_words.ensures.bounded in
    record {
      bounded = subst (Bounded a.sought.k (a.stop * 64)) out (omega arith);
      by_index = λ f shows at. subst (Stepped f a.sought.k (a.stop * 64)) out (subst (Stepped f a.sought.k end)
          c.in_err-carried.was (group (goal.at.returns-in_err-carried c).After-scan_words f shows at));
    }

pub loop-i-preserved-then-end-i : goal.loop-i-preserved-then-end-i
loop-i-preserved-then-end-i c = let a = c.args in
    let end : ℕ = c.group_end-end.result in
    let next : ℕ = c.taken_words-i.result in (
      omega arith,
      omega arith,
      omega arith,
      omega arith,
      λ f shows at.
          past_taken f a.sought.k (end * 64) (next * 64) c.in_ok-carried.carried (omega arith)
          (λ b l u. zero_words a.map.now a.first a.stop end (next - end) f shows (omega arith) (omega arith)
          (λ t v w. c.taken_words-i.ensures.2 t v (omega arith)) b l (omega arith))
          (subst (Stepped f a.sought.k (end * 64)) c.in_ok-carried.was
          (group (goal.at.loop-i-preserved-then-end-i c).After-scan_words f shows at)),
    )

pub returns : goal.returns
returns c = let loop = c.loop-i in
    let a = c.args in
    let e : loop.i ≡ a.stop = omega arith in record {
      bounded = (omega arith, omega arith);
      by_index = λ f shows at. subst (λ (i : ℕ). Carried f a.sought.k (i * 64) loop.carried) e
          (loop.invariant.4 f shows at);
    }
