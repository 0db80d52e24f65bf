-- `map_search::scan_words` meets its contract. The loop's invariant: what is carried from `first` on to `i`.
-- Assumes nothing.

use Rattle.std.specs.declared.ops.ControlFlow.TheVariants.{Break, Continue}
use mathlib.Core.Path.{◌≡◌, sym, subst}
use mathlib.Core.Bool.{Bool}
use Prim.Native.Nat.{ℕ, ◌+◌, ◌*◌}
use native.Mathlib.Omega.{arith}
use Rattle.map_search_word.specs.Scan.{Carried, Stepped, Bounded}
use Rattle.map_search.specs.Search.{HasBits}
use Rattle.map_search.proofs.scan_words.Goals.{After-scan_word}
use Rattle.map_search.proofs.scan_words.Goals as goal

-- what the word tells
word : (c : After-scan_word) (f : ℕ → Bool)
    → HasBits c.args.map.now
    c.args.first c.args.stop f
    → Carried f c.args.sought.k
    (c.args.first * 64) c.args.s
    → Stepped f c.args.sought.k (c.loop-i.i * 64 + 64)
    c.scan_word.result
word c f shows at =
    let loop = c.loop-i in
    c.scan_word.ensures.by_index f (λ j l. shows loop.i j (omega arith) (omega arith) l) (loop.invariant.2 f shows at)

pub loop-i-init : goal.loop-i-init
loop-i-init c = (omega arith, omega arith, λ f shows at. at)

pub returns-in_err-carried : goal.returns-in_err-carried
returns-in_err-carried c = let a = c.args in
    let i : ℕ = c.loop-i.i in
    let out = sym c.from_residual.ensures in
    let bounds : Bounded a.sought.k (i * 64 + 64) (Break c.in_err-carried.field-0.0) =
    subst (Bounded a.sought.k (i * 64 + 64)) c.in_err-carried.was c.scan_word.ensures.bounded in
    record {
      bounded = subst (Bounded a.sought.k (a.stop * 64)) out (omega arith);
      by_index = λ f shows at. subst (Stepped f a.sought.k (a.stop * 64)) out (subst (Stepped f a.sought.k (i * 64 + 64))
          c.in_err-carried.was (word (goal.at.returns-in_err-carried c).After-scan_word f shows at));
    }

pub loop-i-preserved : goal.loop-i-preserved
loop-i-preserved c = let here = c in
    let a = here.args in
    let i : ℕ = here.loop-i.i in
    let e : i * 64 + 64 ≡ (i + 1) * 64 = omega arith in
    let bounds : Bounded a.sought.k (i * 64 + 64) (Continue c.in_ok-carried.carried) =
    subst (Bounded a.sought.k (i * 64 + 64)) c.in_ok-carried.was here.scan_word.ensures.bounded in (
      omega arith,
      omega arith,
      λ f shows at. subst (λ (b : ℕ). Carried f a.sought.k b c.in_ok-carried.carried) e
          (subst (Stepped f a.sought.k (i * 64 + 64)) c.in_ok-carried.was
          (word (goal.at.loop-i-preserved c).After-scan_word f shows at)),
    )

pub returns : goal.returns
returns c = let a = c.args in
    let loop = c.loop-i in
    let e : loop.i ≡ a.stop = omega arith in record {
      bounded = (omega arith, omega arith);
      by_index = λ f shows at. subst (λ (x : ℕ). Carried f a.sought.k (x * 64) loop.carried) e
          (loop.invariant.2 f shows at);
    }
