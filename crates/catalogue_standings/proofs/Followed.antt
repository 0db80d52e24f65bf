-- A result that follows a verdict (specs/Refusals.antt), and says what its value is: what each of its variants shows.
-- Assumes nothing.
use mathlib.Core.Path.{◌≡◌}
use Rattle.std.specs.Prelude.{Result, Ok, Err, IfOk}
use Rattle.std.proofs.lemmas.Result.{MatchResult-at_ok, MatchResult-at_err, IfOk-at_ok}
use Rattle.catalogue_standings.specs.Refusals.{number, Follows}
use Rattle.catalogue_standings.specs.Rows.{Verdict, accepted, refused}
use Rattle.catalogue_standings.specs.declared.Refusal.{Refusal}

module _ {T : Type 0} {r : Result T Refusal} (v : Verdict) (P : T → Type 0) where
  pub following : {x : T} → r ≡ Ok x → Follows v r × IfOk r P → (v ≡ accepted) × P x
  following {x} e h =
      (MatchResult-at_ok (λ y. v ≡ accepted) (λ why. v ≡ refused (number why)) x e h.0, IfOk-at_ok P e h.1)

  pub refusing : {why : Refusal} → r ≡ Err why → Follows v r × IfOk r P → v ≡ refused (number why)
  refusing {why} e h = MatchResult-at_err (λ y. v ≡ accepted) (λ w. v ≡ refused (number w)) why e h.0
