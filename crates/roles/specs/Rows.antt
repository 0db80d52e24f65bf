-- Document 02, (n), as one theorem, `rows`: of all calls that take a role those that each role may make, by their names.
-- Assumes nothing.
use Rattle.std.specs.Prelude.{ℕ, ◌≡◌, refl, true, false, cond, List, [], ◌∷◌}
use Rattle.std.proofs.Common.{ne_eqb}
use Rattle.roles.specs.Roles.{fresh, search, survey, reserve, offer, accept, grow, put, complete, pause, resume, release}
use Rattle.roles.specs.Roles.{show, show_dated, standing, save, load, close, build_summary, check_summary, may}

-- Every call that takes a role.
abbrev pub calls : List ℕ
calls =
    fresh ∷ search ∷ survey ∷ reserve ∷ offer ∷ accept ∷ grow ∷ put ∷ complete ∷ pause ∷ resume ∷ release ∷ show ∷ show_dated
    ∷ standing ∷ save ∷ load ∷ close ∷ build_summary ∷ check_summary ∷ []

-- Those of some calls that a role may make.
unfoldable pub made : ℕ → List ℕ → List ℕ
made role [] = []
made role (call ∷ rest) = cond (may role call) (call ∷ made role rest) (made role rest)

pub record Rows : Type 0 where
  -- "Role 1, pharmacist: every call."
  pub row_1 : made 1 calls ≡ calls
  pub every_call : (call : ℕ) → may 1 call ≡ true
  -- "Role 2, carer: dated show, standing, survey."
  pub row_2 : made 2 calls ≡ survey ∷ show_dated ∷ standing ∷ []
  -- "Role 3, service: fresh, save, load, closing, standing, survey."
  pub row_3 : made 3 calls ≡ fresh ∷ survey ∷ standing ∷ save ∷ load ∷ close ∷ []
  -- "21 for an unknown role"
  pub unknown : (role call : ℕ) → (role ≡ 1 → ⊥) → (role ≡ 2 → ⊥) → (role ≡ 3 → ⊥) → may role call ≡ false

pub rows : Rows
unfolding may made
rows = record {
  row_1 = refl;
  every_call = λ call. refl;
  row_2 = refl;
  row_3 = refl;
  unknown = λ role call p c s. simp (ne_eqb role 1 p, ne_eqb role 2 c, ne_eqb role 3 s);
}
