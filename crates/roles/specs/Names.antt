-- The program's names of roles and calls, by the numbers that the table (Roles.antt) gives them.
-- Assumes nothing.
use Rattle.std.specs.Prelude.{ℕ, ◌≡◌, ◌<◌, ◌⊎◌, Result, MatchResult}
use Rattle.roles.specs.Roles as table
use Rattle.roles.specs.declared.Call.{Call}
use Rattle.roles.specs.declared.Call.TheVariants as call
use Rattle.roles.specs.declared.Role.{Role}
use Rattle.roles.specs.declared.Role.TheVariants.{Pharmacist, Carer, Service}
use Rattle.roles.specs.declared.UnknownCall.{UnknownCall}
use Rattle.roles.specs.declared.UnknownRole.{UnknownRole}

abbrev pub role_number : Role → ℕ
role_number Pharmacist = table.pharmacist
role_number Carer = table.carer
role_number Service = table.service

-- The result is the role of a number, or that no role has it.
abbrev pub Names : ℕ → Result Role UnknownRole → Type 0
Names number r =
    MatchResult r (λ role. role_number role ≡ number) (λ e. (e.0 ≡ number) × ((number < 1) ⊎ (3 < number)))

abbrev pub call_number : Call → ℕ
call_number call.Fresh = table.fresh
call_number call.Search = table.search
call_number call.Survey = table.survey
call_number call.Reserve = table.reserve
call_number call.Offer = table.offer
call_number call.Accept = table.accept
call_number call.Grow = table.grow
call_number call.Put = table.put
call_number call.Complete = table.complete
call_number call.Pause = table.pause
call_number call.Resume = table.resume
call_number call.Release = table.release
call_number call.Show = table.show
call_number call.ShowDated = table.show_dated
call_number call.Standing = table.standing
call_number call.Save = table.save
call_number call.Load = table.load
call_number call.Close = table.close
call_number call.BuildSummary = table.build_summary
call_number call.CheckSummary = table.check_summary

-- The result is the call of a number, or that no call has it.
abbrev pub NamesCall : ℕ → Result Call UnknownCall → Type 0
NamesCall number r =
    MatchResult r (λ call. call_number call ≡ number) (λ e. (e.0 ≡ number) × ((number < 1) ⊎ (20 < number)))
