-- `closing::close`: a refusal changes nothing but the scratch, and an accepted closing leaves the closed card.
-- Assumes nothing.
use Rattle.std.proofs.Common.{◌≡◌, ◌∙◌, ap, ℕ, Ok, length, replicate, rules}
use Rattle.roles.specs.Roles as names
use Rattle.roles.specs.Roles.{turned_away}
use Rattle.closing.specs.Closed.{first_taken}
use Rattle.closing.proofs.Closes.{markable, closes}
use Rattle.closing.proofs.close.Goals as goal

pub returns-in_err-ruled : goal.returns-in_err-ruled
returns-in_err-ruled c =
    let a = c.args in
    let z : c.fill.new.self ≡ replicate (length a.scratch.now) 0 = search rules in
    closes (turned_away a.role names.close) a.n a.free a.fits a.map.now a.catalogue.now a.card.now a.scratch.now _ _ _ _ _
    (search rules) z (search rules)

pub close_map-requires : goal.close_map-requires
close_map-requires c =
    let a = c.args in
    markable (turned_away a.role names.close) a.n a.free a.fits a.map.now a.catalogue.now a.card.now a.scratch.now
    c.in_ok-ruled.ensures _ c.close_rounds-last.ensures.0

pub returns : goal.returns
returns c =
    let a = c.args in
    let z : c.fill.new.self ≡ replicate (length a.scratch.now) 0 = search rules in
    let l = c.close_rounds-last.ensures in
    closes (turned_away a.role names.close) a.n a.free a.fits a.map.now a.catalogue.now a.card.now a.scratch.now (Ok tt) _ _ _ _
    c.in_ok-ruled.ensures z (record {
      maps = c.close_map.ensures ∙ ap (λ (h : ℕ). first_taken h a.n (length a.map.now)) l.0;
      sheets = l.1;
      cards = l.2;
    })
