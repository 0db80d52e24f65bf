-- `save`: a refusal leaves the image, and an accepted save writes that of the state.
-- Assumes nothing.
use Rattle.std.proofs.Common.{◌≡◌, Ok, length, replicate, rules}
use Rattle.roles.specs.Roles as names
use Rattle.roles.specs.Roles.{turned_away}
use Rattle.image_save.proofs.Saves.{fitting, saves}
use Rattle.image_save.proofs.save.Goals as goal

pub returns-in_err-ruled : goal.returns-in_err-ruled
returns-in_err-ruled c =
    let a = c.args in
    let z : c.fill.new.self ≡ replicate (length a.scratch.now) 0 = search rules in
    saves (turned_away a.role names.save) a.n a.free a.map.now a.catalogue.now a.scratch.now a.image.now
    _ _ _ (search rules) z (search rules)

pub write_image-requires : goal.write_image-requires
write_image-requires c =
    let a = c.args in
    fitting (turned_away a.role names.save) a.n a.free a.map.now a.catalogue.now a.scratch.now a.image.now
    c.in_ok-ruled.ensures

pub returns : goal.returns
returns c =
    let a = c.args in
    let z : c.fill.new.self ≡ replicate (length a.scratch.now) 0 = search rules in
    saves (turned_away a.role names.save) a.n a.free a.map.now a.catalogue.now a.scratch.now a.image.now
    (Ok tt) _ _ c.in_ok-ruled.ensures z c.write_image.ensures
