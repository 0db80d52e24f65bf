-- `load`: a refusal changes nothing but the scratch, and an accepted load gives the state of the image.
-- Assumes nothing.
use Rattle.std.proofs.Common.{◌≡◌, Ok, length, replicate, rules, arith}
use Rattle.roles.specs.Roles as names
use Rattle.roles.specs.Roles.{turned_away}
use Rattle.image_load.proofs.Loads.{lengths, loads}
use Rattle.image_load.proofs.load.Goals as goal

pub returns-in_err-loaded : goal.returns-in_err-loaded
returns-in_err-loaded c =
    let a = c.args in
    let z : c.fill.new.self ≡ replicate (length a.scratch.now) 0 = search rules in
    loads (turned_away a.role names.load) a.image.now a.map.now a.catalogue.now a.scratch.now _ _ _ _ (search rules) z
    (search rules)

pub read_words-requires : goal.read_words-requires
read_words-requires c =
    let a = c.args in
    let l = lengths (turned_away a.role names.load) a.image.now a.map.now a.catalogue.now a.scratch.now
    c.in_ok-loaded.ensures.number in
    (omega (arith, l.0), l.1)

pub returns : goal.returns
returns c =
    let a = c.args in
    let z : c.fill.new.self ≡ replicate (length a.scratch.now) 0 = search rules in
    let h = c.in_ok-loaded.ensures.head in
    loads (turned_away a.role names.load) a.image.now a.map.now a.catalogue.now a.scratch.now (Ok c.in_ok-loaded.loaded) _ _ _
    c.in_ok-loaded.ensures.number z (record {
      blocks = h.0;
      free = h.1;
      map_words = c.read_words.ensures;
      long = omega arith;
      listed = λ j u. c.loop-sheet.invariant j (omega arith);
    })
