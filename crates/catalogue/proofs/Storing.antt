-- That a store of what was found changes nothing.
-- Assumes nothing.
use mathlib.Core.Path.{◌≡◌}
use mathlib.Core.List.{List}
use Prim.Native.Nat.{ℕ}
use lib.ListN.{set}
use lib.Seq.{set-get_or}
use Rattle.catalogue.specs.Entries.{zeros, slot_at}
use Rattle.catalogue.specs.declared.Entry.{Entry}

-- a call that is refused stores the entry that it found, so no entry changes
pub stored_back : (entries : List Entry) (sheet : ℕ) → set entries sheet (slot_at entries sheet).entry ≡ entries
stored_back entries sheet = set-get_or entries sheet zeros
