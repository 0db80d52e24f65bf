-- The rows of save, test by test.
-- Assumes nothing.
use mathlib.Core.Path.{◌≡◌, sym, ap, ◌∙◌}
use mathlib.Core.Bool.{Bool, true, false, not}
use mathlib.Core.List.{List, []}
use Prim.Native.Nat.{ℕ, ◌-◌, ◌*◌, ◌≤◌}
use lib.Dec.{eqb}
use lib.ListN.{length}
use borrow.Author.Tests.{eq-eqb, ne_eqb}
use Rattle.std.specs.Prelude.{Option}
use Rattle.std.specs.Option.{SomeIff}
use Rattle.catalogue_standings.proofs.Openings.{skip, stop, none_left}
use Rattle.catalogue_standings.specs.Rows.{row_number}
use Rattle.image.specs.Image.{frames_for}
use Rattle.image.specs.Effects.{save_number}
use Rattle.image.specs.Table.{save_fits, save_rows, save_verdict}
use Rattle.image.proofs.Fitting.{save_fits_to}
use Rattle.catalogue.specs.declared.Entry.{Entry}
use Rattle.image_soundness.specs.Sound.{State, sound}
use Rattle.image_soundness.specs.Windows.{state_tested}
use Rattle.image_soundness.proofs.Tested.{subtracted_sound}

module _ (turned : Bool) (n spare : ℕ) (map : List ℕ) (entries : List Entry) (scratch image : List ℕ) where
  abbrev fit : Bool
  fit = save_fits n spare (length entries) (length map) (length scratch)

  abbrev state : State
  state = record { blocks = n; spare = spare; entries = entries; map = map }

  abbrev told : ℕ
  told = save_number turned n spare map entries scratch image

  pub save_row_21 : turned ≡ true → 21 ≡ told
  unfolding save_number save_verdict save_rows
  save_row_21 t = sym (ap row_number (stop 21 turned _ t))

  module _ (t : turned ≡ false) where
    pub save-row-1 : fit ≡ false → 1 ≡ told
    unfolding save_number save_verdict save_rows
    save-row-1 f = sym (ap row_number (skip 21 turned _ _ t (stop 1 (not fit) _ (ap not f))))

    module _ (f : fit ≡ true) where
      -- whether the state is sound, as it was tested
      pub save_tested : (blocks : Option ℕ) → SomeIff blocks (spare ≤ n) (n - spare)
          → state_tested map entries (length scratch) n blocks ≡ sound state
      save_tested =
          let l = save_fits_to n spare (length entries) (length map) (length scratch) f in
          subtracted_sound state (length scratch) l.shape l.scratch

      pub save-row-4 : sound state ≡ false → 4 ≡ told
      unfolding save_number save_verdict save_rows
      save-row-4 r =
          sym (ap row_number (skip 21 turned _ _ t
          (skip 1 (not fit) _ _ (ap not f) (stop 4 (not (sound state)) _ (ap not r)))))

      module _ (r : sound state ≡ true) (total : ℕ) (e : total ≡ frames_for n (length entries)) where
        abbrev wrong : Bool
        wrong = not (eqb (length image) (512 * frames_for n (length entries)))

        pub save-row-12 : (length image ≡ 512 * total → ⊥) → 12 ≡ told
        unfolding save_number save_verdict save_rows
        save-row-12 h =
            sym (ap row_number (skip 21 turned _ _ t
            (skip 1 (not fit) _ _ (ap not f) (skip 4 (not (sound state)) _ _ (ap not r)
            (stop 12 wrong []
            (ap not (ne_eqb (length image) (512 * frames_for n (length entries))
            (λ q. h (q ∙ ap (λ (x : ℕ). 512 * x) (sym e))))))))))

        pub save-row-none : length image ≡ 512 * total → 0 ≡ told
        unfolding save_number save_verdict save_rows
        save-row-none h =
            sym (ap row_number (skip 21 turned _ _ t
            (skip 1 (not fit) _ _ (ap not f) (skip 4 (not (sound state)) _ _ (ap not r)
            (skip 12 wrong [] _
            (ap not (eq-eqb (length image) (512 * frames_for n (length entries)) (h ∙ ap (λ (x : ℕ). 512 * x) e)))
            none_left)))))
