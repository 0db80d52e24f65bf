-- The rows of load, test by test.
-- Assumes nothing.
use mathlib.Core.Path.{◌≡◌, sym, ap}
use mathlib.Core.Bool.{Bool, true, false, not, ◌&&◌}
use mathlib.Core.List.{List, []}
use Prim.Native.Nat.{ℕ}
use lib.ListN.{length}
use Rattle.catalogue_standings.proofs.Openings.{skip, stop, none_left}
use Rattle.catalogue_standings.specs.Rows.{row_number}
use Rattle.image_frames.specs.Frames.{total_of, framed}
use Rattle.image_soundness.specs.Sound.{sound}
use Rattle.image.specs.Image.{blocks_in, free_count_in, sheets_in, state_in, filled}
use Rattle.image.specs.Table.{whole_blocks, head_fits, load_fits, load_rows, load_verdict}

-- load
module _ (turned : Bool) (image : List ℕ) (maplen count scratchlen : ℕ) where
  abbrev head : Bool
  head = head_fits (blocks_in image) (free_count_in image) (sheets_in image) (total_of image)

  abbrev lent : Bool
  lent = load_fits (blocks_in image) (sheets_in image) maplen count scratchlen

  abbrev content : Bool
  content = sound (state_in image) && filled image (blocks_in image) (sheets_in image)

  pub load_row_21 : turned ≡ true → 21 ≡ row_number (load_verdict turned image maplen count scratchlen)
  unfolding load_verdict load_rows
  load_row_21 t = sym (ap row_number (stop 21 turned _ t))

  module _ (t : turned ≡ false) where
    pub load_row_12 : whole_blocks (length image) ≡ false → 12 ≡ row_number (load_verdict turned image maplen count scratchlen)
    unfolding load_verdict load_rows
    load_row_12 w = sym (ap row_number (skip 21 turned _ _ t (stop 12 (not (whole_blocks (length image))) _ (ap not w))))

    module _ (w : whole_blocks (length image) ≡ true) where
      pub load_row_13 : framed image ≡ false → 13 ≡ row_number (load_verdict turned image maplen count scratchlen)
      unfolding load_verdict load_rows
      load_row_13 f =
          sym (ap row_number (skip 21 turned _ _ t (skip 12 (not (whole_blocks (length image))) _ _ (ap not w)
          (stop 13 (not (framed image)) _ (ap not f)))))

      module _ (f : framed image ≡ true) where
        pub load_row_14 : head ≡ false → 14 ≡ row_number (load_verdict turned image maplen count scratchlen)
        unfolding load_verdict load_rows
        load_row_14 h =
            sym (ap row_number (skip 21 turned _ _ t (skip 12 (not (whole_blocks (length image))) _ _ (ap not w)
            (skip 13 (not (framed image)) _ _ (ap not f) (stop 14 (not head) _ (ap not h))))))

        module _ (h : head ≡ true) where
          pub load_row_1 : lent ≡ false → 1 ≡ row_number (load_verdict turned image maplen count scratchlen)
          unfolding load_verdict load_rows
          load_row_1 l =
              sym (ap row_number (skip 21 turned _ _ t (skip 12 (not (whole_blocks (length image))) _ _ (ap not w)
              (skip 13 (not (framed image)) _ _ (ap not f)
              (skip 14 (not head) _ _ (ap not h) (stop 1 (not lent) _ (ap not l)))))))

          module _ (l : lent ≡ true) where
            pub load_row_content : content ≡ false → 14 ≡ row_number (load_verdict turned image maplen count scratchlen)
            unfolding load_verdict load_rows
            load_row_content c =
                sym (ap row_number (skip 21 turned _ _ t (skip 12 (not (whole_blocks (length image))) _ _ (ap not w)
                (skip 13 (not (framed image)) _ _ (ap not f) (skip 14 (not head) _ _ (ap not h)
                (skip 1 (not lent) _ _ (ap not l) (stop 14 (not content) [] (ap not c))))))))

            pub load_row_none : content ≡ true → 0 ≡ row_number (load_verdict turned image maplen count scratchlen)
            unfolding load_verdict load_rows
            load_row_none c =
                sym (ap row_number (skip 21 turned _ _ t (skip 12 (not (whole_blocks (length image))) _ _ (ap not w)
                (skip 13 (not (framed image)) _ _ (ap not f) (skip 14 (not head) _ _ (ap not h)
                (skip 1 (not lent) _ _ (ap not l) (skip 14 (not content) [] _ (ap not c) none_left)))))))
