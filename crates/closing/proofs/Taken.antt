-- The map in which the first blocks are taken: the fresh map, with these marked.
-- Assumes nothing.
use Rattle.std.proofs.Common.{◌≡◌, ℕ, ◌*◌, ◌^◌, ◌<◌, ◌≤◌, Bool, false, cond, ◌&&◌, ltb, leb, length, get_or, sym, ap, ◌∙◌}
use Rattle.std.proofs.Common.{subst, ⊎_elim, arith, le-leb}
use borrow.Author.Tests.{lt-leb}
use Rattle.map_blocks.specs.Blocks.{free}
use Rattle.map_blocks.specs.Maps.{map_of, fresh_map, marked, in_run}
use Rattle.laws.proofs.Bools.{order}
use Rattle.map_blocks.proofs.Maps.{map_length, map_at, map_free, map_ext, pack_lt}
use Rattle.image_soundness.proofs.Covers.{run_in, run_out}
use Rattle.closing.specs.Closed.{first_taken}

map_small : (f : ℕ → Bool) (w i : ℕ) → i < w → get_or (map_of f w) i 0 < 2 ^ 64
map_small f w i h = subst (λ (x : ℕ). x < 2 ^ 64) (sym (map_at f w i h)) (pack_lt f (i * 64) 64)

fresh_length : (n w : ℕ) → length (fresh_map n w) ≡ w
unfolding fresh_map
fresh_length n w = map_length (λ b. ltb b n) w

fresh_free : (n w b : ℕ) → b < w * 64 → free (fresh_map n w) b ≡ ltb b n
unfolding fresh_map
fresh_free n w b h = map_free (λ b. ltb b n) w b h

pub taken_first_map : (n w h : ℕ) → marked (fresh_map n w) 0 h false ≡ first_taken h n w
unfolding marked
taken_first_map n w h =
    map_ext (λ b. leb h b && ltb b n) w (map_of f (length (fresh_map n w)))
    (map_length f (length (fresh_map n w)) ∙ fresh_length n w)
    (λ i l. map_small f (length (fresh_map n w)) i (omega (arith, l, fresh_length n w)))
    (λ b l. map_free f (length (fresh_map n w)) b (omega (arith, l, fresh_length n w)) ∙ at b l)
  where
    f : ℕ → Bool
    f b = cond (in_run 0 h b) false (free (fresh_map n w) b)

    at : (b : ℕ) → b < w * 64 → cond (in_run 0 h b) false (free (fresh_map n w) b) ≡ (leb h b && ltb b n)
    at b l =
        ⊎_elim
        (λ (u : b < h).
        ap (λ (t : Bool). cond t false (free (fresh_map n w) b)) (run_in 0 h b (omega arith) (omega arith))
        ∙ ap (λ (t : Bool). t && ltb b n) (sym (lt-leb h b u)))
        (λ (u : h ≤ b).
        ap (λ (t : Bool). cond t false (free (fresh_map n w) b)) (run_out 0 h b (omega arith)) ∙ fresh_free n w b l
        ∙ ap (λ (t : Bool). t && ltb b n) (sym (le-leb h b u)))
        (order b h)
