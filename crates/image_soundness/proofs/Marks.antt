-- The rule of a mark, mark by mark: whether an entry would be undamaged if no block were free.
-- Assumes nothing.
use mathlib.Core.Path.{◌≡◌, refl, sym, ap, ◌∙◌}
use mathlib.Core.Bool.{Bool, true, false, not, ◌&&◌, cond}
use Prim.Native.Nat.{ℕ, ◌+◌}
use lib.Dec.{leb, eqb}
use borrow.Author.Tests.{eq-eqb, ne_eqb}
use Rattle.catalogue.specs.Entries.{absent_mark, paused_mark, open_mark, complete_mark}
use Rattle.map_blocks.specs.Blocks.{all}
use Rattle.map_blocks.proofs.Runs.{all_intro}
use Rattle.catalogue.specs.declared.Entry.{Entry}
use Rattle.catalogue_standings.specs.Standings.{extent_holds, standing_of, is_damaged}
use Rattle.catalogue_standings.specs.declared.Standing.TheVariants.{Absent, Paused, PausedWith, Open, Complete, Damaged}
use Rattle.image_soundness.specs.Windows.{keeps_rule}

-- by the entry's mark, by whether start and length are 0, and by whether it has an extent inside n
abbrev rule : Bool → Bool → Bool → Bool → Bool → Bool → Bool
rule p q o k zeros inside = cond p zeros (cond q (cond zeros true inside) (cond o inside (cond k inside false)))

by_mark : (e : Entry) (p q o k z h : Bool)
    → not (is_damaged (cond p (cond z Absent Damaged)
    (cond q (cond z Paused (cond h (PausedWith e.start e.length) Damaged))
    (cond o (cond h (Open e.start e.length) Damaged)
    (cond k (cond h (Complete e.start e.length) Damaged) Damaged)))))
    ≡ rule p q o k z h
by_mark e true q o k true h = refl
by_mark e true q o k false h = refl
by_mark e false true o k true h = refl
by_mark e false true o k false true = refl
by_mark e false true o k false false = refl
by_mark e false false true k z true = refl
by_mark e false false true k z false = refl
by_mark e false false false true z true = refl
by_mark e false false false true z false = refl
by_mark e false false false false z h = refl

-- an extent that holds where no block is free
extent_alone : (n s l : ℕ) → extent_holds n (λ b. false) s l ≡ (leb 1 l && leb (s + l) n)
unfolding extent_holds
extent_alone n s l = by (leb 1 l && leb (s + l) n) (all (λ b. true) s l) (all_intro (λ b. true) s l (λ b p q. refl))
  where
    by : (a b : Bool) → b ≡ true → (a && b) ≡ a
    by true b e = e
    by false b e = refl

module _ (n : ℕ) (e : Entry) where
  abbrev zeros : Bool
  zeros = eqb e.start 0 && eqb e.length 0

  abbrev inside : Bool
  inside = leb 1 e.length && leb (e.start + e.length) n

  kept : keeps_rule n e ≡ rule (eqb e.mark absent_mark) (eqb e.mark paused_mark) (eqb e.mark open_mark)
      (eqb e.mark complete_mark) zeros inside
  unfolding keeps_rule standing_of
  kept =
      by_mark e (eqb e.mark absent_mark) (eqb e.mark paused_mark) (eqb e.mark open_mark) (eqb e.mark complete_mark)
      zeros (extent_holds n (λ b. false) e.start e.length)
      ∙ ap (rule (eqb e.mark absent_mark) (eqb e.mark paused_mark) (eqb e.mark open_mark) (eqb e.mark complete_mark)
      zeros) (extent_alone n e.start e.length)

  pub rule_absent : e.mark ≡ absent_mark → zeros ≡ keeps_rule n e
  rule_absent h = sym (kept ∙ simp (eq-eqb e.mark absent_mark h))

  module _ (a : e.mark ≡ absent_mark → ⊥) where
    pub rule-paused : e.mark ≡ paused_mark → cond zeros true inside ≡ keeps_rule n e
    rule-paused h = sym (kept ∙ simp (ne_eqb e.mark absent_mark a, eq-eqb e.mark paused_mark h))

    module _ (p : e.mark ≡ paused_mark → ⊥) where
      pub rule-open : e.mark ≡ open_mark → inside ≡ keeps_rule n e
      rule-open h =
          sym (kept ∙ simp (ne_eqb e.mark absent_mark a, ne_eqb e.mark paused_mark p, eq-eqb e.mark open_mark h))

      module _ (o : e.mark ≡ open_mark → ⊥) where
        pub rule-complete : e.mark ≡ complete_mark → inside ≡ keeps_rule n e
        rule-complete h =
            sym (kept ∙ simp (
              ne_eqb e.mark absent_mark a,
              ne_eqb e.mark paused_mark p,
              ne_eqb e.mark open_mark o,
              eq-eqb e.mark complete_mark h,
            ))

        pub rule-none : (e.mark ≡ complete_mark → ⊥) → false ≡ keeps_rule n e
        rule-none h =
            sym (kept ∙ simp (
              ne_eqb e.mark absent_mark a,
              ne_eqb e.mark paused_mark p,
              ne_eqb e.mark open_mark o,
              ne_eqb e.mark complete_mark h,
            ))
