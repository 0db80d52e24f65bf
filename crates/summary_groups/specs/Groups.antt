-- The groups of words of a map, and what a summary tells of one (document 02, request (j)): where group g lies, the free run at
-- its head, at its tail and its longest, and a group built from its two halves.
-- Assumes nothing.
use Rattle.std.specs.Prelude.{ℕ, zero, suc, ◌+◌, ◌-◌, ◌*◌, ◌/◌, ◌%◌, ◌^◌, max, Bool, cond, ◌==◌, nat_lt}
use Rattle.survey_bytes.specs.Runs.{head_of, tail_of, longest_of}
use Rattle.survey.specs.Survey.{blocks}
use Rattle.summary_groups.specs.declared.Group.{Group}

-- q doubled until it is not below w, m times at the most.
unfoldable pub doubled : ℕ → ℕ → ℕ → ℕ
doubled zero q w = q
doubled (suc m) q w = cond (nat_lt q w) (doubled m (2 * q) w) q

-- p, the least power of two not below w: 1 doubled until it is not below w.
unfoldable pub power : ℕ → ℕ
unfolding doubled
power w = doubled w 1 w

-- Where a group lies: its first word, and how many words it has.
pub record Span : Type 0 where
  pub first : ℕ
  pub size : ℕ

abbrev pub first_half : Span → Span
first_half l = record { first = l.first; size = l.size / 2 }

abbrev pub second_half : Span → Span
second_half l = record { first = l.first + l.size / 2; size = l.size / 2 }

-- Groups 2g + 1 and 2g + 2 are the first and second half of group g: so group h is the first where it is odd.
unfoldable pub half_of : ℕ → Span → Span
half_of h l = cond (h % 2 == 1) (first_half l) (second_half l)

-- Group 0 is all p words, and any other group h a half of group (h - 1) / 2. The first argument bounds how often a group is a
-- half of another.
unfoldable pub place_in : ℕ → ℕ → ℕ → Span
unfolding half_of
place_in zero p h = record { first = 0; size = p }
place_in (suc m) p h = cond (h == 0) (record { first = 0; size = p }) (half_of h (place_in m p ((h - 1) / 2)))

unfoldable pub place : ℕ → ℕ → Span
unfolding place_in
place p g = place_in g p g

-- What a summary tells of the m blocks from b on, f saying which are free: the free run at their head, at their tail, and their
-- longest.
unfoldable pub group_of : (ℕ → Bool) → ℕ → ℕ → Group
group_of f b m = record {
  head = head_of (blocks f b m);
  tail = tail_of (blocks f b m);
  longest = longest_of (blocks f b m);
}

-- A run at one end of m blocks, which goes on into `next` more where it is all of them. The numbers of a summary have 32 bits,
-- and a false one can have any: sums are taken modulo 2 ^ 32. Where a summary is true, no sum comes to that.
abbrev pub carried_of : ℕ → ℕ → ℕ → ℕ
carried_of run m next = cond (run == m) ((m + next) % 2 ^ 32) run

-- A group built from its two halves, of m blocks each.
abbrev pub joined_of : Group → Group → ℕ → Group
joined_of a b m = record {
  head = carried_of a.head m b.head;
  tail = carried_of b.tail m a.tail;
  longest = max (max a.longest b.longest) ((a.tail + b.head) % 2 ^ 32);
}
