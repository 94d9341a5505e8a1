-- Which steps read a step, as lists that run through the steps; no public contract speaks of it.
use Rattle.std.specs.Prelude.{◌≡◌, ℕ, ◌+◌, ◌<◌, ◌≤◌, true, false, List, [], None, length, slice_index, slice_index_or}
use Rattle.mw_ready.specs.declared.need.Need.{Need}
use Rattle.mw_ready.specs.declared.links.Link.{Link}
use Rattle.mw_ready.specs.Boards.{is_source, step_reads, no_need}

-- what stands behind the last link
abbrev pub no_link : Link
no_link = record { first = 0; next = [] }

abbrev pub link_at : List Link → ℕ → Link
link_at links s = slice_index_or links s no_link

-- No step from one on, before another, reads step s.
pub record Skips (needs : List Need) (s from to : ℕ) : Type 0 where
  pub ordered : from ≤ to
  pub none : (k : ℕ) → from ≤ k → k < to → step_reads (slice_index_or needs k no_need) s ≡ false

-- Of the steps from n on the links tell who reads each step: none before the first reader, and none between a reader and
-- the one that stands beside it.
pub record Linked (needs : List Need) (links : List Link) (n : ℕ) : Type 0 where
  pub size : length links ≡ length needs
  pub first : (s : ℕ) → s < length needs → Skips needs s n (link_at links s).first
  pub next : (k i s : ℕ) → n ≤ k → k < length needs → i < 3 → s < length needs → is_source s (slice_index_or (slice_index_or needs k no_need).steps i None) ≡ true
      → Skips needs s (k + 1) (slice_index (link_at links k).next i)
