-- Counts of faults, which a machine word keeps.
use Rattle.std.specs.Prelude.{◌≡◌, ℕ, ◌+◌, ◌-◌, ◌^◌, ◌<◌, ◌⊎◌, min}

-- the last value of a count, at which it stands still
abbrev pub last_count : ℕ
last_count = 2 ^ 64 - 1

-- a count after one more
abbrev pub raised : ℕ → ℕ
raised count = min (count + 1) last_count

-- A count rose in a call, or it stands at its last value, where it can't rise.
abbrev pub Rose : ℕ → ℕ → Type 0
Rose before now = (before < now) ⊎ (now ≡ last_count)

-- How many reads of files there were, and how often reading and replacing failed.
pub record FileCounts : Type 0 where
  pub reads : ℕ
  pub read_faults : ℕ
  pub replace_faults : ℕ

abbrev pub no_counts : FileCounts
no_counts = record { reads = 0; read_faults = 0; replace_faults = 0 }

-- after one more read
abbrev pub after_one_read : FileCounts → FileCounts
after_one_read counts = record counts { reads = raised counts.reads }

-- after one more read that failed
abbrev pub after_failed_read : FileCounts → FileCounts
after_failed_read counts = record counts { reads = raised counts.reads; read_faults = raised counts.read_faults }

-- after one more replace that failed
abbrev pub after_failed_replace : FileCounts → FileCounts
after_failed_replace counts = record counts { replace_faults = raised counts.replace_faults }
