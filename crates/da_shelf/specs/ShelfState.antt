-- A shelf in memory, as contracts see it.
use Rattle.std.specs.Prelude.{ℕ, List, ◌==◌, Bool, if◌then◌else◌, refl}
use Rattle.std.specs.List.{list_any}
use Rattle.std.specs.Coded.{Coded, code_by, coded×, coded_list, coded_ℕ}
use Rattle.std.specs.FinMap.{empty, insert, code}
use Rattle.da_shelf.specs.Counts.{raised}
use Rattle.da_shelf.specs.Told.{Files}

pub record ShelfState : Type 0 where
  -- what is held
  pub held : Files
  -- how many reads there were
  pub reads : ℕ
  -- how many of them failed
  pub read_faults : ℕ
  -- how many replaces there were
  pub replaces : ℕ
  -- how many of them failed
  pub replace_faults : ℕ
  -- the reads that fail, by number from 1 on
  pub fail_reads : List ℕ
  -- the replaces that fail, by number from 1 on
  pub fail_replaces : List ℕ

-- equality of two states is that of their parts
abbrev pub shelf_code : Coded ShelfState
shelf_code =
    code_by (Files × (ℕ × (ℕ × (ℕ × (ℕ × (List ℕ × List ℕ)))))) (coded× (code (coded_list coded_ℕ) (coded_list coded_ℕ))
    (coded× coded_ℕ (coded× coded_ℕ (coded× coded_ℕ (coded× coded_ℕ (coded× (coded_list coded_ℕ) (coded_list coded_ℕ)))))))
    (λ s. (s.held, (s.reads, (s.read_faults, (s.replaces, (s.replace_faults, (s.fail_reads, s.fail_replaces)))))))
    (λ p. record { held = p.0; reads = p.1.0; read_faults = p.1.1.0; replaces = p.1.1.1.0; replace_faults = p.1.1.1.1.0; fail_reads = p.1.1.1.1.1.0; fail_replaces = p.1.1.1.1.1.1 })
    (λ _. refl)

-- a shelf that holds nothing, before its first read and its first replace
abbrev pub empty_shelf : List ℕ → List ℕ → ShelfState
empty_shelf fail_reads fail_replaces =
    record { held = empty; reads = 0; read_faults = 0; replaces = 0; replace_faults = 0; fail_reads = fail_reads; fail_replaces = fail_replaces }

-- the shelf with these bytes under the name
abbrev pub holding : ShelfState → List ℕ → List ℕ → ShelfState
holding shelf name bytes = record shelf { held = insert shelf.held name bytes }

-- whether the next read is one of those that fail
abbrev pub read_fails : ShelfState → Bool
read_fails shelf = list_any (λ number. number == raised shelf.reads) shelf.fail_reads

-- the shelf after its next read
abbrev pub after_read : ShelfState → ShelfState
after_read shelf =
    record shelf {
      reads = raised shelf.reads;
      read_faults = if read_fails shelf then raised shelf.read_faults else shelf.read_faults;
    }

-- whether the next replace is one of those that fail
abbrev pub replace_fails : ShelfState → Bool
replace_fails shelf = list_any (λ number. number == raised shelf.replaces) shelf.fail_replaces

-- the shelf after its next replace, but for what it holds
abbrev pub after_replace : ShelfState → ShelfState
after_replace shelf =
    record shelf {
      replaces = raised shelf.replaces;
      replace_faults = if replace_fails shelf then raised shelf.replace_faults else shelf.replace_faults;
    }
