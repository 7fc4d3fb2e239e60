-- A sink in memory, as contracts see it.
use Rattle.std.specs.Prelude.{ℕ, ◌-◌, ◌==◌, List, [], ◌++◌, length, take, min, Bool, ◌||◌, refl}
use Rattle.std.specs.List.{list_any}
use Rattle.std.specs.Coded.{Coded, code_by, coded×, coded_list, coded_ℕ}
use Rattle.da_shelf.specs.Counts.{raised}

pub record SinkState : Type 0 where
  -- all that was written
  pub written : List ℕ
  -- how many bytes one write takes at most
  pub cap : ℕ
  -- how many more bytes there is room for
  pub room : ℕ
  -- how many writes there were
  pub writes : ℕ
  -- how many of them failed
  pub faults : ℕ
  -- the writes that fail, by number from 1 on
  pub fail_writes : List ℕ

-- equality of two states is that of their parts
abbrev pub sink_code : Coded SinkState
sink_code =
    code_by (List ℕ × (ℕ × (ℕ × (ℕ × (ℕ × List ℕ))))) (coded× (coded_list coded_ℕ) (coded× coded_ℕ (coded× coded_ℕ (coded× coded_ℕ (coded× coded_ℕ (coded_list coded_ℕ))))))
    (λ s. (s.written, (s.cap, (s.room, (s.writes, (s.faults, s.fail_writes))))))
    (λ p. record { written = p.0; cap = p.1.0; room = p.1.1.0; writes = p.1.1.1.0; faults = p.1.1.1.1.0; fail_writes = p.1.1.1.1.1 })
    (λ _. refl)

-- a sink before its first write
abbrev pub empty_sink : ℕ → ℕ → List ℕ → SinkState
empty_sink cap room fail_writes =
    record { written = []; cap = cap; room = room; writes = 0; faults = 0; fail_writes = fail_writes }

-- whether the next write is one of those that fail
abbrev pub write_listed : SinkState → Bool
write_listed sink = list_any (λ number. number == raised sink.writes) sink.fail_writes

-- whether the next write fails: it is listed, or it finds no room
abbrev pub write_fails : SinkState → Bool
write_fails sink = write_listed sink || sink.room == 0

-- how many bytes of a piece the next write takes, unless it fails
abbrev pub bytes_taken : SinkState → List ℕ → ℕ
bytes_taken sink piece = min (length piece) (min sink.cap sink.room)

-- the sink after a write that fails
abbrev pub after_fault : SinkState → SinkState
after_fault sink = record sink { writes = raised sink.writes; faults = raised sink.faults }

-- the sink after a write that takes n bytes of a piece
abbrev pub after_taking : SinkState → ℕ → List ℕ → SinkState
after_taking sink n piece =
    record sink { written = sink.written ++ take n piece; room = sink.room - n; writes = raised sink.writes }
