use Rattle.std.proofs.Common.{take}
use Rattle.module_flow.specs.steps.Readers.{IsReader, KeepsReaders}
use Rattle.module_flow.proofs.readers.Readers.note_all.Given as goal

abbrev pub invariant-loop-label : goal.invariant-loop-label
invariant-loop-label l = record {
  kept : KeepsReaders l.fn.self.table l.self.table;
  noted : IsReader l.self.table (take l.label-index l.labels) l.position;
}
