use Rattle.std.proofs.Common.{Err, ap, subst}
use Rattle.da_shelf.specs.Reads.{gave_none}
use Rattle.analysis_sources.proofs.ToldReadings.{source_told, bytes_fail_told, missing_told, failed_told, memory_told}
use Rattle.analysis_sources.proofs.Readings.{bytes_fail}
use Rattle.analysis_sources.proofs.reading.read_source.Goals as goal

pub returns-in-Ok-clause-fault : goal.returns-in-Ok-clause-fault
returns-in-Ok-clause-fault g c =
    bytes_fail (g.F.Shelf.held c.args.shelf.now) c.args.file.now c.in-Ok.bytes.items c.as_slice.result.now c.args.word c.args.before
    (g.F.Shelf.read_faults c.args.shelf.now) (g.F.Shelf.read_faults c.read.new.self) c.source_of.result c.as_slice.ensures.value c.in-Ok.ensures.read c.source_of.ensures.fault

pub returns-in-Ok-clause-told : goal.returns-in-Ok-clause-told
returns-in-Ok-clause-told g c =
    source_told g.F.Shelf.told c.args.shelf.now c.read.new.self c.args.file.now c.in-Ok.bytes.items c.as_slice.result.now c.args.before c.source_of.result
    c.in-Ok.ensures.told c.as_slice.ensures.value c.source_of.ensures.source c.source_of.ensures.length

pub returns-in-Ok-clause-told_fault : goal.returns-in-Ok-clause-told_fault
returns-in-Ok-clause-told_fault g c =
    bytes_fail_told g.F.Shelf.told c.args.shelf.now c.read.new.self c.args.file.now c.in-Ok.bytes.items c.as_slice.result.now c.args.word c.args.before
    (g.F.Shelf.read_faults c.args.shelf.now) (g.F.Shelf.read_faults c.read.new.self) c.source_of.result c.in-Ok.ensures.told c.as_slice.ensures.value c.source_of.ensures.fault

pub returns-in-Err-Missing-clause-told_fault : goal.returns-in-Err-Missing-clause-told_fault
returns-in-Err-Missing-clause-told_fault g c =
    missing_told g.F.Shelf.told c.args.shelf.now c.read.new.self c.args.file.now c.args.word c.args.before (g.F.Shelf.read_faults c.args.shelf.now) (g.F.Shelf.read_faults c.read.new.self)
    (subst (λ f. g.F.Shelf.told c.args.shelf.now c.read.new.self (gave_none c.args.file.now f)) c.in-Err-Missing.field-0-is c.in-Err-Missing.ensures.told_fault)

pub returns-in-Err-Failed-clause-told_fault : goal.returns-in-Err-Failed-clause-told_fault
returns-in-Err-Failed-clause-told_fault g c =
    failed_told g.F.Shelf.told c.args.shelf.now c.read.new.self c.args.file.now c.args.word c.args.before (g.F.Shelf.read_faults c.args.shelf.now) (g.F.Shelf.read_faults c.read.new.self)
    (subst (λ f. g.F.Shelf.told c.args.shelf.now c.read.new.self (gave_none c.args.file.now f)) c.in-Err-Failed.field-0-is c.in-Err-Failed.ensures.told_fault) (c.in-Err-Failed.ensures.failed (ap Err c.in-Err-Failed.field-0-is))

pub returns-in-Err-Memory-clause-told_fault : goal.returns-in-Err-Memory-clause-told_fault
returns-in-Err-Memory-clause-told_fault g c =
    memory_told g.F.Shelf.told c.args.shelf.now c.read.new.self c.args.file.now c.args.word c.args.before (g.F.Shelf.read_faults c.args.shelf.now) (g.F.Shelf.read_faults c.read.new.self)
    (subst (λ f. g.F.Shelf.told c.args.shelf.now c.read.new.self (gave_none c.args.file.now f)) c.in-Err-Memory.field-0-is c.in-Err-Memory.ensures.told_fault)
