use Rattle.std.proofs.Common.{[], ◌∷◌, refl, subst}
use Rattle.analysis_sources.specs.Reading.{Fails}
use Rattle.dia_session_engine.specs.Held.{held_by}
use Rattle.dia_session_command.specs.Script.Request.{to_replace}
use Rattle.dia_session_command.specs.steps.Carrying.{fails}
use Rattle.dia_session_command.proofs.LineExits.{goes_on_so, is_not_read, one_source, reads_file}
use Rattle.dia_session_command.proofs.carrying.replace.Goals as goal

pub only-requires : goal.only-requires
only-requires g c = one_source (g.F.Shelf.held c.args.shelf.now) c.args.file.now c.in-Ok.sources c.in-Ok.ensures.sources.0 c.in-Ok.ensures.sources.1

pub returns-in_ok-put-in-Ok-clause-gives : goal.returns-in_ok-put-in-Ok-clause-gives
returns-in_ok-put-in-Ok-clause-gives g c =
    goes_on_so (g.F.Shelf.held c.args.shelf.now) (held_by c.args.engine.now) (held_by c.put.new.engine) (to_replace c.args.file.now) (g.F.Shelf.read_faults c.args.shelf.now)
    (g.F.Shelf.read_faults c.read_sources.new.shelf) c.in_ok-put-in-Ok.field-0 c.goes_on.result c.goes_on.ensures
    (c.in_ok-put-in-Ok.ensures (g.F.Shelf.held c.args.shelf.now)
    (reads_file (g.F.Shelf.held c.args.shelf.now) c.args.file.now c.in-Ok.sources c.only.result c.only.ensures c.in-Ok.ensures.lengths))

pub returns-in_ok-refusal_line-in-Err-Refused-clause-gives : goal.returns-in_ok-refusal_line-in-Err-Refused-clause-gives
returns-in_ok-refusal_line-in-Err-Refused-clause-gives g c =
    is_not_read (g.F.Shelf.held c.args.shelf.now) (held_by c.args.engine.now) c.args.file.now (g.F.Shelf.read_faults c.args.shelf.now) (g.F.Shelf.read_faults c.read_sources.new.shelf) _ c.in-Err-Refused.fault
    c.in_ok-refusal_line-in-Err-Refused.field-0 c.goes_on-in-Err-Refused.result
    (subst (Fails (g.F.Shelf.held c.args.shelf.now) (c.args.file.now ∷ []) 0 (g.F.Shelf.read_faults c.args.shelf.now) (g.F.Shelf.read_faults c.read_sources.new.shelf)) c.in-Err-Refused.field-0-is
    c.in-Err-Refused.ensures.fault)
    c.in_ok-refusal_line-in-Err-Refused.ensures c.goes_on-in-Err-Refused.ensures

pub returns-in_ok-read_fault_line-in-Err-Failed-clause-gives : goal.returns-in_ok-read_fault_line-in-Err-Failed-clause-gives
returns-in_ok-read_fault_line-in-Err-Failed-clause-gives g c =
    let failed =
    subst (Fails (g.F.Shelf.held c.args.shelf.now) (c.args.file.now ∷ []) 0 (g.F.Shelf.read_faults c.args.shelf.now) (g.F.Shelf.read_faults c.read_sources.new.shelf)) c.in-Err-Failed.field-0-is
    c.in-Err-Failed.ensures.fault in
    fails c.args.file.now refl refl c.in_ok-read_fault_line-in-Err-Failed.ensures failed.3
