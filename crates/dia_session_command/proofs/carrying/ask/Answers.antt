use Rattle.std.proofs.Common.{refl, subst}
use Rattle.analysis.specs.Reports.{IsSetFault}
use Rattle.dia_session_command.proofs.LineExits.{first_within, is_reported, is_same_name, names, second_within, twins}
use Rattle.dia_session_command.proofs.carrying.ask.Goals as goal

pub returns-in-Ok : goal.returns-in-Ok
returns-in-Ok g c =
    is_reported c.args.engine.now c.ask.new.self c.in-Ok.reports c.as_slice.result.now c.asked_lines.result c.in-Ok.ensures.held c.in-Ok.ensures.distinct c.in-Ok.ensures.reports c.as_slice.ensures c.asked_lines.ensures

pub file_at-requires : goal.file_at-requires
file_at-requires g c =
    second_within c.args.engine.now c.ask.new.self c.in-Err-Set-DuplicateModule.field-0-0 c.in-Err-Set-DuplicateModule.ensures.held
    (subst (IsSetFault (names c.args.engine.now)) c.in-Err-Set-DuplicateModule.field-0-is c.in-Err-Set-DuplicateModule.ensures.set) _ (λ i j e. rw e refl)

pub file_at-requires-in-Err-Set-DuplicateModule : goal.file_at-requires-in-Err-Set-DuplicateModule
file_at-requires-in-Err-Set-DuplicateModule g c =
    first_within c.args.engine.now c.ask.new.self c.in-Err-Set-DuplicateModule.field-0-0 c.in-Err-Set-DuplicateModule.ensures.held
    (subst (IsSetFault (names c.args.engine.now)) c.in-Err-Set-DuplicateModule.field-0-is c.in-Err-Set-DuplicateModule.ensures.set) _ (λ i j e. rw e refl)

pub returns-in-Err-Set-DuplicateModule : goal.returns-in-Err-Set-DuplicateModule
returns-in-Err-Set-DuplicateModule g c =
    is_same_name c.args.engine.now c.ask.new.self _ _ c.file_at.result.now c.file_at-in-Err-Set-DuplicateModule.result.now c.duplicate_line.result c.in-Err-Set-DuplicateModule.ensures.held
    (twins c.args.engine.now c.in-Err-Set-DuplicateModule.field-0-0 _ _ (subst (IsSetFault (names c.args.engine.now)) c.in-Err-Set-DuplicateModule.field-0-is c.in-Err-Set-DuplicateModule.ensures.set)
    (λ i j e. (rw e refl, rw e refl)))
    c.file_at.ensures c.file_at-in-Err-Set-DuplicateModule.ensures c.duplicate_line.ensures
