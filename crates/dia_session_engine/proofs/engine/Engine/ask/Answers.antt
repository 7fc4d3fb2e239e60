use Rattle.std.proofs.Common.{[], refl, sym, subst}
use Rattle.table_keep.specs.Model.{entries_so}
use Rattle.std.specs.String.{string_bytes}
use Rattle.dia_session_engine.specs.Held.{AreReportsOn, held_by}
use Rattle.dia_session_engine.proofs.Exits as e
use Rattle.dia_session_engine.proofs.engine.Engine.ask.Goals as goal

pub returns-in-Ok-clause-distinct : goal.returns-in-Ok-clause-distinct
returns-in-Ok-clause-distinct g c =
    e.asked_own string_bytes c.self.inside.names.keys c.self.inside.sources.items c.self.inside.bytes c.self.invariant.0 c.args.self.now c.self.view_is c.as_slice.result.now c.as_slice.ensures.value
    c.in-Ok.ensures.distinct

pub returns-in-Ok-clause-reports : goal.returns-in-Ok-clause-reports
returns-in-Ok-clause-reports g c =
    subst (AreReportsOn (held_by c.args.self.now)) (sym c.reports_of.ensures)
    (e.asked_reports string_bytes c.self.inside.names.keys c.self.inside.sources.items c.self.inside.bytes c.self.invariant.0 c.args.self.now c.self.view_is c.in-Ok.analysis.reports []
    (entries_so c.in-Ok.analysis.table) c.as_slice.result.now c.as_slice.ensures.value refl c.in-Ok.ensures.written)

pub returns-in-Err-clause-set : goal.returns-in-Err-clause-set
returns-in-Err-clause-set g c =
    e.asked_set string_bytes c.self.inside.names.keys c.self.inside.sources.items c.self.inside.bytes c.self.invariant.0 c.args.self.now c.self.view_is c.as_slice.result.now c.in-Err.fault
    c.as_slice.ensures.value c.in-Err.ensures.set
