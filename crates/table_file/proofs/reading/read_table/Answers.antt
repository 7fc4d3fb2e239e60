use Rattle.std.proofs.Common.{suc, ◌-◌, ◌+◌, sym, subst, ◌∙◌, arith}
use Rattle.std.proofs.lemmas.Result.{err_from_is_err_and}
use Rattle.table_file.specs.steps.Entries.{FaultIn}
use Rattle.table_file.proofs.TableReading.{is_nil, not_nil, stands, fault_first, table_found}
use Rattle.table_file.proofs.reading.read_table.Goals as goal

pub returns-in_err-entry-clause-fault : goal.returns-in_err-entry-clause-fault
returns-in_err-entry-clause-fault c =
    let p = err_from_is_err_and c.from_residual-in_err-entry.result c.from_residual-in_err-entry.ensures.1 in
    rw (p.1, p.2) (fault_first c.in_err-entry.field-0.0 (c.in-Some.count - (c.loop.counter + 1))
    (stands (suc (c.in-Some.count -
    (c.loop.counter + 1))) c.in_ok-content.ensures.spelled c.in-Some.ensures.found c.loop.invariant.read c.loop.invariant.rise (omega arith))
    (subst (λ before. FaultIn c.in_err-entry.field-0.0 before c.loop.rest.now) c.as_slice.ensures c.in_err-entry.ensures.fault))

pub returns-then-not-is_empty-clause-fault : goal.returns-then-not-is_empty-clause-fault
returns-then-not-is_empty-clause-fault c =
    (c.loop.entries, c.loop.rest.now, stands 0 c.in_ok-content.ensures.spelled c.in-Some.ensures.found c.loop.invariant.read c.loop.invariant.rise (omega arith), not_nil c.loop.rest.now (sym c.is_empty.ensures ∙ c.if-not-is_empty.true))

pub returns-clause-spelled : goal.returns-clause-spelled
returns-clause-spelled c =
    table_found _ c.in_ok-content.ensures.spelled c.in-Some.ensures.found c.loop.invariant.read (omega arith)
    (is_nil c.loop.rest.now (sym c.is_empty.ensures ∙ c.if-not-is_empty.false))
