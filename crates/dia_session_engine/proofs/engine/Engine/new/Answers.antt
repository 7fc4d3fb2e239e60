use Rattle.std.proofs.Common.{◌≡◌, [], map, sym, subst, rules}
use Rattle.std.specs.String.{string_bytes}
use Rattle.dia_session_engine.specs.steps.Holding.{IsKept, HasReports}
use Rattle.dia_session_engine.proofs.Exits as e
use Rattle.dia_session_engine.proofs.Reports.{no_reports}
use Rattle.dia_session_engine.proofs.engine.Engine.new.Goals as goal

pub invariant_of-result : goal.invariant_of-result
invariant_of-result c =
    let names : map string_bytes c.new.result.keys ≡ [] = search rules in (
      subst (λ ns. IsKept ns c.new-2.result.items 0) (sym names) (subst (λ ss. IsKept [] ss 0) (sym c.new-2.ensures.items) e.kept_none),
      subst (HasReports c.new-2.result.items) (sym c.new-3.ensures) (subst (λ ss. HasReports ss []) (sym c.new-2.ensures.items) no_reports),
    )
