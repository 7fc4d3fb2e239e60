use Rattle.std.proofs.Common.{◌≡◌, ℕ, Result, Some, IfOk, slice_get, sym, subst}
use Rattle.type_kinds.specs.declared.memory.Memory.{Memory}
use Rattle.core_scope.proofs.Tables.{numbered_known, inserted}
use Rattle.core_scope.proofs.names.number_of.Goals as goal
use Rattle.core_scope.proofs.names.number_of.Goals.{in-Ok, in-Err}

pub returns-in-Some-clause-number : goal.returns-in-Some-clause-number
returns-in-Some-clause-number g c = numbered_known g.T.PartialEq.eq g.met.T.Eq.laws g.met.T.Name.same c.args.numbers.now.keys c.args.name.now c.in-Some.number (sym c.in-Some.ensures.index)

pub returns-after-insert-clause-number : goal.returns-after-insert-clause-number
returns-after-insert-clause-number g c =
    let P : Result ℕ Memory → Type 0 = λ r. IfOk r (λ number. slice_get c.insert.new.self.keys number ≡ Some c.args.name.now) in
    elim c.match-insert.branch [
      | in-Ok w ↦ subst P (sym w.result-is) (inserted g.T.PartialEq.eq g.met.T.Eq.laws c.args.numbers.now.keys c.insert.new.self.keys c.args.name.now c.in_ok-copy-in-None.copy c.len-number.result c.in_ok-copy-in-None.ensures
          (sym c.in-None.ensures.found) c.len-number.ensures.len w.in-Ok.ensures.keys)
      | in-Err w ↦ subst P (sym w.result-is) tt
    ]
