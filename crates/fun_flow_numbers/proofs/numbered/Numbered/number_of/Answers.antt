use Rattle.std.proofs.Common.{◌≡◌, ℕ, Contains, Some, slice_get, subst}
use Rattle.std.specs.Prelude.{IfNone, IfSome}
use Rattle.fun_flow_numbers.proofs.Numbers.{found_if, missing_if, only_if}
use Rattle.fun_flow_numbers.proofs.numbered.Numbered.number_of.Goals as goal

pub returns-clause-found : goal.returns-clause-found
returns-clause-found g c =
    subst (λ xs. IfSome c.get_index_of.result (λ i. slice_get xs i ≡ Some c.args.value.now)) c.self.view_is
    (found_if g.T.PartialEq.eq g.met.T.Eq.laws g.met.T.Numberable.same c.self.inside.values.keys c.args.value.now c.get_index_of.result c.get_index_of.ensures.index)

pub returns-clause-only : goal.returns-clause-only
returns-clause-only g c =
    subst (λ xs. IfSome c.get_index_of.result (λ i. (j : ℕ) → slice_get xs j ≡ Some c.args.value.now → j ≡ i)) c.self.view_is
    (only_if g.T.PartialEq.eq g.met.T.Eq.laws g.met.T.Numberable.same c.self.inside.values.keys c.self.invariant c.args.value.now c.get_index_of.result c.get_index_of.ensures.index)

pub returns-clause-missing : goal.returns-clause-missing
returns-clause-missing g c =
    subst (λ xs. IfNone c.get_index_of.result (Contains xs c.args.value.now → ⊥)) c.self.view_is
    (missing_if g.T.PartialEq.eq g.met.T.Eq.laws g.met.T.Numberable.same c.self.inside.values.keys c.args.value.now c.get_index_of.result c.get_index_of.ensures.found)
