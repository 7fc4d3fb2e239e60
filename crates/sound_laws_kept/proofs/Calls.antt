-- What leaves a module by a call goes to one of the functions that it calls, and a module exports what its list of exports has.
use Rattle.std.proofs.Common.{◌≡◌, ◌≢◌, Bool, false, List, [], ◌∷◌, ◌||◌, Contains, inl, inr, sym, ap, ◌∙◌, subst}
use Rattle.std.specs.Prelude.{if◌then◌else◌}
use Rattle.std.proofs.lemmas.List.Elements.{Contains-append_left, Contains-append_right}
use Rattle.type_kinds.proofs.Lists.{contains_none, contains_first, contains_cases}
use Rattle.type_kinds.proofs.Truths.{same_tests}
use Rattle.type_kinds.specs.declared.atom.Atom.{Atom}
use Rattle.core_ast.specs.declared.syntax.FunName.{FunName}
use Rattle.core_ast.specs.Model as m
use Rattle.core_scope.specs.Asks.{erlang}
use Rattle.core_scope.specs.Names.{same_atom, has_function}
use Rattle.core_scope.proofs.NameLaws.{not_same, has_contained, contained_has}
use Rattle.call_graph.specs.Outside.{Called}
use Rattle.call_graph.specs.Targets.CallTarget.{remote}
use Rattle.call_graph.specs.Targets.{CallTarget, def_targets}
use Rattle.table_keep.specs.Calls.{leaving, all_leaving, called_functions}
use Rattle.table_keep.specs.Made.{exported}
use Rattle.table_keep.proofs.CallLaws.{called_exactly, exported_exactly}

among_leaving : (own : Atom) (ts : List CallTarget) (h : Atom) (f : FunName) → Contains ts (remote h f) → h ≢ erlang → h ≢ own → Contains (all_leaving own ts) (h, f)
among_leaving own [] h f there far away = absurd (contains_none (remote h f) there)
among_leaving own (t ∷ ts) h f there far away = elim (contains_cases t (remote h f) ts there) [
  | inl same ↦ Contains-append_left (leaving own t) (all_leaving own ts) (h, f) (subst (λ u. Contains {X = Called} (leaving own u) (h, f)) (sym same) leaves)
  | inr more ↦ Contains-append_right (leaving own t) (all_leaving own ts) (h, f) (among_leaving own ts h f more far away)
]
  where
    test : (same_atom h erlang || same_atom h own) ≡ false
    test = ap (λ b. b || same_atom h own) (not_same h erlang far) ∙ not_same h own away

    leaves : Contains (leaving own (remote h f)) (h, f)
    leaves = subst (λ (b : Bool). Contains {X = Called} (if b then [] else (h, f) ∷ []) (h, f)) (sym test) (contains_first (h, f) [])

-- a call by literal names that leaves a module goes to one of the functions that it calls
pub leaves : (x : m.Module) (h : Atom) (f : FunName) → Contains (def_targets [] x.defs) (remote h f) → h ≢ erlang → h ≢ x.name → Contains (called_functions x) (h, f)
leaves x h f there far away = (called_exactly x (h, f)).1 (among_leaving x.name (def_targets [] x.defs) h f there far away)

pub exports_same : (x : m.Module) (f : FunName) → has_function (exported x) f ≡ has_function x.exports f
exports_same x f =
    same_tests (has_function (exported x) f) (has_function x.exports f)
    (λ e. has_contained x.exports f ((exported_exactly x f).0 (contained_has (exported x) f e)))
    (λ e. has_contained (exported x) f ((exported_exactly x f).1 (contained_has x.exports f e)))
