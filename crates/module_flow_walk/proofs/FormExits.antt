-- The forms that put values together, and calls: what each way out says.
use Rattle.std.proofs.Common.{◌≡◌, Bool, true, false, cond, List, [], ◌∷◌, ◌++◌, length, Some, None, Result, IfOk, is_some, refl, sym, ap, ◌∙◌}
use Rattle.std.proofs.lemmas.Result.{IfOk-weaker}
use Rattle.type_kinds.specs.declared.atom.Atom.{Atom}
use Rattle.core_ast.specs.declared.syntax.Mark.{Mark}
use Rattle.core_ast.specs.Model as m
use Rattle.core_scope.specs.Asks.{function_name, one_value}
use Rattle.type_lattice.specs.Types.{Type4, is_none, meet}
use Rattle.type_lattice.specs.Kinds.{of_kind}
use Rattle.type_lattice.specs.declared.kinds.Kind.TheVariants.{Map}
use Rattle.warn_list.specs.declared.finding.FindingKind.TheVariants.{DeadCall}
use Rattle.warn_list.specs.declared.finding.CallText.TheVariants.{Remote, Value}
use Rattle.module_flow_calls.specs.declared.node_context.NodeContext.{NodeContext}
use Rattle.module_flow_state.specs.declared.walk.FlowWalk.{FlowWalk}
use Rattle.module_flow_calls.specs.NodeContext.{at_node}
use Rattle.module_flow_calls.specs.TypeLists.{Given, where_given, first, value}
use Rattle.module_flow_calls.specs.Calls.{called}
use Rattle.module_flow_state.specs.Applications.{unless_function, unless_given, where_meets}
use Rattle.module_flow_walk.specs.Findings.{found, found_in_all}
use Rattle.module_flow_walk.specs.Contributions.{contributions, contributions_of_all}
use Rattle.module_flow_state.specs.Scopes.{WalkScope}
use Rattle.module_flow_walk.specs.Walk.{then, walk, walk_all}
use Rattle.module_flow_state.specs.World.{World, lenient}
use Rattle.module_flow_walk.specs.steps.Forms.{updated_given}
use Rattle.module_flow_state.specs.steps.Walking.{noting, walk_scope_of}
use Rattle.module_flow_state.proofs.Notes.{then_notes}

-- ---- what is given only where two types have a value in common

pub meets_given : (t u : Type4) (common : Bool) (g : Given) → is_none (meet t u) ≡ cond common false true → cond common g None ≡ where_meets t u g
meets_given t u true g told = sym (ap (λ b. cond b None g) told)
meets_given t u false g told = sym (ap (λ b. cond b None g) told)

told_some : (common : Bool) (ts : List Type4) → common ≡ is_some (cond common (Some ts) None)
told_some true ts = refl
told_some false ts = refl

-- whether they have
pub meets_told : (t u : Type4) (common : Bool) (ts : List Type4) → is_none (meet t u) ≡ cond common false true → common ≡ is_some (where_meets t u (Some ts))
meets_told t u common ts told = told_some common ts ∙ ap (λ g. is_some g) (meets_given t u common (Some ts) told)

-- whether the map that is updated may be one
pub updated_told : {E : Type 0} (r : Result Bool E) (W : World) (sc : WalkScope) (t : m.Tree) (g : Given) (ts : List Type4) (old map : Type4) → g ≡ walk W sc one_value t → g ≡ Some ts → old ≡ first ts → map ≡ of_kind Map
    → IfOk r (λ b. is_none (meet old map) ≡ cond b false true)
    → IfOk r (λ b. b ≡ is_some (updated_given W sc t))
updated_told r W sc t g ts old map is some old_is map_is = IfOk-weaker r (λ b. is_none (meet old map) ≡ cond b false true) (λ b. b ≡ is_some (updated_given W sc t)) (λ b told.
    meets_told old map b (of_kind Map ∷ []) told
    ∙ ap (λ x. is_some (where_meets x map (value (of_kind Map)))) old_is ∙ ap (λ x. is_some (where_meets (first ts) x (value (of_kind Map)))) map_is
    ∙ ap (λ h. is_some (then h (λ us. where_meets (first us) (of_kind Map) (value (of_kind Map))))) (sym some ∙ is))

-- ---- what is given only where all parts give values

module _ (W : World) (a : NodeContext) where
  -- what expressions note, one or several
  abbrev pub NotesOne : FlowWalk → FlowWalk → m.Tree → Type 0
  NotesOne w w1 t = w1 ≡ noting w (contributions W (walk_scope_of w) one_value t) (found W a (walk_scope_of w) one_value t)

  abbrev pub NotesAll : FlowWalk → FlowWalk → m.Trees → Type 0
  NotesAll w w1 ts = w1 ≡ noting w (contributions_of_all W (walk_scope_of w) ts) (found_in_all W a (walk_scope_of w) ts)

  -- ---- pairs and segments

  pub pair_notes : (w w1 w2 : FlowWalk) (t u : m.Tree) → NotesOne w w1 t → NotesOne w1 w2 u
      → w2 ≡ noting w (contributions W (walk_scope_of w) one_value t ++ contributions W (walk_scope_of w) one_value u) (found W a (walk_scope_of w) one_value t ++ found W a (walk_scope_of w) one_value u)
  pair_notes w w1 w2 t u one two =
      then_notes w w1 w2 (contributions W (walk_scope_of w) one_value t) (found W a (walk_scope_of w) one_value t) (λ sc. contributions W sc one_value u) (λ sc. found W a sc one_value u) one two

  pub segment_notes : (w w1 w2 : FlowWalk) (t : m.Tree) (ts : m.Trees) → NotesOne w w1 t → NotesAll w1 w2 ts
      → w2 ≡ noting w (contributions W (walk_scope_of w) one_value t ++ contributions_of_all W (walk_scope_of w) ts) (found W a (walk_scope_of w) one_value t ++ found_in_all W a (walk_scope_of w) ts)
  segment_notes w w1 w2 t ts one two =
      then_notes w w1 w2 (contributions W (walk_scope_of w) one_value t) (found W a (walk_scope_of w) one_value t) (λ sc. contributions_of_all W sc ts) (λ sc. found_in_all W a sc ts) one two

  -- ---- applications of values

  abbrev pub NotesOperator : FlowWalk → FlowWalk → Mark → m.Tree → m.Trees → Type 0
  NotesOperator w w2 k t ts =
      w2 ≡ noting w (contributions W (walk_scope_of w) one_value t ++ contributions_of_all W (walk_scope_of w) ts)
      (found W a (walk_scope_of w) one_value t ++ found_in_all W a (walk_scope_of w) ts
      ++ where_given (walk W (walk_scope_of w) one_value t) (λ operator. where_given (walk_all W (walk_scope_of w) ts) (λ us. unless_function (first operator) (length us) (at_node a k (DeadCall (Value (length us)))))))

  -- ---- calls

  abbrev pub NotesCall : FlowWalk → FlowWalk → Mark → Atom → Atom → m.Trees → Type 0
  NotesCall w w2 k home name ts =
      w2 ≡ noting w (contributions_of_all W (walk_scope_of w) ts) (found_in_all W a (walk_scope_of w) ts
      ++ where_given (walk_all W (walk_scope_of w) ts) (λ us. unless_given (called (lenient W) home name us) (at_node a k (DeadCall (Remote home (function_name name (length us)))))))
