-- The walk of an expression: what each way out says, by the tree of its form.
use Rattle.std.proofs.Common.{◌≡◌, List, [], ◌∷◌, ◌++◌, length, None, Some, Result, IfOk, OnOk, refl, sym, ap, ◌∙◌, subst}
use Rattle.std.proofs.lemmas.Result.{on_ok_weaker, IfOk-weaker}
use Rattle.type_kinds.specs.declared.atom.Atom.{Atom}
use Rattle.core_ast.specs.declared.syntax.Expr.{Expr}
use Rattle.core_ast.specs.declared.syntax.FunName.{FunName}
use Rattle.core_ast.specs.Model as m
use Rattle.core_ast.specs.Named.{local_name}
use Rattle.core_ast.specs.Tree.{tree}
use Rattle.core_ast.specs.declared.syntax.VarName.{VarName}
use Rattle.core_scope.specs.declared.ask.Ask.{Ask}
use Rattle.core_scope.specs.declared.ask.Ask.TheVariants.{Exactly}
use Rattle.core_scope.specs.Asks.{function_name, one_value, width}
use Rattle.type_lattice.specs.Types.{Type4, any}
use Rattle.cons_gen_rows.specs.Counts.{call_names}
use Rattle.cons_gen_rows.specs.Words.{function_type}
use Rattle.warn_list.specs.declared.finding.Finding.{Finding}
use Rattle.warn_list.specs.declared.finding.FindingKind.TheVariants.{DeadCall}
use Rattle.warn_list.specs.declared.finding.CallText.TheVariants.{Local, Remote, Value}
use Rattle.module_flow_calls.specs.declared.node_context.NodeContext.{NodeContext}
use Rattle.module_flow_state.specs.declared.states.Contribution.{Contribution}
use Rattle.module_flow_state.specs.declared.walk.FlowWalk.{FlowWalk}
use Rattle.module_flow_calls.specs.NodeContext.{at_node, under, under_steps}
use Rattle.module_flow_calls.specs.TypeLists.{Given, where_given, first, value}
use Rattle.module_flow_state.specs.Applications.{applied, may_apply, unless_function, unless_given, enters, where_meets}
use Rattle.module_flow_calls.specs.Calls.{called}
use Rattle.module_flow_walk.specs.Findings.{found, found_in_all, found_in_clauses, found_in_functions, found_in_pairs, found_in_segments, found_in_steps}
use Rattle.module_flow_walk.specs.Contributions.{contributions, contributions_of_all, contributions_of_clauses, contributions_of_functions}
use Rattle.module_flow_walk.specs.Contributions.{contributions_of_pairs, contributions_of_segments, contributions_of_steps, listed_by, where_limited, where_seen}
use Rattle.module_flow_state.specs.Scopes.{WalkScope, with_functions, with_variables}
use Rattle.module_flow_walk.specs.Walk.{if_named, matched_slots, see_steps, seen_by_clauses, seen_by_messages, then, walk, walk_all}
use Rattle.module_flow_state.specs.World.{World, lenient, strict}
use Rattle.module_flow_state.specs.steps.Walking.{noting, walk_scope_of}
use Rattle.module_flow_walk.proofs.FormExits.{NotesCall, NotesOperator}
use Rattle.module_flow_state.proofs.Notes.{noting_none}

-- ---- what is read of a form, whose parts the code reads anew

pub unnamed_call : (x y x1 y1 : Expr) → x1 ≡ x → y1 ≡ y → call_names (tree x) (tree y) ≡ None → call_names (tree x1) (tree y1) ≡ None
unnamed_call x y x1 y1 first second none = (λ i. call_names (tree (first i)) (tree (second i))) ∙ none

-- ---- what is given and noted

pub value_is : {E : Type 0} (r : Result Given E) (t u : Type4) → t ≡ u → IfOk r (λ g. g ≡ value t) → IfOk r (λ g. g ≡ value u)
value_is r t u is h = subst (λ x. IfOk r (λ g. g ≡ value x)) is h

module _ (W : World) (k : Ask) (w : FlowWalk) (e : Expr) (t : m.Tree) (is : tree e ≡ t) where
  -- what the expression gives is what its form gives
  pub form_given : {E : Type 0} (r : Result Given E) → IfOk r (λ g. g ≡ walk W (walk_scope_of w) k t) → IfOk r (λ g. g ≡ walk W (walk_scope_of w) k (tree e))
  form_given r = IfOk-weaker r (λ g. g ≡ walk W (walk_scope_of w) k t) (λ g. g ≡ walk W (walk_scope_of w) k (tree e)) (λ g same. same ∙ ap (walk W (walk_scope_of w) k) (sym is))

  module _ (a a1 : NodeContext) (note : a1 ≡ under a e.mark.note) where
    -- and it notes what its form notes, inside its own note
    pub form_noted : {A E : Type 0} (r : Result A E) (w1 : FlowWalk) (F : NodeContext → List Finding) → F (under a e.mark.note) ≡ found W a (walk_scope_of w) k t
        → OnOk r (w1 ≡ noting w (contributions W (walk_scope_of w) k t) (F a1)) → OnOk r (w1 ≡ noting w (contributions W (walk_scope_of w) k (tree e)) (found W a (walk_scope_of w) k (tree e)))
    form_noted r w1 F same = on_ok_weaker r (λ one. one ∙ ap (λ b. noting w (contributions W (walk_scope_of w) k t) (F b)) note ∙ ap (noting w (contributions W (walk_scope_of w) k t)) same
        ∙ ap (λ u. noting w (contributions W (walk_scope_of w) k u) (found W a (walk_scope_of w) k u)) (sym is))

  -- a form that notes nothing
  pub form_silent : (a : NodeContext) → [] ≡ contributions W (walk_scope_of w) k t → [] ≡ found W a (walk_scope_of w) k t → w ≡ noting w (contributions W (walk_scope_of w) k (tree e)) (found W a (walk_scope_of w) k (tree e))
  form_silent a gs fs = sym (noting_none w) ∙ ap (λ xs. noting w xs []) gs ∙ ap (noting w (contributions W (walk_scope_of w) k t)) fs
      ∙ ap (λ u. noting w (contributions W (walk_scope_of w) k u) (found W a (walk_scope_of w) k u)) (sym is)

-- what is noted, where the contributions are the same
by_contributions : {A E : Type 0} (w w1 : FlowWalk) (gs hs : List Contribution) (fs : List Finding) (r : Result A E) → gs ≡ hs → OnOk r (w1 ≡ noting w gs fs) → OnOk r (w1 ≡ noting w hs fs)
by_contributions w w1 gs hs fs r same = on_ok_weaker r (λ one. one ∙ ap (λ xs. noting w xs fs) same)

-- ---- what each form notes, inside the expression's note

module _ (W : World) (a a1 : NodeContext) (k : Ask) (w w1 : FlowWalk) (e : Expr) (note : a1 ≡ under a e.mark.note) {A E : Type 0} (r : Result A E) where
  abbrev sc : WalkScope
  sc = walk_scope_of w

  -- what is noted after the expression
  abbrev pub Notes : Type 0
  Notes = OnOk r (w1 ≡ noting w (contributions W (walk_scope_of w) k (tree e)) (found W a (walk_scope_of w) k (tree e)))

  abbrev by_form : (t : m.Tree) (F : NodeContext → List Finding) → tree e ≡ t → F (under a e.mark.note) ≡ found W a sc k t → OnOk r (w1 ≡ noting w (contributions W sc k t) (F a1)) → Notes
  by_form t F is same = form_noted W k w e t is a a1 note r w1 F same

  pub fun_noted : (xs : List VarName) (t : m.Tree) → tree e ≡ m.function e.mark xs t → OnOk r (w1 ≡ noting w (contributions W (with_variables sc xs []) one_value t) (found W a1 (with_variables sc xs []) one_value t)) → Notes
  fun_noted xs t is = by_form (m.function e.mark xs t) (λ b. found W b (with_variables sc xs []) one_value t) is refl

  pub listed_noted : (ts : m.Trees) (t : m.Tree) → tree e ≡ m.listed e.mark ts t → OnOk r (w1 ≡ noting w (contributions_of_all W sc ts ++ contributions W sc one_value t) (found_in_all W a1 sc ts ++ found W a1 sc one_value t))
      → Notes
  listed_noted ts t is = by_form (m.listed e.mark ts t) (λ b. found_in_all W b sc ts ++ found W b sc one_value t) is refl

  pub tuple_noted : (ts : m.Trees) → tree e ≡ m.tuple e.mark ts → OnOk r (w1 ≡ noting w (contributions_of_all W sc ts) (found_in_all W a1 sc ts)) → Notes
  tuple_noted ts is = by_form (m.tuple e.mark ts) (λ b. found_in_all W b sc ts) is refl

  pub new_map_noted : (ps : m.Pairs) → tree e ≡ m.new_map e.mark ps → OnOk r (w1 ≡ noting w (contributions_of_pairs W sc ps) (found_in_pairs W a1 sc ps)) → Notes
  new_map_noted ps is = by_form (m.new_map e.mark ps) (λ b. found_in_pairs W b sc ps) is refl

  pub updated_map_noted : (ps : m.Pairs) (t : m.Tree) → tree e ≡ m.updated_map e.mark ps t
      → OnOk r (w1 ≡ noting w (contributions_of_pairs W sc ps ++ contributions W sc one_value t) (found_in_pairs W a1 sc ps ++ found W a1 sc one_value t)) → Notes
  updated_map_noted ps t is = by_form (m.updated_map e.mark ps t) (λ b. found_in_pairs W b sc ps ++ found W b sc one_value t) is refl

  pub binary_noted : (ss : m.Segments) → tree e ≡ m.binary e.mark ss → OnOk r (w1 ≡ noting w (contributions_of_segments W sc ss) (found_in_segments W a1 sc ss)) → Notes
  binary_noted ss is = by_form (m.binary e.mark ss) (λ b. found_in_segments W b sc ss) is refl

  pub values_noted : (ts : m.Trees) → tree e ≡ m.values e.mark ts → OnOk r (w1 ≡ noting w (contributions_of_all W sc ts) (found_in_all W a1 sc ts)) → Notes
  values_noted ts is = by_form (m.values e.mark ts) (λ b. found_in_all W b sc ts) is refl

  pub chain_form_noted : (ss : m.Steps) (t : m.Tree) → tree e ≡ m.chain e.mark ss t
      → OnOk r (w1 ≡ noting w (contributions_of_steps W sc ss ++ where_seen (see_steps W sc ss) (λ inner. contributions W inner k t))
      (found_in_steps W a1 sc ss ++ where_seen (see_steps W sc ss) (λ inner. found W (under_steps a1 ss) inner k t))) → Notes
  chain_form_noted ss t is = by_form (m.chain e.mark ss t) (λ b. found_in_steps W b sc ss ++ where_seen (see_steps W sc ss) (λ inner. found W (under_steps b ss) inner k t)) is refl

  pub case_noted : (t : m.Tree) (cs : m.Clauses) → tree e ≡ m.case e.mark t cs
      → OnOk r (w1 ≡ noting w (contributions W sc (Exactly (width cs)) t ++ where_given (walk W sc (Exactly (width cs)) t) (λ ts. contributions_of_clauses W (seen_by_clauses sc cs ts) k (matched_slots sc t cs) cs))
      (found W a1 sc (Exactly (width cs)) t ++ where_given (walk W sc (Exactly (width cs)) t) (λ ts. found_in_clauses W a1 (seen_by_clauses sc cs ts) k (matched_slots sc t cs) cs))) → Notes
  case_noted t cs is = by_form (m.case e.mark t cs) (λ b. found W b sc (Exactly (width cs)) t ++ where_given (walk W sc (Exactly (width cs)) t) (λ ts. found_in_clauses W b (seen_by_clauses sc cs ts) k (matched_slots sc t cs) cs)) is refl

  pub letrec_form_noted : (ds : m.Defs) (t : m.Tree) → tree e ≡ m.letrec e.mark ds t
      → OnOk r (w1 ≡ noting w (contributions_of_functions W (with_functions sc ds) ds ++ contributions W (with_functions sc ds) k t) (found_in_functions W a1 (with_functions sc ds) ds ++ found W a1 (with_functions sc ds) k t)) → Notes
  letrec_form_noted ds t is = by_form (m.letrec e.mark ds t) (λ b. found_in_functions W b (with_functions sc ds) ds ++ found W b (with_functions sc ds) k t) is refl

  pub primop_noted : (x : Atom) (ts : m.Trees) → tree e ≡ m.primop e.mark x ts → OnOk r (w1 ≡ noting w (contributions_of_all W sc ts) (found_in_all W a1 sc ts)) → Notes
  primop_noted x ts is = by_form (m.primop e.mark x ts) (λ b. found_in_all W b sc ts) is refl

  pub try_noted : (t : m.Tree) (xs : List VarName) (u : m.Tree) (ys : List VarName) (v : m.Tree) → tree e ≡ m.try e.mark t xs u ys v
      → OnOk r (w1 ≡ noting w (contributions W sc (Exactly (length xs)) t ++ where_given (walk W sc (Exactly (length xs)) t) (λ ts. contributions W (with_variables sc xs ts) k u) ++ contributions W (with_variables sc ys []) k v)
      (found W a1 sc (Exactly (length xs)) t ++ where_given (walk W sc (Exactly (length xs)) t) (λ ts. found W a1 (with_variables sc xs ts) k u) ++ found W a1 (with_variables sc ys []) k v)) → Notes
  try_noted t xs u ys v is =
      by_form (m.try e.mark t xs u ys v) (λ b. found W b sc (Exactly (length xs)) t ++ where_given (walk W sc (Exactly (length xs)) t) (λ ts. found W b (with_variables sc xs ts) k u) ++ found W b (with_variables sc ys []) k v) is refl

  pub receive_noted : (cs : m.Clauses) (t u : m.Tree) → tree e ≡ m.receive e.mark cs t u
      → OnOk r (w1 ≡ noting w (contributions W sc one_value t ++ where_given (walk W sc one_value t)
      (λ limit. contributions_of_clauses W (seen_by_messages sc) k (length w.types ∷ []) cs ++ where_limited limit (contributions W sc k u)))
      (found W a1 sc one_value t ++ where_given (walk W sc one_value t) (λ limit. found_in_clauses W a1 (seen_by_messages sc) k (length w.types ∷ []) cs ++ where_limited limit (found W a1 sc k u)))) → Notes
  receive_noted cs t u is =
      by_form (m.receive e.mark cs t u) (λ b. found W b sc one_value t ++ where_given (walk W sc one_value t) (λ limit. found_in_clauses W b (seen_by_messages sc) k (length w.types ∷ []) cs ++ where_limited limit (found W b sc k u))) is
      refl

  pub catch_noted : (t : m.Tree) → tree e ≡ m.catch e.mark t → OnOk r (w1 ≡ noting w (contributions W sc one_value t) (found W a1 sc one_value t)) → Notes
  catch_noted t is = by_form (m.catch e.mark t) (λ b. found W b sc one_value t) is refl

  -- ---- applications, by whether a name is applied

  module _ (t : m.Tree) (ts : m.Trees) (is : tree e ≡ m.apply e.mark t ts) where
    abbrev name_found : NodeContext → FunName → List Finding
    name_found b f = found_in_all W b sc ts ++ where_given (walk_all W sc ts) (λ us. unless_given (may_apply W sc f us) (at_node b e.mark (DeadCall (Local f))))

    abbrev value_found : NodeContext → List Finding
    value_found b =
        found W b sc one_value t ++ found_in_all W b sc ts
        ++ where_given (walk W sc one_value t) (λ operator. where_given (walk_all W sc ts) (λ us. unless_function (first operator) (length us) (at_node b e.mark (DeadCall (Value (length us))))))

    abbrev name_contributions : FunName → List Contribution
    name_contributions f = contributions_of_all W sc ts ++ where_given (walk_all W sc ts) (λ us. enters W sc f us)

    abbrev value_contributions : List Contribution
    value_contributions = contributions W sc one_value t ++ contributions_of_all W sc ts

    contributions_by_name : (f : FunName) → local_name t ≡ Some f → name_contributions f ≡ contributions W sc k (m.apply e.mark t ts)
    contributions_by_name f named = ap (λ o. listed_by o name_contributions value_contributions) (sym named)

    contributions_by_value : local_name t ≡ None → value_contributions ≡ contributions W sc k (m.apply e.mark t ts)
    contributions_by_value unnamed = ap (λ o. listed_by o name_contributions value_contributions) (sym unnamed)

    found_by_name : (f : FunName) → local_name t ≡ Some f → name_found (under a e.mark.note) f ≡ found W a sc k (m.apply e.mark t ts)
    found_by_name f named = ap (λ o. listed_by o (name_found (under a e.mark.note)) (value_found (under a e.mark.note))) (sym named)

    found_by_value : local_name t ≡ None → value_found (under a e.mark.note) ≡ found W a sc k (m.apply e.mark t ts)
    found_by_value unnamed = ap (λ o. listed_by o (name_found (under a e.mark.note)) (value_found (under a e.mark.note))) (sym unnamed)

    pub applied_noted : (f : FunName) → local_name t ≡ Some f
        → OnOk r (w1 ≡ noting w (contributions_of_all W sc ts ++ where_given (walk_all W sc ts) (λ us. enters W sc f us))
        (found_in_all W a1 sc ts ++ where_given (walk_all W sc ts) (λ us. unless_given (may_apply W sc f us) (at_node a1 e.mark (DeadCall (Local f)))))) → Notes
    applied_noted f named h =
        by_form (m.apply e.mark t ts) (λ b. name_found b f) is (found_by_name f named)
        (by_contributions w w1 (name_contributions f) (contributions W sc k (m.apply e.mark t ts)) (name_found a1 f) r (contributions_by_name f named) h)

    pub operator_noted : local_name t ≡ None → OnOk r (NotesOperator W a1 w w1 e.mark t ts) → Notes
    operator_noted unnamed h =
        by_form (m.apply e.mark t ts) value_found is (found_by_value unnamed)
        (by_contributions w w1 value_contributions (contributions W sc k (m.apply e.mark t ts)) (value_found a1) r (contributions_by_value unnamed) h)

  -- ---- calls, by whether a module and a name are called

  module _ (t u : m.Tree) (ts : m.Trees) (is : tree e ≡ m.call e.mark t u ts) where
    abbrev named_found : NodeContext → Atom × Atom → List Finding
    named_found b names = found_in_all W b sc ts ++ where_given (walk_all W sc ts) (λ us. unless_given (called (lenient W) names.0 names.1 us) (at_node b e.mark (DeadCall (Remote names.0 (function_name names.1 (length us))))))

    abbrev other_found : NodeContext → List Finding
    other_found b = found W b sc one_value t ++ found W b sc one_value u ++ found_in_all W b sc ts

    abbrev named_contributions : Atom × Atom → List Contribution
    named_contributions names = contributions_of_all W sc ts

    abbrev other_contributions : List Contribution
    other_contributions = contributions W sc one_value t ++ contributions W sc one_value u ++ contributions_of_all W sc ts

    contributions_by_names : (home name : Atom) → call_names t u ≡ Some (home, name) → named_contributions (home, name) ≡ contributions W sc k (m.call e.mark t u ts)
    contributions_by_names home name named = ap (λ o. listed_by o named_contributions other_contributions) (sym named)

    contributions_by_values : call_names t u ≡ None → other_contributions ≡ contributions W sc k (m.call e.mark t u ts)
    contributions_by_values unnamed = ap (λ o. listed_by o named_contributions other_contributions) (sym unnamed)

    found_by_names : (home name : Atom) → call_names t u ≡ Some (home, name) → named_found (under a e.mark.note) (home, name) ≡ found W a sc k (m.call e.mark t u ts)
    found_by_names home name named = ap (λ o. listed_by o (named_found (under a e.mark.note)) (other_found (under a e.mark.note))) (sym named)

    found_by_values : call_names t u ≡ None → other_found (under a e.mark.note) ≡ found W a sc k (m.call e.mark t u ts)
    found_by_values unnamed = ap (λ o. listed_by o (named_found (under a e.mark.note)) (other_found (under a e.mark.note))) (sym unnamed)

    pub named_call_noted : (home name : Atom) → call_names t u ≡ Some (home, name) → OnOk r (NotesCall W a1 w w1 e.mark home name ts) → Notes
    named_call_noted home name named h =
        by_form (m.call e.mark t u ts) (λ b. named_found b (home, name)) is (found_by_names home name named)
        (by_contributions w w1 (named_contributions (home, name)) (contributions W sc k (m.call e.mark t u ts)) (named_found a1 (home, name)) r (contributions_by_names home name named) h)

    pub call_noted : call_names t u ≡ None
        → OnOk r (w1 ≡ noting w (contributions W sc one_value t ++ contributions W sc one_value u ++ contributions_of_all W sc ts) (found W a1 sc one_value t ++ found W a1 sc one_value u ++ found_in_all W a1 sc ts)) → Notes
    call_noted unnamed h =
        by_form (m.call e.mark t u ts) other_found is (found_by_values unnamed)
        (by_contributions w w1 other_contributions (contributions W sc k (m.call e.mark t u ts)) (other_found a1) r (contributions_by_values unnamed) h)

-- ---- and what applications and calls give

module _ (W : World) (k : Ask) (w : FlowWalk) (e : Expr) {E : Type 0} (r : Result Given E) where
  abbrev pub Gives : Type 0
  Gives = IfOk r (λ g. g ≡ walk W (walk_scope_of w) k (tree e))

  pub gives_as : (t : m.Tree) (x : Given) → tree e ≡ t → x ≡ walk W (walk_scope_of w) k t → IfOk r (λ g. g ≡ x) → Gives
  gives_as t x is same h = form_given W k w e t is r (IfOk-weaker r (λ g. g ≡ x) (λ g. g ≡ walk W (walk_scope_of w) k t) (λ g one. one ∙ same) h)

  module _ (t : m.Tree) (ts : m.Trees) (is : tree e ≡ m.apply e.mark t ts) where
    abbrev by_name : FunName → Given
    by_name f = then (walk_all W (walk_scope_of w) ts) (λ us. applied W (walk_scope_of w) f us)

    abbrev by_value : Given
    by_value = then (walk W (walk_scope_of w) one_value t) (λ operator. then (walk_all W (walk_scope_of w) ts) (λ us. where_meets (first operator) (function_type (length us)) (value any)))

    pub applied_gives : (f : FunName) → local_name t ≡ Some f → IfOk r (λ g. g ≡ then (walk_all W (walk_scope_of w) ts) (λ us. applied W (walk_scope_of w) f us)) → Gives
    applied_gives f named = gives_as (m.apply e.mark t ts) (by_name f) is (ap (λ o. if_named o by_name by_value) (sym named))

    pub operator_gives : local_name t ≡ None → IfOk r (λ g. g ≡ then (walk W (walk_scope_of w) one_value t)
        (λ operator. then (walk_all W (walk_scope_of w) ts) (λ us. where_meets (first operator) (function_type (length us)) (value any)))) → Gives
    operator_gives unnamed = gives_as (m.apply e.mark t ts) by_value is (ap (λ o. if_named o by_name by_value) (sym unnamed))

  module _ (t u : m.Tree) (ts : m.Trees) (is : tree e ≡ m.call e.mark t u ts) where
    abbrev by_names : Atom × Atom → Given
    by_names names = then (walk_all W (walk_scope_of w) ts) (λ us. called (strict W) names.0 names.1 us)

    abbrev by_values : Given
    by_values = then (walk W (walk_scope_of w) one_value t) (λ home. then (walk W (walk_scope_of w) one_value u) (λ name. then (walk_all W (walk_scope_of w) ts) (λ us. value any)))

    pub named_call_gives : (home name : Atom) → call_names t u ≡ Some (home, name) → IfOk r (λ g. g ≡ then (walk_all W (walk_scope_of w) ts) (λ us. called (strict W) home name us)) → Gives
    named_call_gives home name named = gives_as (m.call e.mark t u ts) (by_names (home, name)) is (ap (λ o. if_named o by_names by_values) (sym named))

    pub call_gives : call_names t u ≡ None → IfOk r (λ g. g ≡ then (walk W (walk_scope_of w) one_value t) (λ home. then (walk W (walk_scope_of w) one_value u) (λ name. then (walk_all W (walk_scope_of w) ts) (λ us. value any))))
        → Gives
    call_gives unnamed = gives_as (m.call e.mark t u ts) by_values is (ap (λ o. if_named o by_names by_values) (sym unnamed))
