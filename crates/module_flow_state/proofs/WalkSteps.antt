-- The small steps of a walk's state.
use Rattle.std.proofs.Common.{◌≡◌, ℕ, suc, ◌+◌, ◌-◌, ◌<◌, ◌⊎◌, inl, inr, Bool, true, false, cond, List, [], ◌∷◌, ◌++◌, replicate}
use Rattle.std.proofs.Common.{Option, Some, None, Result, IfOk, OnOk, is_some, refl, sym, ap, ◌∙◌, append_assoc, arith}
use Rattle.std.specs.Option.{unwrap_or}
use Rattle.std.specs.Prelude.{slice_get}
use Rattle.std.proofs.lemmas.Option.{unwrap_or-slice_get}
use Rattle.std.proofs.lemmas.Result.{on_ok_weaker, IfOk-weaker}
use Rattle.type_kinds.specs.declared.atom.Atom.{Atom}
use Rattle.core_ast.specs.declared.syntax.Expr.{Expr}
use Rattle.core_ast.specs.declared.syntax.FunName.{FunName}
use Rattle.core_ast.specs.declared.syntax.Mark.{Mark}
use Rattle.core_ast.specs.Model as m
use Rattle.core_ast.specs.Tree.{all_trees, tree}
use Rattle.core_ast.specs.declared.syntax.Form.TheVariants as f
use Rattle.core_ast.proofs.Forms.{opened, values_tree, variable_tree}
use Rattle.core_scope.specs.Asks.{function_name}
use Rattle.cons_gen_rows.specs.Scopes.{Binding, slot_of}
use Rattle.type_lattice.specs.Types.{Type4, any}
use Rattle.warn_list.specs.declared.finding.Finding.{Finding}
use Rattle.warn_list.specs.declared.finding.FindingKind.{FindingKind}
use Rattle.module_flow_calls.specs.declared.node_context.NodeContext.{NodeContext}
use Rattle.warn_list.specs.declared.finding.FindingKind.TheVariants.{DeadCall}
use Rattle.warn_list.specs.declared.finding.CallText.TheVariants.{Remote}
use Rattle.module_flow_state.specs.declared.walk.FlowWalk.{FlowWalk}
use Rattle.module_flow_calls.specs.NodeContext.{at_node}
use Rattle.module_flow_calls.specs.TypeLists.{Given, value}
use Rattle.module_flow_state.specs.Applications.{unless_given}
use Rattle.module_flow_state.specs.Scopes.{WalkScope, argument_names, argument_slot, argument_slots, type_of, type_of_slot, variable_name, variable_names, of_variable}
use Rattle.module_flow_state.specs.steps.Walking.{noting}
use Rattle.module_flow_state.proofs.Notes.{noting_none}

-- ---- what is reported

silent : (b : Bool) (fs : List Finding) → b ≡ false → cond b fs [] ≡ []
silent true fs e = absurd cc
silent false fs e = refl

none_either_way : (b : Bool) → [] ≡ cond {A = List Finding} b [] []
none_either_way true = refl
none_either_way false = refl

not_noted : (w : FlowWalk) (fs : List Finding) → w.reporting ≡ false → w ≡ noting w [] fs
not_noted w fs off = sym (noting_none w) ∙ ap (λ xs. record w { contributions = w.contributions ++ []; found = w.found ++ xs }) (sym (none_either_way w.reporting) ∙ sym (silent w.reporting fs off))

nothing_noted : (w : FlowWalk) (fs : List Finding) → fs ≡ [] → w ≡ noting w [] fs
nothing_noted w fs none = sym (noting_none w) ∙ ap (noting w []) (sym none)

quiet_node : (a : NodeContext) (k : Mark) (kind : FindingKind) → a.quiet ≡ true → at_node a k kind ≡ []
quiet_node a k kind quiet = ap (λ b. cond b [] (record { label = k.label; kind = kind; line = unwrap_or a.line k.place.line } ∷ [])) quiet

-- ---- calls that are reported where they may not return

unless_some : (b : Bool) (g : Given) (fs : List Finding) → b ≡ is_some g → b ≡ true → unless_given g fs ≡ []
unless_some b None fs told on = absurd cc
unless_some b (Some ts) fs told on = refl

unless_none : (b : Bool) (g : Given) (fs : List Finding) → b ≡ is_some g → b ≡ false → unless_given g fs ≡ fs
unless_none b None fs told off = refl
unless_none b (Some ts) fs told off = absurd cc

nothing_unless : (g : Given) → unless_given g [] ≡ []
nothing_unless None = refl
nothing_unless (Some ts) = refl

pub dead_not_reported : (w : FlowWalk) (a : NodeContext) (k : Mark) (kind : FindingKind) (g : Given) → (w.reporting ≡ false) ⊎ (a.quiet ≡ true) → w ≡ noting w [] (unless_given g (at_node a k kind))
dead_not_reported w a k kind g (inl off) = not_noted w (unless_given g (at_node a k kind)) off
dead_not_reported w a k kind g (inr quiet) = nothing_noted w (unless_given g (at_node a k kind)) (ap (unless_given g) (quiet_node a k kind quiet) ∙ nothing_unless g)

pub dead_returns : (w : FlowWalk) (b : Bool) (g : Given) (fs : List Finding) → b ≡ is_some g → b ≡ true → w ≡ noting w [] (unless_given g fs)
dead_returns w b g fs told on = nothing_noted w (unless_given g fs) (unless_some b g fs told on)

dead_reported : {A E : Type 0} (r : Result A E) (w w1 : FlowWalk) (b : Bool) (g : Given) (fs : List Finding) → b ≡ is_some g → b ≡ false → OnOk r (w1 ≡ noting w [] fs) → OnOk r (w1 ≡ noting w [] (unless_given g fs))
dead_reported r w w1 b g fs told off = on_ok_weaker r (λ one. one ∙ ap (noting w []) (sym (unless_none b g fs told off)))

-- a call by a module and a name
pub remote_reported : {A E : Type 0} (r : Result A E) (w w1 : FlowWalk) (a : NodeContext) (k : Mark) (home name h : Atom) (n : ℕ) (f : FunName) (b : Bool) (g : Given) → h ≡ home → f ≡ function_name name n → b ≡ is_some g
    → b ≡ false → OnOk r (w1 ≡ noting w [] (at_node a k (DeadCall (Remote h f))))
    → OnOk r (w1 ≡ noting w [] (unless_given g (at_node a k (DeadCall (Remote home (function_name name n))))))
remote_reported r w w1 a k home name h n f b g home_is name_is told off one =
    dead_reported r w w1 b g (at_node a k (DeadCall (Remote home (function_name name n)))) told off
    (on_ok_weaker r (λ e. e ∙ ap (λ x. noting w [] (at_node a k (DeadCall (Remote x f)))) home_is ∙ ap (λ x. noting w [] (at_node a k (DeadCall (Remote home x)))) name_is) one)

-- ---- slots of what is matched

-- no type at the slot of a variable
pub variable_anew : {E : Type 0} (r : Result Given E) (sc : WalkScope) (x : Atom) (s : ℕ) (t : Type4) → slot_of sc.variables x ≡ Some s → None ≡ slice_get sc.types s → t ≡ any → IfOk r (λ g. g ≡ value t)
    → IfOk r (λ g. g ≡ of_variable (type_of sc x))
variable_anew r sc x s t slot none is = IfOk-weaker r (λ g. g ≡ value t) (λ g. g ≡ of_variable (type_of sc x)) (λ g e.
    e ∙ ap value is ∙ ap (λ o. value (unwrap_or o any)) none ∙ ap value (unwrap_or-slice_get sc.types s any) ∙ ap (λ o. of_variable (type_of_slot sc.types o)) (sym slot))

module _ (e : Expr) where
  pub slot_of_variable : (bs : List Binding) (own s : ℕ) (x : Atom) → e.form ≡ f.Var x → s ≡ argument_slot bs own (Some x) → s ≡ argument_slot bs own (variable_name (tree e))
  slot_of_variable bs own s x form is = is ∙ ap (λ t. argument_slot bs own (variable_name t)) (sym (variable_tree e x form))

  unnamed : ((x : Atom) → e.form ≡ f.Var x → ⊥) → None ≡ variable_name (tree e)
  unnamed other = by (tree e) refl
    where
      by : (t : m.Tree) → tree e ≡ t → None ≡ variable_name t
      by (m.variable i x) is = absurd (other x (opened e (m.variable i x) is).0)
      by t is = refl

  pub slot_of_other : (bs : List Binding) (own : ℕ) → ((x : Atom) → e.form ≡ f.Var x → ⊥) → own ≡ argument_slot bs own (variable_name (tree e))
  slot_of_other bs own other = ap (argument_slot bs own) (unnamed other)

  pub names_of_values : (xs ys : List Expr) (n : ℕ) → e.form ≡ f.Values xs → ys ≡ xs → variable_names (all_trees ys) ≡ argument_names (tree e) n
  names_of_values xs ys n form same = ap (λ zs. variable_names (all_trees zs)) same ∙ ap (λ t. argument_names t n) (sym (values_tree e xs form))

  pub name_of_variable : (x : Atom) (n : ℕ) → e.form ≡ f.Var x → Some x ∷ [] ≡ argument_names (tree e) n
  name_of_variable x n form = ap (λ t. argument_names t n) (sym (variable_tree e x form))

  pub names_of_others : (n : ℕ) → ((x : Atom) → e.form ≡ f.Var x → ⊥) → ((xs : List Expr) → e.form ≡ f.Values xs → ⊥) → replicate n None ≡ argument_names (tree e) n
  names_of_others n no_variable no_values = by (tree e) refl
    where
      by : (t : m.Tree) → tree e ≡ t → replicate n None ≡ argument_names t n
      by (m.variable i x) is = absurd (no_variable x (opened e (m.variable i x) is).0)
      by (m.values i ts) is = let h = opened e (m.values i ts) is in absurd (no_values h.0 h.1)
      by t is = refl

pub slots_as : {E : Type 0} (r : Result (List ℕ) E) (bs : List Binding) (s k : ℕ) (os ps : List (Option Atom)) → s ≡ k → os ≡ ps → IfOk r (λ slots. slots ≡ argument_slots bs s os)
    → IfOk r (λ slots. slots ≡ argument_slots bs k ps)
slots_as r bs s k os ps at same = IfOk-weaker r (λ slots. slots ≡ argument_slots bs s os) (λ slots. slots ≡ argument_slots bs k ps) (λ slots e. e ∙ ap (λ x. argument_slots bs x os) at ∙ ap (argument_slots bs k) same)

one_more : (n i : ℕ) → i < n → replicate {A = Option Atom} (n - i) None ≡ None ∷ replicate (n - (i + 1)) None
one_more n i within = let e : n - i ≡ suc (n - (i + 1)) = omega arith in ap (λ k. replicate {A = Option Atom} k None) e

pub own_round : (bs : List Binding) (n i s own : ℕ) (old new goal : List ℕ) → i < n → own ≡ s + i → new ≡ old ++ own ∷ [] → old ++ argument_slots bs (s + i) (replicate (n - i) None) ≡ goal
    → new ++ argument_slots bs (s + (i + 1)) (replicate (n - (i + 1)) None) ≡ goal
own_round bs n i s own old new goal within own_is added before =
    let rest : List ℕ = argument_slots bs (s + (i + 1)) (replicate (n - (i + 1)) None) in
    let further : s + (i + 1) ≡ s + i + 1 = omega arith in
    ap (λ xs. xs ++ rest) added ∙ append_assoc old (own ∷ []) rest ∙ ap (λ x. old ++ x ∷ rest) own_is
    ∙ ap (λ k. old ++ (s + i) ∷ argument_slots bs k (replicate (n - (i + 1)) None)) further ∙ ap (λ us. old ++ argument_slots bs (s + i) us) (sym (one_more n i within)) ∙ before
