-- Where each function whose name stands as a value is open, names are fine.
use Rattle.std.proofs.Common.{◌≡◌, ℕ, ◌+◌, true, List, [], ◌∷◌, ◌++◌, length, replicate, Option, Some, None, length-append, refl, sym, ap, ap₂, ◌∙◌, subst}
use Rattle.sound_laws.proofs.Scopes.{outer_assoc}
use Rattle.type_kinds.specs.declared.atom.Atom.{Atom}
use Rattle.core_ast.specs.declared.syntax.Mark.{Mark}
use Rattle.core_ast.specs.declared.syntax.FunName.{FunName}
use Rattle.core_ast.specs.Model as m
use Rattle.core_ast.specs.Named.{local_name}
use Rattle.core_scope.specs.declared.ask.Ask.{Ask}
use Rattle.core_scope.specs.Names.{Scope, defined_names}
use Rattle.core_scope.specs.Places.{StandsInModule}
use Rattle.core_scope.specs.Places.Piece.{expression, expressions, pairs, segments, steps, clauses, definitions}
use Rattle.core_scope.specs.Places.HasPart.{function_body, listed_items, listed_rest, tuple_items, new_map_pairs, updated_map_pairs, updated_map_itself, binary_segments, values_items, chain_steps, chain_end, case_argument, case_clauses}
use Rattle.core_scope.specs.Places.HasPart.{letrec_definitions, letrec_body, apply_function, apply_arguments, call_module, call_name, call_arguments, primop_arguments, try_argument, try_body, try_handler, receive_clauses, receive_timeout}
use Rattle.core_scope.specs.Places.HasPart.{receive_action, catch_argument, first_expression, other_expressions, first_key, first_value, other_pairs, first_segment, segment_arguments, other_segments, let_argument, after_let, do_argument}
use Rattle.core_scope.specs.Places.HasPart.{after_do, clause_guard, clause_body, other_clauses, definition_body, other_definitions}
use Rattle.core_scope.specs.Places.StandsIn.{deeper}
use Rattle.type_lattice.specs.Types.{any}
use Rattle.cons_gen_rows.specs.Scopes.{or_outer}
use Rattle.cons_gen_rows.specs.Counts.{call_names}
use Rattle.module_flow_state.specs.Applications.{inner_or}
use Rattle.module_flow_calls.specs.Escapes.{Defined, defining, label_listed, unless_name, escapes, escapes_all, escapes_pairs, escapes_segments, escapes_steps, escapes_clauses, escapes_defs, escapes_patterns}
use Rattle.module_flow.specs.Flow.{has_label}
use Rattle.module_flow_calls.specs.Functions.{defined_labels, label_named}
use Rattle.module_flow_state.specs.States.{parameters_of}
use Rattle.module_flow_state.specs.World.{World}
use Rattle.sound_laws_flow.specs.steps.Fine.{ByName, FineName}
use Rattle.sound_laws_flow.specs.steps.Named.{NameFine, Named, NamedAll, NamedPairs, NamedSegments, NamedSteps, NamedClauses, NamedDefs}
use Rattle.sound_laws_flow.specs.steps.Seen.{NamesOnce}
use Rattle.sound_laws_flow.proofs.Fitting.{NamesFit, fit_paired, fit_behind, named_fits}
use Rattle.sound_laws_flow.proofs.WalkScopes.{named_behind, defined_paired}

-- ---- open labels

abbrev pub AllOpen : List ℕ → List ℕ → Type 0
AllOpen opens [] = Unit {0}
AllOpen opens (l ∷ ls) = (has_label opens l ≡ true) × AllOpen opens ls

open_left : (opens a b : List ℕ) → AllOpen opens (a ++ b) → AllOpen opens a
open_left opens [] b h = tt
open_left opens (l ∷ a) b h = (h.0, open_left opens a b h.1)

open_right : (opens a b : List ℕ) → AllOpen opens (a ++ b) → AllOpen opens b
open_right opens [] b h = h
open_right opens (l ∷ a) b h = open_right opens a b h.1

-- opens: the labels that are open; Has l n: the function at the label l is known to have n parameters; W: what the walk
-- knows; x: the module
module _ (opens : List ℕ) (Has : ℕ → ℕ → Type 0) (W : World) (D : ℕ → Type 0) (x : m.Module) (opened : (l n : ℕ) → Has l n → has_label opens l ≡ true
    → parameters_of W.state l ≡ Some (replicate n any)) (tops : NamesFit Has W.names W.labels) (inner : (s : Scope) (j : Ask) (i : Mark) (ds : m.Defs) (t : m.Tree) → StandsInModule x (expression s j (m.letrec i ds t))
    → NamesFit Has (defined_names ds) (defined_labels ds)) (once : (s : Scope) (j : Ask) (i : Mark) (ds : m.Defs) (t : m.Tree) → StandsInModule x (expression s j (m.letrec i ds t)) → NamesOnce ds) where
  -- what is defined where names are looked for as values: the functions of the module, and those of the `letrec`s around
  pub record Sees (es : Defined) (fs : List FunName) (ls : List ℕ) : Type 0 where
    pub paired : length es.names ≡ length es.labels
    pub fit : NamesFit Has fs ls
    pub agree : (f : FunName) → label_named es.names es.labels f ≡ or_outer (label_named fs ls f) (label_named W.names W.labels f)

  more_seen : (es : Defined) (fs : List FunName) (ls : List ℕ) (ds : m.Defs) → NamesFit Has (defined_names ds) (defined_labels ds) → Sees es fs ls → Sees (defining es ds) (fs ++ defined_names ds) (ls ++ defined_labels ds)
  more_seen es fs ls ds d v = record {
    paired = length-append es.names (defined_names ds) ∙ ap₂ (λ i j. i + j) v.paired (defined_paired ds) ∙ sym (length-append es.labels (defined_labels ds));
    fit = fit_behind Has fs (defined_names ds) ls (defined_labels ds) v.fit d;
    agree = λ f.
        named_behind es.names (defined_names ds) es.labels (defined_labels ds) f v.paired
        ∙ ap (or_outer (label_named (defined_names ds) (defined_labels ds) f)) (v.agree f)
        ∙ sym (outer_assoc (label_named (defined_names ds) (defined_labels ds) f) (label_named fs ls f) (label_named W.names W.labels f))
        ∙ ap (λ o. or_outer o (label_named W.names W.labels f)) (sym (named_behind fs (defined_names ds) ls (defined_labels ds) f (fit_paired Has fs ls v.fit)));
  }

  abbrev Open : List ℕ → Type 0
  Open ls = AllOpen opens ls

  left : (a b : List ℕ) → Open (a ++ b) → Open a
  left a b h = open_left opens a b h

  right : (a b : List ℕ) → Open (a ++ b) → Open b
  right a b h = open_right opens a b h

  resolved_fine : (f : FunName) (o p : Option ℕ) → ((l : ℕ) → o ≡ Some l → Has l f.arity) → ((l : ℕ) → p ≡ Some l → Has l f.arity) → Open (label_listed (or_outer o p)) → FineName W D D (inner_or o p) f
  resolved_fine f (Some l) p h k a = opened l f.arity (h l refl) a.0
  resolved_fine f None (Some l) h k a = opened l f.arity (k l refl) a.0
  resolved_fine f None None h k a = tt

  name_fine : (f : FunName) (es : Defined) (fs : List FunName) (ls : List ℕ) → Sees es fs ls → Open (label_listed (label_named es.names es.labels f)) → NameFine W D fs ls f
  name_fine f es fs ls v a =
      resolved_fine f (label_named fs ls f) (label_named W.names W.labels f) (λ l e. named_fits Has fs ls f l v.fit e) (λ l e. named_fits Has W.names W.labels f l tops e) (subst (λ o. Open (label_listed o)) (v.agree f) a)

  unless_named : (o : Option FunName) (es : List ℕ) (A : Type 0) → (Open es → A) → Open (unless_name o es) → ByName o (λ f. Unit {0}) A
  unless_named None es A h a = h a
  unless_named (Some f) es A h a = tt

  unless_called : (o : Option (Atom × Atom)) (A : Type 0) → A → ByName o (λ names. Unit {0}) A
  unless_called None A h = h
  unless_called (Some names) A h = tt

  mutual
    pub named : (t : m.Tree) (es : Defined) (fs : List FunName) (ls : List ℕ) {s : Scope} {j : Ask} → StandsInModule x (expression s j t) → Sees es fs ls → Open (escapes es t) → Named W D fs ls t
    named (m.variable i x) es fs ls h v a = tt
    named (m.local i f) es fs ls h v a = name_fine f es fs ls v a
    named (m.external i x f) es fs ls h v a = tt
    named (m.literal i l) es fs ls h v a = tt
    named (m.function i xs t) es fs ls h v a = named t es fs ls (deeper h function_body) v a
    named (m.listed i ts t) es fs ls h v a = (named_all ts es fs ls (deeper h listed_items) v (left (escapes_all es ts) (escapes es t) a), named t es fs ls (deeper h listed_rest) v (right (escapes_all es ts) (escapes es t) a))
    named (m.tuple i ts) es fs ls h v a = named_all ts es fs ls (deeper h tuple_items) v a
    named (m.new_map i ps) es fs ls h v a = named_pairs ps es fs ls (deeper h new_map_pairs) v a
    named (m.updated_map i ps t) es fs ls h v a = (
      named_pairs ps es fs ls (deeper h updated_map_pairs) v (left (escapes_pairs es ps) (escapes es t) a),
      named t es fs ls (deeper h updated_map_itself) v (right (escapes_pairs es ps) (escapes es t) a),
    )
    named (m.binary i ss) es fs ls h v a = named_segments ss es fs ls (deeper h binary_segments) v a
    named (m.values i ts) es fs ls h v a = named_all ts es fs ls (deeper h values_items) v a
    named (m.chain i ss t) es fs ls h v a = (named_steps ss es fs ls (deeper h chain_steps) v (left (escapes_steps es ss) (escapes es t) a), named t es fs ls (deeper h chain_end) v (right (escapes_steps es ss) (escapes es t) a))
    named (m.case i t cs) es fs ls h v a = (named t es fs ls (deeper h case_argument) v (left (escapes es t) (escapes_clauses es cs) a), named_clauses cs es fs ls (deeper h case_clauses) v (right (escapes es t) (escapes_clauses es cs) a))
    named (m.letrec i ds t) es fs ls h v a =
        let to = more_seen es fs ls ds (inner _ _ i ds t h) v in
        let a_defs = left (escapes_defs (defining es ds) ds) (escapes (defining es ds) t) a in
        let a_body = right (escapes_defs (defining es ds) ds) (escapes (defining es ds) t) a in (
          once _ _ i ds t h,
          (
            named_defs ds (defining es ds) (fs ++ defined_names ds) (ls ++ defined_labels ds) (deeper h letrec_definitions) to a_defs,
            named t (defining es ds) (fs ++ defined_names ds) (ls ++ defined_labels ds) (deeper h letrec_body) to a_body,
          ),
        )
    named (m.apply i t ts) es fs ls h v a =
        let e = unless_name (local_name t) (escapes es t) in (
          unless_named (local_name t) (escapes es t) (Named W D fs ls t) (λ b. named t es fs ls (deeper h apply_function) v b) (left e (escapes_all es ts) a),
          named_all ts es fs ls (deeper h apply_arguments) v (right e (escapes_all es ts) a),
        )
    named (m.call i t u ts) es fs ls h v a =
        let b = left (escapes es t ++ escapes es u) (escapes_all es ts) a in
        let both : Named W D fs ls t × Named W D fs ls u = (named t es fs ls (deeper h call_module) v (left (escapes es t) (escapes es u) b), named u es fs ls (deeper h call_name) v (right (escapes es t) (escapes es u) b)) in
        (unless_called (call_names t u) (Named W D fs ls t × Named W D fs ls u) both, named_all ts es fs ls (deeper h call_arguments) v (right (escapes es t ++ escapes es u) (escapes_all es ts) a))
    named (m.primop i x ts) es fs ls h v a = named_all ts es fs ls (deeper h primop_arguments) v a
    named (m.try i t xs u ys w) es fs ls h v a =
        let b = left (escapes es t ++ escapes es u) (escapes es w) a in (
          named t es fs ls (deeper h try_argument) v (left (escapes es t) (escapes es u) b),
          (named u es fs ls (deeper h try_body) v (right (escapes es t) (escapes es u) b), named w es fs ls (deeper h try_handler) v (right (escapes es t ++ escapes es u) (escapes es w) a)),
        )
    named (m.receive i cs t u) es fs ls h v a =
        let b = left (escapes_clauses es cs ++ escapes es t) (escapes es u) a in (
          named_clauses cs es fs ls (deeper h receive_clauses) v (left (escapes_clauses es cs) (escapes es t) b),
          (named t es fs ls (deeper h receive_timeout) v (right (escapes_clauses es cs) (escapes es t) b), named u es fs ls (deeper h receive_action) v (right (escapes_clauses es cs ++ escapes es t) (escapes es u) a)),
        )
    named (m.catch i t) es fs ls h v a = named t es fs ls (deeper h catch_argument) v a

    named_all : (ts : m.Trees) (es : Defined) (fs : List FunName) (ls : List ℕ) {s : Scope} → StandsInModule x (expressions s ts) → Sees es fs ls → Open (escapes_all es ts) → NamedAll W D fs ls ts
    named_all m.no_tree es fs ls h v a = tt
    named_all (m.and_tree t ts) es fs ls h v a = (named t es fs ls (deeper h first_expression) v (left (escapes es t) (escapes_all es ts) a), named_all ts es fs ls (deeper h other_expressions) v (right (escapes es t) (escapes_all es ts) a))

    named_pairs : (ps : m.Pairs) (es : Defined) (fs : List FunName) (ls : List ℕ) {s : Scope} → StandsInModule x (pairs s ps) → Sees es fs ls → Open (escapes_pairs es ps) → NamedPairs W D fs ls ps
    named_pairs m.no_pair es fs ls h v a = tt
    named_pairs (m.and_pair exact t u ps) es fs ls h v a =
        let b = left (escapes es t ++ escapes es u) (escapes_pairs es ps) a in (
          named t es fs ls (deeper h first_key) v (left (escapes es t) (escapes es u) b),
          (named u es fs ls (deeper h first_value) v (right (escapes es t) (escapes es u) b), named_pairs ps es fs ls (deeper h other_pairs) v (right (escapes es t ++ escapes es u) (escapes_pairs es ps) a)),
        )

    named_segments : (ss : m.Segments) (es : Defined) (fs : List FunName) (ls : List ℕ) {s : Scope} → StandsInModule x (segments s ss) → Sees es fs ls → Open (escapes_segments es ss) → NamedSegments W D fs ls ss
    named_segments m.no_segment es fs ls h v a = tt
    named_segments (m.and_segment t ts ss) es fs ls h v a =
        let b = left (escapes es t ++ escapes_all es ts) (escapes_segments es ss) a in (
          named t es fs ls (deeper h first_segment) v (left (escapes es t) (escapes_all es ts) b),
          (named_all ts es fs ls (deeper h segment_arguments) v (right (escapes es t) (escapes_all es ts) b), named_segments ss es fs ls (deeper h other_segments) v (right (escapes es t ++ escapes_all es ts) (escapes_segments es ss) a)),
        )

    named_steps : (ss : m.Steps) (es : Defined) (fs : List FunName) (ls : List ℕ) {s : Scope} → StandsInModule x (steps s ss) → Sees es fs ls → Open (escapes_steps es ss) → NamedSteps W D fs ls ss
    named_steps m.no_step es fs ls h v a = tt
    named_steps (m.and_let i xs t ss) es fs ls h v a = (named t es fs ls (deeper h let_argument) v (left (escapes es t) (escapes_steps es ss) a), named_steps ss es fs ls (deeper h after_let) v (right (escapes es t) (escapes_steps es ss) a))
    named_steps (m.and_do i t ss) es fs ls h v a = (named t es fs ls (deeper h do_argument) v (left (escapes es t) (escapes_steps es ss) a), named_steps ss es fs ls (deeper h after_do) v (right (escapes es t) (escapes_steps es ss) a))

    named_clauses : (cs : m.Clauses) (es : Defined) (fs : List FunName) (ls : List ℕ) {s : Scope} {j : Ask} {n : ℕ} → StandsInModule x (clauses s j n cs) → Sees es fs ls → Open (escapes_clauses es cs) → NamedClauses W D fs ls cs
    named_clauses m.no_clause es fs ls h v a = tt
    named_clauses (m.and_clause i ps g t cs) es fs ls h v a =
        let b = left (escapes_patterns es ps ++ escapes es g ++ escapes es t) (escapes_clauses es cs) a in
        let c = left (escapes_patterns es ps ++ escapes es g) (escapes es t) b in (
          named g es fs ls (deeper h clause_guard) v (right (escapes_patterns es ps) (escapes es g) c),
          (
            named t es fs ls (deeper h clause_body) v (right (escapes_patterns es ps ++ escapes es g) (escapes es t) b),
            named_clauses cs es fs ls (deeper h other_clauses) v (right (escapes_patterns es ps ++ escapes es g ++ escapes es t) (escapes_clauses es cs) a),
          ),
        )

    pub named_defs : (ds : m.Defs) (es : Defined) (fs : List FunName) (ls : List ℕ) {s : Scope} → StandsInModule x (definitions s ds) → Sees es fs ls → Open (escapes_defs es ds) → NamedDefs W D fs ls ds
    named_defs m.no_def es fs ls h v a = tt
    named_defs (m.and_def f i xs t ds) es fs ls h v a = (
      named t es fs ls (deeper h definition_body) v (left (escapes es t) (escapes_defs es ds) a),
      named_defs ds es fs ls (deeper h other_definitions) v (right (escapes es t) (escapes_defs es ds) a),
    )
