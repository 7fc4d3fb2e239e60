-- The whole of a module, and modules together: each round and each way out.
use Rattle.std.proofs.Common.{◌≡◌, ℕ, ◌+◌, ◌<◌, ◌≤◌, Bool, true, false, List, [], ◌++◌, None, OnOk, length, drop, get_or, ltb, refl, sym, ap, ◌∙◌, arith, slice_get}
use Rattle.std.proofs.lemmas.Bool.{ltb-true, ltb-false}
use Rattle.std.proofs.lemmas.Result.{on_ok_weaker}
use Rattle.type_kinds.proofs.Lists.{drop_next}
use Rattle.type_kinds.specs.declared.atom.Atom.{Atom}
use Rattle.type_kinds.specs.declared.place.Place.{Place}
use Rattle.core_ast.specs.declared.syntax.FunName.{FunName}
use Rattle.core_ast.specs.declared.syntax.FunDefOf.{FunDefOf}
use Rattle.core_ast.specs.declared.syntax.Expr.{Expr}
use Rattle.core_ast.specs.declared.syntax.Module.{Module}
use Rattle.core_ast.specs.Model as m
use Rattle.core_ast.specs.Tree.{all_defs, module_tree}
use Rattle.core_scope.specs.declared.fault.ScopeRule.TheVariants.{DefinedExports}
use Rattle.core_scope.specs.declared.fault.Break.{Break}
use Rattle.core_scope.specs.declared.walk.Walk.{Walk}
use Rattle.core_scope.specs.Names.{has_function, defined_names}
use Rattle.core_scope.specs.Breaks.{unless, new_functions, def_breaks, next_place, other_places, export_breaks, module_breaks}
use Rattle.core_scope.specs.Sets.{StandsEarlier}
use Rattle.core_scope.specs.steps.State.{first_of, scope_of, noting, defining}
use Rattle.core_scope.proofs.States.{first_of-append, noted_twice}
use Rattle.core_scope.proofs.ExpressionExits.{Answer}

pub exports_round : (w w1 goal : Walk) (fs : List FunName) (i : ℕ) (f : FunName) (left rest : List Place) (place : Place) (holds : Bool) → i < length fs → f ≡ get_or fs i f → holds ≡ has_function w.functions f
    → place ≡ next_place left → rest ≡ other_places left
    → w1 ≡ noting w (unless holds DefinedExports place) → noting w (export_breaks w.functions (drop i fs) left) ≡ goal → noting w1 (export_breaks w1.functions (drop (i + 1) fs) rest) ≡ goal
exports_round w w1 goal fs i f left rest place holds within is test at others step before =
    ap (λ v. noting v (export_breaks v.functions (drop (i + 1) fs) rest)) step
    ∙ noted_twice w (unless holds DefinedExports place) (export_breaks w.functions (drop (i + 1) fs) rest)
    ∙ ap (λ b. noting w (unless b DefinedExports place ++ export_breaks w.functions (drop (i + 1) fs) rest)) test
    ∙ ap (λ p. noting w (unless (has_function w.functions f) DefinedExports p ++ export_breaks w.functions (drop (i + 1) fs) rest)) at
    ∙ ap (λ ps. noting w (unless (has_function w.functions f) DefinedExports (next_place left) ++ export_breaks w.functions (drop (i + 1) fs) ps)) others
    ∙ ap (λ l. noting w (export_breaks w.functions l left)) (sym (drop_next fs i f within is)) ∙ before

-- What the three parts of a module come to.
pub module_exit : (w0 w1 w2 w3 : Walk) (x : Module) → w0.variables ≡ [] → w0.functions ≡ [] → w0.first ≡ None → w1 ≡ defining w0 (defined_names (all_defs x.defs)) (new_functions [] (all_defs x.defs))
    → w2 ≡ noting w1 (export_breaks w1.functions x.exports x.export_places)
    → w3 ≡ noting w2 (def_breaks (scope_of w2) (all_defs x.defs)) → w3.first ≡ first_of None (module_breaks (module_tree x))
module_exit w0 w1 w2 w3 x no_variable no_function no_break one two three =
    let ds : m.Defs = all_defs x.defs in
    let fs : List FunName = defined_names ds in
    let new : List Break = new_functions [] ds in
    let start : Walk = record { variables = []; functions = fs; first = first_of None new } in
    let one1 : w1 ≡ start = one ∙ (λ i. record { variables = no_variable i; functions = (ap (λ l. l ++ fs) no_function) i; first = first_of (no_break i) new }) in
    let two1 : w2 ≡ noting start (export_breaks fs x.exports x.export_places) = two ∙ ap (λ w. noting w (export_breaks w.functions x.exports x.export_places)) one1 in
    let three1 : w3 ≡ noting start (export_breaks fs x.exports x.export_places ++ def_breaks (scope_of start) ds) =
    three ∙ ap (λ w. noting w (def_breaks (scope_of w) ds)) two1 ∙ noted_twice start (export_breaks fs x.exports x.export_places) (def_breaks (scope_of start) ds) in
    ap (λ w. w.first) three1 ∙ sym (first_of-append (first_of None new) (export_breaks fs x.exports x.export_places) (def_breaks (scope_of start) ds))
    ∙ ap (λ o. first_of o (def_breaks (scope_of start) ds)) (first_of-append None new (export_breaks fs x.exports x.export_places))
    ∙ first_of-append None (new ++ export_breaks fs x.exports x.export_places) (def_breaks (scope_of start) ds)

pub module_walked : (r : Answer) (w0 w1 w2 w3 : Walk) (x : Module) (ds : List (FunDefOf Expr)) (fs : List FunName) (ps : List Place) → ds ≡ x.defs → fs ≡ x.exports → ps ≡ x.export_places → w0.variables ≡ []
    → w0.functions ≡ [] → w0.first ≡ None
    → w1 ≡ defining w0 (defined_names (all_defs ds)) (new_functions [] (all_defs ds)) → w2 ≡ noting w1 (export_breaks w1.functions fs ps) → OnOk r (w3 ≡ noting w2 (def_breaks (scope_of w2) (all_defs ds)))
    → OnOk r (w3.first ≡ first_of None (module_breaks (module_tree x)))
module_walked r w0 w1 w2 w3 x ds fs ps defs_are exports_are places_are no_variable no_function no_break one two =
    on_ok_weaker r (λ three. module_exit w0 w1 w2 w3 x no_variable no_function no_break
    (one ∙ ap (λ z. defining w0 (defined_names (all_defs z)) (new_functions [] (all_defs z))) defs_are)
    (two ∙ ap (λ z. noting w1 (export_breaks w1.functions z ps)) exports_are ∙ ap (λ z. noting w1 (export_breaks w1.functions x.exports z)) places_are)
    (three ∙ ap (λ z. noting w2 (def_breaks (scope_of w2) (all_defs z))) defs_are))

-- ---- names of modules

pub still_none : (names : List Atom) (first second : ℕ) → first ≤ second → second ≤ first → ((i : ℕ) → i < first → slice_get names i ≡ slice_get names second → ⊥)
    → ((j : ℕ) → j < second → StandsEarlier names j → ⊥) → (j : ℕ) → j < second + 1 → StandsEarlier names j → ⊥
still_none names first second low high earliest none j within (i, before, same) = by (ltb j second) refl
  where
    by : (t : Bool) → ltb j second ≡ t → ⊥
    by true t = none j (ltb-true j second t) (i, before, same)
    by false t =
        let here : j ≡ second = (let e = ltb-false j second t in omega arith) in
        earliest i (omega (arith, here)) (same ∙ ap (slice_get names) here)
