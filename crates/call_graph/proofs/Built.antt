-- How tables are built: what each round keeps, and what stands at the end.
use Rattle.std.proofs.Common.{◌≡◌, ℕ, suc, ◌+◌, ◌<◌, ◌≤◌, ◌||◌, Bool, true, false, if◌then◌else◌, List, [], ◌∷◌}
use Rattle.std.proofs.Common.{◌++◌, length, drop, get_or, map, refl, sym, ap, ◌∙◌, subst, arith, length-append}
use Rattle.std.specs.List.{list_any}
use Rattle.std.specs.Cmp.Lexicographic.{bytes_decides}
use Rattle.std.proofs.lemmas.List.Folds.{list_any-append}
use Rattle.std.proofs.Math.Bool.{or-false}
use Rattle.std.proofs.lemmas.List.{drop_all}
use Rattle.type_kinds.proofs.Lists.{drop_next}
use Rattle.indexmap.specs.IndexMap.{insert_entry}
use Rattle.indexmap.specs.IndexSet.{insert_key}
use Rattle.type_kinds.specs.declared.atom.Atom.{Atom}
use Rattle.core_ast.specs.declared.syntax.FunName.{FunName}
use Rattle.core_ast.specs.declared.syntax.FunDefOf.{FunDefOf}
use Rattle.core_ast.specs.declared.syntax.Expr.{Expr}
use Rattle.core_ast.specs.Model as m
use Rattle.core_ast.specs.Tree.{tree, all_defs}
use Rattle.core_ast.proofs.Items.{all_defs-next}
use Rattle.core_scope.specs.declared.checked.Checked.{Checked}
use Rattle.core_scope.specs.Checked.{module_of, tree_of}
use Rattle.core_scope.specs.Names.{same_atom, has_function}
use Rattle.core_scope.specs.Sets.{StandsEarlier}
use Rattle.call_graph.specs.declared.table.FunctionTable.{FunctionTable}
use Rattle.call_graph.specs.Calls.{ModuleFunction, functions_in, module_functions, functions_of}
use Rattle.call_graph.specs.Tables.{key_of, same_key, IsTableOf}
use Rattle.call_graph.specs.steps.Building.{Entries, function_key, entry_of, inserted, numbered, Adds}
use Rattle.call_graph.proofs.Lookups.{inserted_all}
use Rattle.call_graph.proofs.DistinctKeys.{modules, names, keys_stand_once}
use Rattle.call_graph.proofs.Tables.{table_answers}

-- ---- functions of one module

pub functions_round : (t u first : FunctionTable) (home : Atom) (exports : List FunName) (ds : List (FunDefOf Expr)) (i : ℕ) (d e : FunDefOf Expr) (exported : Bool) → i < length ds → d ≡ get_or ds i d → e ≡ d
    → exported ≡ has_function exports e.name
    → u.functions.entries ≡ insert_entry same_key t.functions.entries (key_of home e.name) (record { number = t.count; exported = exported }) → u.count ≡ t.count + 1 → u.modules.keys ≡ t.modules.keys
    → record {
      entries : inserted t.functions.entries t.count (functions_in home exports (all_defs (drop i ds))) ≡ inserted first.functions.entries first.count (functions_in home exports (all_defs ds));
      count : t.count + length (functions_in home exports (all_defs (drop i ds))) ≡ first.count + length (functions_in home exports (all_defs ds));
      modules : t.modules.keys ≡ first.modules.keys;
    }
    → record {
      entries : inserted u.functions.entries u.count (functions_in home exports (all_defs (drop (i + 1) ds))) ≡ inserted first.functions.entries first.count (functions_in home exports (all_defs ds));
      count : u.count + length (functions_in home exports (all_defs (drop (i + 1) ds))) ≡ first.count + length (functions_in home exports (all_defs ds));
      modules : u.modules.keys ≡ first.modules.keys;
    }
functions_round t u first home exports ds i d e exported within is same flag entries count kept before =
    let rest : List ModuleFunction = functions_in home exports (all_defs (drop (i + 1) ds)) in
    let f : ModuleFunction = record { home = home; exports = exports; name = d.name; mark = d.mark; params = d.fun.params; body = tree d.fun.body } in
    let split : functions_in home exports (all_defs (drop i ds)) ≡ f ∷ rest =
    ap (functions_in home exports) (all_defs-next ds i d within ∙ ap (λ x. m.and_def x.name x.mark x.fun.params (tree x.fun.body) (all_defs (drop (i + 1) ds))) (sym is)) in
    let put : u.functions.entries ≡ insert_entry same_key t.functions.entries (function_key f) (entry_of t.count f) =
    entries ∙ ap (λ b. insert_entry same_key t.functions.entries (key_of home e.name) (record { number = t.count; exported = b })) flag
    ∙ ap (λ x. insert_entry same_key t.functions.entries (key_of home x.name) (record { number = t.count; exported = has_function exports x.name })) same in
    record {
      entries = ap (λ es. inserted es u.count rest) put ∙ ap (λ n. inserted (insert_entry same_key t.functions.entries (function_key f) (entry_of t.count f)) n rest) count ∙ ap (inserted t.functions.entries t.count) (sym split)
          ∙ before.entries;
      count = (let long : length (functions_in home exports (all_defs (drop i ds))) ≡ suc (length rest) = ap length split in let b = before.count in omega (arith, long, count, b));
      modules = kept ∙ before.modules;
    }

-- ---- the names of modules

or_assoc : (a b c : Bool) → ((a || b) || c) ≡ (a || (b || c))
or_assoc true b c = refl
or_assoc false b c = refl

pub inserted_name : (ks : List Atom) (k h : Atom) → list_any (same_atom h) (insert_key same_atom ks k) ≡ (list_any (same_atom h) ks || same_atom h k)
inserted_name ks k h = by (list_any (same_atom k) ks) refl
  where
    there : (b : Bool) → same_atom h k ≡ b → list_any (same_atom k) ks ≡ true → list_any (same_atom h) ks ≡ (list_any (same_atom h) ks || b)
    there true e t =
        let any : list_any (same_atom h) ks ≡ true = subst (λ x. list_any (same_atom x) ks ≡ true) (sym ((bytes_decides h k).0 e)) t in
        any ∙ sym (ap (λ b. b || true) any)
    there false e t = sym (or-false (list_any (same_atom h) ks))

    by : (b : Bool) → list_any (same_atom k) ks ≡ b → list_any (same_atom h) (if b then ks else ks ++ k ∷ []) ≡ (list_any (same_atom h) ks || same_atom h k)
    by true e = there (same_atom h k) refl e
    by false e = list_any-append (same_atom h) ks (k ∷ []) ∙ ap (λ b. list_any (same_atom h) ks || b) (or-false (same_atom h k))

-- ---- all modules

inserted_append : (es : Entries) (n : ℕ) (fs gs : List ModuleFunction) → inserted es n (fs ++ gs) ≡ inserted (inserted es n fs) (n + length fs) gs
inserted_append es n [] gs = ap (λ k. inserted es k gs) (let e : n ≡ n + 0 = omega arith in e)
inserted_append es n (f ∷ fs) gs =
    inserted_append (insert_entry same_key es (function_key f) (entry_of n f)) (n + 1) fs gs
    ∙ ap (λ k. inserted (inserted (insert_entry same_key es (function_key f) (entry_of n f)) (n + 1) fs) k gs) (let e : (n + 1) + length fs ≡ n + suc (length fs) = omega arith in e)

module _ {S : Type 0} (stands_for : S → Checked) where
  -- What is kept while modules are added.
  abbrev pub Kept : List S → ℕ → FunctionTable → Type 0
  Kept ss i t = record {
    entries : inserted t.functions.entries t.count (functions_of (modules stands_for (drop i ss))) ≡ inserted [] 0 (functions_of (modules stands_for ss));
    count : t.count + length (functions_of (modules stands_for (drop i ss))) ≡ length (functions_of (modules stands_for ss));
    modules : (h : Atom) → (list_any (same_atom h) t.modules.keys || list_any (same_atom h) (names (modules stands_for (drop i ss)))) ≡ list_any (same_atom h) (names (modules stands_for ss));
  }

  pub sources_round : (t u : FunctionTable) (ss : List S) (i : ℕ) (s : S) (x : m.Module) → i < length ss → s ≡ get_or ss i s → x ≡ tree_of (stands_for s) → Adds t u (module_functions x)
      → u.modules.keys ≡ insert_key same_atom t.modules.keys x.name → Kept ss i t → Kept ss (i + 1) u
  sources_round t u ss i s x within is tree_is adds named before =
      let rest : List S = drop (i + 1) ss in
      let fs : List ModuleFunction = module_functions x in
      let gs : List ModuleFunction = functions_of (modules stands_for rest) in
      let split : modules stands_for (drop i ss) ≡ x ∷ modules stands_for rest = ap (modules stands_for) (drop_next ss i s within is) ∙ ap (λ y. y ∷ modules stands_for rest) (sym tree_is) in
      let functions : functions_of (modules stands_for (drop i ss)) ≡ fs ++ gs = ap functions_of split in
      record {
        entries =
            ap (λ es. inserted es u.count gs) adds.entries ∙ ap (λ n. inserted (inserted t.functions.entries t.count fs) n gs) adds.count ∙ sym (inserted_append t.functions.entries t.count fs gs)
            ∙ ap (inserted t.functions.entries t.count) (sym functions) ∙ before.entries;
        count = (let a : length (functions_of (modules stands_for (drop i ss))) ≡ length fs + length gs = ap length functions ∙ length-append fs gs in let b = before.count in let n = adds.count in omega (arith, a, b, n));
        modules = λ h.
            ap (λ ks. list_any (same_atom h) ks || list_any (same_atom h) (names (modules stands_for rest))) named
            ∙ ap (λ b. b || list_any (same_atom h) (names (modules stands_for rest))) (inserted_name t.modules.keys x.name h)
            ∙ or_assoc (list_any (same_atom h) t.modules.keys) (same_atom h x.name) (list_any (same_atom h) (names (modules stands_for rest)))
            ∙ ap (λ ys. list_any (same_atom h) t.modules.keys || list_any (same_atom h) (names ys)) (sym split) ∙ before.modules h;
      }

  pub sources_exit : (t : FunctionTable) (ss : List S) (i : ℕ) → length ss ≤ i → ((j : ℕ) → j < length ss → StandsEarlier (map (λ s. (module_of (stands_for s)).name) ss) j → ⊥) → Kept ss i t
      → IsTableOf (modules stands_for ss) t
  sources_exit t ss i past distinct kept =
      let xs : List m.Module = modules stands_for ss in
      let none : drop i ss ≡ [] = drop_all i ss past in
      let once = keys_stand_once stands_for ss distinct in
      let entries : t.functions.entries ≡ numbered 0 (functions_of xs) =
      ap (λ l. inserted t.functions.entries t.count (functions_of (modules stands_for l))) (sym none) ∙ kept.entries ∙ inserted_all (functions_of xs) once in
      let count : t.count ≡ length (functions_of xs) = (let e : t.count + length (functions_of (modules stands_for (drop i ss)))
      ≡ t.count + 0 = ap (λ l. t.count + length (functions_of (modules stands_for l))) none in let b = kept.count in omega (arith, e, b)) in
      table_answers xs t entries once
      (λ h. sym (or-false (list_any (same_atom h) t.modules.keys)) ∙ ap (λ l. list_any (same_atom h) t.modules.keys || list_any (same_atom h) (names (modules stands_for l))) (sym none) ∙ kept.modules h) count
