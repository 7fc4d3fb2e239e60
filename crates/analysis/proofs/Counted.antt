-- How many functions modules define.
use Rattle.std.proofs.Common.{◌≡◌, ℕ, suc, ◌+◌, ◌<◌, List, [], ◌∷◌, map, length, get_or, drop, refl, ap, ◌∙◌, arith}
use Rattle.std.proofs.lemmas.List.{length-append}
use Rattle.type_kinds.proofs.Lists.{drop_next}
use Rattle.type_kinds.specs.declared.atom.Atom.{Atom}
use Rattle.core_ast.specs.declared.syntax.FunName.{FunName}
use Rattle.core_ast.specs.declared.syntax.FunDefOf.{FunDefOf}
use Rattle.core_ast.specs.declared.syntax.Expr.{Expr}
use Rattle.core_ast.specs.Tree.{all_defs}
use Rattle.core_scope.specs.Checked.{module_of, tree_of}
use Rattle.call_graph.specs.Calls.{functions_in, module_functions, functions_of}
use Rattle.table_keep.specs.declared.source.Source.{Source}

count_defs : (home : Atom) (exports : List FunName) (ds : List (FunDefOf Expr)) → length (functions_in home exports (all_defs ds)) ≡ length ds
count_defs home exports [] = refl
count_defs home exports (d ∷ ds) = ap suc (count_defs home exports ds)

plus : (n l a b d : ℕ) → l ≡ a + b → a ≡ d → n + l ≡ (n + d) + b
plus n l a b d e f = omega (arith, e, f)

abbrev counted : List Source → ℕ
counted ss = length (functions_of (map (λ x. tree_of x.checked) ss))

-- one module more
pub count_next : (ss : List Source) (i : ℕ) (s : Source) (count : ℕ) → i < length ss → s ≡ get_or ss i s
    → count + length (functions_of (map (λ x. tree_of x.checked) (drop i ss))) ≡ (count + length (module_of s.checked).defs) + length (functions_of (map (λ x. tree_of x.checked) (drop (i + 1) ss)))
count_next ss i s count within is =
    plus count (counted (drop i ss)) (length (module_functions (tree_of s.checked))) (counted (drop (i + 1) ss)) (length (module_of s.checked).defs)
    (ap counted (drop_next ss i s within is) ∙ length-append (module_functions (tree_of s.checked)) (functions_of (map (λ x. tree_of x.checked) (drop (i + 1) ss))))
    (count_defs (module_of s.checked).name (module_of s.checked).exports (module_of s.checked).defs)
