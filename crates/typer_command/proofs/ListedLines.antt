-- The lines of typings, one after another.
use Rattle.std.proofs.Common.{◌≡◌, ℕ, List, [], ◌∷◌, ◌++◌, ◌⊎◌, inl, inr, map, refl, sym, ap, ◌∙◌, append_assoc}
use Rattle.std.specs.List.{zip}
use Rattle.std.proofs.lemmas.List.{append-nil}
use Rattle.std.proofs.lemmas.List.Concat.{flat_map-append}
use Rattle.type_kinds.specs.declared.atom.Atom.{Atom}
use Rattle.core_ast.specs.Tree.{all_defs}
use Rattle.core_ast.specs.declared.syntax.Expr.{Expr}
use Rattle.core_ast.specs.declared.syntax.FunDefOf.{FunDefOf}
use Rattle.core_ast.specs.declared.syntax.Module.{Module}
use Rattle.core_scope.specs.Checked.{module_of, tree_of}
use Rattle.core_scope.specs.Names.{defined_names}
use Rattle.cons_tree.specs.declared.parts.Summary.{Summary}
use Rattle.table_keep.specs.declared.source.Source.{Source as HandedIn}
use Rattle.typer_lines.specs.Lines.{typing_line}
use Rattle.typer_command.specs.Typed.{lines_of, typings_in, typings_of}

zip_nothing : {A B : Type 0} (xs : List A) (ys : List B) → (xs ≡ []) ⊎ (ys ≡ []) → zip xs ys ≡ []
zip_nothing xs ys (inl e) = ap (λ zs. zip zs ys) e
zip_nothing [] ys (inr e) = refl
zip_nothing (x ∷ xs) ys (inr e) = ap (zip (x ∷ xs)) e

-- ---- the functions of a module

-- what definitions and summaries that are left are to add
abbrev pub def_lines : (home : Atom) → List (FunDefOf Expr) → List Summary → List ℕ
def_lines home ds ss = lines_of (typings_in home (defined_names (all_defs ds)) ss)

pub def_line : (home : Atom) (out new whole : List ℕ) (ds es : List (FunDefOf Expr)) (ss ts : List Summary) (d got : FunDefOf Expr) (s : Summary) → ds ≡ d ∷ es → ss ≡ s ∷ ts → out ++ def_lines home ds ss ≡ whole
    → got ≡ d
    → new ≡ out ++ typing_line (record { home = home; name = got.name; sig = s.strict }) → new ++ def_lines home es ts ≡ whole
def_line home out new whole ds es ss ts d got s e f h g n =
    ap (λ o. o ++ def_lines home es ts) (n ∙ ap (λ (x : FunDefOf Expr). out ++ typing_line (record { home = home; name = x.name; sig = s.strict })) g)
    ∙ append_assoc out (typing_line (record { home = home; name = d.name; sig = s.strict })) (def_lines home es ts)
    ∙ sym (ap (λ xs. out ++ def_lines home xs ss) e ∙ ap (λ xs. out ++ def_lines home (d ∷ es) xs) f) ∙ h

pub def_end : (home : Atom) (out whole : List ℕ) (ds : List (FunDefOf Expr)) (ss : List Summary) → (ds ≡ []) ⊎ (ss ≡ []) → out ++ def_lines home ds ss ≡ whole → out ≡ whole
def_end home out whole ds ss (inl e) h = sym (append-nil out) ∙ sym (ap (λ xs. out ++ def_lines home xs ss) e) ∙ h
def_end home out whole ds ss (inr e) h =
    sym (append-nil out) ∙ sym (ap (λ ps. out ++ lines_of (map (λ p. record { home = home; name = p.0; sig = p.1.strict }) ps)) (zip_nothing (defined_names (all_defs ds)) ss (inr e))) ∙ h

-- ---- the modules

abbrev pub module_lines : List HandedIn → List (List Summary) → List ℕ
module_lines ss found = lines_of (typings_of (map (λ s. tree_of s.checked) ss) found)

pub module_line : (out new whole : List ℕ) (ss more : List HandedIn) (found later : List (List Summary)) (s : HandedIn) (here ts : List Summary) (x : Module) (ds : List (FunDefOf Expr)) → ss ≡ s ∷ more → found ≡ here ∷ later
    → out ++ module_lines ss found ≡ whole → x ≡ module_of s.checked → ds ≡ x.defs → ts ≡ here → new ≡ out ++ lines_of (typings_in x.name (defined_names (all_defs ds)) ts) → new ++ module_lines more later ≡ whole
module_line out new whole ss more found later s here ts x ds e f h is defs_so here_so n =
    let first = typings_in (tree_of s.checked).name (defined_names (tree_of s.checked).defs) here in
    let rest = typings_of (map (λ s. tree_of s.checked) more) later in
    ap (λ o. o ++ lines_of rest)
    (n ∙ ap (λ us. out ++ lines_of (typings_in x.name (defined_names (all_defs us)) ts)) defs_so
    ∙ ap (λ us. out ++ lines_of (typings_in x.name (defined_names (all_defs x.defs)) us)) here_so
    ∙ ap (λ (y : Module). out ++ lines_of (typings_in y.name (defined_names (all_defs y.defs)) here)) is)
    ∙ append_assoc out (lines_of first) (lines_of rest)
    ∙ sym (ap (λ ls. out ++ ls) (flat_map-append typing_line first rest))
    ∙ sym (ap (λ xs. out ++ module_lines xs found) e ∙ ap (λ xs. out ++ module_lines (s ∷ more) xs) f) ∙ h

pub module_end : (out whole : List ℕ) (ss : List HandedIn) (found : List (List Summary)) → (ss ≡ []) ⊎ (found ≡ []) → out ++ module_lines ss found ≡ whole → out ≡ whole
module_end out whole ss found (inl e) h = sym (append-nil out) ∙ sym (ap (λ xs. out ++ module_lines xs found) e) ∙ h
module_end out whole [] found (inr e) h = sym (append-nil out) ∙ h
module_end out whole (s ∷ ss) found (inr e) h = sym (append-nil out) ∙ sym (ap (λ xs. out ++ module_lines (s ∷ ss) xs) e) ∙ h
