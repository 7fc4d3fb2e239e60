-- The names of definitions by their labels, and the texts of modules one after another.
use Rattle.std.proofs.Common.{◌≡◌, ℕ, ◌+◌, ◌-◌, ◌<◌, Bool, true, false, if◌then◌else◌, nat_eq, cond, List, length, drop, get_or, Option, Some, sym, ap, ◌∙◌, arith}
use Rattle.std.specs.Prelude.{option_map}
use Rattle.std.specs.BTreeMap.{BTreeMap, get, is_at}
use Rattle.std.specs.Borrow.{Bor}
use Rattle.std.specs.Ordering.{is_eq, nat_cmp}
use Rattle.core_ast.specs.Model as m
use Rattle.core_ast.specs.Tree.{all_defs, tree}
use Rattle.core_ast.specs.declared.syntax.Expr.{Expr}
use Rattle.core_ast.specs.declared.syntax.FunDefOf.{FunDefOf}
use Rattle.core_ast.specs.declared.syntax.FunName.{FunName}
use Rattle.core_ast.proofs.Items.{all_defs-next}
use Rattle.core_meaning.specs.Programs.{locals_of}
use Rattle.fun_flow_answers.specs.Listed.{defined_with}
use Rattle.fun_flow_applied.specs.steps.Texts.{name_at, name_of, name_with}

same_label : (a b : ℕ) → is_eq (nat_cmp a b) ≡ nat_eq a b
same_label a b = grind arith

-- one more definition in front
defined_first : (f : FunName) (label l : ℕ) (ds : m.Defs) (o : Option (Bor FunName)) (b : Bor FunName) → b.now ≡ f → option_map (λ (x : Bor FunName). x.now) o ≡ name_with ds l
    → option_map (λ (x : Bor FunName). x.now) (cond (nat_eq label l) (Some b) o) ≡ option_map name_of (if nat_eq label l then Some (record { name = f.name; arity = f.arity; label = label }) else defined_with (locals_of ds) l)
defined_first f label l ds o b e h = by (nat_eq label l)
  where
    by : (c : Bool) → option_map (λ (x : Bor FunName). x.now) (cond c (Some b) o) ≡ option_map name_of (if c then Some (record { name = f.name; arity = f.arity; label = label }) else defined_with (locals_of ds) l)
    by true = ap Some e
    by false = h

pub definition_round : (old new : BTreeMap ℕ (Bor FunName)) (ds : List (FunDefOf Expr)) (i : ℕ) (d : FunDefOf Expr) (b : Bor FunName) → i < length ds → d ≡ get_or ds i d → b.now ≡ d.name
    → ((l : ℕ) → get nat_cmp new l ≡ cond (is_at (nat_cmp d.mark.label) l) (Some b) (get nat_cmp old l)) → ((l : ℕ) → name_at old l ≡ name_with (all_defs (drop (i + 1) ds)) l) → (l : ℕ)
    → name_at new l ≡ name_with (all_defs (drop i ds)) l
definition_round old new ds i d b within is named updates before l =
    let rest : m.Defs = all_defs (drop (i + 1) ds) in
    ap (option_map (λ (x : Bor FunName). x.now)) (updates l ∙ ap (λ c. cond c (Some b) (get nat_cmp old l)) (same_label d.mark.label l))
    ∙ defined_first d.name d.mark.label l rest (get nat_cmp old l) b named (before l)
    ∙ ap (λ z. name_with z l) (sym (all_defs-next ds i d within ∙ ap (λ x. m.and_def x.name x.mark x.fun.params (tree x.fun.body) rest) (sym is)))
