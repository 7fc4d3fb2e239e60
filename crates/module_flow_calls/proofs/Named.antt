-- Functions by their names: the innermost of a name, by the position where it stands.
use Rattle.std.proofs.Common.{◌≡◌, ℕ, zero, suc, ◌+◌, true, false, ◌&&◌, nat_eq, List, [], ◌∷◌, drop, get_or, Option, Some, None, refl, sym, ap, ◌∙◌, arith}
use Rattle.std.specs.Prelude.{IsSome, ◌↔◌, if◌then◌else◌}
use Rattle.std.specs.List.{list_any}
use Rattle.std.proofs.lemmas.Cmp.{nat_eq_equiv, nat_list_eq_equiv}
use Rattle.std.proofs.lemmas.Bool.{false_from_ne_true, or_parts}
use Rattle.type_kinds.proofs.Truths.{or_first}
use Rattle.core_ast.specs.declared.syntax.FunName.{FunName}
use Rattle.core_scope.specs.Names.{same_atom, same_function}
use Rattle.cons_gen_rows.specs.Scopes.{or_outer}
use Rattle.module_flow_calls.specs.Functions.{label_named}

same_either : (f g : FunName) → same_function f g ≡ same_function g f
same_either f g =
    ap (λ b. b && nat_eq f.arity g.arity) (nat_list_eq_equiv.symm f.name g.name)
    ∙ ap (λ b. same_atom g.name f.name && b) (nat_eq_equiv.symm f.arity g.arity)

-- no function of the name
pub unnamed : (fs : List FunName) (ls : List ℕ) (f : FunName) → list_any (same_function f) fs ≡ false → label_named fs ls f ≡ None
unnamed [] ls f none = refl
unnamed (g ∷ fs) [] f none =
    let parts = or_parts (same_function f g) (list_any (same_function f) fs) none in
    ap (λ o. or_outer o (if same_function g f then Some 0 else None)) (unnamed fs [] f parts.1)
    ∙ ap (λ b. if b then Some 0 else None) (same_either g f ∙ parts.0)
unnamed (g ∷ fs) (l ∷ ls) f none =
    let parts = or_parts (same_function f g) (list_any (same_function f) fs) none in
    ap (λ o. or_outer o (if same_function g f then Some l else None)) (unnamed fs ls f parts.1)
    ∙ ap (λ b. if b then Some l else None) (same_either g f ∙ parts.0)

-- the innermost one, by its position
at_position : (p : ℕ) (fs : List FunName) (ls : List ℕ) (f : FunName) → list_any (same_function f) (drop p fs) ≡ true → list_any (same_function f) (drop (suc p) fs) ≡ false → label_named fs ls f ≡ Some (get_or ls p 0)
at_position zero [] ls f there innermost = absurd cc
at_position (suc p) [] ls f there innermost = absurd cc
at_position zero (g ∷ fs) [] f there innermost =
    ap (λ o. or_outer o (if same_function g f then Some 0 else None)) (unnamed fs [] f innermost)
    ∙ ap (λ b. if b then Some 0 else None) (same_either g f ∙ or_first (same_function f g) (list_any (same_function f) fs) there innermost)
at_position zero (g ∷ fs) (l ∷ ls) f there innermost =
    ap (λ o. or_outer o (if same_function g f then Some l else None)) (unnamed fs ls f innermost)
    ∙ ap (λ b. if b then Some l else None) (same_either g f ∙ or_first (same_function f g) (list_any (same_function f) fs) there innermost)
at_position (suc p) (g ∷ fs) [] f there innermost =
    ap (λ o. or_outer o (if same_function g f then Some 0 else None)) (at_position p fs [] f there innermost ∙ ap Some (none_there p))
  where
    none_there : (p : ℕ) → get_or {A = ℕ} [] p 0 ≡ 0
    none_there zero = refl
    none_there (suc p) = refl
at_position (suc p) (g ∷ fs) (l ∷ ls) f there innermost =
    ap (λ o. or_outer o (if same_function g f then Some l else None)) (at_position p fs ls f there innermost)

pub found_label : (p : ℕ) (fs : List FunName) (ls : List ℕ) (f : FunName) (l : ℕ) → list_any (same_function f) (drop p fs) ≡ true → list_any (same_function f) (drop (p + 1) fs) ≡ false → l ≡ get_or ls p 0
    → Some l ≡ label_named fs ls f
found_label p fs ls f l there innermost got =
    ap Some got ∙ sym (at_position p fs ls f there (ap (λ n. list_any (same_function f) (drop n fs)) (let e : suc p ≡ p + 1 = omega arith in e) ∙ innermost))

pub no_label : (fs : List FunName) (ls : List ℕ) (f : FunName) (o : Option ℕ) → o ≡ None → IsSome o ↔ (list_any (same_function f) fs ≡ true) → None ≡ label_named fs ls f
no_label fs ls f o none iff =
    let unset : list_any (same_function f) fs ≡ false = false_from_ne_true _ (λ e. let h : IsSome o = iff.1 e in absurd cc) in
    sym (unnamed fs ls f unset)
