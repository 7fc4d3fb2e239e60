-- What a look-up in a table of modules finds.
use Rattle.std.proofs.Common.{◌≡◌, ℕ, zero, suc, ◌+◌, ◌-◌, ◌<◌, Bool, true, false, ◌||◌, List, [], ◌∷◌, ◌++◌, length, map, drop}
use Rattle.std.proofs.Common.{get_or, Option, Some, None, Contains, slice_get, refl, sym, ap, ◌∙◌, subst, true≢false, arith}
use Rattle.std.specs.Prelude.{IsSome, ◌↔◌, ◌≤◌, if◌then◌else◌}
use Rattle.std.specs.List.{list_any}
use Rattle.std.proofs.lemmas.Option.{slice_get-map}
use Rattle.std.specs.Option.{option_map}
use Rattle.std.proofs.lemmas.Bool.{false_from_ne_true, or_parts}
use Rattle.std.proofs.lemmas.List.{append_assoc, append-nil, drop_more}
use Rattle.std.proofs.Math.ListN.{drop_of_length-le}
use Rattle.std.specs.Cmp.Lexicographic.{bytes_decides}
use Rattle.std.proofs.lemmas.Cmp.{nat_list_eq_equiv}
use Rattle.type_kinds.proofs.Lists.{contains_first, contains_later}
use Rattle.type_kinds.proofs.Truths.{or_first}
use Rattle.type_kinds.specs.declared.atom.Atom.{Atom}
use Rattle.core_ast.specs.declared.syntax.FunName.{FunName}
use Rattle.core_ast.specs.declared.syntax.Expr.{Expr}
use Rattle.core_ast.specs.declared.syntax.FunDefOf.{FunDefOf}
use Rattle.core_ast.specs.Model as m
use Rattle.core_ast.specs.Tree.{all_defs, tree}
use Rattle.core_ast.proofs.Items.{all_defs-next}
use Rattle.core_scope.specs.Asks.{erlang}
use Rattle.core_scope.specs.Names.{Distinct, has_function, same_atom, same_function}
use Rattle.core_scope.proofs.NameLaws.{not_same, function_is, function_itself}
use Rattle.core_meaning.specs.Programs.{Program, built_in, exported, hidden, outside, found, found_in, function_named, locals_of, module_named}
use Rattle.type_lattice_model.specs.Values.{Local}
use Rattle.fun_flow_sets.specs.Items.{defined_at, defined_in}
use Rattle.fun_flow_places.specs.declared.table.ModuleTable.{ModuleTable}
use Rattle.fun_flow_places.specs.Bindings.{or_outer, value_of}
use Rattle.fun_flow_places.specs.Naming.{bytes_of, module_names, name_at, name_of}
use Rattle.fun_flow_places.specs.Tables.{IsTableOf, exports_of, frame, label_of}

-- ---- names of modules

name_at_is : (n : ℕ) (xs : List Atom) (h : ℕ) (x : Atom) → slice_get xs h ≡ Some x → name_at n xs h ≡ x
name_at_is n [] h x e = absurd cc
name_at_is n (y ∷ xs) zero x e = cc
name_at_is n (y ∷ xs) (suc h) x e = name_at_is n xs h x e

pub name_of_is : (U : Program) (h : ℕ) (x : Atom) → slice_get (module_names U) h ≡ Some x → name_of U h ≡ x
name_of_is U h x e = name_at_is (bytes_of (module_names U)) (module_names U) h x e

-- the last name that is this one stands where it is found
last_name : (p : ℕ) (xs : List Atom) (x : Atom) → list_any (same_atom x) (drop p xs) ≡ true → list_any (same_atom x) (drop (suc p) xs) ≡ false → slice_get xs p ≡ Some x
last_name zero [] x there innermost = absurd cc
last_name (suc p) [] x there innermost = absurd cc
last_name zero (y ∷ xs) x there innermost = ap Some (sym ((bytes_decides x y).0 (or_first (same_atom x y) (list_any (same_atom x) xs) there innermost)))
last_name (suc p) (y ∷ xs) x there innermost = last_name p xs x there innermost

pub name_position : (p : ℕ) (xs : List Atom) (x : Atom) → list_any (same_atom x) (drop p xs) ≡ true → list_any (same_atom x) (drop (p + 1) xs) ≡ false → slice_get xs p ≡ Some x
name_position p xs x there innermost = last_name p xs x there (ap (λ n. list_any (same_atom x) (drop n xs)) (let e : suc p ≡ p + 1 = omega arith in e) ∙ innermost)

-- ---- modules by their names

pub name_among : (U : Program) (p : ℕ) (q : m.Module) → slice_get U p ≡ Some q → Contains (module_names U) q.name
name_among [] p q e = absurd cc
name_among (r ∷ U) zero q e = let same : r ≡ q = cc in subst (λ z. Contains (r.name ∷ module_names U) z.name) same (contains_first r.name (module_names U))
name_among (r ∷ U) (suc p) q e = contains_later r.name q.name (module_names U) (name_among U p q e)

pub module_at : (U : Program) (p : ℕ) (q : m.Module) → Distinct (module_names U) → slice_get U p ≡ Some q → module_named U q.name ≡ Some q
module_at [] p q apart e = absurd cc
module_at (r ∷ U) zero q apart e =
    let same : r ≡ q = cc in
    ap (λ b. if b then Some r else module_named U q.name) (ap (λ z. same_atom z.name q.name) same ∙ (bytes_decides q.name q.name).1 refl) ∙ ap Some same
module_at (r ∷ U) (suc p) q apart e =
    ap (λ b. if b then Some r else module_named U q.name) (not_same r.name q.name (λ is. apart.0 (subst (Contains (module_names U)) (sym is) (name_among U p q e)))) ∙ module_at U p q apart.1 e

pub no_module : (U : Program) (x : Atom) → list_any (same_atom x) (module_names U) ≡ false → module_named U x ≡ None
no_module [] x none = refl
no_module (r ∷ U) x none =
    let parts = or_parts (same_atom x r.name) (list_any (same_atom x) (module_names U)) none in
    ap (λ b. if b then Some r else module_named U x) (nat_list_eq_equiv.symm r.name x ∙ parts.0) ∙ no_module U x parts.1

-- the module at a position that has a name
pub record IsAt (U : Program) (p : ℕ) (x : Atom) : Type 0 where
  pub source : m.Module
  pub named : source.name ≡ x
  pub there : slice_get U p ≡ Some source

at_name : (U : Program) (p : ℕ) (x : Atom) → slice_get (module_names U) p ≡ Some x → IsAt U p x
at_name [] p x e = absurd cc
at_name (r ∷ U) zero x e = record { source = r; named = cc; there = refl }
at_name (r ∷ U) (suc p) x e = let h = at_name U p x e in record { source = h.source; named = h.named; there = h.there }

pub module_found : (U : Program) (p : ℕ) (x : Atom) (h : IsAt U p x) → Distinct (module_names U) → module_named U x ≡ Some h.source
module_found U p x h apart = ap (module_named U) (sym h.named) ∙ module_at U p h.source apart h.there

-- ---- functions by their names

pub value_more : {T V : Type 0} (eq : T → T → Bool) (bs : List (T × V)) (y : T) (v : V) (x : T) → value_of eq (bs ++ (y, v) ∷ []) x ≡ (if eq x y then Some v else value_of eq bs x)
value_more eq [] y v x = by (eq x y)
  where
    by : (b : Bool) → or_outer None (if b then Some v else None) ≡ (if b then Some v else None)
    by true = refl
    by false = refl
value_more eq ((z, w) ∷ bs) y v x = ap (λ o. or_outer o (if eq x z then Some w else None)) (value_more eq bs y v x) ∙ by (eq x y)
  where
    by : (b : Bool) → or_outer (if b then Some v else value_of eq bs x) (if eq x z then Some w else None) ≡ (if b then Some v else or_outer (value_of eq bs x) (if eq x z then Some w else None))
    by true = refl
    by false = refl

-- a function that is listed with what is said of it
pub listed_value : {V : Type 0} (say : FunName → V) (fs : List FunName) (f : FunName) → value_of same_function (map (λ k. (k, say k)) fs) f ≡ (if has_function fs f then Some (say f) else None)
listed_value say [] f = refl
listed_value say (g ∷ fs) f = ap (λ o. or_outer o (if same_function f g then Some (say g) else None)) (listed_value say fs f) ∙ by (same_function f g) (has_function fs f) refl
  where
    by : (a b : Bool) → same_function f g ≡ a → or_outer (if b then Some (say f) else None) (if a then Some (say g) else None) ≡ (if a || b then Some (say f) else None)
    by true true e = refl
    by true false e = ap (λ z. Some (say z)) (sym (function_is f g e))
    by false true e = refl
    by false false e = refl

-- ---- look-ups

module _ (U : Program) (table : ModuleTable) (x : Atom) (f : FunName) (apart : Distinct (module_names U)) (is : IsTableOf U table) (other : same_atom x erlang ≡ false) where
  finds : (o : Option m.Module) → module_named U x ≡ o → found U x f ≡ found_in o f
  finds o e = ap (λ b. if b then built_in else found_in (module_named U x) f) other ∙ ap (λ z. found_in z f) e

  pub finds_outside : list_any (same_atom x) table.names ≡ false → found U x f ≡ outside
  finds_outside none = finds None (no_module U x (sym (ap (list_any (same_atom x)) is.names) ∙ none))

  module _ (p : ℕ) (there : list_any (same_atom x) (drop p table.names) ≡ true) (innermost : list_any (same_atom x) (drop (p + 1) table.names) ≡ false) where
    named : slice_get (module_names U) p ≡ Some x
    named = sym (ap (λ ns. slice_get ns p) is.names) ∙ name_position p table.names x there innermost

    here : IsAt U p x
    here = at_name U p x named

    listed : slice_get table.exports p ≡ Some (exports_of here.source)
    listed = ap (λ es. slice_get es p) is.exports ∙ slice_get-map exports_of U p ∙ ap (option_map exports_of) here.there

    -- a name has exports
    pub finds_never : slice_get table.exports p ≡ None → found U x f ≡ outside
    finds_never none = let e : None ≡ Some (exports_of here.source) = sym none ∙ listed in absurd cc

    module _ (es : List (FunName × Option ℕ)) (at : slice_get table.exports p ≡ Some es) where
      value_is : value_of same_function es f ≡ (if has_function here.source.exports f then Some (label_of (function_named (locals_of here.source.defs) f)) else None)
      value_is =
          let same : es ≡ exports_of here.source = let e : Some es ≡ Some (exports_of here.source) = sym at ∙ listed in cc in
          ap (λ z. value_of same_function z f) same ∙ listed_value (λ k. label_of (function_named (locals_of here.source.defs) k)) here.source.exports f

      pub finds_exported : (o : Option ℕ) → Some o ≡ value_of same_function es f → (found U x f ≡ exported) × ((name_of U p ≡ x) × (label_of (defined_at U x f) ≡ o))
      finds_exported o e = by (has_function here.source.exports f) refl
        where
          by : (b : Bool) → has_function here.source.exports f ≡ b → (found U x f ≡ exported) × ((name_of U p ≡ x) × (label_of (defined_at U x f) ≡ o))
          by true h =
              let v : Some o ≡ Some (label_of (function_named (locals_of here.source.defs) f)) = e ∙ value_is ∙ ap (λ b. if b then Some (label_of (function_named (locals_of here.source.defs) f)) else None) h in
              let same : o ≡ label_of (function_named (locals_of here.source.defs) f) = cc in (
                finds (Some here.source) (module_found U p x here apart) ∙ ap (λ b. if b then exported else hidden) h,
                (name_of_is U p x named, ap (λ z. label_of (defined_in z f)) (module_found U p x here apart) ∙ sym same),
              )
          by false h =
              let v : Some o ≡ None = e ∙ value_is ∙ ap (λ b. if b then Some (label_of (function_named (locals_of here.source.defs) f)) else None) h in
              absurd cc

      pub finds_hidden : None ≡ value_of same_function es f → found U x f ≡ hidden
      finds_hidden e = by (has_function here.source.exports f) refl
        where
          by : (b : Bool) → has_function here.source.exports f ≡ b → found U x f ≡ hidden
          by true h = let v : None ≡ Some (label_of (function_named (locals_of here.source.defs) f)) = e ∙ value_is ∙ ap (λ b. if b then Some (label_of (function_named (locals_of here.source.defs) f)) else None) h in absurd cc
          by false h = finds (Some here.source) (module_found U p x here apart) ∙ ap (λ b. if b then exported else hidden) h

-- ---- definitions, the last of them first

pub frame_round : (old now new : List (FunName × ℕ)) (ds : List (FunDefOf Expr)) (i : ℕ) (d : FunDefOf Expr) → i < length ds → d ≡ get_or ds i d → new ≡ now ++ (d.name, d.mark.label) ∷ []
    → now ≡ old ++ frame (locals_of (all_defs (drop (i + 1) ds))) → new ≡ old ++ frame (locals_of (all_defs (drop i ds)))
frame_round old now new ds i d within is pushed before =
    let rest : m.Defs = all_defs (drop (i + 1) ds) in
    pushed ∙ ap (λ z. z ++ (d.name, d.mark.label) ∷ []) before ∙ append_assoc old (frame (locals_of rest)) ((d.name, d.mark.label) ∷ [])
    ∙ ap (λ z. old ++ frame (locals_of z)) (sym (all_defs-next ds i d within ∙ ap (λ x. m.and_def x.name x.mark x.fun.params (tree x.fun.body) rest) (sym is)))

-- definitions that are seen inside of others
pub frame_value : (bs : List (FunName × ℕ)) (ds : List Local) (f : FunName) → value_of same_function (bs ++ frame ds) f ≡ or_outer (label_of (function_named ds f)) (value_of same_function bs f)
frame_value bs [] f = ap (λ l. value_of same_function l f) (append-nil bs)
frame_value bs (d ∷ ds) f =
    let name : FunName = record { name = d.name; arity = d.arity } in
    ap (λ l. value_of same_function l f) (sym (append_assoc bs (frame ds) ((name, d.label) ∷ []))) ∙ value_more same_function (bs ++ frame ds) name d.label f
    ∙ ap (λ o. if same_function f name then Some d.label else o) (frame_value bs ds f) ∙ by (same_function f name) (same_function name f) refl refl
  where
    by : (a b : Bool) → same_function f (record { name = d.name; arity = d.arity }) ≡ a → same_function (record { name = d.name; arity = d.arity }) f ≡ b
        → (if a then Some d.label else or_outer (label_of (function_named ds f)) (value_of same_function bs f)) ≡ or_outer (label_of (if b then Some d else function_named ds f)) (value_of same_function bs f)
    by true true e h = refl
    by true false e h = absurd (true≢false (sym (function_itself f) ∙ ap (λ z. same_function z f) (function_is f (record { name = d.name; arity = d.arity }) e) ∙ h))
    by false true e h = absurd (true≢false (sym (function_itself f) ∙ ap (same_function f) (sym (function_is (record { name = d.name; arity = d.arity }) f h)) ∙ e))
    by false false e h = refl

-- ---- what is listed so far

module _ {A B : Type 0} (say : A → B) where
  pub listed_round : (now new all : List B) (xs : List A) (i : ℕ) (x : A) → i < length xs → x ≡ get_or xs i x → new ≡ now ++ say x ∷ [] → now ++ map say (drop i xs) ≡ all → new ++ map say (drop (i + 1) xs) ≡ all
  listed_round now new all xs i x within is pushed before =
      ap (λ l. l ++ map say (drop (i + 1) xs)) pushed ∙ append_assoc now (say x ∷ []) (map say (drop (i + 1) xs))
      ∙ ap (λ l. now ++ map say l) (sym (drop_more xs i x within ∙ ap (λ y. y ∷ drop (i + 1) xs) (sym is))) ∙ before

  pub listed_all : (now all : List B) (xs : List A) (i : ℕ) → length xs ≤ i → now ++ map say (drop i xs) ≡ all → now ≡ all
  listed_all now all xs i past h = sym (append-nil now) ∙ ap (λ l. now ++ map say l) (sym (drop_of_length-le xs past)) ∙ h

pub outer_none : (o : Option ℕ) → or_outer o None ≡ o
outer_none None = refl
outer_none (Some n) = refl

pub exported_round : (functions : List (FunName × ℕ)) (ds : m.Defs) (now new all : List (FunName × Option ℕ)) (fs : List FunName) (i : ℕ) (f : FunName) (label : Option ℕ)
    → functions ≡ [] ++ frame (locals_of ds) → i < length fs → f ≡ get_or fs i f → label ≡ value_of same_function functions f → new ≡ now ++ (f, label) ∷ []
    → now ++ map (λ k. (k, label_of (function_named (locals_of ds) k))) (drop i fs) ≡ all → new ++ map (λ k. (k, label_of (function_named (locals_of ds) k))) (drop (i + 1) fs) ≡ all
exported_round functions ds now new all fs i f label seen within is found pushed before =
    let same : label ≡ label_of (function_named (locals_of ds) f) = found ∙ ap (λ l. value_of same_function l f) seen ∙ frame_value [] (locals_of ds) f ∙ outer_none (label_of (function_named (locals_of ds) f)) in
    listed_round (λ k. (k, label_of (function_named (locals_of ds) k))) now new all fs i f within is (pushed ∙ ap (λ l. now ++ (f, l) ∷ []) same) before

-- a name that isn't among some
pub none_among : (o : Option ℕ) (b : Bool) → o ≡ None → IsSome o ↔ (b ≡ true) → b ≡ false
none_among o b none iff = false_from_ne_true b (λ e. let h : IsSome o = iff.1 e in absurd cc)

pub map_both : {A B C : Type 0} (f : A → B) (g : B → C) (xs : List A) → map (λ x. g (f x)) xs ≡ map g (map f xs)
map_both f g [] = refl
map_both f g (x ∷ xs) = ap (λ l. g (f x) ∷ l) (map_both f g xs)
