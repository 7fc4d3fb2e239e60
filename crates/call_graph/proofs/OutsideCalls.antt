-- The calls that go to no function: those that the walks find, and what they are.
use Rattle.std.proofs.Common.{◌≡◌, ◌↔◌, ℕ, ◌⊎◌, inl, inr, ◌&&◌, ◌||◌, Bool, true, false, if◌then◌else◌, List, [], ◌∷◌, ◌++◌, Contains, map, refl, sym, ap, ◌∙◌, subst}
use Rattle.std.specs.List.{list_any}
use Rattle.std.specs.Cmp.Lexicographic.{bytes_decides}
use Rattle.std.proofs.lemmas.List.Elements.{Contains-append_left, Contains-append_right, Contains-append_cases}
use Rattle.std.proofs.lemmas.Bool.{and_parts, false_from_ne_true, or_right}
use Rattle.core_scope.proofs.NameLaws.{not_same, function_is, function_itself, has_contained, contained_has}
use Rattle.type_kinds.proofs.Lists.{contains_none, contains_first, contains_at, contains_later, contains_cases, position_of}
use Rattle.type_kinds.specs.declared.atom.Atom.{Atom}
use Rattle.core_ast.specs.declared.syntax.FunName.{FunName}
use Rattle.core_ast.specs.Model as m
use Rattle.core_scope.specs.Asks.{erlang}
use Rattle.core_scope.specs.Names.{same_atom, same_function, has_function}
use Rattle.call_graph.specs.declared.table.FunctionTable.{FunctionTable}
use Rattle.call_graph.specs.declared.table.Resolved.{Resolved}
use Rattle.call_graph.specs.declared.table.Resolved.TheVariants.{BuiltIn, NotPassed, NotExported, Function}
use Rattle.call_graph.specs.Targets.{CallTarget, targets}
use Rattle.call_graph.specs.Targets.CallTarget.{defined, inner, remote}
use Rattle.call_graph.specs.Calls.{ModuleFunction, functions_of}
use Rattle.call_graph.specs.Outside.{Called, is_exported_as, outside_call, outside_calls, outside_of, GoesInside}
use Rattle.call_graph.specs.Tables.{resolved, IsReached, IsTableOf}
use Rattle.call_graph.specs.steps.Walking.{unreached, missed, all_missed, missed_in}
use Rattle.call_graph.proofs.Tables.{other_atom}

-- ---- lists

module _ {X : Type 0} (p : X → Bool) where
  some_contained : (xs : List X) (x : X) → Contains xs x → p x ≡ true → list_any p xs ≡ true
  some_contained [] x h t = absurd (contains_none x h)
  some_contained (y ∷ ys) x h t = elim (contains_cases y x ys h) [
    | inl e ↦ ap (λ b. b || list_any p ys) (ap p e ∙ t)
    | inr c ↦ or_right (p y) (list_any p ys) (some_contained ys x c t)
  ]

  contained_some : (xs : List X) → list_any p xs ≡ true → (x : X) × Contains xs x × (p x ≡ true)
  contained_some [] h = absurd cc
  contained_some (y ∷ ys) h = by (contained_some ys) (p y) refl h
    where
      by : (list_any p ys ≡ true → (x : X) × Contains ys x × (p x ≡ true)) → (b : Bool) → p y ≡ b → (b || list_any p ys) ≡ true → (x : X) × Contains (y ∷ ys) x × (p x ≡ true)
      by rest true e h = (y, contains_first y ys, e)
      by rest false e h = let r = rest h in (r.0, contains_later y r.0 ys r.1, r.2)

map_same : {X Y : Type 0} (v w : X → Y) (xs : List X) → ((x : X) → v x ≡ w x) → map v xs ≡ map w xs
map_same v w [] h = refl
map_same v w (x ∷ xs) h = λ i. h x i ∷ map_same v w xs h i

-- ---- functions that are reached

exported_is : (home : Atom) (name : FunName) (g : ModuleFunction) → is_exported_as home name g ≡ true → (g.home ≡ home) × Contains g.exports name × (g.name ≡ name)
exported_is home name g h =
    let outer = and_parts (same_atom home g.home && same_function name g.name) (has_function g.exports name) h in
    let pair = and_parts (same_atom home g.home) (same_function name g.name) outer.0 in
    (sym ((bytes_decides home g.home).0 pair.0), contained_has g.exports name outer.1, sym (function_is name g.name pair.1))

is_exported : (home : Atom) (name : FunName) (g : ModuleFunction) → g.home ≡ home → Contains g.exports name → g.name ≡ name → is_exported_as home name g ≡ true
is_exported home name g here stands named =
    ap (λ b. b && same_function name g.name && has_function g.exports name) ((bytes_decides home g.home).1 (sym here))
    ∙ ap (λ f. same_function name f && has_function g.exports name) named ∙ ap (λ b. b && has_function g.exports name) (function_itself name) ∙ has_contained g.exports name stands

-- A call by these names, not into `erlang`, goes to one of these functions.
abbrev Reached : List ModuleFunction → (home : Atom) → FunName → Type 0
Reached gs home name = (g : ModuleFunction) × Contains gs g × IsReached home name g

reached_any : (gs : List ModuleFunction) (home : Atom) (name : FunName) → Reached gs home name → list_any (is_exported_as home name) gs ≡ true
reached_any gs home name r = let g = r.0 in let is = r.2 in some_contained (is_exported_as home name) gs g r.1 (is_exported home name g is.0 is.2 is.3)

any_reached : (gs : List ModuleFunction) (home : Atom) (name : FunName) → (home ≡ erlang → ⊥) → list_any (is_exported_as home name) gs ≡ true → Reached gs home name
any_reached gs home name other h =
    let r = contained_some (is_exported_as home name) gs h in
    let is = exported_is home name r.0 r.2 in
    (r.0, r.1, (is.0, other, is.1, is.2))

-- ---- what the walks find

-- A call by these names, as the two tests say: whether the module is `erlang`, and whether some function is reached.
abbrev left_out : (home : Atom) → FunName → Bool → Bool → List Called
left_out home name built_in inside = if built_in || inside then [] else (home, name) ∷ []

module _ (xs : List m.Module) (table : FunctionTable) (is : IsTableOf xs table) where
  not_reached : (home : Atom) (name : FunName) (r : Resolved) → resolved table home name ≡ r → ((j : ℕ) → r ≡ Function j → ⊥) → (home ≡ erlang → ⊥)
      → outside_call (functions_of xs) (remote home name) ≡ (home, name) ∷ []
  not_reached home name r here none other =
      let inside : list_any (is_exported_as home name) (functions_of xs) ≡ false = false_from_ne_true (list_any (is_exported_as home name) (functions_of xs)) (λ t.
      let found = any_reached (functions_of xs) home name other t in
      let place = position_of (functions_of xs) found.0 found.1 in
      none place.0 (sym here ∙ (is.reaches home name place.0).1 (found.0, place.2, found.2))) in
      ap (λ b. left_out home name b (list_any (is_exported_as home name) (functions_of xs))) (not_same home erlang other) ∙ ap (left_out home name false) inside

  missed_is : (t : CallTarget) → missed table t ≡ outside_call (functions_of xs) t
  missed_is (defined f n) = refl
  missed_is (inner f n) = refl
  missed_is (remote home name) = by (resolved table home name) refl
    where
      by : (r : Resolved) → resolved table home name ≡ r → unreached (home, name) r ≡ outside_call (functions_of xs) (remote home name)
      by BuiltIn here = sym (ap (λ b. left_out home name b (list_any (is_exported_as home name) (functions_of xs))) ((bytes_decides home erlang).1 ((is.built_in home name).0 here)))
      by NotPassed here = sym (not_reached home name NotPassed here (λ j e. absurd cc) ((is.elsewhere home name).0 here).0)
      by NotExported here = sym (not_reached home name NotExported here (λ j e. absurd cc) (λ e. absurd (let b : resolved table home name ≡ BuiltIn = (is.built_in home name).1 e in cc)))
      by (Function j) here =
          let r = (is.reaches home name j).0 here in
          let inside = reached_any (functions_of xs) home name (r.0, contains_at (functions_of xs) j r.0 r.1, r.2) in
          sym (ap (λ b. left_out home name b (list_any (is_exported_as home name) (functions_of xs))) (not_same home erlang r.2.1) ∙ ap (left_out home name false) inside)

  all_missed_are : (ts : List CallTarget) → all_missed table ts ≡ outside_calls (functions_of xs) ts
  all_missed_are [] = refl
  all_missed_are (t ∷ ts) = λ i. missed_is t i ++ all_missed_are ts i

  pub missed_are_outside : (fs : List ModuleFunction) → map (missed_in table) fs ≡ map (outside_of xs) fs
  missed_are_outside fs = map_same (missed_in table) (outside_of xs) fs (λ f. all_missed_are (targets [] f.body))

-- ---- what these calls are

-- A call that stands among those outside is a target that reaches no function.
pub record IsOutside (gs : List ModuleFunction) (target : CallTarget) (c : Called) : Type 0 where
  pub same : target ≡ remote c.0 c.1
  pub other : c.0 ≡ erlang → ⊥
  pub none : list_any (is_exported_as c.0 c.1) gs ≡ false

outside_is : (gs : List ModuleFunction) (t : CallTarget) (c : Called) → Contains (outside_call gs t) c → IsOutside gs t c
outside_is gs (defined f n) c h = absurd (contains_none c h)
outside_is gs (inner f n) c h = absurd (contains_none c h)
outside_is gs (remote home name) c h = by (same_atom home erlang) refl (list_any (is_exported_as home name) gs) refl h
  where
    by : (a : Bool) → same_atom home erlang ≡ a → (b : Bool) → list_any (is_exported_as home name) gs ≡ b → Contains (left_out home name a b) c → IsOutside gs (remote home name) c
    by true x b y h = absurd (contains_none c h)
    by false x true y h = absurd (contains_none c h)
    by false x false y h = elim (contains_cases (home, name) c [] h) [
      | inl e ↦ subst (IsOutside gs (remote home name)) e (record { same = refl; other = other_atom home erlang x; none = y })
      | inr d ↦ absurd (contains_none c d)
    ]

outside_stands : (gs : List ModuleFunction) (ts : List CallTarget) (c : Called) → Contains (outside_calls gs ts) c → (t : CallTarget) × Contains ts t × IsOutside gs t c
outside_stands gs [] c h = absurd (contains_none c h)
outside_stands gs (t ∷ ts) c h = elim (Contains-append_cases (outside_call gs t) (outside_calls gs ts) c h) [
  | inl a ↦ (t, contains_first t ts, outside_is gs t c a)
  | inr b ↦ let r = outside_stands gs ts c b in (r.0, contains_later t r.0 ts r.1, r.2)
]

stands_outside : (gs : List ModuleFunction) (ts : List CallTarget) (t : CallTarget) (c : Called) → Contains ts t → Contains (outside_call gs t) c → Contains (outside_calls gs ts) c
stands_outside gs [] t c h a = absurd (contains_none t h)
stands_outside gs (u ∷ ts) t c h a = elim (contains_cases u t ts h) [
  | inl e ↦ Contains-append_left (outside_call gs u) (outside_calls gs ts) c (subst (λ z. Contains (outside_call gs z) c) (sym e) a)
  | inr d ↦ Contains-append_right (outside_call gs u) (outside_calls gs ts) c (stands_outside gs ts t c d a)
]

module _ (xs : List m.Module) (f : ModuleFunction) (home : Atom) (name : FunName) where
  listed_outside : Contains (targets [] f.body) (remote home name) → (home ≡ erlang → ⊥) → list_any (is_exported_as home name) (functions_of xs) ≡ false → Contains (outside_of xs f) (home, name)
  listed_outside stands other none =
      let here : outside_call (functions_of xs) (remote home name) ≡ (home, name) ∷ [] =
      ap (λ b. left_out home name b (list_any (is_exported_as home name) (functions_of xs))) (not_same home erlang other) ∙ ap (left_out home name false) none in
      stands_outside (functions_of xs) (targets [] f.body) (remote home name) (home, name) stands (subst (λ l. Contains l (home, name)) (sym here) (contains_first (home, name) []))

  pub inside_or_outside : Contains (targets [] f.body) (remote home name) → (home ≡ erlang → ⊥) → GoesInside xs f (remote home name) ⊎ Contains (outside_of xs f) (home, name)
  inside_or_outside stands other = by (list_any (is_exported_as home name) (functions_of xs)) refl
    where
      by : (b : Bool) → list_any (is_exported_as home name) (functions_of xs) ≡ b → GoesInside xs f (remote home name) ⊎ Contains (outside_of xs f) (home, name)
      by true t = inl (any_reached (functions_of xs) home name other t)
      by false none = inr (listed_outside stands other none)

  pub outside_exact : Contains (outside_of xs f) (home, name) ↔ (Contains (targets [] f.body) (remote home name) × (home ≡ erlang → ⊥) × (GoesInside xs f (remote home name) → ⊥))
  outside_exact = (there, back)
    where
      there : Contains (outside_of xs f) (home, name) → Contains (targets [] f.body) (remote home name) × (home ≡ erlang → ⊥) × (GoesInside xs f (remote home name) → ⊥)
      there h =
          let r = outside_stands (functions_of xs) (targets [] f.body) (home, name) h in
          let out = r.2 in
          (subst (Contains (targets [] f.body)) out.same r.1, out.other, λ inside. absurd (let t : list_any (is_exported_as home name) (functions_of xs) ≡ true = reached_any (functions_of xs) home name inside in let n = out.none in cc))

      back : Contains (targets [] f.body) (remote home name) × (home ≡ erlang → ⊥) × (GoesInside xs f (remote home name) → ⊥) → Contains (outside_of xs f) (home, name)
      back h = listed_outside h.0 h.1 (false_from_ne_true (list_any (is_exported_as home name) (functions_of xs)) (λ t. h.2 (any_reached (functions_of xs) home name h.1 t)))
