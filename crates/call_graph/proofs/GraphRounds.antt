-- The loops that add pairs: what each round keeps.
use Rattle.std.proofs.Common.{◌≡◌, ◌↔◌, ℕ, ◌+◌, ◌<◌, ◌≤◌, ◌⊎◌, inl, inr, List, [], ◌∷◌, ◌++◌, Contains, length, drop, get_or, map, sym, ap, ◌∙◌, subst, add-one, length-append}
use Rattle.std.proofs.lemmas.List.{map-append, append_assoc, append-nil, drop_all}
use Rattle.type_kinds.proofs.Truths.{both_ways}
use Rattle.type_kinds.proofs.Lists.{drop_next, contains_none, contains_first, contains_later, contains_cases}
use Rattle.components.specs.Graph.{Leads}
use Rattle.type_kinds.specs.declared.atom.Atom.{Atom}
use Rattle.core_ast.specs.declared.syntax.FunName.{FunName}
use Rattle.core_ast.specs.declared.syntax.FunDefOf.{FunDefOf}
use Rattle.core_ast.specs.declared.syntax.Expr.{Expr}
use Rattle.core_ast.specs.Model as m
use Rattle.core_ast.specs.Tree.{tree, all_defs}
use Rattle.core_ast.proofs.Items.{all_defs-next}
use Rattle.core_scope.specs.declared.checked.Checked.{Checked}
use Rattle.core_scope.specs.Checked.{tree_of}
use Rattle.call_graph.specs.declared.table.FunctionTable.{FunctionTable}
use Rattle.call_graph.specs.declared.walk.CallWalk.{CallWalk}
use Rattle.call_graph.specs.Targets.{targets}
use Rattle.call_graph.specs.Calls.{ModuleFunction, functions_in, module_functions, functions_of, Calls}
use Rattle.call_graph.specs.Tables.{IsTableOf}
use Rattle.call_graph.specs.Outside.{Called}
use Rattle.call_graph.specs.steps.Walking.{callees, callees_in, all_missed, missed_in, PairsFrom}
use Rattle.call_graph.proofs.Notes.{with_notes}
use Rattle.call_graph.proofs.DistinctKeys.{modules}
use Rattle.call_graph.proofs.CalledFunctions.{pairs_are_calls, pairs_split, pairs_joined}

abbrev pub Graph : Type 0
Graph = List (List ℕ)

-- ---- the pairs of one function

-- The pairs from one function to some: those of a graph, and those that are left to add.
abbrev pub WithLeft : Graph → ℕ → List ℕ → ℕ → ℕ → Type 0
WithLeft graph from left i j = Leads graph i j ⊎ ((i ≡ from) × Contains left j)

pub pairs_round : (g h : Graph) (from : ℕ) (cs rest : List ℕ) (c : ℕ) → cs ≡ c ∷ rest → ((i j : ℕ) → Leads h i j ↔ (Leads g i j ⊎ ((i ≡ from) × (j ≡ c)))) → (i j : ℕ)
    → WithLeft h from rest i j ↔ WithLeft g from cs i j
pairs_round g h from cs rest c is added i j = (there, back)
  where
    there : WithLeft h from rest i j → WithLeft g from cs i j
    there (inl a) = elim ((added i j).0 a) [
      | inl old ↦ inl old
      | inr new ↦ inr (new.0, subst (λ l. Contains l j) (sym is) (subst (λ k. Contains (c ∷ rest) k) (sym new.1) (contains_first c rest)))
    ]
    there (inr b) = inr (b.0, subst (λ l. Contains l j) (sym is) (contains_later c j rest b.1))

    back : WithLeft g from cs i j → WithLeft h from rest i j
    back (inl a) = inl ((added i j).1 (inl a))
    back (inr b) = elim (contains_cases c j rest (subst (λ l. Contains l j) is b.1)) [
      | inl e ↦ inl ((added i j).1 (inr (b.0, sym e)))
      | inr d ↦ inr (b.0, d)
    ]

pub pairs_exit : (g first : Graph) (from : ℕ) (cs left : List ℕ) → left ≡ [] → ((i j : ℕ) → WithLeft g from left i j ↔ WithLeft first from cs i j) → (i j : ℕ) → Leads g i j ↔ WithLeft first from cs i j
pairs_exit g first from cs left none h i j = (λ a. (h i j).0 (inl a), λ b. back ((h i j).1 b))
  where
    back : WithLeft g from left i j → Leads g i j
    back (inl a) = a
    back (inr b) = absurd (contains_none j (subst (λ l. Contains l j) none b.1))

-- ---- the pairs of functions one after another

-- The pairs of a graph, and those of functions from some number on.
abbrev pub WithPairs : Graph → FunctionTable → ℕ → List ModuleFunction → ℕ → ℕ → Type 0
WithPairs graph table n fs i j = Leads graph i j ⊎ PairsFrom table n fs i j

-- The pairs of the first function were added.
pub function_added : (g h : Graph) (table : FunctionTable) (n : ℕ) (f : ModuleFunction) (rest : List ModuleFunction) → ((i j : ℕ) → Leads h i j ↔ (Leads g i j ⊎ ((i ≡ n) × Contains (callees_in table f) j)))
    → (i j : ℕ) → WithPairs h table (n + 1) rest i j ↔ WithPairs g table n (f ∷ rest) i j
function_added g h table n f rest added i j = (there, back)
  where
    there : WithPairs h table (n + 1) rest i j → WithPairs g table n (f ∷ rest) i j
    there (inl a) = elim ((added i j).0 a) [
      | inl old ↦ inl old
      | inr new ↦ inr (inl new)
    ]
    there (inr b) = inr (inr b)

    back : WithPairs g table n (f ∷ rest) i j → WithPairs h table (n + 1) rest i j
    back (inl a) = inl ((added i j).1 (inl a))
    back (inr (inl b)) = inl ((added i j).1 (inr b))
    back (inr (inr b)) = inr b

-- The pairs of a module's functions were added.
pub functions_added : (g h : Graph) (table : FunctionTable) (n : ℕ) (fs gs : List ModuleFunction) → ((i j : ℕ) → Leads h i j ↔ WithPairs g table n fs i j) → (i j : ℕ)
    → WithPairs h table (n + length fs) gs i j ↔ WithPairs g table n (fs ++ gs) i j
functions_added g h table n fs gs added i j = (there, back)
  where
    there : WithPairs h table (n + length fs) gs i j → WithPairs g table n (fs ++ gs) i j
    there (inl a) = elim ((added i j).0 a) [
      | inl old ↦ inl old
      | inr new ↦ inr (pairs_joined table n fs gs i j (inl new))
    ]
    there (inr b) = inr (pairs_joined table n fs gs i j (inr b))

    back : WithPairs g table n (fs ++ gs) i j → WithPairs h table (n + length fs) gs i j
    back (inl a) = inl ((added i j).1 (inl a))
    back (inr b) = elim (pairs_split table n fs gs i j b) [
      | inl c ↦ inl ((added i j).1 (inr c))
      | inr c ↦ inr c
    ]

pub none_left : (g : Graph) (table : FunctionTable) (n : ℕ) (fs : List ModuleFunction) (i j : ℕ) → fs ≡ [] → Leads g i j ↔ WithPairs g table n fs i j
none_left g table n fs i j none = (λ a. inl a, back)
  where
    back : WithPairs g table n fs i j → Leads g i j
    back (inl a) = a
    back (inr b) = absurd (subst (λ l. PairsFrom table n l i j) none b)

pub pairs_begin : (g : Graph) (table : FunctionTable) (n : ℕ) (fs : List ModuleFunction) → ((i j : ℕ) → Leads g i j → ⊥) → (i j : ℕ) → WithPairs g table n fs i j ↔ PairsFrom table n fs i j
pairs_begin g table n fs none i j = (there, λ b. inr b)
  where
    there : WithPairs g table n fs i j → PairsFrom table n fs i j
    there (inl a) = absurd (none i j a)
    there (inr b) = b

pub next_function : (home : Atom) (exports : List FunName) (ds : List (FunDefOf Expr)) (i : ℕ) (d : FunDefOf Expr) → i < length ds → d ≡ get_or ds i d
    → functions_in home exports (all_defs (drop i ds)) ≡ record { home = home; exports = exports; name = d.name; mark = d.mark; params = d.fun.params; body = tree d.fun.body } ∷ functions_in home exports (all_defs (drop (i + 1) ds))
next_function home exports ds i d within is = ap (functions_in home exports) (all_defs-next ds i d within ∙ ap (λ x. m.and_def x.name x.mark x.fun.params (tree x.fun.body) (all_defs (drop (i + 1) ds))) (sym is))

-- ---- the functions of one module

abbrev pub function_at : Atom → List FunName → FunDefOf Expr → ModuleFunction
function_at home exports d = record { home = home; exports = exports; name = d.name; mark = d.mark; params = d.fun.params; body = tree d.fun.body }

-- ---- lists of outside calls

-- One more function's.
pub one_more : {X Y : Type 0} (v : X → Y) (done new goal : List Y) (fs rest : List X) (f : X) (y : Y) → fs ≡ f ∷ rest → y ≡ v f → new ≡ done ++ y ∷ [] → done ++ map v fs ≡ goal → new ++ map v rest ≡ goal
one_more v done new goal fs rest f y split is added before =
    ap (λ l. l ++ map v rest) added ∙ append_assoc done (y ∷ []) (map v rest) ∙ ap (λ z. done ++ z ∷ map v rest) is ∙ ap (λ l. done ++ map v l) (sym split) ∙ before

-- Those of more functions.
pub some_more : {X Y : Type 0} (v : X → Y) (done new goal : List Y) (fs gs rest : List X) → fs ≡ gs ++ rest → new ≡ done ++ map v gs → done ++ map v fs ≡ goal → new ++ map v rest ≡ goal
some_more v done new goal fs gs rest split added before =
    ap (λ l. l ++ map v rest) added ∙ append_assoc done (map v gs) (map v rest) ∙ ap (λ l. done ++ l) (sym (map-append v gs rest)) ∙ ap (λ l. done ++ map v l) (sym split) ∙ before

-- No function is left.
pub all_added : {X Y : Type 0} (v : X → Y) (done goal : List Y) (fs : List X) → fs ≡ [] → done ++ map v fs ≡ goal → done ≡ goal
all_added v done goal fs none before = sym (append-nil done) ∙ ap (λ l. done ++ map v l) (sym none) ∙ before

-- ---- what the walk through a body finds

-- The numbers are those of the functions that the function calls.
pub body_callees : (w w1 : CallWalk) (t : FunctionTable) (home : Atom) (exports : List FunName) (d e : FunDefOf Expr) (body : Expr) (cs : List ℕ) → w.table ≡ t → w.home ≡ home → w.locals ≡ [] → e ≡ d
    → body ≡ e.fun.body
    → (let found = targets w.locals (tree body) in w1 ≡ with_notes w (callees w.table w.home found) (all_missed w.table found)) → cs ≡ w1.callees → cs ≡ callees_in t (function_at home exports d)
body_callees w w1 t home exports d e body cs table_is home_is outside same body_is one cs_is =
    cs_is ∙ ap (λ v. v.callees) one ∙ ap (λ x. callees x w.home (targets w.locals (tree body))) table_is ∙ ap (λ x. callees t x (targets w.locals (tree body))) home_is ∙ ap (λ ls. callees t home (targets ls (tree body))) outside
    ∙ ap (λ b. callees t home (targets [] (tree b))) body_is ∙ ap (λ x. callees t home (targets [] (tree x.fun.body))) same

-- The outside calls are the function's.
pub body_missed : (w w1 : CallWalk) (t : FunctionTable) (home : Atom) (exports : List FunName) (d e : FunDefOf Expr) (body : Expr) (cs : List Called) → w.table ≡ t → w.locals ≡ [] → e ≡ d → body ≡ e.fun.body
    → (let found = targets w.locals (tree body) in w1 ≡ with_notes w (callees w.table w.home found) (all_missed w.table found)) → cs ≡ w1.outside → cs ≡ missed_in t (function_at home exports d)
body_missed w w1 t home exports d e body cs table_is outside same body_is one cs_is =
    cs_is ∙ ap (λ v. v.outside) one ∙ ap (λ x. all_missed x (targets w.locals (tree body))) table_is ∙ ap (λ ls. all_missed t (targets ls (tree body))) outside
    ∙ ap (λ b. all_missed t (targets [] (tree b))) body_is ∙ ap (λ x. all_missed t (targets [] (tree x.fun.body))) same

pub left_longer : (home : Atom) (exports : List FunName) (ds : List (FunDefOf Expr)) (i : ℕ) (d : FunDefOf Expr) → i < length ds → d ≡ get_or ds i d
    → length (functions_in home exports (all_defs (drop i ds))) ≡ length (functions_in home exports (all_defs (drop (i + 1) ds))) + 1
left_longer home exports ds i d within is = ap length (next_function home exports ds i d within is) ∙ sym (add-one (length (functions_in home exports (all_defs (drop (i + 1) ds)))))

pub module_round : (g h first : Graph) (t : FunctionTable) (n start : ℕ) (home : Atom) (exports : List FunName) (ds : List (FunDefOf Expr)) (i : ℕ) (d : FunDefOf Expr) (cs : List ℕ) → i < length ds → d ≡ get_or ds i d
    → cs ≡ callees_in t (function_at home exports d)
    → ((a b : ℕ) → Leads h a b ↔ (Leads g a b ⊎ ((a ≡ n) × Contains cs b)))
    → ((a b : ℕ) → WithPairs g t n (functions_in home exports (all_defs (drop i ds))) a b ↔ WithPairs first t start (functions_in home exports (all_defs ds)) a b)
    → (a b : ℕ) → WithPairs h t (n + 1) (functions_in home exports (all_defs (drop (i + 1) ds))) a b ↔ WithPairs first t start (functions_in home exports (all_defs ds)) a b
module_round g h first t n start home exports ds i d cs within is cs_are added before a b =
    let f : ModuleFunction = function_at home exports d in
    let rest : List ModuleFunction = functions_in home exports (all_defs (drop (i + 1) ds)) in
    let P : List ℕ → Type 0 = λ l. (a b : ℕ) → Leads h a b ↔ (Leads g a b ⊎ ((a ≡ n) × Contains l b)) in
    let Q : List ModuleFunction → Type 0 = λ l. WithPairs g t n l a b ↔ WithPairs first t start (functions_in home exports (all_defs ds)) a b in
    both_ways (function_added g h t n f rest (subst P cs_are added) a b) (subst Q (next_function home exports ds i d within is) (before a b))

-- ---- all modules

module _ {S : Type 0} (stands_for : S → Checked) where
  pub next_module : (ss : List S) (i : ℕ) (s : S) (x : m.Module) → i < length ss → s ≡ get_or ss i s → x ≡ tree_of (stands_for s)
      → functions_of (modules stands_for (drop i ss)) ≡ module_functions x ++ functions_of (modules stands_for (drop (i + 1) ss))
  next_module ss i s x within is tree_is = ap functions_of (ap (modules stands_for) (drop_next ss i s within is) ∙ ap (λ y. y ∷ modules stands_for (drop (i + 1) ss)) (sym tree_is))

  pub graph_round : (g h : Graph) (t u : FunctionTable) (n k : ℕ) (ss : List S) (i : ℕ) (s : S) (x : m.Module) → i < length ss → s ≡ get_or ss i s → x ≡ tree_of (stands_for s) → u ≡ t
      → k ≡ n + length (module_functions x)
      → ((a b : ℕ) → Leads h a b ↔ (Leads g a b ⊎ PairsFrom t n (module_functions x) a b))
      → ((a b : ℕ) → WithPairs g t n (functions_of (modules stands_for (drop i ss))) a b ↔ PairsFrom t 0 (functions_of (modules stands_for ss)) a b)
      → (a b : ℕ) → WithPairs h u k (functions_of (modules stands_for (drop (i + 1) ss))) a b ↔ PairsFrom u 0 (functions_of (modules stands_for ss)) a b
  graph_round g h t u n k ss i s x within is tree_is table_is next_is added before a b =
      let fs : List ModuleFunction = module_functions x in
      let gs : List ModuleFunction = functions_of (modules stands_for (drop (i + 1) ss)) in
      let P : FunctionTable → Type 0 = λ v. WithPairs h v k gs a b ↔ PairsFrom v 0 (functions_of (modules stands_for ss)) a b in
      let Q : ℕ → Type 0 = λ z. WithPairs h t z gs a b ↔ PairsFrom t 0 (functions_of (modules stands_for ss)) a b in
      let R : List ModuleFunction → Type 0 = λ l. WithPairs g t n l a b ↔ PairsFrom t 0 (functions_of (modules stands_for ss)) a b in
      subst P (sym table_is) (subst Q (sym next_is) (both_ways (functions_added g h t n fs gs added a b) (subst R (next_module ss i s x within is tree_is) (before a b))))

  pub left_split : (ss : List S) (i : ℕ) (s : S) (x : m.Module) → i < length ss → s ≡ get_or ss i s → x ≡ tree_of (stands_for s)
      → length (functions_of (modules stands_for (drop i ss))) ≡ length (module_functions x) + length (functions_of (modules stands_for (drop (i + 1) ss)))
  left_split ss i s x within is tree_is = ap length (next_module ss i s x within is tree_is) ∙ length-append (module_functions x) (functions_of (modules stands_for (drop (i + 1) ss)))

  pub graph_exit : (g : Graph) (t : FunctionTable) (n : ℕ) (ss : List S) (i : ℕ) → length ss ≤ i → IsTableOf (modules stands_for ss) t
      → ((a b : ℕ) → WithPairs g t n (functions_of (modules stands_for (drop i ss))) a b ↔ PairsFrom t 0 (functions_of (modules stands_for ss)) a b) → (a b : ℕ) → Leads g a b ↔ Calls (modules stands_for ss) a b
  graph_exit g t n ss i past table pairs a b =
      both_ways (none_left g t n (functions_of (modules stands_for (drop i ss))) a b (ap (λ l. functions_of (modules stands_for l)) (drop_all i ss past))) (both_ways (pairs a b) (pairs_are_calls (modules stands_for ss) t table a b))
