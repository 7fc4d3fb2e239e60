-- A table of functions by name, of which the last one of a name counts, and what a walk finds by it.
use Rattle.std.proofs.Common.{◌≡◌, ◌↔◌, ℕ, zero, suc, ◌+◌, ◌<◌, ◌≤◌, ◌⊎◌, inl, inr, ◌||◌, Bool, true, false, cond, if◌then◌else◌, List, [], ◌∷◌, ◌++◌}
use Rattle.std.proofs.Common.{Option, Some, None, Contains, length, take, map, slice_get, get_or, refl, sym, ap, ap₂, ◌∙◌, subst, arith, length-append}
use Rattle.std.specs.List.{list_any}
use Rattle.std.specs.Map.{lookup}
use Rattle.std.specs.Option.{option_map}
use Rattle.std.specs.Cmp.Lexicographic.{bytes_decides}
use Rattle.std.proofs.lemmas.Bool.{or_right}
use Rattle.std.proofs.lemmas.List.{take_more, take_all, map-append}
use Rattle.std.proofs.lemmas.List.Elements.{Contains-append_left, Contains-append_right, Contains-append_cases}
use Rattle.std.proofs.lemmas.Option.{slice_get-map, slice_get_within, same_Some}
use Rattle.type_kinds.proofs.Lists.{contains_none, contains_first, contains_cases, get_last}
use Rattle.indexmap.specs.IndexMap.{insert_entry}
use Rattle.indexmap.specs.IndexSet.{insert_key}
use Rattle.type_kinds.specs.declared.atom.Atom.{Atom}
use Rattle.components.specs.Graph.{Leads}
use Rattle.core_ast.specs.declared.syntax.Expr.{Expr}
use Rattle.core_ast.specs.declared.syntax.FunDefOf.{FunDefOf}
use Rattle.core_ast.specs.declared.syntax.FunName.{FunName}
use Rattle.core_ast.specs.Tree.{tree}
use Rattle.core_scope.proofs.NameLaws.{not_same}
use Rattle.core_scope.specs.Asks.{erlang}
use Rattle.core_scope.specs.Names.{same_atom}
use Rattle.call_graph.specs.declared.keys.FunctionKey.{FunctionKey}
use Rattle.call_graph.specs.declared.table.FunctionEntry.{FunctionEntry}
use Rattle.call_graph.specs.declared.table.FunctionTable.{FunctionTable}
use Rattle.call_graph.specs.declared.table.Resolved.TheVariants.{BuiltIn, NotPassed, NotExported, Function}
use Rattle.call_graph.specs.Among.{Placed, IsLast, GoesToLast, CallsLast, name_of, body_targets}
use Rattle.call_graph.specs.Outside.{Called}
use Rattle.call_graph.specs.Tables.{key_of, same_key, entry_at, number_in, own_number, reached, resolved}
use Rattle.call_graph.specs.Targets.{CallTarget, targets}
use Rattle.call_graph.specs.Targets.CallTarget.{defined, inner, remote}
use Rattle.call_graph.specs.steps.Building.{Entries}
use Rattle.call_graph.specs.steps.Finding.{FindsLast, TellsLast}
use Rattle.call_graph.specs.steps.Walking.{reached_number, listed, callee, callees}
use Rattle.call_graph.proofs.Built.{inserted_name}
use Rattle.call_graph.proofs.CalledFunctions.{callees_among, among_callees, listed_is, reached_is}
use Rattle.call_graph.proofs.Lookups.{key_is, key_itself, other_key}

-- ---- lists with one item more

more_cases : {X : Type 0} (xs : List X) (x : X) (k : ℕ) (y : X) → slice_get (xs ++ x ∷ []) k ≡ Some y → (slice_get xs k ≡ Some y) ⊎ ((k ≡ length xs) × (x ≡ y))
more_cases [] x zero y e = inr (refl, same_Some x y e)
more_cases [] x (suc k) y e = absurd cc
more_cases (z ∷ zs) x zero y e = inl e
more_cases (z ∷ zs) x (suc k) y e = elim (more_cases zs x k y e) [
  | inl a ↦ inl a
  | inr a ↦ inr (ap suc a.0, a.1)
]

more_before : {X : Type 0} (xs : List X) (x : X) (k : ℕ) (y : X) → slice_get xs k ≡ Some y → slice_get (xs ++ x ∷ []) k ≡ Some y
more_before [] x k y e = absurd cc
more_before (z ∷ zs) x zero y e = e
more_before (z ∷ zs) x (suc k) y e = more_before zs x k y e

pub placed_more : {S : Type 0} (v : S → Placed) (xs : List S) (i : ℕ) (x : S) → i < length xs → x ≡ get_or xs i x → map v (take (i + 1) xs) ≡ map v (take i xs) ++ v x ∷ []
placed_more v xs i x within is =
    ap (map v) (take_more xs i x within ∙ ap (λ y. take i xs ++ y ∷ []) (sym is)) ∙ map-append v (take i xs) (x ∷ [])

-- ---- the last one of a name, with one name more

last_new : (names : List Called) (home : Atom) (name : FunName) → IsLast (names ++ (home, name) ∷ []) (length names) home name
last_new names home name = record {
  here = get_last names (home, name);
  last = λ k later e. elim (more_cases names (home, name) k (home, name) e) [
    | inl a ↦ (let w = slice_get_within names k (home, name) a in absurd (omega (arith, later, w)))
    | inr a ↦ absurd (omega (arith, later, a.0))
  ];
}

last_only : (names : List Called) (home : Atom) (name : FunName) (j : ℕ) → IsLast (names ++ (home, name) ∷ []) j home name → j ≡ length names
last_only names home name j is = elim (more_cases names (home, name) j (home, name) is.here) [
  | inl a ↦ absurd (is.last (length names) (slice_get_within names j (home, name) a) (get_last names (home, name)))
  | inr a ↦ a.0
]

last_kept : (names : List Called) (x : Called) (h : Atom) (f : FunName) (j : ℕ) → (x ≡ (h, f) → ⊥) → IsLast names j h f → IsLast (names ++ x ∷ []) j h f
last_kept names x h f j other is = record {
  here = more_before names x j (h, f) is.here;
  last = λ k later e. elim (more_cases names x k (h, f) e) [
    | inl a ↦ is.last k later a
    | inr a ↦ other a.1
  ];
}

last_before : (names : List Called) (x : Called) (h : Atom) (f : FunName) (j : ℕ) → (x ≡ (h, f) → ⊥) → IsLast (names ++ x ∷ []) j h f → IsLast names j h f
last_before names x h f j other is = record {
  here = (elim (more_cases names x j (h, f) is.here) [
    | inl a ↦ a
    | inr a ↦ absurd (other a.1)
  ]);
  last = λ k later e. is.last k later (more_before names x k (h, f) e);
}

-- ---- look-ups after an insertion

found_new : (es : Entries) (k : FunctionKey) (e : FunctionEntry) → lookup (same_key k) (insert_entry same_key es k e) ≡ Some e
found_new [] k e = ap (λ b. cond b (Some e) None) (key_itself k)
found_new (x ∷ xs) k e = by (found_new xs k e) (same_key k x.0) refl
  where
    by : lookup (same_key k) (insert_entry same_key xs k e) ≡ Some e → (b : Bool) → same_key k x.0 ≡ b → lookup (same_key k) (if b then (x.0, e) ∷ xs else x ∷ insert_entry same_key xs k e) ≡ Some e
    by later true is = ap (λ b. cond b (Some e) (lookup (same_key k) xs)) is
    by later false is = ap (λ b. cond b (Some x.1) (lookup (same_key k) (insert_entry same_key xs k e))) is ∙ later

found_other : (es : Entries) (k q : FunctionKey) (e : FunctionEntry) → (q ≡ k → ⊥) → lookup (same_key q) (insert_entry same_key es k e) ≡ lookup (same_key q) es
found_other [] k q e d = ap (λ b. cond b (Some e) None) (other_key q k d)
found_other (x ∷ xs) k q e d = by (found_other xs k q e d) (same_key k x.0) refl
  where
    by : lookup (same_key q) (insert_entry same_key xs k e) ≡ lookup (same_key q) xs → (b : Bool) → same_key k x.0 ≡ b
        → lookup (same_key q) (if b then (x.0, e) ∷ xs else x ∷ insert_entry same_key xs k e) ≡ lookup (same_key q) (x ∷ xs)
    by later true is =
        let apart : same_key q x.0 ≡ false = other_key q x.0 (λ s. d (s ∙ sym (key_is k x.0 is))) in
        ap (λ b. cond b (Some e) (lookup (same_key q) xs)) apart ∙ sym (ap (λ b. cond b (Some x.1) (lookup (same_key q) xs)) apart)
    by later false is = ap (cond (same_key q x.0) (Some x.1)) later

-- ---- how the table is built

pub finds_none : (table : FunctionTable) → table.modules.keys ≡ [] → table.functions.entries ≡ [] → table.count ≡ 0 → FindsLast table []
finds_none table modules entries count = record {
  count = count;
  numbers = λ h f j. (
    λ e. absurd (let none : number_in (lookup (same_key (key_of h f)) []) ≡ Some j = ap (λ es. number_in (lookup (same_key (key_of h f)) es)) (sym entries) ∙ e in cc),
    λ is. absurd (let none = is.here in cc),
  );
  reached = λ h f e is. absurd (let none : lookup (same_key (key_of h f)) [] ≡ Some e = ap (lookup (same_key (key_of h f))) (sym entries) ∙ is in cc);
}

abbrev as_called : Atom → FunName → Called
as_called h f = (h, f)

key_names : (h home : Atom) (f name : FunName) → key_of h f ≡ key_of home name → as_called home name ≡ as_called h f
key_names h home f name e = λ i. ((sym e i).home, record { name = (sym e i).name; arity = (sym e i).arity })

names_key : (h home : Atom) (f name : FunName) → as_called home name ≡ as_called h f → key_of h f ≡ key_of home name
names_key h home f name e = λ i. key_of (sym e i).0 (sym e i).1

abbrev entered : FunctionTable → FunctionEntry
entered t = record { number = t.count; exported = true }

module _ (t u : FunctionTable) (names : List Called) (home : Atom) (name : FunName) (kept : FindsLast t names)
    (entries : u.functions.entries ≡ insert_entry same_key t.functions.entries (key_of home name) (entered t))
    (modules : u.modules.keys ≡ insert_key same_atom t.modules.keys home) where
  at_new : entry_at u (key_of home name) ≡ Some (entered t)
  at_new = ap (lookup (same_key (key_of home name))) entries ∙ found_new t.functions.entries (key_of home name) (entered t)

  at_other : (h : Atom) (f : FunName) → (key_of h f ≡ key_of home name → ⊥) → entry_at u (key_of h f) ≡ entry_at t (key_of h f)
  at_other h f d =
      ap (lookup (same_key (key_of h f))) entries
      ∙ found_other t.functions.entries (key_of home name) (key_of h f) (entered t) d

  same_or_other : (h : Atom) (f : FunName) → (key_of h f ≡ key_of home name) ⊎ (key_of h f ≡ key_of home name → ⊥)
  same_or_other h f = by (same_key (key_of h f) (key_of home name)) refl
    where
      by : (b : Bool) → same_key (key_of h f) (key_of home name) ≡ b → (key_of h f ≡ key_of home name) ⊎ (key_of h f ≡ key_of home name → ⊥)
      by true e = inl (key_is (key_of h f) (key_of home name) e)
      by false e = inr (λ s. absurd (let t : same_key (key_of h f) (key_of home name) ≡ true = ap (λ k. same_key k (key_of home name)) s ∙ key_itself (key_of home name) in cc))

  numbers_new : (j : ℕ) → (own_number u home name ≡ Some j) ↔ IsLast (names ++ (home, name) ∷ []) j home name
  numbers_new j = (
    λ e. (
        let same : t.count ≡ j = same_Some t.count j (sym (ap number_in at_new) ∙ e) in
        subst (λ k. IsLast (names ++ (home, name) ∷ []) k home name) (sym kept.count ∙ same) (last_new names home name)
        ),
    λ is. ap number_in at_new ∙ ap Some (kept.count ∙ sym (last_only names home name j is)),
  )

  numbers_other : (h : Atom) (f : FunName) (j : ℕ) → (key_of h f ≡ key_of home name → ⊥) → (own_number u h f ≡ Some j) ↔ IsLast (names ++ (home, name) ∷ []) j h f
  numbers_other h f j d =
      let other : as_called home name ≡ as_called h f → ⊥ = λ e. d (names_key h home f name e) in (
        λ e. last_kept names (home, name) h f j other ((kept.numbers h f j).0 (sym (ap number_in (at_other h f d)) ∙ e)),
        λ is. ap number_in (at_other h f d) ∙ (kept.numbers h f j).1 (last_before names (home, name) h f j other is),
      )

  pub finds_more : u.count ≡ t.count + 1 → FindsLast u (names ++ (home, name) ∷ [])
  finds_more count = record {
    count = (let n = kept.count in let l = length-append names ((home, name) ∷ []) in omega (arith, n, l, count));
    numbers = λ h f j. elim (same_or_other h f) [
      | inl s ↦ (
          let e : as_called home name ≡ as_called h f = key_names h home f name s in
          subst (λ x. (own_number u x.0 x.1 ≡ Some j) ↔ IsLast (names ++ (home, name) ∷ []) j x.0 x.1) e (numbers_new j)
          )
      | inr d ↦ numbers_other h f j d
    ];
    reached = λ h f e is. elim (same_or_other h f) [
      | inl s ↦ (
          let same : entered t ≡ e = same_Some (entered t) e (sym at_new ∙ ap (entry_at u) (sym s) ∙ is) in (
            sym (ap (λ x. x.exported) same),
            ap (list_any (same_atom h)) modules ∙ inserted_name t.modules.keys home h
                ∙ or_right (list_any (same_atom h) t.modules.keys) (same_atom h home) ((bytes_decides h home).1 (sym (ap (λ x. x.0) (key_names h home f name s)))),
          )
          )
      | inr d ↦ (
          let before = kept.reached h f e (sym (at_other h f d) ∙ is) in (
            before.0,
            ap (list_any (same_atom h)) modules ∙ inserted_name t.modules.keys home h ∙ ap (λ b. b || same_atom h home) before.1,
          )
          )
    ];
  }

pub finds_step : (t u : FunctionTable) (fs gs : List Placed) (f : Placed) (home : Atom) (name : FunName) → gs ≡ fs ++ f ∷ [] → home ≡ f.0 → name ≡ f.1.name
    → u.functions.entries ≡ insert_entry same_key t.functions.entries (key_of home name) (record { number = t.count; exported = true }) → u.count ≡ t.count + 1
    → u.modules.keys ≡ insert_key same_atom t.modules.keys home → FindsLast t (map name_of fs) → FindsLast u (map name_of gs)
finds_step t u fs gs f home name all home_is name_is entries count modules kept =
    let names : map name_of gs ≡ map name_of fs ++ (home, name) ∷ [] =
    ap (map name_of) all ∙ map-append name_of fs (f ∷ []) ∙ ap₂ (λ h n. map name_of fs ++ as_called h n ∷ []) (sym home_is) (sym name_is) in
    subst (FindsLast u) (sym names) (finds_more t u (map name_of fs) home name kept entries modules count)

pub finds_all : {S : Type 0} (v : S → Placed) (table : FunctionTable) (xs : List S) (i : ℕ) → length xs ≤ i → FindsLast table (map name_of (map v (take i xs))) → FindsLast table (map name_of (map v xs))
finds_all v table xs i past = subst (λ ys. FindsLast table (map name_of (map v ys))) (take_all i xs past)

-- ---- what a walk finds

module _ (table : FunctionTable) (names : List Called) (finds : FindsLast table names) where
  entry_numbered : (h : Atom) (f : FunName) (j : ℕ) → own_number table h f ≡ Some j → (e : FunctionEntry) × (entry_at table (key_of h f) ≡ Some e) × (e.number ≡ j)
  entry_numbered h f j is = by (entry_at table (key_of h f)) refl is
    where
      by : (o : Option FunctionEntry) → entry_at table (key_of h f) ≡ o → number_in o ≡ Some j → (e : FunctionEntry) × (entry_at table (key_of h f) ≡ Some e) × (e.number ≡ j)
      by None here e = absurd cc
      by (Some x) here e = (x, here, same_Some x.number j e)

  resolved_last : (h : Atom) (f : FunName) (j : ℕ) → (h ≡ erlang → ⊥) → own_number table h f ≡ Some j → resolved table h f ≡ Function j
  resolved_last h f j other is =
      let r = entry_numbered h f j is in
      let to = finds.reached h f r.0 r.1 in
      ap (λ a. if a then BuiltIn else if list_any (same_atom h) table.modules.keys then reached (entry_at table (key_of h f)) else NotPassed) (not_same h erlang other)
      ∙ ap (λ b. if b then reached (entry_at table (key_of h f)) else NotPassed) to.1 ∙ ap reached r.1 ∙ ap (λ b. if b then Function r.0.number else NotExported) to.0 ∙ ap Function r.2

  resolved_number : (h : Atom) (f : FunName) (j : ℕ) → resolved table h f ≡ Function j → own_number table h f ≡ Some j
  resolved_number h f j is = by (same_atom h erlang) (list_any (same_atom h) table.modules.keys) (entry_at table (key_of h f)) is
    where
      by : (a b : Bool) (o : Option FunctionEntry) → (if a then BuiltIn else if b then reached o else NotPassed) ≡ Function j → number_in o ≡ Some j
      by true b o e = absurd cc
      by false false o e = absurd cc
      by false true None e = absurd cc
      by false true (Some x) e = into x.exported e
        where
          into : (c : Bool) → (if c then Function x.number else NotExported) ≡ Function j → Some x.number ≡ Some j
          into true i = cc
          into false i = absurd cc

  target_number : (home : Atom) (t : CallTarget) (j : ℕ) → Contains (callee table home t) j → (h : Atom) × (f : FunName) × (own_number table h f ≡ Some j)
  target_number home (defined f n) j c = (home, f, listed_is (own_number table home f) j c)
  target_number home (inner f n) j c = absurd (contains_none j c)
  target_number home (remote h f) j c = (h, f, resolved_number h f j (reached_is (resolved table h f) j c))

  pub last_within : (home : Atom) (ts : List CallTarget) (j : ℕ) → Contains (callees table home ts) j → j < length names
  last_within home ts j c =
      let a = callees_among table home ts j c in
      let r = target_number home a.target j a.called in
      slice_get_within names j (r.0, r.1) ((finds.numbers r.0 r.1 j).0 r.2).here

  goes_callee : (home : Atom) (t : CallTarget) (j : ℕ) → GoesToLast names home t j → Contains (callee table home t) j
  goes_callee home (defined f n) j goes = subst (λ o. Contains (listed o) j) (sym ((finds.numbers home f j).1 goes)) (contains_first j [])
  goes_callee home (inner f n) j goes = absurd goes
  goes_callee home (remote h f) j goes =
      subst (λ r. Contains (reached_number r) j) (sym (resolved_last h f j goes.0 ((finds.numbers h f j).1 goes.1))) (contains_first j [])

  not_built_in : (h : Atom) (f : FunName) (j : ℕ) → resolved table h f ≡ Function j → h ≡ erlang → ⊥
  not_built_in h f j is e =
      let own : same_atom h erlang ≡ true = (bytes_decides h erlang).1 e in
      let none : BuiltIn ≡ Function j =
      sym (ap (λ a. if a then BuiltIn else if list_any (same_atom h) table.modules.keys then reached (entry_at table (key_of h f)) else NotPassed) own) ∙ is in
      absurd cc

  pub callee_goes : (home : Atom) (t : CallTarget) (j : ℕ) → Contains (callee table home t) j → GoesToLast names home t j
  callee_goes home (defined f n) j c = (finds.numbers home f j).0 (listed_is (own_number table home f) j c)
  callee_goes home (inner f n) j c = absurd (contains_none j c)
  callee_goes home (remote h f) j c =
      let is = reached_is (resolved table h f) j c in (not_built_in h f j is, (finds.numbers h f j).0 (resolved_number h f j is))

  pub goes_callees : (home : Atom) (ts : List CallTarget) (t : CallTarget) (j : ℕ) → Contains ts t → GoesToLast names home t j → Contains (callees table home ts) j
  goes_callees home ts t j has goes = among_callees table home ts j t has (goes_callee home t j goes)

-- the walk through a function's body finds what its targets are
pub walked : (table : FunctionTable) (cs : List ℕ) (home h : Atom) (locals : List FunName) (body : Expr) (d : FunDefOf Expr) (f : Placed) → cs ≡ callees table home (targets locals (tree body)) → home ≡ h → h ≡ f.0
    → locals ≡ [] → body ≡ d.fun.body → d ≡ f.1 → cs ≡ callees table f.0 (body_targets f)
walked table cs home h locals body d f is here same none whole definition =
    is ∙ ap (λ x. callees table x (targets locals (tree body))) (here ∙ same) ∙ ap (λ ls. callees table f.0 (targets ls (tree body))) none
    ∙ ap (λ b. callees table f.0 (targets [] (tree b))) (whole ∙ ap (λ x. x.fun.body) definition)

-- ---- callers

-- A caller was added to one function more.
pub caller_round : (first now new : List (List ℕ)) (caller x : ℕ) (xs ys : List ℕ) → ys ≡ xs ++ x ∷ [] → ((f g : ℕ) → Leads new f g ↔ (Leads now f g ⊎ ((f ≡ x) × (g ≡ caller))))
    → ((i j : ℕ) → Leads now j i ↔ (Leads first j i ⊎ ((i ≡ caller) × Contains xs j))) → (i j : ℕ) → Leads new j i ↔ (Leads first j i ⊎ ((i ≡ caller) × Contains ys j))
caller_round first now new caller x xs ys all added before i j = (there, back)
  where
    x_in_all : Contains ys x
    x_in_all = subst (λ l. Contains l x) (sym all) (Contains-append_right xs (x ∷ []) x (contains_first x []))

    there : Leads new j i → Leads first j i ⊎ ((i ≡ caller) × Contains ys j)
    there leads = elim ((added j i).0 leads) [
      | inl old ↦ (elim ((before i j).0 old) [
        | inl a ↦ inl a
        | inr b ↦ inr (b.0, subst (λ l. Contains l j) (sym all) (Contains-append_left xs (x ∷ []) j b.1))
      ])
      | inr e ↦ inr (e.1, subst (Contains ys) (sym e.0) x_in_all)
    ]

    back : Leads first j i ⊎ ((i ≡ caller) × Contains ys j) → Leads new j i
    back (inl a) = (added j i).1 (inl ((before i j).1 (inl a)))
    back (inr b) = elim (Contains-append_cases xs (x ∷ []) j (subst (λ l. Contains l j) all b.1)) [
      | inl c ↦ (added j i).1 (inl ((before i j).1 (inr (b.0, c))))
      | inr c ↦ (elim (contains_cases x j [] c) [
        | inl e ↦ (added j i).1 (inr (sym e, b.0))
        | inr n ↦ absurd (contains_none j n)
      ])
    ]

pub caller_begin : (first : List (List ℕ)) (caller i j : ℕ) → Leads first j i ↔ (Leads first j i ⊎ ((i ≡ caller) × Contains [] j))
caller_begin first caller i j = (λ a. inl a, back)
  where
    back : Leads first j i ⊎ ((i ≡ caller) × Contains [] j) → Leads first j i
    back (inl a) = a
    back (inr b) = absurd (contains_none j b.1)

-- ---- one function more

at_cases : (i n : ℕ) → i < n + 1 → (i < n) ⊎ (i ≡ n)
at_cases zero zero h = inr refl
at_cases zero (suc n) h = inl (omega arith)
at_cases (suc i) zero h = absurd (omega (arith, h))
at_cases (suc i) (suc n) h = elim (at_cases i n (omega (arith, h))) [
  | inl a ↦ inl (omega (arith, a))
  | inr a ↦ inr (ap suc a)
]

pub tells_none : (names : List Called) (flags : List Bool) → flags ≡ [] → TellsLast names flags
tells_none names flags none = record {
  true_is = λ j h f e named. absurd (let n : slice_get [] j ≡ Some true = ap (λ l. slice_get l j) (sym none) ∙ e in cc);
  is_true = λ j h f low last. absurd (let n : length flags ≡ 0 = ap length none in omega (arith, low, n));
}

module _ (fs : List Placed) (table : FunctionTable) (finds : FindsLast table (map name_of fs)) (at : ℕ) (f : Placed) (here : slice_get fs at ≡ Some f) where
  pub callers_more : (now new : List (List ℕ)) → ((i j : ℕ) → Leads now j i ↔ ((i < at) × CallsLast fs i j))
      → ((i j : ℕ) → Leads new j i ↔ (Leads now j i ⊎ ((i ≡ at) × Contains (callees table f.0 (body_targets f)) j))) → (i j : ℕ) → Leads new j i ↔ ((i < at + 1) × CallsLast fs i j)
  callers_more now new before added i j = (there, back)
    where
      there : Leads new j i → (i < at + 1) × CallsLast fs i j
      there leads = elim ((added i j).0 leads) [
        | inl old ↦ (let b = (before i j).0 old in let low = b.0 in (omega (arith, low), b.1))
        | inr e ↦ (
            let a = callees_among table f.0 (body_targets f) j e.1 in
            let calls : CallsLast fs at j = record { caller = f; stands = here; target = a.target; called = a.stands; goes = callee_goes table (map name_of fs) finds f.0 a.target j a.called } in
            let s = e.0 in
            (omega (arith, s), subst (λ k. CallsLast fs k j) (sym e.0) calls)
            )
      ]

      back : (i < at + 1) × CallsLast fs i j → Leads new j i
      back (low, calls) = elim (at_cases i at low) [
        | inl a ↦ (added i j).1 (inl ((before i j).1 (a, calls)))
        | inr a ↦ (
            let same : calls.caller ≡ f = same_Some calls.caller f (sym calls.stands ∙ ap (slice_get fs) a ∙ here) in
            let found : Contains (callees table calls.caller.0 (body_targets calls.caller)) j = goes_callees table (map name_of fs) finds calls.caller.0 (body_targets calls.caller) calls.target j calls.called calls.goes in
            (added i j).1 (inr (a, subst (λ g. Contains (callees table g.0 (body_targets g)) j) same found))
            )
      ]

  pub tells_more : (flags more : List Bool) (b : Bool) → length flags ≡ at → more ≡ flags ++ b ∷ [] → ((b ≡ true) ↔ (own_number table f.0 f.1.name ≡ Some at)) → TellsLast (map name_of fs) flags
      → TellsLast (map name_of fs) more
  tells_more flags more b long all is tells =
      let there : slice_get (map name_of fs) at ≡ Some (name_of f) = slice_get-map name_of fs at ∙ ap (option_map name_of) here in
      record {
        true_is = λ j h g e named. elim (more_cases flags b j true (ap (λ l. slice_get l j) (sym all) ∙ e)) [
          | inl a ↦ tells.true_is j h g a named
          | inr a ↦ (
              let same : j ≡ at = a.0 ∙ long in
              let names : name_of f ≡ as_called h g = same_Some (name_of f) (as_called h g) (sym there ∙ ap (slice_get (map name_of fs)) (sym same) ∙ named) in
              let last : IsLast (map name_of fs) at f.0 f.1.name = (finds.numbers f.0 f.1.name at).0 (is.0 a.1) in
              subst (λ x. IsLast (map name_of fs) j x.0 x.1) names (subst (λ k. IsLast (map name_of fs) k f.0 f.1.name) (sym same) last)
              )
        ];
        is_true = λ j h g low last.
            let found : slice_get (flags ++ b ∷ []) j ≡ Some true = elim (at_cases j at (let n = length-append flags (b ∷ []) in let m : length more ≡ length (flags ++ b ∷ []) = ap length all in omega (arith, low, n, m, long))) [
              | inl a ↦ more_before flags b j true (tells.is_true j h g (omega (arith, a, long)) last)
              | inr a ↦ (
                  let names : name_of f ≡ as_called h g = same_Some (name_of f) (as_called h g) (sym there ∙ ap (slice_get (map name_of fs)) (sym a) ∙ last.here) in
                  let own : IsLast (map name_of fs) at f.0 f.1.name = subst (λ x. IsLast (map name_of fs) at x.0 x.1) (sym names) (subst (λ k. IsLast (map name_of fs) k h g) a last) in
                  ap (slice_get (flags ++ b ∷ [])) (a ∙ sym long) ∙ get_last flags b ∙ ap Some (is.1 ((finds.numbers f.0 f.1.name at).1 own))
                  )
            ] in
            ap (λ l. slice_get l j) all ∙ found;
      }
