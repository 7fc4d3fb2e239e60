-- Look-ups among the entries of functions that are numbered from some number on.
use Rattle.std.proofs.Common.{◌≡◌, ℕ, zero, suc, ◌+◌, ◌⊎◌, inl, inr, Bool, true, false, cond, ◌&&◌, List, [], ◌∷◌, ◌++◌, Some}
use Rattle.std.proofs.Common.{None, Contains, map, slice_get, nat_eq, eqb-true, eq-eqb, refl, sym, ap, ◌∙◌, subst, arith}
use Rattle.std.specs.Cmp.Lexicographic.{bytes_decides}
use Rattle.std.specs.Map.{lookup}
use Rattle.std.proofs.lemmas.Bool.{and_parts}
use Rattle.std.proofs.lemmas.List.{append_assoc, append-nil}
use Rattle.type_kinds.proofs.Lists.{contains_none, contains_first, contains_later, contains_cases}
use Rattle.indexmap.specs.IndexMap.{insert_entry}
use Rattle.core_scope.specs.Names.{Distinct, same_atom}
use Rattle.call_graph.specs.declared.keys.FunctionKey.{FunctionKey}
use Rattle.call_graph.specs.declared.table.FunctionEntry.{FunctionEntry}
use Rattle.call_graph.specs.Calls.{ModuleFunction}
use Rattle.call_graph.specs.Tables.{same_key}
use Rattle.call_graph.specs.steps.Building.{Entries, function_key, entry_of, inserted, numbered}

-- ---- keys

pub key_is : (k l : FunctionKey) → same_key k l ≡ true → k ≡ l
key_is k l h =
    let outer = and_parts (same_atom k.home l.home && same_atom k.name l.name) (nat_eq k.arity l.arity) h in
    let inner = and_parts (same_atom k.home l.home) (same_atom k.name l.name) outer.0 in
    let home : k.home ≡ l.home = (bytes_decides k.home l.home).0 inner.0 in
    let name : k.name ≡ l.name = (bytes_decides k.name l.name).0 inner.1 in
    let arity : k.arity ≡ l.arity = eqb-true k.arity l.arity outer.1 in
    λ i. record { home = home i; name = name i; arity = arity i }

pub key_itself : (k : FunctionKey) → same_key k k ≡ true
key_itself k = ap (λ b. b && same_atom k.name k.name && nat_eq k.arity k.arity) ((bytes_decides k.home k.home).1 refl) ∙ ap (λ b. b && nat_eq k.arity k.arity) ((bytes_decides k.name k.name).1 refl) ∙ eq-eqb k.arity k.arity refl

pub other_key : (k l : FunctionKey) → (k ≡ l → ⊥) → same_key k l ≡ false
other_key k l d = by (same_key k l) refl
  where
    by : (b : Bool) → same_key k l ≡ b → same_key k l ≡ false
    by true e = absurd (d (key_is k l e))
    by false e = e

-- ---- functions by number

-- The function of number j among functions that are numbered from n on.
abbrev pub At : ℕ → List ModuleFunction → ℕ → ModuleFunction → Type 0
At n [] j g = ⊥
At n (f ∷ fs) j g = ((j ≡ n) × (f ≡ g)) ⊎ At (n + 1) fs j g

pub at_from : (n : ℕ) (fs : List ModuleFunction) (i j : ℕ) (g : ModuleFunction) → j ≡ n + i → slice_get fs i ≡ Some g → At n fs j g
at_from n [] i j g is here = absurd cc
at_from n (f ∷ fs) zero j g is here = inl (omega (arith, is), cc)
at_from n (f ∷ fs) (suc i) j g is here = inr (at_from (n + 1) fs i j g (omega (arith, is)) here)

pub at_place : (n : ℕ) (fs : List ModuleFunction) (j : ℕ) (g : ModuleFunction) → At n fs j g → (i : ℕ) × (j ≡ n + i) × (slice_get fs i ≡ Some g)
at_place n [] j g h = absurd h
at_place n (f ∷ fs) j g (inl h) = (0, omega (arith, h.0), ap Some h.1)
at_place n (f ∷ fs) j g (inr h) = let r = at_place (n + 1) fs j g h in (suc r.0, omega (arith, r.1), r.2)

pub at_zero : (fs : List ModuleFunction) (j : ℕ) (g : ModuleFunction) → At 0 fs j g → slice_get fs j ≡ Some g
at_zero fs j g h =
    let r = at_place 0 fs j g h in
    let e : r.0 ≡ j = omega (arith, r.1) in
    subst (λ i. slice_get fs i ≡ Some g) e r.2

pub at_contained : (n : ℕ) (fs : List ModuleFunction) (j : ℕ) (g : ModuleFunction) → At n fs j g → Contains fs g
at_contained n [] j g h = absurd h
at_contained n (f ∷ fs) j g (inl h) = subst (λ x. Contains (x ∷ fs) g) (sym h.1) (contains_first g fs)
at_contained n (f ∷ fs) j g (inr h) = contains_later f g fs (at_contained (n + 1) fs j g h)

pub contains_mapped : {X Y : Type 0} (v : X → Y) (xs : List X) (x : X) → Contains xs x → Contains (map v xs) (v x)
contains_mapped v [] x h = absurd (contains_none x h)
contains_mapped v (y ∷ ys) x h = elim (contains_cases y x ys h) [
  | inl e ↦ subst (λ z. Contains (v z ∷ map v ys) (v x)) (sym e) (contains_first (v x) (map v ys))
  | inr c ↦ contains_later (v y) (v x) (map v ys) (contains_mapped v ys x c)
]

-- ---- look-ups

-- What a look-up finds is a function with the key.
pub record Finds (n : ℕ) (fs : List ModuleFunction) (k : FunctionKey) (e : FunctionEntry) : Type 0 where
  pub function : ModuleFunction
  pub place : At n fs e.number function
  pub key : function_key function ≡ k
  pub entry : e ≡ entry_of e.number function

pub look_up_finds : (n : ℕ) (fs : List ModuleFunction) (k : FunctionKey) (e : FunctionEntry) → lookup (same_key k) (numbered n fs) ≡ Some e → Finds n fs k e
look_up_finds n [] k e h = absurd cc
look_up_finds n (f ∷ fs) k e h = by (look_up_finds (n + 1) fs k e) (same_key k (function_key f)) refl h
  where
    by : (lookup (same_key k) (numbered (n + 1) fs) ≡ Some e → Finds (n + 1) fs k e) → (b : Bool) → same_key k (function_key f) ≡ b → cond b (Some (entry_of n f)) (lookup (same_key k) (numbered (n + 1) fs)) ≡ Some e
        → Finds n (f ∷ fs) k e
    by rest true same h =
        let is : e ≡ entry_of n f = cc in
        record { function = f; place = inl (ap (λ x. x.number) is, refl); key = sym (key_is k (function_key f) same); entry = is ∙ ap (λ m. entry_of m f) (sym (ap (λ x. x.number) is)) }
    by rest false same h =
        let r = rest h in
        record { function = r.function; place = inr r.place; key = r.key; entry = r.entry }

-- A function is found by its key, where no key stands twice.
pub found_by_key : (n : ℕ) (fs : List ModuleFunction) (j : ℕ) (g : ModuleFunction) → Distinct (map function_key fs) → At n fs j g → lookup (same_key (function_key g)) (numbered n fs) ≡ Some (entry_of j g)
found_by_key n [] j g d h = absurd h
found_by_key n (f ∷ fs) j g d (inl h) =
    ap (λ b. cond b (Some (entry_of n f)) (lookup (same_key (function_key g)) (numbered (n + 1) fs))) (ap (λ x. same_key (function_key g) (function_key x)) h.1 ∙ key_itself (function_key g))
    ∙ ap (λ m. Some (entry_of m f)) (sym h.0) ∙ ap (λ x. Some (entry_of j x)) h.1
found_by_key n (f ∷ fs) j g d (inr h) =
    let there : Contains (map function_key fs) (function_key g) = contains_mapped function_key fs g (at_contained (n + 1) fs j g h) in
    let other : same_key (function_key g) (function_key f) ≡ false = other_key (function_key g) (function_key f) (λ e. d.0 (subst (Contains (map function_key fs)) e there)) in
    ap (λ b. cond b (Some (entry_of n f)) (lookup (same_key (function_key g)) (numbered (n + 1) fs))) other ∙ found_by_key (n + 1) fs j g d.1 h

-- ---- insertion

insert_absent : (es : Entries) (k : FunctionKey) (v : FunctionEntry) → lookup (same_key k) es ≡ None → insert_entry same_key es k v ≡ es ++ (k, v) ∷ []
insert_absent [] k v h = refl
insert_absent (e ∷ es) k v h = by (insert_absent es k v) (same_key k e.0) h
  where
    by : (lookup (same_key k) es ≡ None → insert_entry same_key es k v ≡ es ++ (k, v) ∷ []) → (b : Bool) → cond b (Some e.1) (lookup (same_key k) es) ≡ None
        → cond b ((e.0, v) ∷ es) (e ∷ insert_entry same_key es k v) ≡ e ∷ (es ++ (k, v) ∷ [])
    by rest true h = absurd cc
    by rest false h = ap (λ l. e ∷ l) (rest h)

absent_pushed : (es : Entries) (q k : FunctionKey) (v : FunctionEntry) → lookup (same_key q) es ≡ None → (q ≡ k → ⊥) → lookup (same_key q) (es ++ (k, v) ∷ []) ≡ None
absent_pushed [] q k v h d = ap (λ b. cond b (Some v) None) (other_key q k d)
absent_pushed (e ∷ es) q k v h d = by (λ none. absent_pushed es q k v none d) (same_key q e.0) h
  where
    by : (lookup (same_key q) es ≡ None → lookup (same_key q) (es ++ (k, v) ∷ []) ≡ None) → (b : Bool) → cond b (Some e.1) (lookup (same_key q) es) ≡ None
        → cond b (Some e.1) (lookup (same_key q) (es ++ (k, v) ∷ [])) ≡ None
    by rest true h = absurd cc
    by rest false h = rest h

-- Functions whose keys are new and distinct stand behind what was there.
pub inserted_new : (es : Entries) (n : ℕ) (fs : List ModuleFunction) → ((q : FunctionKey) → Contains (map function_key fs) q → lookup (same_key q) es ≡ None) → Distinct (map function_key fs)
    → inserted es n fs ≡ es ++ numbered n fs
inserted_new es n [] new d = sym (append-nil es)
inserted_new es n (f ∷ fs) new d =
    let k : FunctionKey = function_key f in
    let e : FunctionEntry = entry_of n f in
    let later : (q : FunctionKey) → Contains (map function_key fs) q → lookup (same_key q) (es ++ (k, e) ∷ []) ≡ None =
    λ q c. absent_pushed es q k e (new q (contains_later k q (map function_key fs) c)) (λ same. d.0 (subst (Contains (map function_key fs)) same c)) in
    ap (λ z. inserted z (n + 1) fs) (insert_absent es k e (new k (contains_first k (map function_key fs)))) ∙ inserted_new (es ++ (k, e) ∷ []) (n + 1) fs later d.1 ∙ append_assoc es ((k, e) ∷ []) (numbered (n + 1) fs)

pub inserted_all : (fs : List ModuleFunction) → Distinct (map function_key fs) → inserted [] 0 fs ≡ numbered 0 fs
inserted_all fs d = inserted_new [] 0 fs (λ q c. refl) d
