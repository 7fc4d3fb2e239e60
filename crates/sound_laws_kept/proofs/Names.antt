-- Names, and look-ups by name.
use Rattle.std.proofs.Common.{◌≡◌, Bool, true, false, cond, List, [], ◌∷◌, ◌++◌, Contains, map, inl, inr, Option, Some, None, refl, sym, ap, ap₂, ◌∙◌, subst}
use Rattle.std.specs.Cmp.Lexicographic.{pointwise, pointwise_decides, bytes_decides}
use Rattle.type_kinds.proofs.Lists.{contains_none, contains_first, contains_later, contains_cases}
use Rattle.type_kinds.specs.declared.atom.Atom.{Atom}
use Rattle.core_ast.specs.Model as m
use Rattle.core_scope.specs.Names.{Distinct, same_atom}
use Rattle.call_graph.specs.Outside.{Called}
use Rattle.cons_tree.specs.Codes.{callee_code}
use Rattle.cons_tree.specs.SameBy.{same_by, same_by_equal}
use Rattle.cons_tree.specs.declared.parts.Callee.{Callee}
use Rattle.sound_laws.specs.Accepted.{AreAccepted}
use Rattle.analysis_summaries.specs.Known.{module_names}
pub use Rattle.sound_laws_outside.proofs.Members.{clash}
use Rattle.table_keep.specs.declared.source.Source.{Source as HandedIn}
use Rattle.table_keep.specs.Model.{Source, sources_so, trees, source_of, is_there, is_in, picked}
use Rattle.table_keep.specs.Calls.{called_functions, called_modules}
use Rattle.table_keep.specs.Groups.{has}
use Rattle.table_keep.proofs.CallLaws.{modules_exactly}
use Rattle.sound_laws_kept.specs.Solving.{AreSources}

-- ---- names

pub itself : (h : Atom) → same_atom h h ≡ true
itself h = (bytes_decides h h).1 refl

pub name_is : (h k : Atom) → same_atom h k ≡ true → h ≡ k
name_is h k e = (bytes_decides h k).0 e

pub names_are : (hs ks : List Atom) → pointwise same_atom hs ks ≡ true → hs ≡ ks
names_are hs ks e = (pointwise_decides bytes_decides hs ks).0 e

pub callee_is : (c d : Callee) → same_by callee_code c d ≡ true → c ≡ d
callee_is c d e = (same_by_equal callee_code c d).0 e

-- a module calls the modules of the functions that it calls
pub called_has : (x : m.Module) (c : Called) → Contains (called_functions x) c → has (called_modules x) c.0 ≡ true
called_has x c e = (modules_exactly x c.0).1 (c, e, refl)

-- ---- what is made of each item of a list

pub map_there : {A B : Type 0} (f g : A → B) (xs : List A) → ((x : A) → Contains xs x → f x ≡ g x) → map f xs ≡ map g xs
map_there f g [] e = refl
map_there f g (x ∷ xs) e = ap₂ (λ y ys. y ∷ ys) (e x (contains_first x xs)) (map_there f g xs (λ y has_y. e y (contains_later x y xs has_y)))

-- ---- sources by name

pub there_is : {A : Type 0} (o : Option A) → is_there o ≡ true → (x : A) × (o ≡ Some x)
there_is None e = clash false e refl
there_is (Some x) e = (x, refl)

pub some_is : {A : Type 0} {x y : A} → Some x ≡ Some y → x ≡ y
some_is e = cc

pub none_some : {A B : Type 0} {x : A} → None ≡ Some x → B
none_some e = absurd cc

pub picked_source : (p : Atom → Bool) (ss : List Source) (h : Atom) → source_of (picked p ss) h ≡ cond (p h) (source_of ss h) None
picked_source p [] h = by (p h)
  where
    by : (b : Bool) → source_of [] h ≡ cond b (source_of [] h) None
    by true = refl
    by false = refl
picked_source p (s ∷ ss) h = by (p s.tree.name) refl (same_atom h s.tree.name) refl (picked_source p ss h)
  where
    by : (b : Bool) → p s.tree.name ≡ b → (c : Bool) → same_atom h s.tree.name ≡ c → source_of (picked p ss) h ≡ cond (p h) (source_of ss h) None
        → source_of (cond b (s ∷ picked p ss) (picked p ss)) h ≡ cond (p h) (cond c (Some s) (source_of ss h)) None
    by true e true is rest =
        ap (λ b. cond b (Some s) (source_of (picked p ss) h)) is
        ∙ sym (ap (λ b. cond b (Some s) None) (ap p (name_is h s.tree.name is) ∙ e))
    by true e false is rest = ap (λ b. cond b (Some s) (source_of (picked p ss) h)) is ∙ rest
    by false e true is rest =
        let no : p h ≡ false = ap p (name_is h s.tree.name is) ∙ e in
        rest ∙ ap (λ b. cond b (source_of ss h) None) no ∙ sym (ap (λ b. cond b (Some s) None) no)
    by false e false is rest = rest

pub picked_there : (p : Atom → Bool) (ss : List Source) (h : Atom) → p h ≡ true → source_of (picked p ss) h ≡ source_of ss h
picked_there p ss h e = picked_source p ss h ∙ ap (λ b. cond b (source_of ss h) None) e

pub picked_out : (p : Atom → Bool) (ss : List Source) (h : Atom) → p h ≡ false → source_of (picked p ss) h ≡ None
picked_out p ss h e = picked_source p ss h ∙ ap (λ b. cond b (source_of ss h) None) e

-- who is among those that are picked is one of them all, and has its name
pub picked_from : (p : Atom → Bool) (ss : List Source) (h : Atom) → is_in (picked p ss) h ≡ true → (p h ≡ true) × (is_in ss h ≡ true)
picked_from p ss h e = by (p h) refl (ap is_there (sym (picked_source p ss h)) ∙ e)
  where
    by : (b : Bool) → p h ≡ b → is_there (cond b (source_of ss h) None) ≡ true → (p h ≡ true) × (is_in ss h ≡ true)
    by true is there = (is, there)
    by false is there = clash false there refl

pub append_source : (xs ys : List Source) (h : Atom) → source_of (xs ++ ys) h ≡ cond (is_in xs h) (source_of xs h) (source_of ys h)
append_source [] ys h = refl
append_source (x ∷ xs) ys h = by (same_atom h x.tree.name) (append_source xs ys h)
  where
    by : (b : Bool) → source_of (xs ++ ys) h ≡ cond (is_in xs h) (source_of xs h) (source_of ys h)
        → cond b (Some x) (source_of (xs ++ ys) h) ≡ cond (is_there (cond b (Some x) (source_of xs h))) (cond b (Some x) (source_of xs h)) (source_of ys h)
    by true rest = refl
    by false rest = rest

-- ---- sources of accepted modules with distinct names

is_in_first : (s : Source) (ss : List Source) (h : Atom) → same_atom h s.tree.name ≡ true → is_in (s ∷ ss) h ≡ true
is_in_first s ss h e = ap (λ b. is_there (cond b (Some s) (source_of ss h))) e

is_in_later : (s : Source) (ss : List Source) (h : Atom) → is_in ss h ≡ true → is_in (s ∷ ss) h ≡ true
is_in_later s ss h e = by (same_atom h s.tree.name)
  where
    by : (b : Bool) → is_there (cond b (Some s) (source_of ss h)) ≡ true
    by true = refl
    by false = e

-- a name is that of one of the sources where it has a source
pub named_in : (ss : List Source) (h : Atom) → Contains (module_names (trees ss)) h → is_in ss h ≡ true
named_in [] h e = absurd (contains_none h e)
named_in (s ∷ ss) h e = elim (contains_cases s.tree.name h (module_names (trees ss)) e) [
  | inl is ↦ is_in_first s ss h (subst (λ z. same_atom h z ≡ true) (sym is) (itself h))
  | inr more ↦ is_in_later s ss h (named_in ss h more)
]

pub in_named : (ss : List Source) (h : Atom) → is_in ss h ≡ true → Contains (module_names (trees ss)) h
in_named [] h e = clash false e refl
in_named (s ∷ ss) h e = by (same_atom h s.tree.name) refl (in_named ss h)
  where
    names : List Atom
    names = module_names (trees ss)

    by : (b : Bool) → same_atom h s.tree.name ≡ b → (is_in ss h ≡ true → Contains (module_names (trees ss)) h) → Contains (module_names (trees (s ∷ ss))) h
    by true is rest = subst (λ z. Contains (z ∷ names) h) (name_is h s.tree.name is) (contains_first h names)
    by false is rest = contains_later s.tree.name h names (rest (ap (λ b. is_there (cond b (Some s) (source_of ss h))) (sym is) ∙ e))

-- a source of the list is found under its name
pub contained_in : (ss : List Source) (s : Source) → Contains ss s → is_in ss s.tree.name ≡ true
contained_in [] s e = absurd (contains_none s e)
contained_in (x ∷ xs) s e = elim (contains_cases x s xs e) [
  | inl is ↦ is_in_first x xs s.tree.name (subst (λ (z : Source). same_atom s.tree.name z.tree.name ≡ true) (sym is) (itself s.tree.name))
  | inr more ↦ is_in_later x xs s.tree.name (contained_in xs s more)
]

pub accepted_picked : (p : Atom → Bool) (ss : List Source) → AreAccepted (trees ss) → AreAccepted (trees (picked p ss))
accepted_picked p [] are = tt
accepted_picked p (s ∷ ss) are = by (p s.tree.name) (accepted_picked p ss are.1)
  where
    by : (b : Bool) → AreAccepted (trees (picked p ss)) → AreAccepted (trees (cond b (s ∷ picked p ss) (picked p ss)))
    by true rest = (are.0, rest)
    by false rest = rest

-- sources that are passed are accepted by their type
pub accepted_sources : (ss : List HandedIn) → AreAccepted (trees (sources_so ss))
accepted_sources [] = tt
accepted_sources (s ∷ ss) = ((s.checked, refl), accepted_sources ss)

pub accepted_append : (xs ys : List Source) → AreAccepted (trees xs) → AreAccepted (trees ys) → AreAccepted (trees (xs ++ ys))
accepted_append [] ys a b = b
accepted_append (x ∷ xs) ys a b = (a.0, accepted_append xs ys a.1 b)

distinct_picked : (p : Atom → Bool) (ss : List Source) → Distinct (module_names (trees ss)) → Distinct (module_names (trees (picked p ss)))
distinct_picked p [] once = tt
distinct_picked p (s ∷ ss) once = by (p s.tree.name) (distinct_picked p ss once.1)
  where
    lacks : Contains (module_names (trees (picked p ss))) s.tree.name → ⊥
    lacks e = once.0 (in_named ss s.tree.name (picked_from p ss s.tree.name (named_in (picked p ss) s.tree.name e)).1)

    by : (b : Bool) → Distinct (module_names (trees (picked p ss))) → Distinct (module_names (trees (cond b (s ∷ picked p ss) (picked p ss))))
    by true rest = (lacks, rest)
    by false rest = rest

distinct_append : (xs ys : List Source) → Distinct (module_names (trees xs)) → Distinct (module_names (trees ys)) → ((h : Atom) → is_in xs h ≡ true → is_in ys h ≡ false) → Distinct (module_names (trees (xs ++ ys)))
distinct_append [] ys a b apart = b
distinct_append (x ∷ xs) ys a b apart = (lacks, distinct_append xs ys a.1 b (λ h e. apart h (is_in_later x xs h e)))
  where
    by : (c : Bool) → is_in xs x.tree.name ≡ c → is_there (cond c (source_of xs x.tree.name) (source_of ys x.tree.name)) ≡ true → ⊥
    by true is e = a.0 (in_named xs x.tree.name is)
    by false is e = clash (is_in ys x.tree.name) e (apart x.tree.name (is_in_first x xs x.tree.name (itself x.tree.name)))

    lacks : Contains (module_names (trees (xs ++ ys))) x.tree.name → ⊥
    lacks e = by (is_in xs x.tree.name) refl (ap is_there (sym (append_source xs ys x.tree.name)) ∙ named_in (xs ++ ys) x.tree.name e)

-- some of such sources are such
pub are_picked : (p : Atom → Bool) (ss : List Source) → AreSources ss → AreSources (picked p ss)
are_picked p ss are = record { accepted = accepted_picked p ss are.accepted; distinct = distinct_picked p ss are.distinct }

pub are_appended : (xs ys : List Source) → AreSources xs → AreSources ys → ((h : Atom) → is_in xs h ≡ true → is_in ys h ≡ false) → AreSources (xs ++ ys)
are_appended xs ys a b apart = record { accepted = accepted_append xs ys a.accepted b.accepted; distinct = distinct_append xs ys a.distinct b.distinct apart }
