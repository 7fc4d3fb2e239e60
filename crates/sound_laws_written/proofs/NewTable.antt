-- The new table, as a list: of the names that have an entry, in ascending order, the entry of each.
use Rattle.std.proofs.Common.{◌≡◌, ◌⊎◌, Bool, true, false, cond, ◌||◌, List, [], ◌∷◌, ◌++◌, Contains, map, Option, Some, None, IsTrue, refl, sym, ap, ap₂, ◌∙◌, subst, inl, inr}
use Rattle.std.proofs.lemmas.Bool.{or_cases, or_left, or_right}
use Rattle.std.proofs.Math.Bool.{or-false}
use Rattle.std.proofs.lemmas.List.Elements.{Contains-append_left, Contains-append_right, Contains-append_cases}
use Rattle.type_kinds.proofs.Lists.{contains_none, contains_first, contains_later, contains_cases}
use Rattle.type_kinds.specs.declared.atom.Atom.{Atom}
use Rattle.type_kinds_sets.specs.Ascending.{is_ascending, merged}
use Rattle.type_kinds_sets.specs.Names.{name_cmp}
use Rattle.type_kinds_sets.proofs.AscendingLaws.{ascending-merged}
use Rattle.type_kinds_sets.proofs.NameLaws.{name_total, name_same}
use Rattle.core_scope.specs.Names.{same_atom}
use Rattle.analysis_summaries.specs.Known.{module_names}
use Rattle.table_file.specs.Order.{rises, is_name_before}
use Rattle.table_keep.specs.Model.{Source, Entry, trees, source_of, is_there, is_in, entry_of}
use Rattle.table_keep.specs.Groups.{Groups, IsGroups, has, group_of}
use Rattle.table_keep.specs.Kept.{Results, is_candidate, calls_of, kept, is_new, finally}
use Rattle.table_keep.proofs.Rises.{ascending_rises}
use Rattle.table_keep.proofs.RisingLaws.{in_merged, merged_in}
use Rattle.sound_laws_kept.specs.Written.{made_of, new_entry}
use Rattle.sound_laws_kept.proofs.Folds as folds
use Rattle.sound_laws_kept.proofs.Graphs.{in_own_group}
use Rattle.sound_laws_kept.proofs.Names.{clash, itself, name_is, some_is, none_some, named_in, in_named}
use Rattle.sound_laws_kept.proofs.Trees.{source_stands}

-- ---- the names of candidates

abbrev names_of : List Entry → List Atom
names_of es = map (λ e. e.name) es

entry_name : (T : List Entry) (h : Atom) (e : Entry) → entry_of T h ≡ Some e → e.name ≡ h
entry_name [] h e q = none_some q
entry_name (x ∷ T) h e q = by (same_atom h x.name) refl q (entry_name T h e)
  where
    by : (b : Bool) → same_atom h x.name ≡ b → cond b (Some x) (entry_of T h) ≡ Some e → (entry_of T h ≡ Some e → e.name ≡ h) → e.name ≡ h
    by true is q rest = let same : x ≡ e = some_is q in sym (ap (λ (z : Entry). z.name) same) ∙ sym (name_is h x.name is)
    by false is q rest = rest q

entry_named : (T : List Entry) (h : Atom) → is_there (entry_of T h) ≡ true → Contains (names_of T) h
entry_named [] h e = clash false e refl
entry_named (x ∷ T) h e = by (same_atom h x.name) refl e (entry_named T h)
  where
    by : (b : Bool) → same_atom h x.name ≡ b → is_there (cond b (Some x) (entry_of T h)) ≡ true → (is_there (entry_of T h) ≡ true → Contains (names_of T) h) → Contains (names_of (x ∷ T)) h
    by true is e rest = subst (Contains (names_of (x ∷ T))) (sym (name_is h x.name is)) (contains_first x.name (names_of T))
    by false is e rest = contains_later x.name h (names_of T) (rest e)

named_entry : (T : List Entry) (h : Atom) → Contains (names_of T) h → is_there (entry_of T h) ≡ true
named_entry [] h there = absurd (contains_none h there)
named_entry (x ∷ T) h there = by (same_atom h x.name) refl (contains_cases x.name h (names_of T) there) (named_entry T h)
  where
    by : (b : Bool) → same_atom h x.name ≡ b → (x.name ≡ h) ⊎ Contains (names_of T) h → (Contains (names_of T) h → is_there (entry_of T h) ≡ true) → is_there (cond b (Some x) (entry_of T h)) ≡ true
    by true is there rest = refl
    by false is (inl e) rest = clash (same_atom h x.name) (subst (λ z. same_atom h z ≡ true) (sym e) (itself h)) is
    by false is (inr more) rest = rest more

-- those that pass a test
abbrev passing : (Atom → Bool) → List Atom → List Atom
passing p [] = []
passing p (x ∷ xs) = cond (p x) (x ∷ passing p xs) (passing p xs)

passed : (p : Atom → Bool) (xs : List Atom) (h : Atom) → Contains (passing p xs) h → p h ≡ true
passed p [] h there = absurd (contains_none h there)
passed p (x ∷ xs) h there = by (p x) refl there (passed p xs h)
  where
    by : (b : Bool) → p x ≡ b → Contains (cond b (x ∷ passing p xs) (passing p xs)) h → (Contains (passing p xs) h → p h ≡ true) → p h ≡ true
    by true e there rest = elim (contains_cases x h (passing p xs) there) [ inl same ↦ subst (λ z. p z ≡ true) same e | inr more ↦ rest more ]
    by false e there rest = rest there

passes : (p : Atom → Bool) (xs : List Atom) (h : Atom) → Contains xs h → p h ≡ true → Contains (passing p xs) h
passes p [] h there e = absurd (contains_none h there)
passes p (x ∷ xs) h there e = by (p x) refl (contains_cases x h xs there) (λ more. passes p xs h more e)
  where
    by : (b : Bool) → p x ≡ b → (x ≡ h) ⊎ Contains xs h → (Contains xs h → Contains (passing p xs) h) → Contains (cond b (x ∷ passing p xs) (passing p xs)) h
    by true is (inl same) rest = subst (Contains (x ∷ passing p xs)) same (contains_first x (passing p xs))
    by true is (inr more) rest = contains_later x h (passing p xs) (rest more)
    by false is (inl same) rest = clash (p x) (subst (λ z. p z ≡ true) (sym same) e) is
    by false is (inr more) rest = rest more

abbrev pub candidates : List Entry → List Source → List Atom
candidates T M = module_names (trees M) ++ names_of T

module _ (T : List Entry) (M : List Source) where
  pub candidate_there : (h : Atom) → is_candidate T M h ≡ true → Contains (candidates T M) h
  candidate_there h e = elim (or_cases (is_in M h) (is_there (entry_of T h)) e) [
    | inl there ↦ Contains-append_left (module_names (trees M)) (names_of T) h (in_named M h there)
    | inr there ↦ Contains-append_right (module_names (trees M)) (names_of T) h (entry_named T h there)
  ]

  pub there_candidate : (h : Atom) → Contains (candidates T M) h → is_candidate T M h ≡ true
  there_candidate h has = elim (Contains-append_cases (module_names (trees M)) (names_of T) h has) [
    | inl there ↦ or_left (is_in M h) (is_there (entry_of T h)) (named_in M h there)
    | inr there ↦ or_right (is_in M h) (is_there (entry_of T h)) (named_entry T h there)
  ]

-- ---- a list with the entry of each name

abbrev and_entry : Option Entry → List Entry → List Entry
and_entry None es = es
and_entry (Some e) es = e ∷ es

abbrev table_of : (Atom → Option Entry) → List Atom → List Entry
table_of f [] = []
table_of f (x ∷ xs) = and_entry (f x) (table_of f xs)

entry_from : (f : Atom → Option Entry) (xs : List Atom) (e : Entry) → Contains (table_of f xs) e → (h : Atom) × (f h ≡ Some e)
entry_from f [] e there = absurd (contains_none e there)
entry_from f (x ∷ xs) e there = by (f x) refl there (entry_from f xs e)
  where
    by : (o : Option Entry) → f x ≡ o → Contains (and_entry o (table_of f xs)) e → (Contains (table_of f xs) e → (h : Atom) × (f h ≡ Some e)) → (h : Atom) × (f h ≡ Some e)
    by None q there rest = rest there
    by (Some d) q there rest = elim (contains_cases d e (table_of f xs) there) [
      | inl same ↦ (x, q ∙ ap Some same)
      | inr more ↦ rest more
    ]

module _ (f : Atom → Option Entry) (named : (h : Atom) (e : Entry) → f h ≡ Some e → e.name ≡ h) where
  found : (xs : List Atom) (h : Atom) → entry_of (table_of f xs) h ≡ cond (has xs h) (f h) None
  found [] h = refl
  found (x ∷ xs) h = by (f x) refl (same_atom h x) refl (found xs h)
    where
      same_name : (e : Entry) → f x ≡ Some e → same_atom h e.name ≡ same_atom h x
      same_name e q = ap (same_atom h) (named x e q)

      same_rest : (b : Bool) → f h ≡ None → cond b (f h) None ≡ f h
      same_rest true q = refl
      same_rest false q = sym q

      by : (o : Option Entry) → f x ≡ o → (b : Bool) → same_atom h x ≡ b → entry_of (table_of f xs) h ≡ cond (has xs h) (f h) None
          → entry_of (and_entry o (table_of f xs)) h ≡ cond (b || has xs h) (f h) None
      by None q true is rest = rest ∙ same_rest (has xs h) (ap f (name_is h x is) ∙ q)
      by None q false is rest = rest
      by (Some e) q true is rest = ap (λ b. cond b (Some e) (entry_of (table_of f xs) h)) (same_name e q ∙ is) ∙ sym (ap f (name_is h x is) ∙ q)
      by (Some e) q false is rest = ap (λ b. cond b (Some e) (entry_of (table_of f xs) h)) (same_name e q ∙ is) ∙ rest

  names_are : (xs : List Atom) → ((h : Atom) → Contains xs h → (e : Entry) × (f h ≡ Some e)) → names_of (table_of f xs) ≡ xs
  names_are [] there = refl
  names_are (x ∷ xs) there =
      let here = there x (contains_first x xs) in
      ap (λ o. names_of (and_entry o (table_of f xs))) here.1 ∙ ap₂ (λ y ys. y ∷ ys) (named x here.0 here.1) (names_are xs (λ h has. there h (contains_later x h xs has)))

itself_mapped : (xs : List Atom) → map (λ x. x) xs ≡ xs
itself_mapped [] = refl
itself_mapped (x ∷ xs) = ap (λ ys. x ∷ ys) (itself_mapped xs)

-- ---- the new entries

module _ (R : Results) (T : List Entry) (M : List Source) (g : Groups) (is : IsGroups (is_candidate T M) (calls_of T M) g) where
  new_is : (h : Atom) → is_new R T M g h ≡ (is_in M h || kept R T M g h)
  unfolding is_new
  new_is h = refl

  pub new_candidate : (h : Atom) → is_new R T M g h ≡ true → is_candidate T M h ≡ true
  new_candidate h e = elim (or_cases (is_in M h) (kept R T M g h) (sym (new_is h) ∙ e)) [
    | inl there ↦ or_left (is_in M h) (is_there (entry_of T h)) there
    | inr stays ↦ folds.kept_candidate R T M g h stays
  ]

  abbrev pub new_names : List Atom
  new_names = passing (is_new R T M g) (candidates T M)

  pub new_there : (h : Atom) → is_new R T M g h ≡ true → Contains new_names h
  new_there h e = passes (is_new R T M g) (candidates T M) h (candidate_there T M h (new_candidate h e)) e

  pub there_new : (h : Atom) → Contains new_names h → is_new R T M g h ≡ true
  there_new h has = passed (is_new R T M g) (candidates T M) h has

  module _ (n : Groups) where
    abbrev entry : Atom → Option Entry
    entry = new_entry R T M g n

    entry_is : (h : Atom) → entry h ≡ cond (kept R T M g h) (entry_of T h) (made_of (source_of M h) (group_of n h) (finally R T M g) (R h))
    unfolding new_entry
    entry_is h = refl

    made_named : (h : Atom) (o : Option Source) → source_of M h ≡ o → (e : Entry) → made_of o (group_of n h) (finally R T M g) (R h) ≡ Some e → e.name ≡ h
    made_named h None q e at = none_some at
    made_named h (Some s) q e at = sym (ap (λ (z : Entry). z.name) (some_is at)) ∙ (source_stands M h s q).1

    named : (h : Atom) (e : Entry) → entry h ≡ Some e → e.name ≡ h
    named h e at = by (kept R T M g h) (sym (entry_is h) ∙ at)
      where
        by : (b : Bool) → cond b (entry_of T h) (made_of (source_of M h) (group_of n h) (finally R T M g) (R h)) ≡ Some e → e.name ≡ h
        by true at = entry_name T h e at
        by false at = made_named h (source_of M h) refl e at

    made_some : (h : Atom) (o : Option Source) → is_there o ≡ true → (e : Entry) × (made_of o (group_of n h) (finally R T M g) (R h) ≡ Some e)
    made_some h None q = clash false q refl
    made_some h (Some s) q = (_, refl)

    some_entry : (h : Atom) → is_new R T M g h ≡ true → (e : Entry) × (entry h ≡ Some e)
    some_entry h e = by (kept R T M g h) refl
      where
        by : (b : Bool) → kept R T M g h ≡ b → (x : Entry) × (entry h ≡ Some x)
        by true stays =
            let node = folds.kept_candidate R T M g h stays in
            let facts = folds.kept_facts R T M g (g.number h) h (sym (folds.kept_is R T M g h node) ∙ stays) (in_own_group (is_candidate T M) (calls_of T M) g is h node) in
            (facts.entry, entry_is h ∙ ap (λ b. cond b (entry_of T h) (made_of (source_of M h) (group_of n h) (finally R T M g) (R h))) stays ∙ facts.there)
        by false changes =
            let there : is_in M h ≡ true = sym (or-false (is_in M h)) ∙ ap (λ b. is_in M h || b) (sym changes) ∙ sym (new_is h) ∙ e in
            let made = made_some h (source_of M h) there in
            (made.0, entry_is h ∙ ap (λ b. cond b (entry_of T h) (made_of (source_of M h) (group_of n h) (finally R T M g) (R h))) changes ∙ made.1)

    made_none : (h : Atom) (o : Option Source) → is_there o ≡ false → made_of o (group_of n h) (finally R T M g) (R h) ≡ None
    made_none h None q = refl
    made_none h (Some s) q = clash true refl q

    no_entry : (h : Atom) → is_new R T M g h ≡ false → entry h ≡ None
    no_entry h e =
        let neither = neither_of (is_in M h) (kept R T M g h) (sym (new_is h) ∙ e) in
        entry_is h ∙ ap (λ b. cond b (entry_of T h) (made_of (source_of M h) (group_of n h) (finally R T M g) (R h))) neither.1 ∙ made_none h (source_of M h) neither.0
      where
        neither_of : (a b : Bool) → (a || b) ≡ false → (a ≡ false) × (b ≡ false)
        neither_of true b q = clash true refl q
        neither_of false b q = (refl, q)

    abbrev sorted : List Atom
    sorted = merged name_cmp [] new_names

    has_contains : (xs : List Atom) (h : Atom) → Contains xs h → has xs h ≡ true
    has_contains [] h there = absurd (contains_none h there)
    has_contains (x ∷ xs) h there = elim (contains_cases x h xs there) [
      | inl e ↦ or_left (same_atom h x) (has xs h) (subst (λ z. same_atom h z ≡ true) (sym e) (itself h))
      | inr more ↦ or_right (same_atom h x) (has xs h) (has_contains xs h more)
    ]

    pub entries : List Entry
    entries = table_of entry sorted

    pub entries_are : (h : Atom) → entry_of entries h ≡ entry h
    unfolding entries
    entries_are h = found entry named sorted h ∙ by (is_new R T M g h) refl
      where
        by : (b : Bool) → is_new R T M g h ≡ b → cond (has sorted h) (entry h) None ≡ entry h
        by true e = ap (λ b. cond b (entry h) None) (has_contains sorted h (in_merged name_total name_same new_names h (new_there h e)))
        by false e = so (has sorted h)
          where
            so : (b : Bool) → cond b (entry h) None ≡ entry h
            so true = refl
            so false = sym (no_entry h e)

    pub entries_from : (e : Entry) → Contains entries e → (h : Atom) × (entry h ≡ Some e)
    unfolding entries
    entries_from e there = entry_from entry sorted e there

    pub entries_rise : IsTrue (rises is_name_before (names_of entries))
    unfolding entries
    entries_rise =
        let names = names_are entry named sorted (λ h there. some_entry h (there_new h (merged_in name_total name_same new_names h there))) in
        let up : is_ascending name_cmp sorted ≡ true = ascending-merged name_total name_same [] new_names refl in
        subst (λ xs. rises is_name_before xs ≡ true) (sym names)
        (ascending_rises name_cmp is_name_before (λ x. x) (λ x y e. e) sorted (subst (λ xs. is_ascending name_cmp xs ≡ true) (sym (itself_mapped sorted)) up))
