-- Functions that an entry lists: each is one of some, and those that pass a test one after another.
use Rattle.std.proofs.Common.{◌≡◌, ◌↔◌, ℕ, zero, suc, ◌+◌, ◌<◌, ◌≤◌, Bool, true, false, ◌&&◌, cond, List, [], ◌∷◌, length, map, take}
use Rattle.std.proofs.Common.{drop, get_or, slice_get, Contains, inl, inr, Some, IsTrue, refl, sym, ap, ◌∙◌, subst, true≢false, arith}
use Rattle.std.specs.List.{list_all, filter}
use Rattle.std.proofs.Math.Seq.{drop-nil}
use Rattle.std.proofs.lemmas.List.{take_all, drop_all, length-drop}
use Rattle.std.proofs.lemmas.List.Folds.{list_all_more}
use Rattle.std.proofs.lemmas.Option.{same_Some, slice_get_within, get_or_from_slice_get}
use Rattle.type_kinds.proofs.Lists.{contains_none, contains_first, contains_later, contains_cases, drop_next, same_head, same_tail}
use Rattle.type_kinds.proofs.Truths.{first, second}
use Rattle.core_ast.specs.Tree.{all_defs}
use Rattle.core_ast.specs.declared.syntax.Expr.{Expr}
use Rattle.core_ast.specs.declared.syntax.FunDefOf.{FunDefOf}
use Rattle.core_ast.specs.declared.syntax.FunName.{FunName}
use Rattle.core_scope.specs.Checked.{module_of}
use Rattle.core_scope.specs.Names.{defined_names, has_function, same_function}
use Rattle.core_scope.specs.steps.SameNames.{functions_same}
use Rattle.core_scope.proofs.NameLaws.{has_contained, contained_has}
use Rattle.cons_tree.specs.declared.parts.Summary.{Summary}
use Rattle.cons_tree.specs.Codes.{summary_code}
use Rattle.cons_tree.specs.SameBy.{same_by, same_by_equal}
use Rattle.table_file.specs.Order.{rises, rises_from, is_function_before}
use Rattle.table_file.specs.Rules.{is_export_before}
use Rattle.table_file.specs.declared.entries.Entry.{Entry as StoredEntry}
use Rattle.table_keep.specs.Model.{entry_so, source_so}
use Rattle.table_keep.specs.declared.source.Source.{Source as HandedIn}
use Rattle.table_verify_laws.specs.Counted.{CountedLaw, ListsAsMany}
use Rattle.table_verify_laws.specs.Rules.{ListsFunctions}
use Rattle.table_verify_rules.specs.steps.Listing.{ListsDefined}

abbrev pub ListOfBoth : Type 0
ListOfBoth = List (FunName × Summary)

-- ---- each is one of some

all_there : (ds : List FunName) (xs : ListOfBoth) → list_all (λ x. has_function ds x.0) xs ≡ true → (f : FunName) → Contains (map (λ x. x.0) xs) f → Contains ds f
all_there ds [] h f has = absurd (contains_none f has)
all_there ds (x ∷ xs) h f has = elim (contains_cases x.0 f (map (λ y. y.0) xs) has) [
  | inl same ↦ subst (Contains ds) same (contained_has ds x.0 (first (has_function ds x.0) (list_all (λ y. has_function ds y.0) xs) h))
  | inr more ↦ all_there ds xs (second (has_function ds x.0) (list_all (λ y. has_function ds y.0) xs) h) f more
]

name_at : (xs : ListOfBoth) (i : ℕ) (d : FunName × Summary) → i < length xs → Contains (map (λ x. x.0) xs) (get_or xs i d).0
name_at [] i d low = absurd (omega (arith, low))
name_at (x ∷ xs) zero d low = contains_first x.0 (map (λ y. y.0) xs)
name_at (x ∷ xs) (suc i) d low = contains_later x.0 (get_or xs i d).0 (map (λ y. y.0) xs) (name_at xs i d (omega (arith, low)))

pub one_more : (ds : List FunName) (xs : ListOfBoth) (i : ℕ) (x : FunName × Summary) → i < length xs → x ≡ get_or xs i x
    → list_all (λ y. has_function ds y.0) (take i xs) ≡ true → has_function ds x.0 ≡ true → list_all (λ y. has_function ds y.0) (take (i + 1) xs) ≡ true
one_more ds xs i x low is all has =
    list_all_more (λ y. has_function ds y.0) xs i x low
    ∙ ap (λ b. b && has_function ds (get_or xs i x).0) all ∙ ap (λ (y : FunName × Summary). has_function ds y.0) (sym is) ∙ has

pub none_more : (ds : List FunName) (xs : ListOfBoth) (i : ℕ) (x : FunName × Summary) → i < length xs → x ≡ get_or xs i x
    → has_function ds x.0 ≡ false → ListsDefined (map (λ y. y.0) xs) ds → ⊥
none_more ds xs i x low is fails lists =
    true≢false (sym (has_contained ds x.0 (lists.alone x.0 (subst (λ (y : FunName × Summary). Contains (map (λ z. z.0) xs) y.0) (sym is) (name_at xs i x low)))) ∙ fails)

pub lists_all : (ds : List FunName) (xs : ListOfBoth) (n : ℕ) → length (map (λ x. x.0) xs) ≡ length ds → length xs ≤ n → list_all (λ x. has_function ds x.0) (take n xs) ≡ true
    → ListsDefined (map (λ x. x.0) xs) ds
lists_all ds xs n as_many long all = record {
  as_many = as_many;
  alone = all_there ds xs (subst (λ ys. list_all (λ x. has_function ds x.0) ys ≡ true) (take_all n xs long) all);
}

-- ---- those that pass a test, one after another

module _ {X : Type 0} (p : X → Bool) (es xs : List X) where
  -- what is left of one list is what is left of those of the other that pass
  abbrev pub AreRest : ℕ → ℕ → Type 0
  AreRest k i = drop k es ≡ filter p (drop i xs)

  passed : (x : X) (ys : List X) → p x ≡ true → filter p (x ∷ ys) ≡ x ∷ filter p ys
  passed x ys h = ap (λ b. cond b (x ∷ filter p ys) (filter p ys)) h

  not_passed : (x : X) (ys : List X) → p x ≡ false → filter p (x ∷ ys) ≡ filter p ys
  not_passed x ys h = ap (λ b. cond b (x ∷ filter p ys) (filter p ys)) h

  pub rest_skipped : (k i : ℕ) (x : X) → i < length xs → x ≡ get_or xs i x → p x ≡ false → AreRest k i ↔ AreRest k (i + 1)
  rest_skipped k i x low is fails =
      let e = ap (filter p) (drop_next xs i x low is) ∙ not_passed x (drop (i + 1) xs) fails in
      (λ h. h ∙ e, λ h. h ∙ sym e)

  pub rest_taken : (k i : ℕ) (x : X) → i < length xs → x ≡ get_or xs i x → p x ≡ true → k < length es → x ≡ get_or es k x → AreRest k i ↔ AreRest (k + 1) (i + 1)
  rest_taken k i x low is holds there at =
      let e = ap (filter p) (drop_next xs i x low is) ∙ passed x (drop (i + 1) xs) holds in
      let f = drop_next es k x there at in
      (λ h. same_tail x x _ _ (sym f ∙ h ∙ e), λ h. f ∙ ap (λ ys. x ∷ ys) h ∙ sym e)

  pub rest_other : (k i : ℕ) (x : X) → i < length xs → x ≡ get_or xs i x → p x ≡ true → (slice_get es k ≡ Some x → ⊥) → AreRest k i → ⊥
  rest_other k i x low is holds other h = other (stands es k x (drop (i + 1) xs) (h ∙ ap (filter p) (drop_next xs i x low is) ∙ passed x (drop (i + 1) xs) holds))
    where
      stands : (ys : List X) (k : ℕ) (x : X) (zs : List X) → drop k ys ≡ x ∷ filter p zs → slice_get ys k ≡ Some x
      stands [] k x zs h = absurd (omega (arith, ap length (sym (drop-nil k) ∙ h)))
      stands (y ∷ ys) zero x zs h = ap Some (same_head y x ys (filter p zs) h)
      stands (y ∷ ys) (suc k) x zs h = stands ys k x zs h

  -- nothing is left of the second
  pub rest_ended : (k i : ℕ) → k ≤ length es → length xs ≤ i → AreRest k i ↔ (k ≡ length es)
  rest_ended k i low end =
      let e : filter p (drop i xs) ≡ [] = ap (filter p) (drop_all i xs end) in
      (λ h. omega (arith, length-drop k es, ap length (h ∙ e), low), λ h. drop_all k es (omega (arith, h)) ∙ sym e)

module _ {X : Type 0} (p : X → Bool) (es xs : List X) (A : Type 0) where
  abbrev pub AreKept : ℕ → ℕ → Type 0
  AreKept k i = (k ≤ length es) × (A ↔ (drop k es ≡ filter p (drop i xs)))

  pub kept_taken : (k i m : ℕ) (x : X) → i < length xs → x ≡ get_or xs i x → p x ≡ true → slice_get es k ≡ Some x → m ≡ k + 1 → AreKept k i → AreKept m (i + 1)
  kept_taken k i m x low is passes there one kept =
      let l : k < length es = slice_get_within es k x there in
      let r = rest_taken p es xs k i x low is passes l (sym (get_or_from_slice_get es k x x there)) in
      subst (λ n. AreKept n (i + 1)) (sym one) (omega (arith, l), (λ a. r.0 (kept.1.0 a), λ b. kept.1.1 (r.1 b)))

  pub kept_skipped : (k i m : ℕ) (x : X) → i < length xs → x ≡ get_or xs i x → p x ≡ false → m ≡ k → AreKept k i → AreKept m (i + 1)
  kept_skipped k i m x low is passes one kept =
      let r = rest_skipped p es xs k i x low is passes in
      subst (λ n. AreKept n (i + 1)) (sym one) (kept.0, (λ a. r.0 (kept.1.0 a), λ b. kept.1.1 (r.1 b)))

-- ---- one function with its summary

pub stands_told : (es : ListOfBoth) (k : ℕ) (own listed : FunName × Summary) (a b : Bool) → Some own ≡ slice_get es k → a ≡ same_function own.0 listed.0 → a ≡ true
    → b ≡ same_by summary_code own.1 listed.1 → IsTrue b ↔ (slice_get es k ≡ Some listed)
stands_told es k own listed a b at one is other = (
  λ t.
      let name = functions_same own.0 listed.0 (sym one ∙ is) in
      let summary = (same_by_equal summary_code own.1 listed.1).0 (sym other ∙ t) in
      sym at ∙ ap Some (λ i. (name i, summary i)),
  λ s. other ∙ (same_by_equal summary_code own.1 listed.1).1 (ap (λ (x : FunName × Summary). x.1) (same_Some _ _ (at ∙ s))),
)

-- ---- an entry, and the certificate's, of a module

names_in : (ds : List (FunDefOf Expr)) → defined_names (all_defs ds) ≡ map (λ d. d.name) ds
names_in [] = refl
names_in (d ∷ ds) = ap (λ fs. d.name ∷ fs) (names_in ds)

same_from : (x : FunName × Summary) (xs : ListOfBoth) → rises_from is_function_before x.0 (map (λ y. y.0) xs) ≡ rises_from is_export_before x xs
same_from x [] = refl
same_from x (y ∷ ys) = ap (λ b. is_function_before x.0 y.0 && b) (same_from y ys)

same_rise : (xs : ListOfBoth) → rises is_function_before (map (λ y. y.0) xs) ≡ rises is_export_before xs
same_rise [] = refl
same_rise (x ∷ xs) = same_from x xs

module _ (entry certified : StoredEntry) (source : HandedIn) (ds : List (FunDefOf Expr)) (law : CountedLaw) (is : ds ≡ (module_of source.checked).defs) where
  counted : ListsFunctions (entry_so entry) (entry_so certified) (source_so source) ↔ ListsAsMany (entry_so entry) (entry_so certified) (source_so source)
  counted = law (entry_so entry) (entry_so certified) (source_so source) ((source.checked, refl), tt) (same_rise certified.exports ∙ certified.exports_rise)

  names_so : defined_names (source_so source).tree.defs ≡ map (λ d. d.name) ds
  names_so = names_in (module_of source.checked).defs ∙ ap (map (λ d. d.name)) (sym is)

  as_defined : ListsAsMany (entry_so entry) (entry_so certified) (source_so source) → ListsDefined (map (λ x. x.0) certified.exports) (map (λ d. d.name) ds)
  as_defined m = record {
    as_many = m.as_many ∙ ap length names_so;
    alone = λ f has. subst (λ fs. Contains fs f) names_so (m.defined_alone f has);
  }

  pub not_all : (a : Bool) → (IsTrue a ↔ ListsDefined (map (λ x. x.0) certified.exports) (map (λ d. d.name) ds)) → a ≡ false
      → IsTrue false ↔ ListsFunctions (entry_so entry) (entry_so certified) (source_so source)
  not_all a told fails = (λ t. absurd (true≢false (sym t)), λ l. absurd (true≢false (sym (told.1 (as_defined (counted.0 l))) ∙ fails)))

  pub told_by : (a b : Bool) (es : List FunName) → (IsTrue a ↔ ListsDefined (map (λ x. x.0) certified.exports) (map (λ d. d.name) ds)) → a ≡ true → es ≡ (module_of source.checked).exports
      → (IsTrue b ↔ (entry.exports ≡ filter (λ x. has_function es x.0) certified.exports)) → IsTrue b ↔ ListsFunctions (entry_so entry) (entry_so certified) (source_so source)
  told_by a b es told holds same more =
      let lists = told.0 holds in (
        λ t. counted.1 (record {
          as_many = lists.as_many ∙ ap length (sym names_so);
          defined_alone = λ f has. subst (λ fs. Contains fs f) (sym names_so) (lists.alone f has);
          those_exported = more.0 t ∙ ap (λ gs. filter (λ (x : FunName × Summary). has_function gs x.0) certified.exports) same;
        }),
        λ l. more.1 ((counted.0 l).those_exported ∙ ap (λ gs. filter (λ (x : FunName × Summary). has_function gs x.0) certified.exports) (sym same)),
      )
