-- What entries list: a name that is listed has a summary there, and in a list that rises each function has the one that it stands with.
use Rattle.std.proofs.Common.{◌≡◌, ◌↔◌, Bool, true, false, cond, List, [], ◌∷◌, ◌⊎◌, map, Contains, inl, inr, Some, refl, sym, ap, ap₂, ◌∙◌, subst, true≢false}
use Rattle.std.specs.Ordering.{is_lt}
use Rattle.type_kinds.proofs.Lists.{contains_none, contains_first, contains_later, contains_cases}
use Rattle.type_kinds.proofs.Truths.{first, second}
use Rattle.type_kinds_sets.specs.Ascending.{is_ascending, is_below_all}
use Rattle.type_kinds_sets.proofs.AscendingLaws.{below-not_itself, ascending-merged}
use Rattle.type_kinds.specs.declared.atom.Atom.{Atom}
use Rattle.core_ast.specs.Model as m
use Rattle.core_ast.specs.declared.syntax.FunName.{FunName}
use Rattle.core_scope.specs.Names.{defined_names, same_atom}
use Rattle.cons_tree.specs.Callees.{same_name}
use Rattle.cons_tree.specs.declared.parts.Summary.{Summary}
use Rattle.cons_tree.proofs.NameLaws.{name_is, name_itself}
use Rattle.table_keep.specs.Made.{function_cmp, exported}
use Rattle.table_keep.specs.Orders.{function_total, function_same}
use Rattle.table_keep.specs.Model.{Entry, entry_of}
use Rattle.comp_rounds.specs.Rounds.{Callees}
use Rattle.sound_laws_kept.proofs.Names.{itself}
use Rattle.table_verify_laws.specs.Certificates.{AreListed}
use Rattle.table_verify_laws.specs.Lined.{entry_names}
use Rattle.table_verify_laws.specs.Listed.{summary_among, defined}

-- the functions of a list, and their names
abbrev pub names_of : List (FunName × Summary) → List FunName
names_of es = map (λ x. x.0) es

pub stands_named : (es : List (FunName × Summary)) (f : FunName) → Contains (names_of es) f → (s : Summary) × Contains es (f, s)
stands_named [] f has = absurd (contains_none f has)
stands_named (x ∷ xs) f has = elim (contains_cases x.0 f (names_of xs) has) [
  | inl same ↦ (x.1, subst (λ g. Contains (x ∷ xs) (g, x.1)) same (contains_first x xs))
  | inr more ↦ (let r = stands_named xs f more in (r.0, contains_later x (f, r.0) xs r.1))
]

name_stands : (es : List (FunName × Summary)) (f : FunName) (s : Summary) → Contains es (f, s) → Contains (names_of es) f
name_stands [] f s has = absurd (contains_none (f, s) has)
name_stands (x ∷ xs) f s has = elim (contains_cases x (f, s) xs has) [
  | inl same ↦ subst (Contains (x.0 ∷ names_of xs)) (ap (λ (y : FunName × Summary). y.0) same) (contains_first x.0 (names_of xs))
  | inr more ↦ contains_later x.0 f (names_of xs) (name_stands xs f s more)
]

below_stands : (f g : FunName) (gs : List FunName) → is_below_all function_cmp f gs ≡ true → Contains gs g → is_lt (function_cmp f g) ≡ true
below_stands f g [] low has = absurd (contains_none g has)
below_stands f g (k ∷ gs) low has = elim (contains_cases k g gs has) [
  | inl same ↦ subst (λ x. is_lt (function_cmp f x) ≡ true) same (first (is_lt (function_cmp f k)) (is_below_all function_cmp f gs) low)
  | inr more ↦ below_stands f g gs (second (is_lt (function_cmp f k)) (is_below_all function_cmp f gs) low) more
]

pub among_rising : (es : List (FunName × Summary)) (f : FunName) (s : Summary) → is_ascending function_cmp (names_of es) ≡ true → Contains es (f, s) → summary_among es f ≡ Some s
among_rising [] f s up has = absurd (contains_none (f, s) has)
among_rising (x ∷ xs) f s up has = by (same_name f x.0) refl (among_rising xs f s (second (is_below_all function_cmp x.0 (names_of xs)) (is_ascending function_cmp (names_of xs)) up))
  where
    by : (b : Bool) → same_name f x.0 ≡ b → (Contains xs (f, s) → summary_among xs f ≡ Some s) → cond b (Some x.1) (summary_among xs f) ≡ Some s
    by true is later = elim (contains_cases x (f, s) xs has) [
      | inl same ↦ ap (λ (y : FunName × Summary). Some y.1) same
      | inr more ↦ absurd (below-not_itself function_total function_same f
          (subst (λ g. is_lt (function_cmp g f) ≡ true) (sym (name_is f x.0 is))
          (below_stands x.0 f (names_of xs) (first (is_below_all function_cmp x.0 (names_of xs)) (is_ascending function_cmp (names_of xs)) up) (name_stands xs f s more))))
    ]
    by false is later = elim (contains_cases x (f, s) xs has) [
      | inl same ↦ absurd (true≢false (sym (ap (λ (y : FunName × Summary). same_name f y.0) same ∙ name_itself f) ∙ is))
      | inr more ↦ later more
    ]

-- ---- the functions that a module defines

-- what each module exports is exactly what its entry is to list
abbrev pub ExportsLaw : Type 0
ExportsLaw = (x : m.Module) (f : FunName) → Contains (exported x) f ↔ Contains x.exports f

-- what is listed of all functions is what is listed of exports where a module exports them all
pub defined_has : ExportsLaw → (x : m.Module) (f : FunName) → Contains (defined_names x.defs) f → Contains (defined x) f
unfolding defined exported
defined_has exports x f has = (exports (record x { exports = defined_names x.defs }) f).1 has

-- they rise
pub defined_rise : (x : m.Module) → is_ascending function_cmp (defined x) ≡ true
unfolding defined
defined_rise x = ascending-merged function_total function_same [] (defined_names x.defs) refl

-- ---- functions that are listed by what is known

pub listed_so : (known : Callees) (h : Atom) (fs : List FunName) (es : List (FunName × Summary)) → AreListed known h fs es → map (λ x. x.0) es ≡ fs
listed_so known h [] [] are = refl
listed_so known h [] (e ∷ es) are = absurd are
listed_so known h (f ∷ fs) [] are = absurd are
listed_so known h (f ∷ fs) (e ∷ es) are = ap₂ (λ g gs. g ∷ gs) are.0 (listed_so known h fs es are.2)

-- ---- entries by their names

pub entry_there : (T : List Entry) (h : Atom) → Contains (entry_names T) h → (e : Entry) × (entry_of T h ≡ Some e)
entry_there [] h has = absurd (contains_none h has)
entry_there (e ∷ T) h has = by (same_atom h e.name) refl (contains_cases e.name h (entry_names T) has) (entry_there T h)
  where
    by : (b : Bool) → same_atom h e.name ≡ b → (e.name ≡ h) ⊎ Contains (entry_names T) h → (Contains (entry_names T) h → (d : Entry) × (entry_of T h ≡ Some d))
        → (d : Entry) × (cond b (Some e) (entry_of T h) ≡ Some d)
    by true is o rest = (e, refl)
    by false is (inl same) rest = absurd (true≢false (sym (ap (same_atom h) same ∙ itself h) ∙ is))
    by false is (inr more) rest = rest more
