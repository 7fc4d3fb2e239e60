-- Modules that are passed, as sources: accepted, with distinct names, and each defines what it exports.
use Rattle.std.proofs.Common.{◌≡◌, ℕ, zero, suc, ◌<◌, true, List, [], ◌∷◌, inl, inr, map, length, slice_get, Some, Contains, refl, sym, ap, ◌∙◌, subst, arith}
use Rattle.std.specs.Prelude.{option_map}
use Rattle.std.proofs.lemmas.Bool.{cases_lt}
use Rattle.std.proofs.lemmas.Option.{slice_get-map, slice_get_within}
use Rattle.type_kinds.proofs.Lists.{contains_none, contains_cases, contains_at}
use Rattle.type_kinds.specs.declared.atom.Atom.{Atom}
use Rattle.core_ast.specs.declared.syntax.FunName.{FunName}
use Rattle.core_ast.specs.Model as m
use Rattle.core_scope.specs.Checked.{module_of, tree_of, is_accepted}
use Rattle.core_scope.specs.Names.{Distinct, defined_names, has_function}
use Rattle.core_scope.specs.Sets.{StandsEarlier}
use Rattle.core_scope.proofs.NameLaws.{none_earlier}
use Rattle.analysis_summaries.specs.Known.{module_names}
use Rattle.table_keep.specs.declared.source.Source.{Source as HandedIn}
use Rattle.table_keep.specs.Model.{Source, source_so, sources_so, trees}
use Rattle.sound_laws_whole.proofs.Wholes.{exports_defined}
use Rattle.sound_laws_kept.specs.Solving.{AreSources}
use Rattle.sound_laws_kept.proofs.Names.{accepted_sources}
use Rattle.analysis.proofs.Opened.{DefinesExports}

-- ---- each module defines what it exports

pub all_define : (ss : List HandedIn) → DefinesExports (trees (sources_so ss))
all_define [] x has = absurd (contains_none x has)
all_define (s ∷ ss) x has = elim (contains_cases (tree_of s.checked) x (trees (sources_so ss)) has) [
  | inl same ↦ subst (λ (y : m.Module). (f : FunName) → has_function y.exports f ≡ true → Contains (defined_names y.defs) f) same (exports_defined (tree_of s.checked) (is_accepted s.checked).sound)
  | inr more ↦ all_define ss x more
]

-- ---- they are sources

pub names_so : (ss : List HandedIn) → map (λ s. (module_of s.checked).name) ss ≡ module_names (trees (sources_so ss))
names_so [] = refl
names_so (s ∷ ss) = ap (λ hs. (module_of s.checked).name ∷ hs) (names_so ss)

counted : (ss : List HandedIn) → length ss ≡ length (map (λ s. (module_of s.checked).name) ss)
counted [] = refl
counted (s ∷ ss) = ap suc (counted ss)

pub are_sources : (ss : List HandedIn) → ((j : ℕ) → j < length ss → StandsEarlier (map (λ s. (module_of s.checked).name) ss) j → ⊥) → AreSources (sources_so ss)
are_sources ss once = record {
  accepted = accepted_sources ss;
  distinct = subst Distinct (names_so ss) (none_earlier (map (λ s. (module_of s.checked).name) ss) (λ j low. once j (subst (λ n. j < n) (sym (counted ss)) low)));
}

-- ---- and back: of distinct names none stands earlier too

pub never_earlier : (names : List Atom) → Distinct names → (j : ℕ) → j < length names → StandsEarlier names j → ⊥
never_earlier [] once j low e = absurd (omega (arith, low))
never_earlier (x ∷ xs) once zero low e = absurd (omega (arith, e.1))
never_earlier (x ∷ xs) once (suc j) low (zero, before, same) = once.0 (contains_at xs j x (sym same))
never_earlier (x ∷ xs) once (suc j) low (suc i, before, same) = never_earlier xs once.1 j (omega (arith, low)) (i, omega (arith, before), same)

-- ---- modules that are chosen

pub chosen_trees : {A : Type 0} (of : A → HandedIn) (cs : List A) → map (λ c. tree_of (of c).checked) cs ≡ trees (map (λ c. source_so (of c)) cs)
chosen_trees of [] = refl
chosen_trees of (c ∷ cs) = ap (λ xs. tree_of (of c).checked ∷ xs) (chosen_trees of cs)

pub chosen_names : {A : Type 0} (of : A → HandedIn) (cs : List A) → map (λ c. (module_of (of c).checked).name) cs ≡ module_names (trees (map (λ c. source_so (of c)) cs))
chosen_names of [] = refl
chosen_names of (c ∷ cs) = ap (λ hs. (module_of (of c).checked).name ∷ hs) (chosen_names of cs)

pub chosen_counted : {A : Type 0} (of : A → HandedIn) (cs : List A) → length cs ≡ length (map (λ c. (module_of (of c).checked).name) cs)
chosen_counted of [] = refl
chosen_counted of (c ∷ cs) = ap suc (chosen_counted of cs)

pub chosen_apart : {A : Type 0} (of : A → HandedIn) (cs : List A) (xs : List Source) → map (λ c. source_so (of c)) cs ≡ xs → Distinct (module_names (trees xs))
    → (j : ℕ) → j < length cs → StandsEarlier (map (λ c. (module_of (of c).checked).name) cs) j → ⊥
chosen_apart of cs xs so once j low e =
    never_earlier (map (λ c. (module_of (of c).checked).name) cs) (subst Distinct (sym (chosen_names of cs ∙ ap (λ ys. module_names (trees ys)) so)) once) j
    (subst (λ n. j < n) (chosen_counted of cs) low) e

-- ---- positions

-- the source at a position
pub source_at : (ss : List HandedIn) (i : ℕ) (s : HandedIn) → slice_get ss i ≡ Some s → slice_get (sources_so ss) i ≡ Some (source_so s)
source_at ss i s e = slice_get-map source_so ss i ∙ ap (option_map source_so) e

-- distinct names stand at one position each
pub one_position : (names : List Atom) → Distinct names → (i j : ℕ) (h : Atom) → slice_get names i ≡ Some h → slice_get names j ≡ Some h → i ≡ j
one_position names once i j h a b = elim (cases_lt i j) [
  | inl less ↦ absurd (never_earlier names once j (slice_get_within names j h b) (i, less, a ∙ sym b))
  | inr not_less ↦ (elim (cases_lt j i) [
    | inl less ↦ absurd (never_earlier names once i (slice_get_within names i h a) (j, less, b ∙ sym a))
    | inr same ↦ omega (arith, not_less, same)
  ])
]
