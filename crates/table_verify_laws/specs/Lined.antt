-- What tells the first rule: names side by side, up to the first position at which they differ.
use Rattle.std.specs.Prelude.{◌≡◌, ◌↔◌, ◌⊎◌, true, false, List, [], ◌∷◌, ◌++◌, map, Contains, Option, Some, None, IsTrue}
use Rattle.type_kinds.specs.declared.atom.Atom.{Atom}
use Rattle.table_file.specs.Order.{rises, is_name_before}
use Rattle.table_keep.specs.Model.{Source, Entry, is_in}
use Rattle.table_verify_laws.specs.Rules.{same_modules, Keeps, IsFirstBroken}

-- the names of entries
abbrev pub entry_names : List Entry → List Atom
entry_names es = map (λ e. e.name) es

abbrev pub first_name : List Atom → Option Atom
first_name [] = None
first_name (h ∷ hs) = Some h

-- This is the first name of one of three lists, no first name of one is less, and not all three begin with it.
pub record IsLeastFirst (ts qs ms : List Atom) (h : Atom) : Type 0 where
  pub first_of_one : (first_name ts ≡ Some h) ⊎ ((first_name qs ≡ Some h) ⊎ (first_name ms ≡ Some h))
  pub least_first : (k : Atom) → (first_name ts ≡ Some k) ⊎ ((first_name qs ≡ Some k) ⊎ (first_name ms ≡ Some k)) → is_name_before k h ≡ false
  pub not_of_all : (first_name ts ≡ Some h) × (first_name qs ≡ Some h) × (first_name ms ≡ Some h) → ⊥

-- the names are those of the sources' modules, and they rise
pub record AreModuleNames (M : List Source) (names : List Atom) : Type 0 where
  pub rising : IsTrue (rises is_name_before names)
  pub exactly : (h : Atom) → (is_in M h ≡ true) ↔ Contains names h

-- Where a table and a certificate have the names of the modules, each module keeps the first rule.
abbrev pub SameNamesLaw : Type 0
SameNamesLaw =
    (T C : List Entry) (M : List Source) (names : List Atom) → AreModuleNames M names → entry_names T ≡ names → entry_names C ≡ names → (h : Atom) → Keeps T C M same_modules h

-- Where the three are alike up to a position, the least name behind it, of which there isn't one in all three, is the first to break a rule.
abbrev pub OtherNamesLaw : Type 0
OtherNamesLaw =
    (T C : List Entry) (M : List Source) (front ts qs ms : List Atom) (h : Atom) → IsTrue (rises is_name_before (entry_names T)) → IsTrue (rises is_name_before (entry_names C))
    → AreModuleNames M (front ++ ms) → entry_names T ≡ front ++ ts → entry_names C ≡ front ++ qs → IsLeastFirst ts qs ms h → IsFirstBroken T C M same_modules h
