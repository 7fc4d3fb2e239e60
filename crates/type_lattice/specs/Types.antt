-- Types of level 4 in normal form, which the analysis uses, and what is done with them.
use Rattle.std.specs.Prelude.{◌≡◌, ℕ, zero, suc, Bool, true, List, [], ◌∷◌, map, Option, None, ◌⊎◌, refl}
use Rattle.std.proofs.Common.{inl, inr}
use Rattle.std.specs.Coded.{Coded, code_by, coded×, coded⊎, coded_ℕ, coded_bool, coded_list, coded_option}
use base.Stored.{coded_via}
use mathlib.Core.HLevel.{is_prop→PathP}
use Rattle.type_kinds_sets.specs.Names as names
use Rattle.type_kinds_sets.specs.Names.{Name, Names}
use Rattle.type_kinds_sets.specs.Numbers as numbers
use Rattle.type_kinds_sets.specs.Numbers.{Numbers}
use Rattle.type_kinds_sets.specs.declared.bits.Bits.TheVariants.{No}
use Rattle.type_lattice_model.specs.Values.{Value, Values}
use Rattle.type_lattice_model.specs.Shapes.{no_function, PlainParts, Cell, Body, product, tags, Tuples, sizes, all_tuples, Parts, TypeAt}
use Rattle.type_lattice_model.specs.HasType.{HasAt, HasEach}
use Rattle.type_lattice_model.specs.Operations.{ops, no_flags, plain_none}
use Rattle.type_lattice_model.specs.Normal.{NormalFunctions, NormalAt}
use Rattle.type_lattice_model.specs.Cut as levels
use Rattle.type_lattice_model.specs.Parts.{AreNormal, tuple_at, cons_at, project_at, elem_at, tail_at}
use Rattle.type_lattice_model.specs.Ranks as ranks
use Rattle.type_lattice_model.proofs.LevelLaws.{level_laws}
use Rattle.type_lattice_model.proofs.CutLaws.{cut_lowering}
use Rattle.type_lattice_model.proofs.MadeLaws.{tuple-normal, cons-normal, project-normal, elem-normal, tail-normal}
use Rattle.type_lattice_model.proofs.NormalOnce.{normal_once}
use Rattle.type_lattice_trees.specs.Plains.{plain_code}

-- a type of the analysis
pub record Type4 : Type 0 where
  pub ty : TypeAt 4
  pub normal : NormalAt 4 ty

pub same_type : (s t : Type4) → s.ty ≡ t.ty → s ≡ t
same_type s t e = λ i. record { ty = e i; normal = is_prop→PathP (λ j. NormalAt 4 (e j)) (λ j. normal_once 4 (e j)) s.normal t.normal i }

-- the values of a type
unfoldable pub HasType : Value → Type4 → Type 0
HasType v t = HasAt 4 v t.ty

-- each value of the first is one of the second
abbrev pub Below : Type4 → Type4 → Type 0
Below s t = (v : Value) → HasType v s → HasType v t

-- position by position, each value of the one type is one of the other
abbrev pub AreBelow : List Type4 → List Type4 → Type 0
AreBelow [] [] = Unit {0}
AreBelow [] (t ∷ ts) = ⊥
AreBelow (s ∷ ss) [] = ⊥
AreBelow (s ∷ ss) (t ∷ ts) = Below s t × AreBelow ss ts

abbrev pub HasTypes : Values → List Type4 → Type 0
HasTypes vs ts = HasEach HasType vs ts

-- ---- types of one part

pub plain_normal : (p : PlainParts) → NormalFunctions p.functions → NormalAt 4 (record { plain = p; cell = None; tuples = sizes [] })
unfolding NormalAt
plain_normal p k = (k, tt, (refl, refl, tt))

pub tuples_normal : NormalAt 4 (record { plain = plain_none; cell = None; tuples = all_tuples })
unfolding NormalAt
tuples_normal = (tt, tt, tt)

-- the values of these plain parts
abbrev pub of_plain : (p : PlainParts) → NormalFunctions p.functions → Type4
of_plain p k = record { ty = record { plain = p; cell = None; tuples = sizes [] }; normal = plain_normal p k }

unfoldable pub of_atoms : Names → Type4
of_atoms s = of_plain (record { atoms = s; ints = numbers.none; bits = No; flags = no_flags; functions = no_function }) tt

unfoldable pub of_ints : Numbers → Type4
of_ints s = of_plain (record { atoms = names.none; ints = s; bits = No; flags = no_flags; functions = no_function }) tt

unfoldable pub every_tuple : Type4
every_tuple = record { ty = record { plain = plain_none; cell = None; tuples = all_tuples }; normal = tuples_normal }

-- ---- the operations

unfoldable pub none : Type4
none = record { ty = (ops 4).none; normal = (level_laws 4).lattice.none_normal }

unfoldable pub any : Type4
any = record { ty = (ops 4).any; normal = (level_laws 4).any_normal }

unfoldable pub is_none : Type4 → Bool
is_none t = (ops 4).is_none t.ty

unfoldable pub meet : Type4 → Type4 → Type4
meet s t = record { ty = (ops 4).meet s.ty t.ty; normal = (level_laws 4).lattice.meet_normal s.ty t.ty s.normal t.normal }

unfoldable pub join : Type4 → Type4 → Type4
join s t = record { ty = (ops 4).join s.ty t.ty; normal = (level_laws 4).lattice.join_normal s.ty t.ty s.normal t.normal }

-- the least type of a level, of 4 at most, that has the values of a type
unfoldable pub cut : ℕ → Type4 → Type4
cut d t = record { ty = levels.cut d 4 (levels.cut 4 d t.ty); normal = (cut_lowering d 4).normal (levels.cut 4 d t.ty) ((cut_lowering 4 d).normal t.ty t.normal) }

-- the type is one of the level, and so of each higher one
abbrev pub IsOfLevel : ℕ → Type4 → Type 0
IsOfLevel d t = (s : TypeAt d) × (NormalAt d s × (t.ty ≡ levels.cut d 4 s))

pub are_normal : (ts : List Type4) → AreNormal (NormalAt 4) (map (λ t. t.ty) ts)
are_normal [] = tt
are_normal (t ∷ ts) = (t.normal, are_normal ts)

-- the least type that has the tuples of these types
unfoldable pub tuple : List Type4 → Type4
tuple ts = record { ty = tuple_at 4 (map (λ t. t.ty) ts); normal = tuple-normal 4 (map (λ t. t.ty) ts) (are_normal ts) }

-- the lists of a head and a tail, with proper ends, where one asks for them and each value of the tail is a proper list
unfoldable pub cons : Type4 → Type4 → Bool → Type4
cons h t proper = record { ty = cons_at 3 h.ty t.ty proper; normal = cons-normal 3 h.ty t.ty proper h.normal t.normal }

-- the type of the i-th of n elements, the first at 1
unfoldable pub project : Type4 → ℕ → ℕ → Type4
project t n i = record { ty = project_at 3 t.ty n i; normal = project-normal 3 t.ty t.normal n i }

-- the type of the heads of a list, and of what may follow a head
unfoldable pub elem : Type4 → Type4
elem t = record { ty = elem_at 3 t.ty; normal = elem-normal 3 t.ty t.normal }

unfoldable pub tail : Type4 → Type4
tail t = record { ty = tail_at 3 t.ty; normal = tail-normal 3 t.ty t.normal }

-- a smaller type has a lower rank
unfoldable pub rank : Type4 → ℕ
rank t = ranks.rank 4 t.ty

-- ---- how a type is stored

abbrev pub cell_code : {E : Type 0} → Coded E → Coded (Cell E)
cell_code {E} c = code_by (E × Bool) (coded× c coded_bool) (λ e. (e.element, e.is_proper)) (λ p. record { element = p.0; is_proper = p.1 }) (λ _. refl)

module _ {E : Type 0} where
  abbrev pub body_apart : Body E → List E ⊎ List (Name × List E)
  body_apart (product es) = inl es
  body_apart (tags m) = inr m

  abbrev pub body_from : List E ⊎ List (Name × List E) → Body E
  body_from (inl es) = product es
  body_from (inr m) = tags m

  pub body_back : (b : Body E) → body_from (body_apart b) ≡ b
  body_back (product es) = refl
  body_back (tags m) = refl

  abbrev pub tuples_apart : Tuples E → List (ℕ × Body E) ⊎ Bool
  tuples_apart (sizes m) = inl m
  tuples_apart all_tuples = inr true

  abbrev pub tuples_from : List (ℕ × Body E) ⊎ Bool → Tuples E
  tuples_from (inl m) = sizes m
  tuples_from (inr b) = all_tuples

  pub tuples_back : (t : Tuples E) → tuples_from (tuples_apart t) ≡ t
  tuples_back (sizes m) = refl
  tuples_back all_tuples = refl

abbrev pub body_code : {E : Type 0} → Coded E → Coded (Body E)
body_code {E} c = code_by (List E ⊎ List (Name × List E)) (coded⊎ (coded_list c) (coded_list (coded× (coded_list coded_ℕ) (coded_list c)))) body_apart body_from body_back

abbrev pub tuples_code : {E : Type 0} → Coded E → Coded (Tuples E)
tuples_code {E} c = code_by (List (ℕ × Body E) ⊎ Bool) (coded⊎ (coded_list (coded× coded_ℕ (body_code c))) coded_bool) tuples_apart tuples_from tuples_back

abbrev pub parts_code : {E : Type 0} → Coded E → Coded (Parts E)
parts_code {E} c = code_by (PlainParts × (Option (Cell E) × Tuples E)) (coded× plain_code (coded× (coded_option (cell_code c)) (tuples_code c))) (λ p. (p.plain, (p.cell, p.tuples)))
    (λ t. record { plain = t.0; cell = t.1.0; tuples = t.1.1 }) (λ _. refl)

abbrev pub type_code_at : (d : ℕ) → Coded (TypeAt d)
type_code_at zero = coded_bool
type_code_at (suc d) = parts_code (type_code_at d)

abbrev pub type_code : Coded Type4
type_code = coded_via (type_code_at 4) (λ t. t.ty) same_type
