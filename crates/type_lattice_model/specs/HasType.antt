-- Which values a type has, by cases on the type.
use Rattle.std.specs.Prelude.{◌≡◌, ℕ, zero, suc, ◌==◌, Bool, true, false, List, [], ◌∷◌, length, Option, Some, None}
use Rattle.std.specs.Ordering.{nat_cmp}
use Rattle.type_kinds_sets.specs.Names as names
use Rattle.type_kinds_sets.specs.Names.{Name, name_cmp}
use Rattle.type_kinds_sets.specs.Numbers as numbers
use Rattle.type_kinds_sets.specs.BitLengths as bit_lengths
use Rattle.type_lattice_model.specs.Values.{Value, int, atom, bits, float, pid, port, reference, nil, cons, tuple, map, closure, external, foreign, Values, no_value, and_value, count, heads, end_of}
use Rattle.type_lattice_model.specs.Tables.{find}
use Rattle.type_lattice_model.specs.Shapes.{Flag, floats, pids, ports, references, nils, maps, Flags, Functions, no_function, of_arity, all_functions, Cell, Body, product, tags, Tuples, sizes, all_tuples, Parts, TypeAt}

abbrev pub has_flag : Flags → Flag → Bool
has_flag k floats = k.float
has_flag k pids = k.pid
has_flag k ports = k.port
has_flag k references = k.reference
has_flag k maps = k.map
has_flag k nils = k.nil

-- whether functions of this arity are among them
abbrev pub has_arity : Functions → ℕ → Bool
has_arity no_function n = false
has_arity (of_arity m) n = m == n
has_arity all_functions n = true

module _ {E : Type 0} (Has : Value → E → Type 0) where
  -- each of the values is in the one type
  abbrev pub HasAll : Values → E → Type 0
  HasAll no_value e = Unit {0}
  HasAll (and_value v vs) e = Has v e × HasAll vs e

  -- the values are in the types, one in each
  abbrev pub HasEach : Values → List E → Type 0
  HasEach no_value [] = Unit {0}
  HasEach no_value (e ∷ es) = ⊥
  HasEach (and_value v vs) [] = ⊥
  HasEach (and_value v vs) (e ∷ es) = Has v e × HasEach vs es

  abbrev pub HasRow : Values → Option (List E) → Type 0
  HasRow vs None = ⊥
  HasRow vs (Some es) = HasEach vs es

  -- a list by its head and tail: it is walked along its chain to its end
  abbrev pub HasCell : Value × Value → Option (Cell E) → Type 0
  HasCell p None = ⊥
  HasCell p (Some c) = HasAll (and_value p.0 (heads p.1)) c.element × (c.is_proper ≡ true → end_of p.1 ≡ nil)

  -- a first element that is an atom, and what the types that stand at it say of the rest
  abbrev pub HasTag : Values → List (Name × List E) → Type 0
  HasTag (and_value (atom a) vs) m = HasRow vs (find name_cmp m a)
  HasTag vs m = ⊥

  abbrev pub HasBody : Values → Option (Body E) → Type 0
  HasBody vs None = ⊥
  HasBody vs (Some (product es)) = HasEach vs es
  HasBody vs (Some (tags m)) = HasTag vs m

  abbrev pub HasTuple : Values → Tuples E → Type 0
  HasTuple vs (sizes m) = HasBody vs (find nat_cmp m (count vs))
  HasTuple vs all_tuples = Unit {0}

  -- a function is told by its arity alone
  abbrev pub HasParts : Value → Parts E → Type 0
  HasParts (int n) p = numbers.has p.plain.ints n ≡ true
  HasParts (atom a) p = names.has p.plain.atoms a ≡ true
  HasParts (bits bs) p = bit_lengths.has p.plain.bits (length bs) ≡ true
  HasParts (float s) p = p.plain.flags.float ≡ true
  HasParts (pid n) p = p.plain.flags.pid ≡ true
  HasParts (port n) p = p.plain.flags.port ≡ true
  HasParts (reference n) p = p.plain.flags.reference ≡ true
  HasParts (map ps) p = p.plain.flags.map ≡ true
  HasParts nil p = p.plain.flags.nil ≡ true
  HasParts (cons h t) p = HasCell (h, t) p.cell
  HasParts (tuple vs) p = HasTuple vs p.tuples
  HasParts (closure m l n env) p = has_arity p.plain.functions n ≡ true
  HasParts (external m f n) p = has_arity p.plain.functions n ≡ true
  HasParts (foreign x n) p = has_arity p.plain.functions n ≡ true

-- which values the types of a level have
abbrev pub HasAt : (d : ℕ) → Value → TypeAt d → Type 0
HasAt zero v t = t ≡ true
HasAt (suc d) v t = HasParts (HasAt d) v t
