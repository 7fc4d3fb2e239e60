-- What an expression sees: of each variable the place of the values that it stands for, and the functions of the `letrec`s around.
use Rattle.std.specs.Prelude.{ℕ, zero, suc, ◌+◌, if◌then◌else◌, List, [], ◌∷◌, Option, Some, None}
use Rattle.type_kinds.specs.declared.atom.Atom.{Atom}
use Rattle.core_ast.specs.declared.syntax.FunName.{FunName}
use Rattle.core_ast.specs.declared.syntax.VarName.{VarName}
use Rattle.core_ast.specs.Model as m
use Rattle.core_scope.specs.Names.{same_atom, wildcard}
use Rattle.type_lattice_model.specs.Values.{Local}
use Rattle.core_meaning.specs.Programs.{Program, function_named}
use Rattle.fun_flow_sets.specs.Items.{Place, nowhere, anywhere, parameter, defined_at}

-- the innermost first
pub data Scope : Type 0 where
  no_place : Scope
  and_place : (x : Atom) (p : Place) (sc : Scope) → Scope
  in_frame : (ls : List Local) (sc : Scope) → Scope

-- where the values of a variable are
abbrev pub place_of : Scope → Atom → Place
place_of no_place x = nowhere
place_of (and_place y p sc) x = if same_atom y x then p else place_of sc x
place_of (in_frame ls sc) x = place_of sc x

abbrev pub or_else : Option Local → Option Local → Option Local
or_else None o = o
or_else (Some d) o = Some d

-- the definition of a name in a `letrec` around
abbrev pub local_definition : Scope → FunName → Option Local
local_definition no_place f = None
local_definition (and_place x p sc) f = local_definition sc f
local_definition (in_frame ls sc) f = or_else (function_named ls f) (local_definition sc f)

-- the definition of a name: in a `letrec` around, or else in the module
abbrev pub definition_of : Program → Atom → Scope → FunName → Option Local
definition_of U home sc f = or_else (local_definition sc f) (defined_at U home f)

-- ---- lists of places. Where one is missing, any value may stand

abbrev pub first : List Place → Place
first [] = anywhere
first (p ∷ ps) = p

abbrev pub rest : List Place → List Place
rest [] = []
rest (p ∷ ps) = ps

-- n of them: values past what is asked are dropped
abbrev pub fit : ℕ → List Place → List Place
fit zero ps = []
fit (suc n) ps = first ps ∷ fit n (rest ps)

-- ---- what variables and patterns bind

-- `_` binds nothing
abbrev pub with_place : Atom → Place → Scope → Scope
with_place x p sc = if same_atom x wildcard then sc else and_place x p sc

-- the variables stand for the values at these places, one after another
abbrev pub with_places : List VarName → List Place → Scope → Scope
with_places [] ps sc = sc
with_places (x ∷ xs) ps sc = with_places xs (rest ps) (with_place x.name (first ps) sc)

-- n parameters of the function at a label, from the i-th on
abbrev pub parameters : Atom → ℕ → (i n : ℕ) → List Place
parameters home label i zero = []
parameters home label i (suc n) = parameter home label i ∷ parameters home label (i + 1) n

-- what is seen where a pattern has matched a value at the place: each of its variables stands for parts of that value, at any
-- depth, and those in segments of a binary for any value
abbrev mutual
  pub with_pattern : Place → m.Pattern → Scope → Scope
  with_pattern q (m.binds i x) sc = with_place x q sc
  with_pattern q (m.equals i l) sc = sc
  with_pattern q (m.list_of i ps p) sc = with_pattern q p (with_patterns q ps sc)
  with_pattern q (m.tuple_of i ps) sc = with_patterns q ps sc
  with_pattern q (m.map_of i ps) sc = with_pat_pairs q ps sc
  with_pattern q (m.binary_of i ss) sc = with_pat_segments ss sc
  with_pattern q (m.alias i x p) sc = with_pattern q p (with_place x.name q sc)

  pub with_patterns : Place → m.Patterns → Scope → Scope
  with_patterns q m.no_pattern sc = sc
  with_patterns q (m.and_pattern p ps) sc = with_patterns q ps (with_pattern q p sc)

  pub with_pat_pairs : Place → m.PatPairs → Scope → Scope
  with_pat_pairs q m.no_pat_pair sc = sc
  with_pat_pairs q (m.and_pat_pair t p ps) sc = with_pat_pairs q ps (with_pattern q p sc)

  pub with_pat_segments : m.PatSegments → Scope → Scope
  with_pat_segments m.no_pat_segment sc = sc
  with_pat_segments (m.and_pat_segment p ts ss) sc = with_pat_segments ss (with_pattern anywhere p sc)

-- the patterns of a clause have matched values at these places, one after another
abbrev pub with_heads : List Place → m.Patterns → Scope → Scope
with_heads qs m.no_pattern sc = sc
with_heads qs (m.and_pattern p ps) sc = with_heads (rest qs) ps (with_pattern (first qs) p sc)
