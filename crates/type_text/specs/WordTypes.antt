-- The words of a type. Each word stands for a type of its own, and the type that is written is the join of these.
use Rattle.std.specs.Prelude.{◌≡◌, ℕ, suc, ◌+◌, ◌^◌, ℤ, true, false, nat_lt, List, [], ◌∷◌, ◌++◌, length, map, Option, codes}
use Rattle.std.specs.Fmt.{decimal, signed_decimal}
use Rattle.type_kinds.specs.Quoted.{quoted}
use Rattle.type_kinds_sets.specs.Names as names
use Rattle.type_kinds_sets.specs.Names.{Name}
use Rattle.type_kinds_sets.specs.Numbers as numbers
use Rattle.type_kinds_sets.specs.Numbers.{Numbers, is_narrow}
use Rattle.type_kinds_sets.specs.Ends.{is_range}
use Rattle.type_kinds_sets.specs.declared.ends.Low.{Low}
use Rattle.type_kinds_sets.specs.declared.ends.High.{High}
use Rattle.type_kinds_sets.specs.declared.bits.Bits.{Bits}
use Rattle.type_kinds_sets.specs.declared.bits.Bits.TheVariants.{No, Whole, Any}
use Rattle.type_lattice_model.specs.declared.limits.TheConstants.{MAX_ELEMENTS}
use Rattle.type_lattice_model.specs.Shapes.{Flags, Functions, no_function, of_arity, all_functions, Cell, sizes, all_tuples, Parts, TypeAt}
use Rattle.type_lattice_model.specs.Operations.{Ops, no_flags, plain_none, body_of, of_plain, of_atoms, of_list, of_tuples, ops}
use Rattle.type_lattice_model.specs.Elements.{joined_all}
use Rattle.type_lattice_model.specs.Normal.{IsElement, AreElements, NormalAt}
use Rattle.type_text.specs.Texts.{after, range_word, tuple_word, text_at}

-- ---- types of one part

abbrev pub float_flag : Flags
float_flag = record { float = true; pid = false; port = false; reference = false; nil = false; map = false }

abbrev pub pid_flag : Flags
pid_flag = record { float = false; pid = true; port = false; reference = false; nil = false; map = false }

abbrev pub port_flag : Flags
port_flag = record { float = false; pid = false; port = true; reference = false; nil = false; map = false }

abbrev pub reference_flag : Flags
reference_flag = record { float = false; pid = false; port = false; reference = true; nil = false; map = false }

abbrev pub map_flag : Flags
map_flag = record { float = false; pid = false; port = false; reference = false; nil = false; map = true }

abbrev pub nil_flag : Flags
nil_flag = record { float = false; pid = false; port = false; reference = false; nil = true; map = false }

module _ {E : Type 0} (o : Ops E) where
  abbrev pub of_ints : Numbers → Parts E
  of_ints s = of_plain o (record { atoms = names.none; ints = s; bits = No; flags = no_flags; functions = no_function })

  abbrev pub of_bits : Bits → Parts E
  of_bits s = of_plain o (record { atoms = names.none; ints = numbers.none; bits = s; flags = no_flags; functions = no_function })

  abbrev pub of_flags : Flags → Parts E
  of_flags k = of_plain o (record { atoms = names.none; ints = numbers.none; bits = No; flags = k; functions = no_function })

  abbrev pub of_functions : Functions → Parts E
  of_functions f = of_plain o (record { atoms = names.none; ints = numbers.none; bits = No; flags = no_flags; functions = f })

  abbrev pub of_cell : Option (Cell E) → Parts E
  of_cell c = record { plain = plain_none; cell = c; tuples = sizes [] }

  -- the tuples of these element types
  abbrev pub of_row : List E → Parts E
  of_row es = of_tuples o (sizes ((length es, body_of o es) ∷ []))

-- ---- words

-- the kinds of values that have a word for all of them
pub data Named : Type 0 where
  every_atom : Named
  every_float : Named
  whole_bits : Named
  every_bits : Named
  every_pid : Named
  every_port : Named
  every_reference : Named
  every_map : Named
  every_function : Named
  empty_list : Named
  every_tuple : Named

-- this word, and the type of these values
abbrev pub name_of : Named → List ℕ
name_of every_atom = codes "atom()"
name_of every_float = codes "float()"
name_of whole_bits = codes "binary()"
name_of every_bits = codes "bitstring()"
name_of every_pid = codes "pid()"
name_of every_port = codes "port()"
name_of every_reference = codes "reference()"
name_of every_map = codes "map()"
name_of every_function = codes "fun()"
name_of empty_list = codes "[]"
name_of every_tuple = codes "tuple()"

abbrev pub type_named : {E : Type 0} → Ops E → Named → Parts E
type_named o every_atom = of_atoms o names.every
type_named o every_float = of_flags o float_flag
type_named o whole_bits = of_bits o Whole
type_named o every_bits = of_bits o Any
type_named o every_pid = of_flags o pid_flag
type_named o every_port = of_flags o port_flag
type_named o every_reference = of_flags o reference_flag
type_named o every_map = of_flags o map_flag
type_named o every_function = of_functions o all_functions
type_named o empty_list = of_flags o nil_flag
type_named o every_tuple = of_tuples o all_tuples

-- a word, and the type that it stands for. The types of elements are normal and not none, and a tuple has at most MAX_ELEMENTS of them
pub data IsWordOf {E : Type 0} (text : E → List ℕ) (Normal : E → Type 0) (o : Ops E) : List ℕ → Parts E → Type 0 where
  one_atom : (a : Name) → IsWordOf text Normal o (quoted a) (of_atoms o (names.listed (a ∷ [])))
  named : (k : Named) → IsWordOf text Normal o (name_of k) (type_named o k)
  one_int : (n : ℤ) → is_narrow n ≡ true → IsWordOf text Normal o (signed_decimal n) (of_ints o (numbers.listed (n ∷ [])))
  ints_between : (l : Low) (h : High) → is_range l h ≡ true → IsWordOf text Normal o (range_word l h) (of_ints o (numbers.range l h))
  -- the functions of one arity
  one_arity : (n : ℕ) → nat_lt n (2 ^ 32) ≡ true → IsWordOf text Normal o (codes "fun(" ++ decimal n ++ codes ")") (of_functions o (of_arity n))
  -- the lists with proper ends, and those with any
  proper_list : (e : E) → IsElement Normal o e → IsWordOf text Normal o (codes "cons(" ++ text e ++ codes ")") (of_list o e true)
  any_list : (e : E) → IsElement Normal o e → IsWordOf text Normal o (codes "cons_any(" ++ text e ++ codes ")") (of_list o e false)
  -- the tuples of some element types. Where the first is one atom, this is the word of a tag
  one_tuple : (es : List E) → AreElements Normal o es → nat_lt (length es) (MAX_ELEMENTS + 1) ≡ true → IsWordOf text Normal o (tuple_word (map text es)) (of_row o es)

-- the same at a level, whose elements are of level d
abbrev pub IsWord : (d : ℕ) → List ℕ → TypeAt (suc d) → Type 0
IsWord d w u = IsWordOf (text_at d) (NormalAt d) (ops d) w u

-- ---- words with their types

-- each word stands for its type
abbrev pub AreWordsOf : {E : Type 0} → (E → List ℕ) → (E → Type 0) → Ops E → List (List ℕ × Parts E) → Type 0
AreWordsOf text Normal o [] = Unit {0}
AreWordsOf text Normal o (p ∷ ps) = IsWordOf text Normal o p.0 p.1 × AreWordsOf text Normal o ps

abbrev pub AreWords : (d : ℕ) → List (List ℕ × TypeAt (suc d)) → Type 0
AreWords d ps = AreWordsOf (text_at d) (NormalAt d) (ops d) ps

-- the words alone
abbrev pub spelled : {T : Type 0} → List (List ℕ × T) → List (List ℕ)
spelled [] = []
spelled (p ∷ ps) = p.0 ∷ spelled ps

-- a type joined with those of some words, one after the other
abbrev pub joined_with : {T : Type 0} → (T → T → T) → T → List (List ℕ × T) → T
joined_with join u ps = joined_all join (λ p. p.1) u ps

-- the words that a type is written in: the first, and those after it
pub record WordsOf (d : ℕ) (t : TypeAt (suc d)) : Type 0 where
  pub word : List ℕ
  pub first : TypeAt (suc d)
  pub later : List (List ℕ × TypeAt (suc d))
  pub is_word : IsWord d word first
  pub are_words : AreWords d later
  pub written : text_at (suc d) t ≡ word ++ after (codes " | ") (spelled later)
  pub together : joined_with (ops (suc d)).join first later ≡ t
