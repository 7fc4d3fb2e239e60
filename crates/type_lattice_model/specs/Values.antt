-- The values of a run of Core Erlang.
use Rattle.std.specs.Prelude.{ℕ, ℤ, suc, Bool, List}
use Rattle.type_kinds_sets.specs.Names.{Name}

-- a function of a `letrec`: its name and arity, and the label of its `fun`
pub record Local : Type 0 where
  pub name : Name
  pub arity : ℕ
  pub label : ℕ

mutual
  pub data Value : Type 0 where
    int : (n : ℤ) → Value
    atom : (a : Name) → Value
    -- a bit string, bit by bit
    bits : (bs : List Bool) → Value
    -- a float, of which nothing is known but its name
    float : (s : Name) → Value
    pid : (n : ℕ) → Value
    port : (n : ℕ) → Value
    reference : (n : ℕ) → Value
    nil : Value
    cons : (head tail : Value) → Value
    tuple : (vs : Values) → Value
    -- a map, by its pairs of a key and a value; in a value of a run the keys ascend strictly (`Canonical.antt`)
    map : (ps : ValuePairs) → Value
    -- a `fun` of a module, by its label and arity, with the captured environment
    closure : (home : Name) (label arity : ℕ) (env : Env) → Value
    -- an exported function
    external : (home : Name) (name : Name) (arity : ℕ) → Value
    -- a function of which nothing is known but its arity
    foreign : (x : ℕ) (arity : ℕ) → Value

  pub data Values : Type 0 where
    no_value : Values
    and_value : (v : Value) (vs : Values) → Values

  -- the pairs of a map
  pub data ValuePairs : Type 0 where
    no_pair : ValuePairs
    and_pair : (key value : Value) (ps : ValuePairs) → ValuePairs

  -- the variables and the functions of the `letrec`s that enclose a position, the innermost first
  pub data Env : Type 0 where
    no_variable : Env
    and_variable : (x : Name) (v : Value) (env : Env) → Env
    -- the functions of a `letrec`, which see themselves and what stands outside
    and_frame : (locals : List Local) (env : Env) → Env

-- how many values there are
abbrev pub count : Values → ℕ
count no_value = 0
count (and_value v vs) = suc (count vs)

-- what follows the head of a list: the heads to come, and what stands at the end, which is no cons
abbrev pub heads : Value → Values
heads (cons h t) = and_value h (heads t)
heads v = no_value

abbrev pub end_of : Value → Value
end_of (cons h t) = end_of t
end_of v = v
