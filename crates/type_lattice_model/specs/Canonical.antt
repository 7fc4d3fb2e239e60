-- Canonical values: the pairs of each map in them ascend strictly by their keys, in an order of all values. So two maps are
-- one value where they have the same pairs.
use Rattle.std.specs.Prelude.{◌≡◌, ◌⊎◌, ℕ, ℤ, pos, negsuc, Bool, true, cond, List, [], ◌∷◌, ◌++◌, length}
use Rattle.std.specs.Ordering.{is_lt, eq_by_cmp}
use Rattle.type_kinds_sets.specs.Ascending.{is_ascending}
use Rattle.type_kinds_sets.specs.Names.{Name, name_cmp}
use Rattle.type_lattice_model.specs.Values.{Value, int, atom, bits, float, pid, port, reference, nil, cons, tuple, map, closure, external, foreign}
use Rattle.type_lattice_model.specs.Values.{Values, no_value, and_value, ValuePairs, no_pair, and_pair, Env, no_variable, and_variable, and_frame, Local}

-- ---- a value as a list of numbers, from which it can be read: a number for what it is, then its parts. A name has its
-- length first, a list of values or bits a number before each item and 0 at the end

abbrev pub spelled_name : Name → List ℕ
spelled_name s = length s ∷ s

abbrev pub spelled_int : ℤ → List ℕ
spelled_int (pos n) = 0 ∷ n ∷ []
spelled_int (negsuc n) = 1 ∷ n ∷ []

abbrev pub spelled_bits : List Bool → List ℕ
spelled_bits [] = 0 ∷ []
spelled_bits (b ∷ bs) = cond b 2 1 ∷ spelled_bits bs

abbrev pub spelled_locals : List Local → List ℕ
spelled_locals [] = 0 ∷ []
spelled_locals (l ∷ ls) = 1 ∷ (spelled_name l.name ++ (l.arity ∷ l.label ∷ spelled_locals ls))

abbrev mutual
  pub spelled : Value → List ℕ
  spelled (int n) = 0 ∷ spelled_int n
  spelled (atom a) = 1 ∷ spelled_name a
  spelled (bits bs) = 2 ∷ spelled_bits bs
  spelled (float s) = 3 ∷ spelled_name s
  spelled (pid n) = 4 ∷ n ∷ []
  spelled (port n) = 5 ∷ n ∷ []
  spelled (reference n) = 6 ∷ n ∷ []
  spelled nil = 7 ∷ []
  spelled (cons h t) = 8 ∷ (spelled h ++ spelled t)
  spelled (tuple vs) = 9 ∷ spelled_values vs
  spelled (map ps) = 10 ∷ spelled_pairs ps
  spelled (closure m l n env) = 11 ∷ (spelled_name m ++ (l ∷ n ∷ spelled_env env))
  spelled (external m f n) = 12 ∷ (spelled_name m ++ (spelled_name f ++ (n ∷ [])))
  spelled (foreign x n) = 13 ∷ x ∷ n ∷ []

  pub spelled_values : Values → List ℕ
  spelled_values no_value = 0 ∷ []
  spelled_values (and_value v vs) = 1 ∷ (spelled v ++ spelled_values vs)

  pub spelled_pairs : ValuePairs → List ℕ
  spelled_pairs no_pair = 0 ∷ []
  spelled_pairs (and_pair k v ps) = 1 ∷ (spelled k ++ (spelled v ++ spelled_pairs ps))

  pub spelled_env : Env → List ℕ
  spelled_env no_variable = 0 ∷ []
  spelled_env (and_variable x v env) = 1 ∷ (spelled_name x ++ (spelled v ++ spelled_env env))
  spelled_env (and_frame ls env) = 2 ∷ (spelled_locals ls ++ spelled_env env)

-- ---- the order

-- the keys of a map, spelled
abbrev pub spelled_keys : ValuePairs → List Name
spelled_keys no_pair = []
spelled_keys (and_pair k v ps) = spelled k ∷ spelled_keys ps

-- the keys ascend strictly: values are ordered by their spellings, as words are in a dictionary
abbrev pub AreAscending : ValuePairs → Type 0
AreAscending ps = is_ascending name_cmp (spelled_keys ps) ≡ true

-- each map in the value has its pairs in this order: in its elements, in its pairs, and in the environment of a closure
abbrev mutual
  pub IsCanonical : Value → Type 0
  IsCanonical (cons h t) = IsCanonical h × IsCanonical t
  IsCanonical (tuple vs) = AreCanonical vs
  IsCanonical (map ps) = AreAscending ps × ArePairsCanonical ps
  IsCanonical (closure m l n env) = IsEnvCanonical env
  IsCanonical v = Unit {0}

  pub AreCanonical : Values → Type 0
  AreCanonical no_value = Unit {0}
  AreCanonical (and_value v vs) = IsCanonical v × AreCanonical vs

  pub ArePairsCanonical : ValuePairs → Type 0
  ArePairsCanonical no_pair = Unit {0}
  ArePairsCanonical (and_pair k v ps) = IsCanonical k × IsCanonical v × ArePairsCanonical ps

  pub IsEnvCanonical : Env → Type 0
  IsEnvCanonical no_variable = Unit {0}
  IsEnvCanonical (and_variable x v env) = IsCanonical v × IsEnvCanonical env
  IsEnvCanonical (and_frame ls env) = IsEnvCanonical env

-- the key and the value are one of the pairs
abbrev pub HoldsPair : ValuePairs → Value → Value → Type 0
HoldsPair no_pair k v = ⊥
HoldsPair (and_pair j w ps) k v = ((k ≡ j) × (v ≡ w)) ⊎ HoldsPair ps k v

-- each pair of the first is one of the second
abbrev pub PairsBelow : ValuePairs → ValuePairs → Type 0
PairsBelow ps qs = (k v : Value) → HoldsPair ps k v → HoldsPair qs k v

-- a map with one more pair, or with another value at a key that it has
abbrev pub put_pair : Value → Value → ValuePairs → ValuePairs
put_pair k v no_pair = and_pair k v no_pair
put_pair k v (and_pair j w ps) =
    cond (is_lt (name_cmp (spelled k) (spelled j))) (and_pair k v (and_pair j w ps)) (cond (eq_by_cmp name_cmp (spelled k) (spelled j)) (and_pair j v ps) (and_pair j w (put_pair k v ps)))
