-- A value is told by its spelling, also where more numbers follow: no spelling is a prefix of another.
use Rattle.std.proofs.Common.{◌≡◌, ℕ, List, [], ◌∷◌, ◌++◌, length, refl, ap, arith, append_assoc}
use Rattle.type_lattice_model.specs.Values.{Value, int, atom, bits, float, pid, port, reference, nil, cons, tuple, map, closure, external, foreign}
use Rattle.type_lattice_model.specs.Values.{Values, no_value, and_value, ValuePairs, no_pair, and_pair, Env, no_variable, and_variable, and_frame}
use Rattle.type_lattice_model.specs.Canonical.{spelled_name, spelled_int, spelled_bits, spelled_locals, spelled, spelled_values, spelled_pairs, spelled_env}

-- what spells alike, with more behind, is the same, and so is what is behind
abbrev IsCode : {A : Type 0} → (A → List ℕ) → Type 0
IsCode {A} f = (x y : A) (r s : List ℕ) → f x ++ r ≡ f y ++ s → (x ≡ y) × (r ≡ s)

-- ---- lists of numbers

abbrev first_or : List ℕ → ℕ
first_or [] = 0
first_or (x ∷ xs) = x

same_fronts : (x y r s : List ℕ) → length x ≡ length y → x ++ r ≡ y ++ s → (x ≡ y) × (r ≡ s)
same_fronts [] [] r s l e = (refl, e)
same_fronts [] (y ∷ ys) r s l e = absurd (omega (arith, l))
same_fronts (x ∷ xs) [] r s l e = absurd (omega (arith, l))
same_fronts (x ∷ xs) (y ∷ ys) r s l e = grind (arith, same_fronts xs ys r s)

-- ---- what holds no values

name_code : IsCode spelled_name
name_code x y r s e = grind (arith, same_fronts x y r s)

int_code : IsCode spelled_int
int_code x y r s e = grind arith

bits_code : IsCode spelled_bits
bits_code [] [] r s e = grind arith
bits_code (b ∷ bs) (c ∷ cs) r s e = grind (arith, bits_code bs cs)
bits_code bs cs r s e = grind arith

locals_code : IsCode spelled_locals
locals_code [] [] r s e = grind arith
locals_code (l ∷ ls) (k ∷ ks) r s e = grind (arith, append_assoc, name_code, locals_code ls)
locals_code ls ks r s e = absurd (omega (arith, ap first_or e))

-- ---- values, and what they hold

mutual
  pub spelled_code : (v w : Value) (r s : List ℕ) → spelled v ++ r ≡ spelled w ++ s → (v ≡ w) × (r ≡ s)
  spelled_code (int m) (int n) r s e = grind (arith, int_code)
  spelled_code (atom a) (atom b) r s e = grind (arith, name_code)
  spelled_code (bits bs) (bits cs) r s e = grind (arith, bits_code)
  spelled_code (float a) (float b) r s e = grind (arith, name_code)
  spelled_code (pid m) (pid n) r s e = grind arith
  spelled_code (port m) (port n) r s e = grind arith
  spelled_code (reference m) (reference n) r s e = grind arith
  spelled_code nil nil r s e = grind arith
  spelled_code (cons h t) (cons k u) r s e = grind (arith, append_assoc, spelled_code h, spelled_code t)
  spelled_code (tuple vs) (tuple ws) r s e = grind (arith, values_code vs)
  spelled_code (map ps) (map qs) r s e = grind (arith, pairs_code ps)
  spelled_code (closure m k n env) (closure m' k' n' env') r s e = grind (arith, append_assoc, name_code, env_code env)
  spelled_code (external m f n) (external m' f' n') r s e = grind (arith, append_assoc, name_code)
  spelled_code (foreign x n) (foreign x' n') r s e = grind arith
  spelled_code v w r s e = absurd (omega (arith, ap first_or e))

  values_code : (vs ws : Values) (r s : List ℕ) → spelled_values vs ++ r ≡ spelled_values ws ++ s → (vs ≡ ws) × (r ≡ s)
  values_code no_value no_value r s e = grind arith
  values_code (and_value v vs) (and_value w ws) r s e = grind (arith, append_assoc, spelled_code v, values_code vs)
  values_code vs ws r s e = absurd (omega (arith, ap first_or e))

  pairs_code : (ps qs : ValuePairs) (r s : List ℕ) → spelled_pairs ps ++ r ≡ spelled_pairs qs ++ s → (ps ≡ qs) × (r ≡ s)
  pairs_code no_pair no_pair r s e = grind arith
  pairs_code (and_pair k v ps) (and_pair j w qs) r s e = grind (arith, append_assoc, spelled_code k, spelled_code v, pairs_code ps)
  pairs_code ps qs r s e = absurd (omega (arith, ap first_or e))

  env_code : (env env' : Env) (r s : List ℕ) → spelled_env env ++ r ≡ spelled_env env' ++ s → (env ≡ env') × (r ≡ s)
  env_code no_variable no_variable r s e = grind arith
  env_code (and_variable x v env) (and_variable x' v' env') r s e = grind (arith, append_assoc, name_code, spelled_code v, env_code env)
  env_code (and_frame ls env) (and_frame ls' env') r s e = grind (arith, append_assoc, locals_code, env_code env)
  env_code env env' r s e = absurd (omega (arith, ap first_or e))

-- a value is told by its spelling
pub spelled_once : (v w : Value) → spelled v ≡ spelled w → v ≡ w
spelled_once v w e = (spelled_code v w [] [] (ap (λ xs. xs ++ []) e)).0
