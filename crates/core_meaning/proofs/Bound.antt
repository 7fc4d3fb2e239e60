-- What an environment binds, and which functions it names: more with each variable and with each frame.
use Rattle.std.proofs.Common.{◌≡◌, Bool, true, false, inl, inr, List, [], ◌∷◌, ◌++◌, length, Some, Contains, refl, ap, arith}
use Rattle.std.specs.Prelude.{if◌then◌else◌}
use Rattle.std.specs.Cmp.Lexicographic.{bytes_decides}
use Rattle.std.proofs.lemmas.List.Elements.{Contains-append_left, Contains-append_right, Contains-append_cases}
use Rattle.type_kinds.proofs.Lists.{contains_none, contains_cases}
use Rattle.type_kinds.specs.declared.atom.Atom.{Atom}
use Rattle.core_ast.specs.declared.syntax.VarName.{VarName}
use Rattle.core_ast.specs.declared.syntax.FunName.{FunName}
use Rattle.core_scope.specs.Names.{same_atom, wildcard, bound, bound_by}
use Rattle.type_lattice_model.specs.Values.{Value, Values, no_value, and_value, count, Env, and_variable}
use Rattle.core_meaning.specs.Programs.{Program}
use Rattle.core_meaning.specs.Environments.{with_variable, with_variables, value_of, function_of}

abbrev pub Binds : Env → Atom → Type 0
Binds env x = (v : Value) × (value_of env x ≡ Some v)

abbrev pub BindsAll : List Atom → Env → Type 0
BindsAll xs env = (x : Atom) → Contains xs x → Binds env x

pub binds_none : (env : Env) → BindsAll [] env
binds_none env x h = absurd (contains_none x h)

pub binds_both : (xs ys : List Atom) (env : Env) → BindsAll xs env → BindsAll ys env → BindsAll (xs ++ ys) env
binds_both xs ys env a b x h = elim (Contains-append_cases xs ys x h) [ inl k ↦ a x k | inr k ↦ b x k ]

-- grouped the other way
pub binds_three : (xs ys zs : List Atom) (env : Env) → BindsAll xs env → BindsAll (ys ++ zs) env → BindsAll (xs ++ ys ++ zs) env
binds_three xs ys zs env a b = binds_both (xs ++ ys) zs env (binds_both xs ys env a (λ x h. b x (Contains-append_left ys zs x h))) (λ x h. b x (Contains-append_right ys zs x h))

-- ---- one more variable

binds_more : (x y : Atom) (v : Value) (env : Env) → Binds env x → Binds (and_variable y v env) x
binds_more x y v env h = by (same_atom y x)
  where
    by : (b : Bool) → (w : Value) × ((if b then Some v else value_of env x) ≡ Some w)
    by true = (v, refl)
    by false = h

binds_itself : (x y : Atom) (v : Value) (env : Env) → y ≡ x → Binds (and_variable y v env) x
binds_itself x y v env e = (v, ap (λ b. if b then Some v else value_of env x) ((bytes_decides y x).1 e))

pub binds_new : (y : Atom) (v : Value) (env : Env) → BindsAll (bound y) (with_variable y v env)
binds_new y v env = by (same_atom y wildcard)
  where
    by : (b : Bool) → BindsAll (if b then [] else y ∷ []) (if b then env else and_variable y v env)
    by true x h = absurd (contains_none x h)
    by false x h = elim (contains_cases y x [] h) [ inl e ↦ binds_itself x y v env e | inr k ↦ absurd (contains_none x k) ]

module _ (U : Program) (home : Atom) where
  abbrev pub Names : Env → FunName → Type 0
  Names env f = (c : Value) × (function_of U home env f ≡ Some c)

  abbrev pub NamesAll : List FunName → Env → Type 0
  NamesAll fs env = (f : FunName) → Contains fs f → Names env f

  -- what the one binds and names, the other does too
  pub record Grows (env to : Env) : Type 0 where
    pub binds : (x : Atom) → Binds env x → Binds to x
    pub names : (f : FunName) → Names env f → Names to f

  pub grows_itself : (env : Env) → Grows env env
  grows_itself env = record { binds = λ x h. h; names = λ f h. h }

  pub grows_on : (env mid to : Env) → Grows env mid → Grows mid to → Grows env to
  grows_on env mid to g h = record { binds = λ x k. h.binds x (g.binds x k); names = λ f k. h.names f (g.names f k) }

  pub grows_one : (y : Atom) (v : Value) (env : Env) → Grows env (with_variable y v env)
  grows_one y v env = by (same_atom y wildcard)
    where
      by : (b : Bool) → Grows env (if b then env else and_variable y v env)
      by true = grows_itself env
      by false = record { binds = λ x h. binds_more x y v env h; names = λ f h. h }

  -- variables bound to as many values
  pub grows_all : (xs : List VarName) (vs : Values) (env : Env) → Grows env (with_variables xs vs env)
  grows_all [] vs env = grows_itself env
  grows_all (x ∷ xs) no_value env = grows_itself env
  grows_all (x ∷ xs) (and_value v vs) env = grows_on env (with_variable x.name v env) (with_variables xs vs (with_variable x.name v env)) (grows_one x.name v env) (grows_all xs vs (with_variable x.name v env))

  pub binds_all : (xs : List VarName) (vs : Values) (env : Env) → length xs ≡ count vs → BindsAll (bound_by xs) (with_variables xs vs env)
  binds_all [] vs env e = binds_none env
  binds_all (x ∷ xs) no_value env e = absurd (omega (arith, e))
  binds_all (x ∷ xs) (and_value v vs) env e =
      binds_both (bound x.name) (bound_by xs) (with_variables xs vs (with_variable x.name v env))
      (λ y h. (grows_all xs vs (with_variable x.name v env)).binds y (binds_new x.name v env y h))
      (binds_all xs vs (with_variable x.name v env) (omega (arith, e)))
