-- What holds of each closure that a value holds, and of all that these have captured, by two facts: one of a closure over its
-- environment, and one of the functions of a `letrec` over what stands around it.
use Rattle.std.specs.Prelude.{ℕ, List}
use Rattle.type_kinds.specs.declared.atom.Atom.{Atom}
use Rattle.type_lattice_model.specs.Values.{Value, int, atom, bits, float, pid, port, reference, nil, cons, tuple, map, closure, external, foreign}
use Rattle.type_lattice_model.specs.Values.{Values, no_value, and_value, ValuePairs, no_pair, and_pair, Env, no_variable, and_variable, and_frame, Local}

module _ (OfClosure : Atom → (label arity : ℕ) → Env → Type 0) (OfFrame : Atom → List Local → Env → Type 0) where
  abbrev mutual
    -- the fact holds of each closure that the value holds, and what it has captured is covered
    pub Covered : Value → Type 0
    Covered (int n) = Unit {0}
    Covered (atom a) = Unit {0}
    Covered (bits bs) = Unit {0}
    Covered (float s) = Unit {0}
    Covered (pid n) = Unit {0}
    Covered (port n) = Unit {0}
    Covered (reference n) = Unit {0}
    Covered nil = Unit {0}
    Covered (cons h t) = Covered h × Covered t
    Covered (tuple vs) = AreCovered vs
    Covered (map ps) = PairsCovered ps
    Covered (closure home l n env) = CoveredEnv home env × OfClosure home l n env
    Covered (external x f n) = Unit {0}
    Covered (foreign x n) = Unit {0}

    pub AreCovered : Values → Type 0
    AreCovered no_value = Unit {0}
    AreCovered (and_value v vs) = Covered v × AreCovered vs

    pub PairsCovered : ValuePairs → Type 0
    PairsCovered no_pair = Unit {0}
    PairsCovered (and_pair k v ps) = Covered k × (Covered v × PairsCovered ps)

    -- an environment of a module: its values are covered, and the fact holds of its frames
    pub CoveredEnv : Atom → Env → Type 0
    CoveredEnv home no_variable = Unit {0}
    CoveredEnv home (and_variable x v env) = Covered v × CoveredEnv home env
    CoveredEnv home (and_frame ls env) = CoveredEnv home env × OfFrame home ls env
