-- Functions worked by hand, over the tree of this module:
--
--     module 'w' ['f'/0,'g'/0,'h'/0,'r'/0,'k'/0] attributes []
--     'f'/0 = fun () -> letrec 'l'/0 = fun () -> 7 in apply 'l'/0()
--     'g'/0 = fun () -> let <F> = 'k'/0 in apply F()
--     'h'/0 = fun () -> call 'w':'f'()
--     'r'/0 = fun () -> primop 'match_fail'()
--     'k'/0 = fun () -> fun (X) -> X
--     end
use Rattle.std.specs.Prelude.{◌≡◌, ℕ, suc, true, [], ◌∷◌, ◌++◌, Some, codes}
use Rattle.type_kinds.specs.declared.atom.Atom.{Atom}
use Rattle.core_ast.specs.declared.syntax.FunName.{FunName}
use Rattle.core_ast.specs.Model as m
use Rattle.type_lattice_model.specs.Values.{Value, closure, no_value, no_variable, and_frame}
use Rattle.bif_types.specs.Results.{one_value}
use Rattle.core_meaning.specs.Programs.{Program, is_exported, top_function}
use Rattle.core_meaning.specs.Meaning.{Outcome, gives, fails, raised, made, applied, entered, gave, back, Trace}
use Rattle.core_meaning.specs.Runs.{EnterAt, WasMade, Run}
use Rattle.core_meaning.specs.Worked.{mark, name_of}
use Rattle.core_meaning.specs.Forms.{number, num, word, var, seen, raising}

-- ---- the module. Where its nodes begin doesn't matter, and isn't told

abbrev name : Atom → FunName
name x = name_of x 0

abbrev f_body : m.Tree
f_body = m.letrec (mark 1 0 0) (m.and_def (name (codes "l")) (mark 2 0 0) [] (num (mark 3 0 0) 7) m.no_def) (m.apply (mark 4 0 0) (m.local (mark 5 0 0) (name (codes "l"))) m.no_tree)

abbrev g_body : m.Tree
g_body =
    m.chain (mark 7 0 0) (m.and_let (mark 8 0 0) (var (mark 0 0 0) (codes "F") ∷ []) (m.local (mark 9 0 0) (name (codes "k"))) m.no_step)
    (m.apply (mark 10 0 0) (seen (mark 11 0 0) (codes "F")) m.no_tree)

abbrev h_body : m.Tree
h_body = m.call (mark 13 0 0) (word (mark 14 0 0) (codes "w")) (word (mark 15 0 0) (codes "f")) m.no_tree

abbrev k_body : m.Tree
k_body = m.function (mark 19 0 0) (var (mark 0 0 0) (codes "X") ∷ []) (seen (mark 20 0 0) (codes "X"))

abbrev pub w : m.Module
w = record {
  name = codes "w";
  exports = name (codes "f") ∷ name (codes "g") ∷ name (codes "h") ∷ name (codes "r") ∷ name (codes "k") ∷ [];
  export_places = [];
  defs =
      m.and_def (name (codes "f")) (mark 0 0 0) [] f_body (
      m.and_def (name (codes "g")) (mark 6 0 0) [] g_body (
      m.and_def (name (codes "h")) (mark 12 0 0) [] h_body (
      m.and_def (name (codes "r")) (mark 16 0 0) [] (raising (mark 17 0 0)) (
      m.and_def (name (codes "k")) (mark 18 0 0) [] k_body m.no_def))));
  note = (mark 0 0 0).note;
}

abbrev pub w_alone : Program
w_alone = w ∷ []

-- ---- its closures: a function of the module by its label, that of the `letrec`, and what `'k'/0` gives

abbrev pub top : ℕ → Value
top label = closure (codes "w") label 0 no_variable

abbrev l_closure : Value
l_closure = closure (codes "w") 2 0 (and_frame (record { name = codes "l"; arity = 0; label = 2 } ∷ []) no_variable)

abbrev pub same : Value
same = closure (codes "w") 19 1 no_variable

-- ---- what happens

abbrev f_trace : Trace
f_trace = entered (top 0) no_value ∷ entered l_closure no_value ∷ gave l_closure no_value (number 7) ∷ back (codes "w") 4 (number 7) ∷ gave (top 0) no_value (number 7) ∷ []

abbrev k_trace : Trace
k_trace = entered (top 18) no_value ∷ made same ∷ gave (top 18) no_value same ∷ []

abbrev pub g_trace : Trace
g_trace =
    entered (top 6) no_value ∷ made (top 18) ∷ applied (codes "w") 10 (top 18)
    ∷ (k_trace ++ (back (codes "w") 10 same ∷ gave (top 6) no_value same ∷ []))

abbrev h_trace : Trace
h_trace = entered (top 12) no_value ∷ (f_trace ++ (back (codes "w") 13 (number 7) ∷ gave (top 12) no_value (number 7) ∷ []))

abbrev pub same_trace : Trace
same_trace = entered same (one_value (number 5)) ∷ gave same (one_value (number 5)) (number 5) ∷ []

-- the function of the module, entered in any stage with any fuel from five on, may end so
abbrev Enters : (label : ℕ) → Outcome → Trace → Type 0
Enters label o tr = (stage n : ℕ) → EnterAt w_alone stage (suc (suc (suc (suc (suc n))))) (top label) no_value o tr

pub record WorkedFunctions : Type 0 where
  -- the names `'f'/0` and `'g'/0` are exported, and these closures are entered under them
  pub f_is_first : (is_exported w_alone (codes "w") (name (codes "f")) ≡ true) × (top_function w_alone (codes "w") (name (codes "f")) ≡ Some (top 0))
  pub g_is_second : (is_exported w_alone (codes "w") (name (codes "g")) ≡ true) × (top_function w_alone (codes "w") (name (codes "g")) ≡ Some (top 6))
  -- `'f'/0` and `'h'/0`, which calls it, give 7
  pub f_gives : Enters 0 (gives (one_value (number 7))) f_trace
  pub h_gives : Enters 12 (gives (one_value (number 7))) h_trace
  -- `'g'/0` gives what `'k'/0` makes
  pub g_gives : Enters 6 (gives (one_value same)) g_trace
  -- `'r'/0` raises
  pub r_raises : Enters 16 (fails raised) (entered (top 16) no_value ∷ [])

-- A closure that is made at stage 0 and entered at stage 1.
pub record WorkedStages : Type 0 where
  -- a run of stage 0 makes it; at stage 0 nothing was made before, and at stage 1 it was
  pub g_runs : Run w_alone 0 g_trace
  pub not_yet : WasMade w_alone 0 same → ⊥
  pub was_made : WasMade w_alone 1 same
  -- a run of stage 1 enters it with 5, and it gives 5
  pub enters : EnterAt w_alone 1 20 same (one_value (number 5)) (gives (one_value (number 5))) same_trace
  pub runs : Run w_alone 1 same_trace
