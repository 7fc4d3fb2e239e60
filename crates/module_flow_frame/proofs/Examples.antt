-- What is found in a module worked by hand, whose one function isn't exported:
--
--     module 'm' [] attributes []
--     'f'/0 = fun () -> call 'n':'g'()
--     end
use Rattle.std.proofs.Common.{◌≡◌, inl, inr, ℕ, ◌+◌, Bool, true, false, cond, [], ◌∷◌, refl}
use Rattle.std.specs.Prelude.{Some, codes}
use Rattle.core_ast.specs.declared.syntax.FunName.{FunName}
use Rattle.core_ast.specs.declared.syntax.Literal.TheVariants as l
use Rattle.core_ast.specs.declared.syntax.Mark.{Mark}
use Rattle.core_ast.specs.declared.syntax.Note.{Note}
use Rattle.core_ast.specs.Model as m
use Rattle.core_scope.specs.Names.{same_atom}
use Rattle.cons_tree.specs.declared.parts.Callee.{Callee}
use Rattle.cons_tree.specs.declared.parts.Callee.TheVariants.{Local, Undefined, Unknown}
use Rattle.cons_tree.specs.declared.parts.Summary.{Summary}
use Rattle.warn_list.specs.declared.finding.FindingKind.TheVariants.{NeverCalled, UnknownFunction}
use Rattle.cons_gen_frame.specs.Agreement.{AreAlike}
use Rattle.module_flow.specs.Flow.{Callees, findings}
use Rattle.module_flow_frame.specs.Sites.{definition, call, Site, line_at, sites_of_module}
use Rattle.module_flow_frame.proofs.Called.{findings_frame}

abbrev at_line : ℕ → Note
at_line n = record { line = Some n; generated = false }

abbrev f_name : FunName
f_name = record { name = codes "f"; arity = 0 }

abbrev g_name : FunName
g_name = record { name = codes "g"; arity = 0 }

module _ (k : Mark) where
  abbrev mark : ℕ → Mark
  mark n = record k { label = n; note = at_line (n + 1) }

  abbrev x : m.Module
  x =
      record {
        name = codes "m";
        exports = [];
        export_places = [];
        defs = m.and_def f_name (mark 0) [] (m.call (mark 1) (m.literal (mark 2) (l.Atom (codes "n"))) (m.literal (mark 3) (l.Atom (codes "g"))) m.no_tree) m.no_def;
        note = at_line 1;
      }

  -- this is known of each function of 'n', and each other is undefined
  abbrev knowing_of_n : Callee → Callees
  knowing_of_n y h f = cond (same_atom h (codes "n")) y Undefined

  -- a function that 'n' doesn't export is as good as none
  unexported : (s : Summary) → findings (knowing_of_n (Local s)) x ≡ findings (knowing_of_n Undefined) x
  unexported s =
      findings_frame x (knowing_of_n (Local s)) (knowing_of_n Undefined) (record { own = λ f there. refl; applied = λ f n there. refl; called = λ h f there far. by (same_atom h (codes "n")) })
    where
      by : (b : Bool) → AreAlike (cond b (Local s) Undefined) (cond b Undefined Undefined)
      by true = inr (tt, tt)
      by false = inl refl

  -- and of the function that is called it does matter what is known: one that nobody knows is reported
  when_undefined : findings (knowing_of_n Undefined) x ≡ record { label = 0; kind = NeverCalled f_name; line = 1 } ∷ []
  when_undefined = refl

  when_unknown : findings (knowing_of_n Unknown) x ≡ record { label = 0; kind = NeverCalled f_name; line = 1 } ∷ record { label = 1; kind = UnknownFunction (codes "n") g_name; line = 2 } ∷ []
  when_unknown = refl

  -- ---- the places of which a report on it may speak, and their lines

  abbrev the_definition : Site
  the_definition = record { mark = mark 0; speaks = definition f_name; notes = at_line 1 ∷ at_line 1 ∷ [] }

  abbrev the_call : Site
  the_call = record { mark = mark 1; speaks = call (codes "n") g_name; notes = at_line 2 ∷ at_line 1 ∷ at_line 1 ∷ [] }

  places : sites_of_module x ≡ the_definition ∷ the_call ∷ []
  places = refl

  line_of_call : line_at the_call ≡ 2
  line_of_call = refl
