-- Each line that was written reads back, and says what is true of every run.
use Rattle.std.proofs.Common.{◌≡◌, ℕ, ◌<◌, List, [], ◌∷◌, length, Option, Some, None, Contains, inl, inr, sym, ap, ◌∙◌, subst, arith}
use Rattle.std.specs.Prelude.{IfSome}
use Rattle.type_kinds.proofs.Lists.{contains_none, contains_cases}
use Rattle.type_kinds.specs.declared.atom.Atom.{Atom}
use Rattle.core_ast.specs.Model as m
use Rattle.core_ast.specs.declared.syntax.FunName.{FunName}
use Rattle.core_scope.specs.Accepted.{IsSpelled}
use Rattle.core_scope.specs.Checked.{is_accepted}
use Rattle.core_scope.specs.Names.{Distinct, defined_names}
use Rattle.type_lattice_model.specs.Values.{Value, Values}
use Rattle.cons_tree.specs.declared.parts.Sig.{Sig}
use Rattle.cons_tree.specs.declared.parts.Summary.{Summary}
use Rattle.comp_rounds.specs.Rounds.{Callees}
use Rattle.core_meaning.specs.Meaning.{gave, Trace, Among}
use Rattle.core_meaning.specs.Programs.{top_function}
use Rattle.core_meaning.specs.Runs.{Run}
use Rattle.da_shelf.specs.Told.{Files}
use Rattle.table_keep.specs.Model.{trees}
use Rattle.sound_laws.specs.Accepted.{AreAccepted}
use Rattle.sound_laws.specs.Knowledge.{Within, summary_of}
use Rattle.analysis_summaries.specs.Known.{module_names}
use Rattle.analysis_summaries.specs.Whole.{IsWholeOf}
use Rattle.analysis_answers.specs.FileRuns.{Writes}
use Rattle.analysis_answers.specs.ReadFiles.{HaveOwnNames}
use Rattle.analysis_answers.proofs.AnswerExits.{apart}
use Rattle.typer_lines.specs.declared.typing.Typing.{Typing}
use Rattle.typer_lines.specs.Lines.{IsTyping, typing_line}
use Rattle.typer_command.specs.Listed.{Lists, WritesTruth}
use Rattle.typer_command.specs.Typed.{AreTypingsOf, ReadsBack, HoldsInRuns}
use Rattle.typer_command.proofs.Typings.{IsTypingAmong, typing_among}

-- an accepted module is spelled by some text
spelled_in : (xs : List m.Module) (x : m.Module) → AreAccepted xs → Contains xs x → IsSpelled x
spelled_in [] x are has = absurd (contains_none x has)
spelled_in (y ∷ xs) x are has = elim (contains_cases y x xs has) [
  | inl e ↦ subst IsSpelled (are.0.1 ∙ e) (is_accepted are.0.0).spelled
  | inr more ↦ spelled_in xs x are.1 more
]

abbrev Small : Type 0
Small = (x : m.Module) (f : FunName) → IsSpelled x → Contains (defined_names x.defs) f → f.arity < 256

abbrev Once : Type 0
Once = (s t : Typing) → IsTyping s → IsTyping t → typing_line s ≡ typing_line t → s ≡ t

abbrev Holds : Type 0
Holds =
    (xs : List m.Module) (known : Callees) → AreAccepted xs → Distinct (module_names xs) → IsWholeOf xs known → (stage : ℕ) (tr : Trace) → Run xs stage tr
    → (home : Atom) (f : FunName) (s : Summary) (c : Value) (vs : Values) (v : Value)
    → summary_of (known home f) ≡ Some s → top_function xs home f ≡ Some c → Among (gave c vs v) tr → Within s.strict vs v

module _ (small : Small) (once : Once) (holds : Holds) where
  module _ (xs : List m.Module) (accepted : AreAccepted xs) (own : HaveOwnNames xs) (ts : List Typing) (typed : AreTypingsOf xs ts) where
    of_function : (t : Typing) → Contains ts t → IsTypingAmong typed.found.known xs t
    of_function t has = typing_among typed.found.known xs typed.summaries t typed.found.listed (subst (λ us. Contains us t) typed.typings_so has)

    is_typing : (t : Typing) → IsTypingAmong typed.found.known xs t → IsTyping t
    is_typing t h = record {
      taken = ap (λ (s : Sig). length s.args) h.is.sig_so ∙ h.is.takes.0;
      few = omega (arith, small h.at t.name (spelled_in xs h.at accepted h.among) h.is.among);
    }

    back : (t : Typing) → Contains ts t → ReadsBack t
    back t has = let is = is_typing t (of_function t has) in record { is = is; alone = λ s also e. once s t also is e }

    true_in_runs : (t : Typing) → Contains ts t → HoldsInRuns xs t
    true_in_runs t has stage tr run c vs v top among =
        let h = of_function t has in
        subst (λ s. Within s vs v) (sym h.is.sig_so)
        (holds xs typed.found.known accepted (apart xs own) typed.found.whole stage tr run t.home t.name h.is.summary c vs v
        (ap (λ home. summary_of (typed.found.known home t.name)) h.is.of_home ∙ h.is.known_so) top among)

  pub sound_it : (words : List (List ℕ)) (told : Option Files) (before now : Option (List ℕ)) → IfSome told (λ held. Writes Lists words held before now) → IfSome told (λ held. WritesTruth words held before now)
  sound_it words None before now h = tt
  sound_it words (Some held) before now h =
      let p = h.passes in
      record {
        writes = h;
        reads_back = back (trees p.sources) p.gives.accepted p.names p.gives.typings p.gives.typed;
        holds = true_in_runs (trees p.sources) p.gives.accepted p.names p.gives.typings p.gives.typed;
      }
