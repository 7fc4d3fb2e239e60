use Rattle.std.proofs.Common.{◌≡◌, ◌⊎◌, inl, inr, ℕ, Some}
use Rattle.core_ast.specs.Model as m
use Rattle.core_ast.specs.declared.syntax.FunName.{FunName}
use Rattle.core_meaning.specs.Programs.{Program, top_function}
use Rattle.warn_list.specs.declared.finding.FindingKind.TheVariants.{NeverCalled, NoReturn}
use Rattle.module_flow.specs.Flow.{Callees}
use Rattle.sound_laws_flow.specs.Claims.{IsFoundAt, defined_at}
use Rattle.sound_laws_flow.proofs.Ready.{no_return_defined, never_called_defined, gave_never, call_never, clause_never, entered_never}
use Rattle.sound_laws_flow.proofs.laws.no_finding_is_false.Goals as goal

either : (U : Program) (K : Callees) (x : m.Module) (f : FunName) (l : ℕ) → (IsFoundAt K x (NoReturn f) l → top_function U x.name f ≡ Some (defined_at x f l))
    → (IsFoundAt K x (NeverCalled f) l → top_function U x.name f ≡ Some (defined_at x f l)) → IsFoundAt K x (NoReturn f) l ⊎ IsFoundAt K x (NeverCalled f) l → top_function U x.name f ≡ Some (defined_at x f l)
either U K x f l g h (inl k) = g k
either U K x f l g h (inr k) = h k

pub returns-clause-defined : goal.returns-clause-defined
returns-clause-defined c U K x accepted known has f l found =
    either U K x f l (λ h. (no_return_defined (record {
      facts = c.facts.ensures;
      types = c.type_facts.ensures;
      solutions = c.solution_facts.ensures;
      held = c.builtin_laws.ensures.held;
      texts = c.text_facts.ensures;
      lasts = c.last_facts.ensures;
    }) U K accepted known (c.success_typings.ensures.strict U K accepted known.closed) (c.success_typings.ensures.lenient U K accepted known.closed) x has f l h).0)
    (λ h. (never_called_defined (record { facts = c.facts.ensures; types = c.type_facts.ensures; solutions = c.solution_facts.ensures; held = c.builtin_laws.ensures.held; texts = c.text_facts.ensures; lasts = c.last_facts.ensures }) U
    K accepted known (c.success_typings.ensures.strict U K accepted known.closed) (c.success_typings.ensures.lenient U K accepted known.closed) x has f l h).0) found

pub returns-clause-no_return : goal.returns-clause-no_return
returns-clause-no_return c U K x accepted known has f l h = gave_never (record {
  facts = c.facts.ensures;
  types = c.type_facts.ensures;
  solutions = c.solution_facts.ensures;
  held = c.builtin_laws.ensures.held;
  texts = c.text_facts.ensures;
  lasts = c.last_facts.ensures;
}) U K accepted known (c.success_typings.ensures.strict U K accepted known.closed) (c.success_typings.ensures.lenient U K accepted known.closed) x has f l h

pub returns-clause-dead_call : goal.returns-clause-dead_call
returns-clause-dead_call c U K x accepted known has text l h =
    call_never (record { facts = c.facts.ensures; types = c.type_facts.ensures; solutions = c.solution_facts.ensures; held = c.builtin_laws.ensures.held; texts = c.text_facts.ensures; lasts = c.last_facts.ensures }) U K accepted known
    (c.success_typings.ensures.strict U K accepted known.closed) (c.success_typings.ensures.lenient U K accepted known.closed) x has text l h

pub returns-clause-dead_clause : goal.returns-clause-dead_clause
returns-clause-dead_clause c U K x accepted known has l h = clause_never (record {
  facts = c.facts.ensures;
  types = c.type_facts.ensures;
  solutions = c.solution_facts.ensures;
  held = c.builtin_laws.ensures.held;
  texts = c.text_facts.ensures;
  lasts = c.last_facts.ensures;
}) U K accepted known (c.success_typings.ensures.strict U K accepted known.closed) (c.success_typings.ensures.lenient U K accepted known.closed) x has l h

pub returns-clause-never_called : goal.returns-clause-never_called
returns-clause-never_called c U K x accepted known has f l h =
    entered_never (record { facts = c.facts.ensures; types = c.type_facts.ensures; solutions = c.solution_facts.ensures; held = c.builtin_laws.ensures.held; texts = c.text_facts.ensures; lasts = c.last_facts.ensures }) U K accepted known
    (c.success_typings.ensures.strict U K accepted known.closed) (c.success_typings.ensures.lenient U K accepted known.closed) x has f l h
