-- The steps of a chain, one after another: what each sees and notes, and what is left behind them.
use Rattle.std.proofs.Common.{◌≡◌, ℕ, ◌+◌, ◌<◌, Bool, true, List, [], ◌∷◌, ◌++◌, Option, Some, None, length, drop, get_or, refl, sym, ap, ◌∙◌, append_assoc, append-nil}
use Rattle.type_lattice.specs.Types.{Type4}
use Rattle.core_ast.specs.declared.syntax.Expr.{Expr}
use Rattle.core_ast.specs.declared.syntax.StepOf.{StepOf}
use Rattle.core_ast.specs.declared.syntax.StepOf.TheVariants.{Let, Do}
use Rattle.core_ast.specs.Model as m
use Rattle.core_ast.specs.Tree.{tree, all_steps}
use Rattle.core_ast.proofs.Items.{all_steps-next}
use Rattle.core_scope.specs.declared.ask.Ask.TheVariants.{AnyNumber, Exactly}
use Rattle.warn_list.specs.declared.finding.Finding.{Finding}
use Rattle.module_flow_calls.specs.declared.node_context.NodeContext.{NodeContext}
use Rattle.module_flow_state.specs.declared.states.Contribution.{Contribution}
use Rattle.module_flow_state.specs.declared.walk.FlowWalk.{FlowWalk}
use Rattle.module_flow_calls.specs.NodeContext.{under}
use Rattle.module_flow_calls.specs.TypeLists.{Given, where_given}
use Rattle.module_flow_walk.specs.Findings.{found, found_in_steps}
use Rattle.module_flow_walk.specs.Contributions.{contributions, contributions_of_steps}
use Rattle.module_flow_state.specs.Scopes.{WalkScope, with_variables}
use Rattle.module_flow_walk.specs.Walk.{see_given, see_steps, walk}
use Rattle.module_flow_state.specs.World.{World}
use Rattle.module_flow_calls.specs.steps.Notes.{step_note}
use Rattle.module_flow_state.specs.steps.Walking.{Grows, walk_scope_of}
use Rattle.module_flow_walk.specs.steps.Walked.{sees, step_found}
use Rattle.module_flow_state.proofs.Notes.{grows_none, grows_then, noting_none}

some_is : {A : Type 0} {x y : A} → ◌≡◌ {A = Option A} (Some x) (Some y) → x ≡ y
some_is h = cc

-- ---- one step, and those behind it

-- it gives values, and the next ones see the same
seen_on : (g : Given) (f : List Type4 → WalkScope) (sc : WalkScope) (rest : WalkScope → Option WalkScope) → see_given g (λ us. Some (f us)) ≡ Some sc → see_given g (λ us. rest (f us)) ≡ rest sc
seen_on None f sc rest h = absurd cc
seen_on (Some us) f sc rest h = ap rest (some_is h)

given_on : {A : Type 0} (g : Given) (f : List Type4 → WalkScope) (sc : WalkScope) (rest : WalkScope → List A) → see_given g (λ us. Some (f us)) ≡ Some sc → where_given g (λ us. rest (f us)) ≡ rest sc
given_on None f sc rest h = absurd cc
given_on (Some us) f sc rest h = ap rest (some_is h)

given_nothing : {A : Type 0} (g : Given) → where_given {A = A} g (λ us. []) ≡ []
given_nothing None = refl
given_nothing (Some us) = refl

alone : {A : Type 0} (xs : List A) (g : Given) → xs ++ where_given g (λ us. []) ≡ xs
alone xs g = ap (λ l. xs ++ l) (given_nothing g) ∙ append-nil xs

module _ (W : World) (a : NodeContext) where
  abbrev step_contributions : WalkScope → StepOf Expr → List Contribution
  step_contributions sc (Let i xs e) = contributions W sc (Exactly (length xs)) (tree e)
  step_contributions sc (Do i e) = contributions W sc AnyNumber (tree e)

  abbrev Stepped : WalkScope → StepOf Expr → Option WalkScope → Type 0
  Stepped sc x o = see_steps W sc (all_steps (x ∷ [])) ≡ o

  see_next : (sc sc' : WalkScope) (x : StepOf Expr) (rest : List (StepOf Expr)) → Stepped sc x (Some sc') → see_steps W sc (all_steps (x ∷ rest)) ≡ see_steps W sc' (all_steps rest)
  see_next sc sc' (Let i xs e) rest h = seen_on (walk W sc (Exactly (length xs)) (tree e)) (λ us. with_variables sc xs us) sc' (λ s. see_steps W s (all_steps rest)) h
  see_next sc sc' (Do i e) rest h = seen_on (walk W sc AnyNumber (tree e)) (λ us. sc) sc' (λ s. see_steps W s (all_steps rest)) h

  contributions_alone : (sc : WalkScope) (x : StepOf Expr) → contributions_of_steps W sc (all_steps (x ∷ [])) ≡ step_contributions sc x
  contributions_alone sc (Let i xs e) = alone (contributions W sc (Exactly (length xs)) (tree e)) (walk W sc (Exactly (length xs)) (tree e))
  contributions_alone sc (Do i e) = alone (contributions W sc AnyNumber (tree e)) (walk W sc AnyNumber (tree e))

  contributions_next : (sc sc' : WalkScope) (x : StepOf Expr) (rest : List (StepOf Expr)) → Stepped sc x (Some sc')
      → contributions_of_steps W sc (all_steps (x ∷ rest)) ≡ step_contributions sc x ++ contributions_of_steps W sc' (all_steps rest)
  contributions_next sc sc' (Let i xs e) rest h = ap (λ l. contributions W sc (Exactly (length xs)) (tree e) ++ l)
      (given_on (walk W sc (Exactly (length xs)) (tree e)) (λ us. with_variables sc xs us) sc' (λ s. contributions_of_steps W s (all_steps rest)) h)
  contributions_next sc sc' (Do i e) rest h = ap (λ l. contributions W sc AnyNumber (tree e) ++ l) (given_on (walk W sc AnyNumber (tree e)) (λ us. sc) sc' (λ s. contributions_of_steps W s (all_steps rest)) h)

  found_next : (sc sc' : WalkScope) (x : StepOf Expr) (rest : List (StepOf Expr)) → Stepped sc x (Some sc')
      → found_in_steps W a sc (all_steps (x ∷ rest)) ≡ step_found W (under a (step_note x)) sc x ++ found_in_steps W (under a (step_note x)) sc' (all_steps rest)
  found_next sc sc' (Let i xs e) rest h = ap (λ l. found W (under a i.note) sc (Exactly (length xs)) (tree e) ++ l)
      (given_on (walk W sc (Exactly (length xs)) (tree e)) (λ us. with_variables sc xs us) sc' (λ s. found_in_steps W (under a i.note) s (all_steps rest)) h)
  found_next sc sc' (Do i e) rest h = ap (λ l. found W (under a i.note) sc AnyNumber (tree e) ++ l) (given_on (walk W sc AnyNumber (tree e)) (λ us. sc) sc' (λ s. found_in_steps W (under a i.note) s (all_steps rest)) h)

-- ---- the loop

-- what was noted so far, and what the steps that are left come to
pub record StepsLeft (W : World) (a inner : NodeContext) (first now : FlowWalk) (all rest : m.Steps) : Type 0 where
  pub gs : List Contribution
  pub fs : List Finding
  pub sees : see_steps W (walk_scope_of first) all ≡ see_steps W (walk_scope_of now) rest
  pub grows : Grows first now gs fs
  pub contributions : contributions_of_steps W (walk_scope_of first) all ≡ gs ++ contributions_of_steps W (walk_scope_of now) rest
  pub found : found_in_steps W a (walk_scope_of first) all ≡ fs ++ found_in_steps W inner (walk_scope_of now) rest

module _ (W : World) (a : NodeContext) (first : FlowWalk) (ss : List (StepOf Expr)) where
  pub steps_begin : StepsLeft W a a first first (all_steps ss) (all_steps ss)
  steps_begin = record { gs = []; fs = []; sees = refl; grows = grows_none first first [] [] (sym (noting_none first)); contributions = refl; found = refl }

  module _ (inner : NodeContext) (now : FlowWalk) (i : ℕ) where
    abbrev Left : NodeContext → FlowWalk → ℕ → Type 0
    Left b w n = StepsLeft W a b first w (all_steps ss) (all_steps (drop n ss))

    module _ (next : FlowWalk) (under_it : NodeContext) (x : StepOf Expr) (there : Bool) (within : i < length ss) (is : x ≡ get_or ss i x) (under_is : under_it ≡ under inner (step_note x)) (before : Left inner now i)
        (told : see_steps W (walk_scope_of now) (all_steps (x ∷ [])) ≡ sees there (walk_scope_of next))
        (noted : Grows now next (contributions_of_steps W (walk_scope_of now) (all_steps (x ∷ []))) (step_found W under_it (walk_scope_of now) x)) where
      opens : all_steps (drop i ss) ≡ all_steps (x ∷ drop (i + 1) ss)
      opens = all_steps-next ss i x within ∙ ap (λ z. all_steps (z ∷ drop (i + 1) ss)) (sym is)

      abbrev rest : List (StepOf Expr)
      rest = drop (i + 1) ss

      abbrev here : WalkScope
      here = walk_scope_of now

      abbrev alone_contributions : List Contribution
      alone_contributions = contributions_of_steps W here (all_steps (x ∷ []))

      both : Grows first next (before.gs ++ alone_contributions) (before.fs ++ step_found W under_it here x)
      both = grows_then first now next before.gs alone_contributions before.fs (step_found W under_it here x) before.grows noted

      pub steps_round : there ≡ true → Left under_it next (i + 1)
      steps_round on =
          let on_sees : see_steps W here (all_steps (x ∷ [])) ≡ Some (walk_scope_of next) = told ∙ ap (λ b. sees b (walk_scope_of next)) on in
          record {
            gs = before.gs ++ alone_contributions;
            fs = before.fs ++ step_found W under_it here x;
            sees = before.sees ∙ ap (see_steps W here) opens ∙ see_next W a here (walk_scope_of next) x rest on_sees;
            grows = both;
            contributions = before.contributions ∙ ap (λ z. before.gs ++ contributions_of_steps W here z) opens
                ∙ ap (λ l. before.gs ++ l) (contributions_next W a here (walk_scope_of next) x rest on_sees ∙ ap (λ l. l ++ contributions_of_steps W (walk_scope_of next) (all_steps rest)) (sym (contributions_alone W a here x)))
                ∙ sym (append_assoc before.gs alone_contributions (contributions_of_steps W (walk_scope_of next) (all_steps rest)));
            found = before.found ∙ ap (λ z. before.fs ++ found_in_steps W inner here z) opens
                ∙ ap (λ l. before.fs ++ l) (found_next W inner here (walk_scope_of next) x rest on_sees ∙ ap (λ b. step_found W b here x ++ found_in_steps W b (walk_scope_of next) (all_steps rest)) (sym under_is))
                ∙ sym (append_assoc before.fs (step_found W under_it here x) (found_in_steps W under_it (walk_scope_of next) (all_steps rest)));
          }
