-- The steps of a chain bring no functions into scope.
use Rattle.std.proofs.Common.{◌≡◌, ℕ, List, length, Option, Some, None, ap}
use Rattle.core_ast.specs.declared.syntax.FunName.{FunName}
use Rattle.core_ast.specs.Model as m
use Rattle.core_scope.specs.declared.ask.Ask.TheVariants.{AnyNumber, Exactly}
use Rattle.type_lattice.specs.Types.{Type4}
use Rattle.module_flow_calls.specs.TypeLists.{Given}
use Rattle.module_flow_state.specs.Scopes.{WalkScope, with_variables}
use Rattle.module_flow_walk.specs.Walk.{see_given, see_steps, walk}
use Rattle.module_flow_state.specs.World.{World}

kept_by : (o : Given) (f : List Type4 → Option WalkScope) (inner : WalkScope) (fs : List FunName) (ls : List ℕ) → ((ts : List Type4) → f ts ≡ Some inner → (inner.functions ≡ fs) × (inner.labels ≡ ls))
    → see_given o f ≡ Some inner → (inner.functions ≡ fs) × (inner.labels ≡ ls)
kept_by None f inner fs ls h e = absurd cc
kept_by (Some ts) f inner fs ls h e = h ts e

same_walk_scope : (a b : WalkScope) → Some a ≡ Some b → (b.functions ≡ a.functions) × (b.labels ≡ a.labels)
same_walk_scope a b e = let same : b ≡ a = cc in (ap (λ z. z.functions) same, ap (λ z. z.labels) same)

module _ (W : World) where
  pub steps_keep : (sc : WalkScope) (ss : m.Steps) (inner : WalkScope) → see_steps W sc ss ≡ Some inner → (inner.functions ≡ sc.functions) × (inner.labels ≡ sc.labels)
  steps_keep sc m.no_step inner e = same_walk_scope sc inner e
  steps_keep sc (m.and_let i xs u ss) inner e = kept_by (walk W sc (Exactly (length xs)) u) (λ us. see_steps W (with_variables sc xs us) ss) inner sc.functions sc.labels (λ us q. steps_keep (with_variables sc xs us) ss inner q) e
  steps_keep sc (m.and_do i u ss) inner e = kept_by (walk W sc AnyNumber u) (λ us. see_steps W sc ss) inner sc.functions sc.labels (λ us q. steps_keep sc ss inner q) e
