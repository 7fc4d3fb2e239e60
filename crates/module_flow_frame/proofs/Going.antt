-- What goes on, in two worlds, with the same goes on to the same.
use Rattle.std.proofs.Common.{◌≡◌, List, ◌++◌, refl, ap, ap₂, ◌∙◌}
use Rattle.std.specs.Prelude.{Option, Some, None}
use Rattle.type_lattice.specs.Types.{Type4}
use Rattle.cons_tree.specs.Environments.{Types, State}
use Rattle.warn_list.specs.declared.finding.Finding.{Finding}
use Rattle.module_flow_calls.specs.TypeLists.{Given, where_given}
use Rattle.module_flow_state.specs.Scopes.{WalkScope}
use Rattle.module_flow_state.specs.World.{World}
use Rattle.module_flow_walk.specs.Walk.{then as and_then, then_seen, see_given, if_named, then_inside}
use Rattle.module_flow_walk.specs.Contributions.{where_solved, where_entered, listed_by, where_seen}
use Rattle.module_flow_walk.specs.Findings.{either_found}

module _ (V W : World) where
  pub then_with : (g : World → Given) (f : World → List Type4 → Given) → g V ≡ g W → ((ts : List Type4) → g W ≡ Some ts → f V ts ≡ f W ts) → and_then (g V) (f V) ≡ and_then (g W) (f W)
  then_with g f e s = ap (λ x. and_then x (f V)) e ∙ by (g W) s
    where
      by : (r : Given) → ((ts : List Type4) → r ≡ Some ts → f V ts ≡ f W ts) → and_then r (f V) ≡ and_then r (f W)
      by None s = refl
      by (Some ts) s = s ts refl

  pub seen_with : (g : World → Option WalkScope) (f : World → WalkScope → Given) → g V ≡ g W → ((sc : WalkScope) → g W ≡ Some sc → f V sc ≡ f W sc) → then_seen (g V) (f V) ≡ then_seen (g W) (f W)
  seen_with g f e s = ap (λ x. then_seen x (f V)) e ∙ by (g W) s
    where
      by : (r : Option WalkScope) → ((sc : WalkScope) → r ≡ Some sc → f V sc ≡ f W sc) → then_seen r (f V) ≡ then_seen r (f W)
      by None s = refl
      by (Some sc) s = s sc refl

  pub see_with : (g : World → Given) (f : World → List Type4 → Option WalkScope) → g V ≡ g W → ((ts : List Type4) → f V ts ≡ f W ts) → see_given (g V) (f V) ≡ see_given (g W) (f W)
  see_with g f e s = ap (λ x. see_given x (f V)) e ∙ by (g W) s
    where
      by : (r : Given) → ((ts : List Type4) → f V ts ≡ f W ts) → see_given r (f V) ≡ see_given r (f W)
      by None s = refl
      by (Some ts) s = s ts

  pub inside_with : (g : World → State) (f : World → Types → Given) → g V ≡ g W → ((ts : Types) → f V ts ≡ f W ts) → then_inside (g V) (f V) ≡ then_inside (g W) (f W)
  inside_with g f e s = ap (λ x. then_inside x (f V)) e ∙ by (g W) s
    where
      by : (r : State) → ((ts : Types) → f V ts ≡ f W ts) → then_inside r (f V) ≡ then_inside r (f W)
      by None s = refl
      by (Some ts) s = s ts

  pub given_with : {A : Type 0} (g : World → Given) (f : World → List Type4 → List A) → g V ≡ g W → ((ts : List Type4) → g W ≡ Some ts → f V ts ≡ f W ts) → where_given (g V) (f V) ≡ where_given (g W) (f W)
  given_with g f e s = ap (λ x. where_given x (f V)) e ∙ by (g W) s
    where
      by : (r : Given) → ((ts : List Type4) → r ≡ Some ts → f V ts ≡ f W ts) → where_given r (f V) ≡ where_given r (f W)
      by None s = refl
      by (Some ts) s = s ts refl

  pub where_seen_with : {A : Type 0} (g : World → Option WalkScope) (f : World → WalkScope → List A) → g V ≡ g W → ((sc : WalkScope) → g W ≡ Some sc → f V sc ≡ f W sc)
      → where_seen (g V) (f V) ≡ where_seen (g W) (f W)
  where_seen_with g f e s = ap (λ x. where_seen x (f V)) e ∙ by (g W) s
    where
      by : (r : Option WalkScope) → ((sc : WalkScope) → r ≡ Some sc → f V sc ≡ f W sc) → where_seen r (f V) ≡ where_seen r (f W)
      by None s = refl
      by (Some sc) s = s sc refl

  pub solved_with : {A : Type 0} (g : World → State) (f : World → Types → List A) → g V ≡ g W → ((ts : Types) → f V ts ≡ f W ts) → where_solved (g V) (f V) ≡ where_solved (g W) (f W)
  solved_with g f e s = ap (λ x. where_solved x (f V)) e ∙ by (g W) s
    where
      by : (r : State) → ((ts : Types) → f V ts ≡ f W ts) → where_solved r (f V) ≡ where_solved r (f W)
      by None s = refl
      by (Some ts) s = s ts

  pub found_with : (g : World → State) (dead : List Finding) (f : World → Types → List Finding) → g V ≡ g W → ((ts : Types) → f V ts ≡ f W ts) → either_found (g V) dead (f V) ≡ either_found (g W) dead (f W)
  found_with g dead f e s = ap (λ x. either_found x dead (f V)) e ∙ by (g W)
    where
      by : (r : State) → either_found r dead (f V) ≡ either_found r dead (f W)
      by None = refl
      by (Some ts) = s ts

  pub entered_with : {A : Type 0} (o : Option (List Type4)) (f : World → List Type4 → List A) → ((ts : List Type4) → f V ts ≡ f W ts) → where_entered o (f V) ≡ where_entered o (f W)
  entered_with None f s = refl
  entered_with (Some ts) f s = s ts

  -- where there is a name, and where there is none
  pub named_with : {A : Type 0} (o : Option A) (f : World → A → Given) (g : World → Given) → ((x : A) → o ≡ Some x → f V x ≡ f W x) → g V ≡ g W → if_named o (f V) (g V) ≡ if_named o (f W) (g W)
  named_with None f g s e = e
  named_with (Some x) f g s e = s x refl

  pub listed_with : {A B : Type 0} (o : Option A) (f : World → A → List B) (xs : World → List B) → ((x : A) → o ≡ Some x → f V x ≡ f W x) → xs V ≡ xs W → listed_by o (f V) (xs V) ≡ listed_by o (f W) (xs W)
  listed_with None f xs s e = e
  listed_with (Some x) f xs s e = s x refl

pub join : {A : Type 0} {x y v w : List A} → x ≡ v → y ≡ w → x ++ y ≡ v ++ w
join e f = ap₂ (λ a b. a ++ b) e f
