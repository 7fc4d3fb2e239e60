-- The numbers of a numbering are below its lengths.
use Rattle.std.proofs.Common.{◌≡◌, ℕ, ◌<◌, ◌≤◌, Bool, true, false, List, length, Option, Some, None, slice_get, refl, sym, ap, ◌∙◌, nat_eq, if◌then◌else◌, arith}
use Rattle.std.proofs.lemmas.Option.{slice_get_within}
use Rattle.type_kinds.proofs.Lists.{item_at}
use Rattle.fun_flow_places.specs.Arities.{arity_of}
use Rattle.fun_flow_places.specs.declared.places.FlowPlace.{FlowPlace}
use Rattle.fun_flow_places.specs.declared.places.FlowPlace.TheVariants.{Part, Returned}
use Rattle.fun_flow_places.specs.declared.places.FlowRule.{FlowRule}
use Rattle.fun_flow_places.specs.declared.places.Item.{Item}
use Rattle.fun_flow_places.specs.declared.places.Item.TheVariants.{Anything, Closure, External}
use Rattle.fun_flow_places.specs.declared.table.FoundFunction.{FoundFunction}
use Rattle.fun_flow_places.specs.declared.table.FoundFunction.TheVariants.{BuiltIn, Outside, Hidden, Exported}
use Rattle.fun_flow_places.specs.declared.table.ModuleTable.{ModuleTable}
use Rattle.fun_flow_solver.specs.declared.problem.Gives.{Gives}
use Rattle.fun_flow_solver.specs.declared.problem.Gives.TheVariants.{Nothing, Body, Unknown}
use Rattle.fun_flow_solver.specs.declared.problem.Known.{Known}
use Rattle.fun_flow_solver.specs.Holds.{IsBelow, entered_of, given_by}
use Rattle.fun_flow_numbers.specs.declared.numbering.RuleNumbering.{RuleNumbering}
use Rattle.fun_flow_numbers.specs.steps.Numbering.{GivesFor, GivesFound, IsNumbering}

found_within : (ps : List FlowPlace) (f : FoundFunction) (g : Gives) (r : ℕ) → g ≡ Body r → GivesFound ps f g → r < length ps
found_within ps BuiltIn g r e i = absurd cc
found_within ps Outside g r e i = absurd cc
found_within ps Hidden g r e i = absurd cc
found_within ps (Exported h None) g r e i = absurd cc
found_within ps (Exported h (Some l)) Nothing r e i = absurd cc
found_within ps (Exported h (Some l)) (Body q) r e i = let same : q ≡ r = cc in let low : q < length ps = slice_get_within ps q (Returned h l) i in omega arith
found_within ps (Exported h (Some l)) Unknown r e i = absurd cc

gives_within : (table : ModuleTable) (ps : List FlowPlace) (y : Item) (g : Gives) (r : ℕ) → g ≡ Body r → GivesFor table ps y g → r < length ps
gives_within table ps Anything g r e i = absurd cc
gives_within table ps (Closure h l n) Nothing r e i = absurd cc
gives_within table ps (Closure h l n) (Body q) r e i = let same : q ≡ r = cc in let low : q < length ps = slice_get_within ps q (Returned h l) i in omega arith
gives_within table ps (Closure h l n) Unknown r e i = absurd cc
gives_within table ps (External home f) g r e i = found_within ps i.0 g r e i.2

-- what is entered is known
known_body : (ks : List Known) (x n r : ℕ) → entered_of ks x n ≡ Body r → (k : Known) × (slice_get ks x ≡ Some k) × (k.gives ≡ Body r)
known_body ks x n r e = by_item (nat_eq x 0) e
  where
    by_arity : (k : Known) → slice_get ks x ≡ Some k → (b : Bool) → (if b then k.gives else Nothing) ≡ Body r → (k : Known) × (slice_get ks x ≡ Some k) × (k.gives ≡ Body r)
    by_arity k at true g = (k, at, g)
    by_arity k at false g = absurd cc

    by_known : (o : Option Known) → slice_get ks x ≡ o → given_by o n ≡ Body r → (k : Known) × (slice_get ks x ≡ Some k) × (k.gives ≡ Body r)
    by_known None at g = absurd cc
    by_known (Some k) at g = by_arity k at (nat_eq k.arity n) g

    by_item : (b : Bool) → (if b then Unknown else given_by (slice_get ks x) n) ≡ Body r → (k : Known) × (slice_get ks x ≡ Some k) × (k.gives ≡ Body r)
    by_item true g = absurd cc
    by_item false g = by_known (slice_get ks x) refl g

pub below : (table : ModuleTable) (rules : List FlowRule) (n : RuleNumbering) (count : ℕ) → length n.places ≤ count → length n.items ≤ count → IsNumbering table rules n → IsBelow n.problem count
below table rules n count ps is of =
    record {
      some = let low : 0 < length n.items = slice_get_within n.items 0 Anything of.zeroth in omega arith;
      starts = λ s c. (
        (let i = of.starts s c in let low : s.place < length n.places = slice_get_within n.places s.place i.0 i.3.place in omega arith),
        (let i = of.starts s c in let low : s.item < length n.items = slice_get_within n.items s.item i.1 i.3.item in omega arith),
      );
      flows = λ e c. (
        (let i = of.flows e c in let low : e.from < length n.places = slice_get_within n.places e.from i.0 i.3.from in omega arith),
        (let i = of.flows e c in let low : e.to < length n.places = slice_get_within n.places e.to i.1 i.3.to in omega arith),
      );
      applications = λ a c. (
        (let i = of.applications a c in let low : a.operator < length n.places = slice_get_within n.places a.operator i.0 i.5.operator in omega arith),
        (let i = of.applications a c in let low : a.place < length n.places = slice_get_within n.places a.place (Part i.2 i.3 0) i.5.place in omega arith),
      );
      bodies = λ x a r e.
          let k = known_body n.problem.items.items x a r e in
          let within : x < length n.items = let low : x < length n.problem.items.items = slice_get_within n.problem.items.items x k.0 k.1 in let same = of.counted in omega arith in
          let y = item_at n.items x within in
          let known = of.known x y.0 y.1 in
          let met : Known = record { arity = arity_of y.0; gives = known.gives } in
          let one : Some met ≡ Some k.0 = sym known.known ∙ k.1 in
          let same : met ≡ k.0 = cc in
          let low : r < length n.places = gives_within table n.places y.0 known.gives r (ap (λ z. z.gives) same ∙ k.2) known.so in
          omega arith;
    }
