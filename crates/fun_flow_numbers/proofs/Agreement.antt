-- What a number's item gives where it is applied is what the program's item gives.
use Rattle.std.proofs.Common.{◌≡◌, ℕ, Bool, true, false, ◌&&◌, List, Option, Some, None, slice_get, refl, sym, ap, ◌∙◌, subst, nat_eq, eqb-true, if◌then◌else◌}
use Rattle.std.proofs.lemmas.Bool.{false_from_ne_true}
use Rattle.type_kinds.specs.declared.atom.Atom.{Atom}
use Rattle.type_lattice_model.specs.Values.{Local}
use Rattle.core_ast.specs.declared.syntax.FunName.{FunName}
use Rattle.core_meaning.specs.Programs.{Program, Found, found}
use Rattle.core_scope.specs.Names.{Distinct}
use Rattle.fun_flow_places.specs.Arities.{arity_of}
use Rattle.fun_flow_places.specs.declared.places.FlowPlace.{FlowPlace}
use Rattle.fun_flow_places.specs.declared.places.FlowPlace.TheVariants.{Returned}
use Rattle.fun_flow_places.specs.declared.places.FlowRule.{FlowRule}
use Rattle.fun_flow_places.specs.declared.places.Item.{Item}
use Rattle.fun_flow_places.specs.declared.places.Item.TheVariants.{Anything, Closure, External}
use Rattle.fun_flow_places.specs.declared.table.FoundFunction.{FoundFunction}
use Rattle.fun_flow_places.specs.declared.table.FoundFunction.TheVariants.{BuiltIn, Outside, Hidden, Exported}
use Rattle.fun_flow_places.specs.declared.table.ModuleTable.{ModuleTable}
use Rattle.fun_flow_places.specs.Naming.{item_named, module_names, name_of, place_named}
use Rattle.fun_flow_places.specs.Tables.{Finds, IsTableOf, label_of}
use Rattle.fun_flow_sets.specs.Items as s
use Rattle.fun_flow_sets.specs.Items.{called_result, defined_at, is_foreign, result_of}
use Rattle.fun_flow_solver.specs.declared.problem.Gives.{Gives}
use Rattle.fun_flow_solver.specs.declared.problem.Gives.TheVariants.{Nothing, Body, Unknown}
use Rattle.fun_flow_solver.specs.Holds.{entered_of, given_by}
use Rattle.fun_flow_numbers.specs.declared.numbering.RuleNumbering.{RuleNumbering}
use Rattle.fun_flow_numbers.specs.steps.Numbering.{GivesFound, IsKnown, IsNumbering, IsReturned}
use Rattle.fun_flow_numbers.specs.steps.Numbers.{AreApart}

-- What is given over numbers is what the program's item gives: the result of a function that is entered, and whether nothing is known.
pub record IsBody (U : Program) (places : List FlowPlace) (r : ℕ) (result : Option s.Place) (unknown : Bool) : Type 0 where
  pub place : FlowPlace
  pub there : slice_get places r ≡ Some place
  pub enters : result ≡ Some (place_named U place)
  pub is_known : unknown ≡ false

abbrev pub Agrees : Program → List FlowPlace → Gives → Option s.Place → Bool → Type 0
Agrees U places Nothing result unknown = (result ≡ None) × (unknown ≡ false)
Agrees U places (Body r) result unknown = IsBody U places r result unknown
Agrees U places Unknown result unknown = (result ≡ None) × (unknown ≡ true)

module _ (U : Program) (places : List FlowPlace) where
  returned_agrees : (h l : ℕ) (g : Gives) (home : Atom) → name_of U h ≡ home → IsReturned places h l g → Agrees U places g (Some (s.returned home l)) false
  returned_agrees h l Nothing home named i = absurd i
  returned_agrees h l (Body r) home named i = record { place = Returned h l; there = i; enters = ap (λ x. Some (s.returned x l)) (sym named); is_known = refl }
  returned_agrees h l Unknown home named i = absurd i

  none_labelled : (home : Atom) (d : Option Local) → label_of d ≡ None → result_of home d ≡ None
  none_labelled home None e = refl
  none_labelled home (Some d) e = absurd cc

  some_labelled : (home : Atom) (d : Option Local) (l : ℕ) → label_of d ≡ Some l → result_of home d ≡ Some (s.returned home l)
  some_labelled home None l e = absurd cc
  some_labelled home (Some d) l e = let same : d.label ≡ l = cc in ap (λ k. Some (s.returned home k)) same

  -- where what is found gives nothing
  nothing_agrees : (g : Gives) (f : Found) (home : Atom) (d : Option Local) → called_result f home d ≡ None → is_foreign f ≡ false → g ≡ Nothing → Agrees U places g (called_result f home d) (is_foreign f)
  nothing_agrees g f home d result known e = subst (λ z. Agrees U places z (called_result f home d) (is_foreign f)) (sym e) (result, known)

  unknown_agrees : (g : Gives) (f : Found) (home : Atom) (d : Option Local) → called_result f home d ≡ None → is_foreign f ≡ true → g ≡ Unknown → Agrees U places g (called_result f home d) (is_foreign f)
  unknown_agrees g f home d result foreign e = subst (λ z. Agrees U places z (called_result f home d) (is_foreign f)) (sym e) (result, foreign)

  found_agrees : (home : Atom) (f : FunName) (F : FoundFunction) (g : Gives) → Finds U home f F → GivesFound places F g → Agrees U places g (called_result (found U home f) home (defined_at U home f)) (is_foreign (found U home f))
  found_agrees home f BuiltIn g e i = unknown_agrees g (found U home f) home (defined_at U home f) (ap (λ z. called_result z home (defined_at U home f)) e) (ap is_foreign e) i
  found_agrees home f Outside g e i = unknown_agrees g (found U home f) home (defined_at U home f) (ap (λ z. called_result z home (defined_at U home f)) e) (ap is_foreign e) i
  found_agrees home f Hidden g e i = nothing_agrees g (found U home f) home (defined_at U home f) (ap (λ z. called_result z home (defined_at U home f)) e) (ap is_foreign e) i
  found_agrees home f (Exported h None) g e i =
      nothing_agrees g (found U home f) home (defined_at U home f) (ap (λ z. called_result z home (defined_at U home f)) e.0 ∙ none_labelled home (defined_at U home f) e.1.1) (ap is_foreign e.0) i
  found_agrees home f (Exported h (Some l)) g e i =
      let result : called_result (found U home f) home (defined_at U home f) ≡ Some (s.returned home l) = ap (λ z. called_result z home (defined_at U home f)) e.0 ∙ some_labelled home (defined_at U home f) l e.1.1 in
      subst (λ z. Agrees U places g z (is_foreign (found U home f))) (sym result)
      (subst (Agrees U places g (Some (s.returned home l))) (sym (ap is_foreign e.0)) (returned_agrees h l g home e.1.0 i))

module _ (U : Program) (apart : Distinct (module_names U)) (table : ModuleTable) (of : IsTableOf U table) (rules : List FlowRule) (n : RuleNumbering) (is : IsNumbering table rules n) where
  -- what is entered over numbers, for an item that isn't anything
  entered_known : (x : ℕ) (y : Item) (count : ℕ) (k : IsKnown table n.places n.problem.items.items x y) → nat_eq x 0 ≡ false → entered_of n.problem.items.items x count ≡ (if nat_eq (arity_of y) count then k.gives else Nothing)
  entered_known x y count k e = ap (λ b. if b then Unknown else given_by (slice_get n.problem.items.items x) count) e ∙ ap (λ o. given_by o count) k.known

  not_first : (x : ℕ) (y : Item) → slice_get n.items x ≡ Some y → (Anything ≡ y → ⊥) → nat_eq x 0 ≡ false
  not_first x y at differs = false_from_ne_true (nat_eq x 0) (λ e. differs (let same : Some Anything ≡ Some y = sym is.zeroth ∙ ap (slice_get n.items) (sym (eqb-true x 0 e)) ∙ at in cc))

  closure_agrees : (h l arity count : ℕ) (g : Gives) → IsReturned n.places h l g → (b : Bool) → Agrees U n.places (if b then g else Nothing) (if b then Some (s.returned (name_of U h) l) else None) false
  closure_agrees h l arity count g i true = returned_agrees U n.places h l g (name_of U h) refl i
  closure_agrees h l arity count g i false = (refl, refl)

  external_agrees : (home : Atom) (f : FunName) (g : Gives) (F : FoundFunction) → Finds U home f F → GivesFound n.places F g → (b : Bool)
      → Agrees U n.places (if b then g else Nothing) (if b then called_result (found U home f) home (defined_at U home f) else None) (b && is_foreign (found U home f))
  external_agrees home f g F e i true = found_agrees U n.places home f F g e i
  external_agrees home f g F e i false = (refl, refl)

  -- the items of the program, and those over numbers, give the same
  pub agrees : AreApart n.items → (x : ℕ) (y : Item) (count : ℕ) → slice_get n.items x ≡ Some y
      → Agrees U n.places (entered_of n.problem.items.items x count) (s.entered U count (item_named U y)) (s.is_unknown U count (item_named U y))
  agrees once x Anything count at =
      let zero_is : x ≡ 0 = once x 0 Anything at is.zeroth in
      subst (λ z. Agrees U n.places (entered_of n.problem.items.items z count) None true) (sym zero_is) (refl, refl)
  agrees once x (Closure h l arity) count at =
      let k = is.known x (Closure h l arity) at in
      subst (λ z. Agrees U n.places z (s.entered U count (item_named U (Closure h l arity))) false) (sym (entered_known x (Closure h l arity) count k (not_first x (Closure h l arity) at (λ e. absurd cc))))
      (closure_agrees h l arity count k.gives k.so (nat_eq arity count))
  agrees once x (External home f) count at =
      let k = is.known x (External home f) at in
      subst (λ z. Agrees U n.places z (s.entered U count (item_named U (External home f))) (s.is_unknown U count (item_named U (External home f))))
      (sym (entered_known x (External home f) count k (not_first x (External home f) at (λ e. absurd cc))))
      (external_agrees home f k.gives k.so.0 (k.so.1 U apart of) k.so.2 (nat_eq f.arity count))
