-- The least sets over numbers are those of the program.
use Rattle.std.proofs.Common.{◌≡◌, ◌↔◌, ℕ, inl, inr, Bool, true, false, List, [], ◌∷◌, map, Option, Some, None, Contains, slice_get, refl, sym, ap, ◌∙◌, subst, true≢false}
use Rattle.type_kinds.proofs.Lists.{contains_cases, contains_first, contains_later, contains_none}
use Rattle.type_kinds.specs.declared.atom.Atom.{Atom}
use Rattle.components.specs.Graph.{Leads}
use Rattle.core_meaning.specs.Programs.{Program}
use Rattle.core_scope.specs.Names.{Distinct}
use Rattle.fun_flow_places.specs.declared.places.FlowPlace.{FlowPlace}
use Rattle.fun_flow_places.specs.declared.places.FlowPlace.TheVariants.{Anywhere, Part}
use Rattle.fun_flow_places.specs.declared.places.FlowRule.{FlowRule}
use Rattle.fun_flow_places.specs.declared.places.FlowRule.TheVariants.{Holds, Flows, Applies}
use Rattle.fun_flow_places.specs.declared.places.Item.{Item}
use Rattle.fun_flow_places.specs.declared.places.Item.TheVariants.{Anything}
use Rattle.fun_flow_places.specs.declared.table.ModuleTable.{ModuleTable}
use Rattle.fun_flow_places.specs.Naming.{AreRulesOf, item_named, module_names, name_of, place_named, rule_named}
use Rattle.fun_flow_places.specs.Tables.{IsTableOf}
use Rattle.fun_flow_sets.specs.Items as s
use Rattle.fun_flow_sets.specs.Rules.{IsAmong, IsRule}
use Rattle.fun_flow_sets.specs.Sets as t
use Rattle.fun_flow_solver.specs.declared.problem.Application.{Application}
use Rattle.fun_flow_solver.specs.declared.problem.Gives.{Gives}
use Rattle.fun_flow_solver.specs.declared.problem.Gives.TheVariants.{Nothing, Body, Unknown}
use Rattle.fun_flow_solver.specs.Holds as v
use Rattle.fun_flow_solver.specs.Holds.{entered_of}
use Rattle.fun_flow_numbers.specs.Held.{AreSetsOf, HeldNumbers, HoldsNumber, IsHeld}
use Rattle.fun_flow_numbers.specs.declared.numbering.RuleNumbering.{RuleNumbering}
use Rattle.fun_flow_numbers.specs.steps.Numbering.{IsNumbering, Stands, first_rule}
use Rattle.fun_flow_numbers.specs.steps.Numbers.{AreApart}
use Rattle.fun_flow_numbers.proofs.Agreement.{Agrees, IsBody, agrees}
use Rattle.fun_flow_numbers.proofs.Names.{same_place}

-- ---- rules of the list and rules of the program

module _ (U : Program) where
  among : (rules : List FlowRule) (r : FlowRule) → Contains rules r → IsAmong (map (rule_named U) rules) (rule_named U r)
  among [] r c = absurd (contains_none r c)
  among (q ∷ rules) r c = elim (contains_cases q r rules c) [ inl is ↦ inl (ap (rule_named U) (sym is)) | inr more ↦ inr (among rules r more) ]

  -- a rule of the code that stands for one of the program
  record IsMade (rules : List FlowRule) (R : s.Rule) : Type 0 where
    rule : FlowRule
    there : Contains rules rule
    named : rule_named U rule ≡ R

  made : (rules : List FlowRule) (R : s.Rule) → IsAmong (map (rule_named U) rules) R → IsMade rules R
  made [] R a = absurd a
  made (q ∷ rules) R (inl e) = record { rule = q; there = contains_first q rules; named = sym e }
  made (q ∷ rules) R (inr a) = let h = made rules R a in record { rule = h.rule; there = contains_later q h.rule rules h.there; named = h.named }

module _ (U : Program) (apart : Distinct (module_names U)) (table : ModuleTable) (of : IsTableOf U table) (rules : List FlowRule) (all : AreRulesOf U rules)
    (n : RuleNumbering) (is : IsNumbering table (first_rule ∷ rules) n) (places_once : AreApart n.places) (items_once : AreApart n.items) where
  stated : (r : FlowRule) → Contains rules r → IsRule U (rule_named U r)
  stated r c = (all (rule_named U r)).0 (among U rules r c)

  same_item_at : (i : ℕ) (x y : Item) → slice_get n.items i ≡ Some x → slice_get n.items i ≡ Some y → x ≡ y
  same_item_at i x y d e = let both : Some x ≡ Some y = sym d ∙ e in cc

  same_place_at : (i : ℕ) (p q : FlowPlace) → slice_get n.places i ≡ Some p → slice_get n.places i ≡ Some q → p ≡ q
  same_place_at i p q d e = let both : Some p ≡ Some q = sym d ∙ e in cc

  -- ---- what is held over numbers is held in the program

  record IsSound (a x : ℕ) : Type 0 where
    place : FlowPlace
    at : slice_get n.places a ≡ Some place
    item : Item
    has : slice_get n.items x ≡ Some item
    holds : t.Holds U (place_named U place) (item_named U item)

  start_sound : (p : FlowPlace) (x : Item) → Contains (first_rule ∷ rules) (Holds p x) → t.Holds U (place_named U p) (item_named U x)
  start_sound p x c = elim (contains_cases first_rule (Holds p x) rules c) [
    | inl first ↦ (let both : Holds Anywhere Anything ≡ Holds p x = first in let at : Anywhere ≡ p = cc in let of_it : Anything ≡ x = cc in
        subst (λ z. t.Holds U (place_named U z) (item_named U x)) at (subst (λ z. t.Holds U s.anywhere (item_named U z)) of_it t.may_any))
    | inr later ↦ t.may_hold (stated (Holds p x) later)
  ]

  flow_stated : (p q : FlowPlace) → Contains (first_rule ∷ rules) (Flows p q) → IsRule U (s.flows (place_named U p) (place_named U q))
  flow_stated p q c = elim (contains_cases first_rule (Flows p q) rules c) [ inl first ↦ absurd cc | inr later ↦ stated (Flows p q) later ]

  application_stated : (p : FlowPlace) (count h l : ℕ) → Contains (first_rule ∷ rules) (Applies p count h l) → IsRule U (s.applies (place_named U p) count (name_of U h) l)
  application_stated p count h l c = elim (contains_cases first_rule (Applies p count h l) rules c) [ inl first ↦ absurd cc | inr later ↦ stated (Applies p count h l) later ]

  -- the item of a number enters, and is unknown, as over numbers
  body_enters : (x count r : ℕ) (y : Item) (q : FlowPlace) → slice_get n.items x ≡ Some y → entered_of n.problem.items.items x count ≡ Body r → slice_get n.places r ≡ Some q
      → s.entered U count (item_named U y) ≡ Some (place_named U q)
  body_enters x count r y q has e at =
      let b : IsBody U n.places r (s.entered U count (item_named U y)) (s.is_unknown U count (item_named U y)) =
      subst (λ g. Agrees U n.places g (s.entered U count (item_named U y)) (s.is_unknown U count (item_named U y))) e (agrees U apart table of (first_rule ∷ rules) n is items_once x y count has) in
      b.enters ∙ ap (λ z. Some (place_named U z)) (same_place_at r b.place q b.there at)

  unknown_gives : (x count : ℕ) (y : Item) → slice_get n.items x ≡ Some y → entered_of n.problem.items.items x count ≡ Unknown → s.is_unknown U count (item_named U y) ≡ true
  unknown_gives x count y has e =
      let b : (s.entered U count (item_named U y) ≡ None) × (s.is_unknown U count (item_named U y) ≡ true) =
      subst (λ g. Agrees U n.places g (s.entered U count (item_named U y)) (s.is_unknown U count (item_named U y))) e (agrees U apart table of (first_rule ∷ rules) n is items_once x y count has) in
      b.1

  holds_at : (a : ℕ) (p q : FlowPlace) (y : s.Item) → slice_get n.places a ≡ Some p → slice_get n.places a ≡ Some q → t.Holds U (place_named U p) y → t.Holds U (place_named U q) y
  holds_at a p q y d e h = subst (λ z. t.Holds U (place_named U z) y) (same_place_at a p q d e) h

  sound : (a x : ℕ) → v.Holds n.problem a x → IsSound a x
  sound a x (v.by_start {s = pair} c) =
      let i = is.starts pair c in
      record { place = i.0; at = i.3.place; item = i.1; has = i.3.item; holds = start_sound i.0 i.1 i.2 }
  sound a x (v.by_flow {e = e} c k) =
      let i = is.flows e c in
      let h = sound e.from x k in
      record { place = i.1; at = i.3.to; item = h.item; has = h.has; holds = t.may_flow (flow_stated i.0 i.1 i.2) (holds_at e.from h.place i.0 (item_named U h.item) h.at i.3.from h.holds) }
  sound a x (v.by_body {c = c} {x = z} {r = r} among_them k e j) =
      let i = is.applications c among_them in
      let f = sound c.operator z k in
      let h = sound r x j in
      record {
        place = Part i.2 i.3 0;
        at = i.5.place;
        item = h.item;
        has = h.has;
        holds = t.may_enter (application_stated i.0 i.1 i.2 i.3 i.4) (holds_at c.operator f.place i.0 (item_named U f.item) f.at i.5.operator f.holds)
            (body_enters z i.1 r f.item h.place f.has (ap (entered_of n.problem.items.items z) (sym i.5.arity) ∙ e) h.at) h.holds;
      }
  sound a x (v.by_unknown {c = c} {x = z} among_them k e) =
      let i = is.applications c among_them in
      let f = sound c.operator z k in
      record {
        place = Part i.2 i.3 0;
        at = i.5.place;
        item = Anything;
        has = is.zeroth;
        holds = t.may_give (application_stated i.0 i.1 i.2 i.3 i.4) (holds_at c.operator f.place i.0 (item_named U f.item) f.at i.5.operator f.holds)
            (unknown_gives z i.1 f.item f.has (ap (entered_of n.problem.items.items z) (sym i.5.arity) ∙ e));
      }

  -- ---- what is held in the program is held over numbers

  -- the number of a place of the program
  record IsPlace (a : ℕ) (P : s.Place) : Type 0 where
    place : FlowPlace
    at : slice_get n.places a ≡ Some place
    named : place_named U place ≡ P

  one_number : (a b : ℕ) (P : s.Place) → IsPlace a P → IsPlace b P → a ≡ b
  one_number a b P i j =
      let same : i.place ≡ j.place = same_place U apart i.place j.place (i.named ∙ sym j.named) in
      places_once a b j.place (i.at ∙ ap Some same) j.at

  record IsComplete (P : s.Place) (X : s.Item) : Type 0 where
    number : ℕ
    place : IsPlace number P
    held : ℕ
    item : Item
    has : slice_get n.items held ≡ Some item
    named : item_named U item ≡ X
    holds : v.Holds n.problem number held

  rule_of : (R : s.Rule) → IsRule U R → IsMade U rules R
  rule_of R r = made U rules R ((all R).1 r)

  stand : (r : FlowRule) → Contains rules r → Stands n r
  stand r c = is.stand r (contains_later first_rule r rules c)

  start_complete : (P : s.Place) (X : s.Item) (r : FlowRule) → Stands n r → rule_named U r ≡ s.holds P X → IsComplete P X
  start_complete P X (Holds p x) i e =
      let at : place_named U p ≡ P = cc in
      let is_it : item_named U x ≡ X = cc in
      record { number = i.0.place; place = record { place = p; at = i.2.place; named = at }; held = i.0.item; item = x; has = i.2.item; named = is_it; holds = v.by_start i.1 }
  start_complete P X (Flows p q) i e = absurd cc
  start_complete P X (Applies p count h l) i e = absurd cc

  flow_complete : (P Q : s.Place) (X : s.Item) (r : FlowRule) → Stands n r → rule_named U r ≡ s.flows P Q → IsComplete P X → IsComplete Q X
  flow_complete P Q X (Holds p x) i e h = absurd cc
  flow_complete P Q X (Flows p q) i e h =
      let from : place_named U p ≡ P = cc in
      let to : place_named U q ≡ Q = cc in
      let one : h.number ≡ i.0.from = one_number h.number i.0.from P h.place (record { place = p; at = i.2.from; named = from }) in
      record { number = i.0.to; place = record { place = q; at = i.2.to; named = to }; held = h.held; item = h.item; has = h.has; named = h.named; holds = v.by_flow i.1 (subst (λ a. v.Holds n.problem a h.held) one h.holds) }
  flow_complete P Q X (Applies p count g l) i e h = absurd cc

  -- an application over numbers that stands for one of the program
  record IsApplied (P : s.Place) (count : ℕ) (home : Atom) (label : ℕ) : Type 0 where
    application : Application
    there : Contains n.problem.applications.items application
    operator : IsPlace application.operator P
    arity : application.arity ≡ count
    place : IsPlace application.place (s.part home label 0)

  applied : (P : s.Place) (count : ℕ) (home : Atom) (label : ℕ) (r : FlowRule) → Stands n r → rule_named U r ≡ s.applies P count home label → IsApplied P count home label
  applied P count home label (Holds p x) i e = absurd cc
  applied P count home label (Flows p q) i e = absurd cc
  applied P count home label (Applies p k h l) i e =
      let at : place_named U p ≡ P = cc in
      let many : k ≡ count = cc in
      let named : name_of U h ≡ home = cc in
      let labelled : l ≡ label = cc in
      record {
        application = i.0;
        there = i.1;
        operator = record { place = p; at = i.2.operator; named = at };
        arity = i.2.arity ∙ many;
        place = record { place = Part h l 0; at = i.2.place; named = ap (λ z. s.part z l 0) named ∙ ap (λ z. s.part home z 0) labelled };
      }

  applied_by : (P : s.Place) (count : ℕ) (home : Atom) (label : ℕ) → IsRule U (s.applies P count home label) → IsApplied P count home label
  applied_by P count home label r = let m = rule_of (s.applies P count home label) r in applied P count home label m.rule (stand m.rule m.there) m.named

  agrees_named : (x count : ℕ) (y : Item) (Y : s.Item) → slice_get n.items x ≡ Some y → item_named U y ≡ Y → Agrees U n.places (entered_of n.problem.items.items x count) (s.entered U count Y) (s.is_unknown U count Y)
  agrees_named x count y Y has e = subst (λ z. Agrees U n.places (entered_of n.problem.items.items x count) (s.entered U count z) (s.is_unknown U count z)) e (agrees U apart table of (first_rule ∷ rules) n is items_once x y count has)

  -- where the program's item enters a function, the number's does
  record IsEntered (x count : ℕ) (Q : s.Place) : Type 0 where
    body : ℕ
    gives : entered_of n.problem.items.items x count ≡ Body body
    place : IsPlace body Q

  entered_by : (x count : ℕ) (Q : s.Place) (result : Option s.Place) (unknown : Bool) (g : Gives) → entered_of n.problem.items.items x count ≡ g → Agrees U n.places g result unknown → result ≡ Some Q → IsEntered x count Q
  entered_by x count Q result unknown Nothing e a r = let none : None ≡ Some Q = sym a.0 ∙ r in absurd cc
  entered_by x count Q result unknown (Body b) e a r =
      let i : IsBody U n.places b result unknown = a in
      let same : Some (place_named U i.place) ≡ Some Q = sym i.enters ∙ r in
      let named : place_named U i.place ≡ Q = cc in
      record { body = b; gives = e; place = record { place = i.place; at = i.there; named = named } }
  entered_by x count Q result unknown Unknown e a r = let none : None ≡ Some Q = sym a.0 ∙ r in absurd cc

  unknown_by : (x count : ℕ) (result : Option s.Place) (unknown : Bool) (g : Gives) → entered_of n.problem.items.items x count ≡ g → Agrees U n.places g result unknown → unknown ≡ true
      → entered_of n.problem.items.items x count ≡ Unknown
  unknown_by x count result unknown Nothing e a u = absurd (true≢false (sym u ∙ a.1))
  unknown_by x count result unknown (Body b) e a u = let i : IsBody U n.places b result unknown = a in absurd (true≢false (sym u ∙ i.is_known))
  unknown_by x count result unknown Unknown e a u = e

  enter_complete : (P Q : s.Place) (count : ℕ) (home : Atom) (label : ℕ) (X Y : s.Item) → IsRule U (s.applies P count home label) → IsComplete P X → s.entered U count X ≡ Some Q → IsComplete Q Y
      → IsComplete (s.part home label 0) Y
  enter_complete P Q count home label X Y r f e h =
      let c = applied_by P count home label r in
      let i = entered_by f.held count Q (s.entered U count X) (s.is_unknown U count X) (entered_of n.problem.items.items f.held count) refl (agrees_named f.held count f.item X f.has f.named) e in
      record {
        number = c.application.place;
        place = c.place;
        held = h.held;
        item = h.item;
        has = h.has;
        named = h.named;
        holds = v.by_body c.there (subst (λ a. v.Holds n.problem a f.held) (one_number f.number c.application.operator P f.place c.operator) f.holds)
            (ap (entered_of n.problem.items.items f.held) c.arity ∙ i.gives) (subst (λ a. v.Holds n.problem a h.held) (one_number h.number i.body Q h.place i.place) h.holds);
      }

  give_complete : (P : s.Place) (count : ℕ) (home : Atom) (label : ℕ) (X : s.Item) → IsRule U (s.applies P count home label) → IsComplete P X → s.is_unknown U count X ≡ true → IsComplete (s.part home label 0) s.anything
  give_complete P count home label X r f e =
      let c = applied_by P count home label r in
      let i = unknown_by f.held count (s.entered U count X) (s.is_unknown U count X) (entered_of n.problem.items.items f.held count) refl (agrees_named f.held count f.item X f.has f.named) e in
      record {
        number = c.application.place;
        place = c.place;
        held = 0;
        item = Anything;
        has = is.zeroth;
        named = refl;
        holds = v.by_unknown c.there (subst (λ a. v.Holds n.problem a f.held) (one_number f.number c.application.operator P f.place c.operator) f.holds) (ap (entered_of n.problem.items.items f.held) c.arity ∙ i);
      }

  complete : (P : s.Place) (X : s.Item) → t.Holds U P X → IsComplete P X
  complete P X t.may_any = start_complete s.anywhere s.anything first_rule (is.stand first_rule (contains_first first_rule rules)) refl
  complete P X (t.may_hold r) = let m = rule_of (s.holds P X) r in start_complete P X m.rule (stand m.rule m.there) m.named
  complete P X (t.may_flow {p = O} r k) = let m = rule_of (s.flows O P) r in flow_complete O P X m.rule (stand m.rule m.there) m.named (complete O X k)
  complete P X (t.may_enter {p = O} {q = Q} {n = count} {home = home} {label = label} {x = Z} r k e j) = enter_complete O Q count home label Z X r (complete O Z k) e (complete Q X j)
  complete P X (t.may_give {p = O} {n = count} {home = home} {label = label} {x = Z} r k e) = give_complete O count home label Z r (complete O Z k) e

  -- ---- both ways

  pub are_sets : (held : HeldNumbers) → held.places ≡ n.places → held.items ≡ n.items → ((a x : ℕ) → Leads held.sets a x ↔ v.Holds n.problem a x) → AreSetsOf U held
  are_sets held ps xs solved = record { known = known; exact = λ p x. (is_held p x, holds_it p x) }
    where
      known : (p : FlowPlace) (x : ℕ) → HoldsNumber held p x → (y : Item) × (slice_get held.items x ≡ Some y)
      known p x i = let h = sound i.0 x ((solved i.0 x).0 i.2) in (h.item, ap (λ l. slice_get l x) xs ∙ h.has)

      is_held : (p : FlowPlace) (x : s.Item) → IsHeld U held p x → t.Holds U (place_named U p) x
      is_held p x i =
          let h = sound i.there.0 i.number ((solved i.there.0 i.number).0 i.there.2) in
          let at : slice_get n.places i.there.0 ≡ Some p = sym (ap (λ l. slice_get l i.there.0) ps) ∙ i.there.1 in
          let item : h.item ≡ i.item = same_item_at i.number h.item i.item h.has (sym (ap (λ l. slice_get l i.number) xs) ∙ i.at) in
          subst (t.Holds U (place_named U p)) (ap (item_named U) item ∙ i.named) (holds_at i.there.0 h.place p (item_named U h.item) h.at at h.holds)

      holds_it : (p : FlowPlace) (x : s.Item) → t.Holds U (place_named U p) x → IsHeld U held p x
      holds_it p x h =
          let c = complete (place_named U p) x h in
          let same : c.place.place ≡ p = same_place U apart c.place.place p c.place.named in
          record {
            number = c.held;
            there = (c.number, ap (λ l. slice_get l c.number) ps ∙ c.place.at ∙ ap Some same, (solved c.number c.held).1 c.holds);
            item = c.item;
            at = ap (λ l. slice_get l c.held) xs ∙ c.has;
            named = c.named;
          }
