-- Numberings of rules: what a step keeps, and what it adds.
use Rattle.std.proofs.Common.{◌≡◌, ℕ, zero, suc, ◌+◌, ◌⊎◌, inl, inr, List, [], ◌∷◌, ◌++◌, length, Some, None, Contains, slice_get, refl, sym, ap, ◌∙◌, subst}
use Rattle.std.proofs.lemmas.List.{length_push}
use Rattle.std.proofs.lemmas.List.Elements.{Contains-append_left, Contains-push, Contains-push_cases}
use Rattle.std.specs.Global.{Vec}
use Rattle.type_kinds.proofs.Lists.{contains_none, get_last}
use Rattle.fun_flow_places.specs.Arities.{arity_of}
use Rattle.fun_flow_places.specs.declared.places.FlowPlace.{FlowPlace}
use Rattle.fun_flow_places.specs.declared.places.FlowPlace.TheVariants.{Part, Returned}
use Rattle.fun_flow_places.specs.declared.places.Item.{Item}
use Rattle.fun_flow_places.specs.declared.places.Item.TheVariants.{Anything, Closure, External}
use Rattle.fun_flow_places.specs.declared.places.FlowRule.{FlowRule}
use Rattle.fun_flow_places.specs.declared.places.FlowRule.TheVariants.{Holds, Flows, Applies}
use Rattle.fun_flow_places.specs.declared.table.FoundFunction.{FoundFunction}
use Rattle.fun_flow_places.specs.declared.table.FoundFunction.TheVariants.{BuiltIn, Outside, Hidden, Exported}
use Rattle.fun_flow_places.specs.declared.table.ModuleTable.{ModuleTable}
use Rattle.fun_flow_solver.specs.declared.problem.Application.{Application}
use Rattle.fun_flow_solver.specs.declared.problem.Edge.{Edge}
use Rattle.fun_flow_solver.specs.declared.problem.Gives.{Gives}
use Rattle.fun_flow_solver.specs.declared.problem.Gives.TheVariants.{Nothing, Body, Unknown}
use Rattle.fun_flow_solver.specs.declared.problem.Known.{Known}
use Rattle.fun_flow_solver.specs.declared.problem.Pair.{Pair}
use Rattle.fun_flow_numbers.specs.declared.numbering.RuleNumbering.{RuleNumbering}
use Rattle.fun_flow_numbers.specs.steps.Numbering.{AddsItem, GivesFor, GivesFound, IsApplication, IsFlow, IsKnown, IsNumbering, IsReturned, IsStart, Keeps, Stands}
use Rattle.fun_flow_numbers.specs.steps.Numbers.{KeepsNumbers}

-- ---- lists

pub push_keeps : {A : Type 0} (xs : List A) (y : A) → KeepsNumbers xs (xs ++ y ∷ [])
push_keeps [] y i z e = absurd cc
push_keeps (x ∷ xs) y zero z e = e
push_keeps (x ∷ xs) y (suc i) z e = push_keeps xs y i z e

pushed_get : {A : Type 0} (xs : List A) (y : A) (i : ℕ) (z : A) → slice_get (xs ++ y ∷ []) i ≡ Some z → (slice_get xs i ≡ Some z) ⊎ ((i ≡ length xs) × (y ≡ z))
pushed_get [] y zero z e = inr (refl, cc)
pushed_get [] y (suc i) z e = absurd cc
pushed_get (x ∷ xs) y zero z e = inl e
pushed_get (x ∷ xs) y (suc i) z e = elim (pushed_get xs y i z e) [ inl h ↦ inl h | inr h ↦ inr (ap suc h.0, h.1) ]

-- ---- what items give

returned_grows : (ps qs : List FlowPlace) (h l : ℕ) (g : Gives) → KeepsNumbers ps qs → IsReturned ps h l g → IsReturned qs h l g
returned_grows ps qs h l Nothing k i = i
returned_grows ps qs h l (Body r) k i = k r (Returned h l) i
returned_grows ps qs h l Unknown k i = i

found_grows : (ps qs : List FlowPlace) (f : FoundFunction) (g : Gives) → KeepsNumbers ps qs → GivesFound ps f g → GivesFound qs f g
found_grows ps qs BuiltIn g k i = i
found_grows ps qs Outside g k i = i
found_grows ps qs Hidden g k i = i
found_grows ps qs (Exported h None) g k i = i
found_grows ps qs (Exported h (Some l)) g k i = returned_grows ps qs h l g k i

module _ (table : ModuleTable) where
  gives_grows : (ps qs : List FlowPlace) (y : Item) (g : Gives) → KeepsNumbers ps qs → GivesFor table ps y g → GivesFor table qs y g
  gives_grows ps qs Anything g k i = i
  gives_grows ps qs (Closure h l n) g k i = returned_grows ps qs h l g k i
  gives_grows ps qs (External home f) g k i = (i.0, i.1, found_grows ps qs i.0 g k i.2)

  known_grows : (ps qs : List FlowPlace) (ks js : List Known) (x : ℕ) (y : Item) → KeepsNumbers ps qs → KeepsNumbers ks js → IsKnown table ps ks x y → IsKnown table qs js x y
  known_grows ps qs ks js x y p k i = record { gives = i.gives; known = k x (record { arity = arity_of y; gives = i.gives }) i.known; so = gives_grows ps qs y i.gives p i.so }

  -- ---- numberings that grow

  module _ (old new : RuleNumbering) (places : KeepsNumbers old.places new.places) (items : KeepsNumbers old.items new.items) where
    start_grows : (s : Pair) (p : FlowPlace) (x : Item) → IsStart old.places old.items s p x → IsStart new.places new.items s p x
    start_grows s p x i = record { place = places s.place p i.place; item = items s.item x i.item }

    flow_grows : (e : Edge) (p q : FlowPlace) → IsFlow old.places e p q → IsFlow new.places e p q
    flow_grows e p q i = record { from = places e.from p i.from; to = places e.to q i.to }

    application_grows : (c : Application) (p : FlowPlace) (n h l : ℕ) → IsApplication old.places c p n h l → IsApplication new.places c p n h l
    application_grows c p n h l i = record { operator = places c.operator p i.operator; arity = i.arity; place = places c.place (Part h l 0) i.place }

    module _ (starts : new.problem.starts ≡ old.problem.starts) (flows : new.problem.flows ≡ old.problem.flows) (applications : new.problem.applications ≡ old.problem.applications) where
      stands_grows : (r : FlowRule) → Stands old r → Stands new r
      stands_grows (Holds p x) i = (i.0, subst (λ v. Contains v.items i.0) (sym starts) i.1, start_grows i.0 p x i.2)
      stands_grows (Flows p q) i = (i.0, subst (λ v. Contains v.items i.0) (sym flows) i.1, flow_grows i.0 p q i.2)
      stands_grows (Applies p n h l) i = (i.0, subst (λ v. Contains v.items i.0) (sym applications) i.1, application_grows i.0 p n h l i.2)

      grows : (rules : List FlowRule) → length new.problem.items.items ≡ length new.items
          → ((x : ℕ) (y : Item) → slice_get new.items x ≡ Some y → IsKnown table new.places new.problem.items.items x y) → IsNumbering table rules old → IsNumbering table rules new
      grows rules counted known is =
          record {
            zeroth = items 0 Anything is.zeroth;
            counted = counted;
            known = known;
            stand = λ r c. stands_grows r (is.stand r c);
            starts = λ s c. let i = is.starts s (subst (λ v. Contains v.items s) starts c) in (i.0, i.1, i.2, start_grows s i.0 i.1 i.3);
            flows = λ e c. let i = is.flows e (subst (λ v. Contains v.items e) flows c) in (i.0, i.1, i.2, flow_grows e i.0 i.1 i.3);
            applications = λ a c. let i = is.applications a (subst (λ v. Contains v.items a) applications c) in (i.0, i.1, i.2, i.3, i.4, application_grows a i.0 i.1 i.2 i.3 i.5);
          }

  -- ---- steps

  pub numbering_kept : (rules : List FlowRule) (old new : RuleNumbering) → Keeps old new → IsNumbering table rules old → IsNumbering table rules new
  numbering_kept rules old new k is =
      grows old new k.places (λ i x e. ap (λ l. slice_get l i) k.items ∙ e) (ap (λ z. z.starts) k.problem) (ap (λ z. z.flows) k.problem) (ap (λ z. z.applications) k.problem) rules
      (ap (λ z. length z.items.items) k.problem ∙ is.counted ∙ sym (ap length k.items))
      (λ x y e. known_grows old.places new.places old.problem.items.items new.problem.items.items x y k.places (λ i z f. ap (λ v. slice_get v.items.items i) k.problem ∙ f) (is.known x y (ap (λ l. slice_get l x) (sym k.items) ∙ e)))
      is

  pub numbering_item : (rules : List FlowRule) (old mid new : RuleNumbering) (y : Item) (n : ℕ) (g : Gives) → Keeps old mid → GivesFor table mid.places y g → n ≡ arity_of y
      → AddsItem mid new y n g → IsNumbering table rules old → IsNumbering table rules new
  numbering_item rules old mid new y n g kept gives arity a before =
      let is : IsNumbering table rules mid = numbering_kept rules old mid kept before in
      let k : Known = record { arity = n; gives = g } in
      let of_arity : ℕ → Known = λ i. record { arity = i; gives = g } in
      let places : KeepsNumbers mid.places new.places = λ i x e. ap (λ l. slice_get l i) a.places ∙ e in
      let items : KeepsNumbers mid.items new.items = λ i x e. ap (λ l. slice_get l i) a.items ∙ push_keeps mid.items y i x e in
      let known : KeepsNumbers mid.problem.items.items new.problem.items.items = λ i x e. ap (λ l. slice_get l i) a.known ∙ push_keeps mid.problem.items.items k i x e in
      let new_one : IsKnown table new.places new.problem.items.items (length mid.items) y = record {
        gives = g;
        known = ap (λ l. slice_get l (length mid.items)) a.known ∙ ap (slice_get (mid.problem.items.items ++ k ∷ [])) (sym is.counted) ∙ get_last mid.problem.items.items k ∙ ap (λ i. Some (of_arity i)) arity;
        so = gives_grows mid.places new.places y g places gives;
      } in
      grows mid new places items a.starts a.flows a.applications rules
      (ap length a.known ∙ length_push mid.problem.items.items k ∙ ap (λ l. l + 1) is.counted ∙ sym (ap length a.items ∙ length_push mid.items y))
      (λ x z e. elim (pushed_get mid.items y x z (ap (λ l. slice_get l x) (sym a.items) ∙ e)) [
        | inl before_it ↦ known_grows mid.places new.places mid.problem.items.items new.problem.items.items x z places known (is.known x z before_it)
        | inr it ↦ subst (λ i. IsKnown table new.places new.problem.items.items i z) (sym it.0) (subst (IsKnown table new.places new.problem.items.items (length mid.items)) it.1 new_one)
      ])
      is

  -- the first item, where nothing was met
  pub numbering_begins : (old new : RuleNumbering) → old.items ≡ [] → old.problem.items.items ≡ [] → old.problem.starts.items ≡ [] → old.problem.flows.items ≡ []
      → old.problem.applications.items ≡ [] → AddsItem old new Anything 0 Unknown → IsNumbering table [] new
  numbering_begins old new items known starts flows applications a =
      let all_items : new.items ≡ Anything ∷ [] = a.items ∙ ap (λ l. l ++ Anything ∷ []) items in
      let k : Known = record { arity = 0; gives = Unknown } in
      let all_known : new.problem.items.items ≡ k ∷ [] = a.known ∙ ap (λ l. l ++ k ∷ []) known in
      record {
        zeroth = ap (λ l. slice_get l 0) all_items;
        counted = ap length all_known ∙ sym (ap length all_items);
        known = λ x y e. subst (λ l. IsKnown table new.places l x y) (sym all_known) (only x y (ap (λ l. slice_get l x) (sym all_items) ∙ e));
        stand = λ r c. absurd (contains_none r c);
        starts = λ s c. absurd (contains_none s (subst (λ l. Contains l s) (ap (λ v. v.items) a.starts ∙ starts) c));
        flows = λ e c. absurd (contains_none e (subst (λ l. Contains l e) (ap (λ v. v.items) a.flows ∙ flows) c));
        applications = λ c h. absurd (contains_none c (subst (λ l. Contains l c) (ap (λ v. v.items) a.applications ∙ applications) h));
      }
    where
      only : (x : ℕ) (y : Item) → slice_get (Anything ∷ []) x ≡ Some y → IsKnown table new.places (record { arity = 0; gives = Unknown } ∷ []) x y
      only zero y e = let is : Anything ≡ y = cc in subst (IsKnown table new.places (record { arity = 0; gives = Unknown } ∷ []) 0) is (record { gives = Unknown; known = refl; so = refl })
      only (suc x) y e = absurd cc

  -- ---- rules that are added

  module _ (rules : List FlowRule) (n : RuleNumbering) (is : IsNumbering table rules n) where
    -- what was among the rules is among them with one more
    more : (r q : FlowRule) → Contains rules q → Contains (rules ++ r ∷ []) q
    more r q c = Contains-append_left rules (r ∷ []) q c

    abbrev with_starts : Vec Pair → RuleNumbering
    with_starts v = record n { problem = record n.problem { starts = v } }

    abbrev with_flows : Vec Edge → RuleNumbering
    with_flows v = record n { problem = record n.problem { flows = v } }

    abbrev with_applications : Vec Application → RuleNumbering
    with_applications v = record n { problem = record n.problem { applications = v } }

    module _ (v : Vec Pair) (s : Pair) (p : FlowPlace) (x : Item) (pushed : v.items ≡ n.problem.starts.items ++ s ∷ []) (here : IsStart n.places n.items s p x) where
      start_stands : (r : FlowRule) → Stands n r → Stands (with_starts v) r
      start_stands (Holds q y) i = (i.0, subst (λ l. Contains l i.0) (sym pushed) (Contains-append_left n.problem.starts.items (s ∷ []) i.0 i.1), i.2)
      start_stands (Flows q w) i = i
      start_stands (Applies q c h l) i = i

      pub start_added : IsNumbering table (rules ++ Holds p x ∷ []) (with_starts v)
      start_added =
          record {
            zeroth = is.zeroth;
            counted = is.counted;
            known = is.known;
            stand = λ r c. elim (Contains-push_cases rules (Holds p x) r c) [
              | inl old ↦ start_stands r (is.stand r old)
              | inr new ↦ subst (Stands (with_starts v)) new (s, subst (λ l. Contains l s) (sym pushed) (Contains-push n.problem.starts.items s), here)
            ];
            starts = λ t c. elim (Contains-push_cases n.problem.starts.items s t (subst (λ l. Contains l t) pushed c)) [
              | inl old ↦ (let i = is.starts t old in (i.0, i.1, more (Holds p x) (Holds i.0 i.1) i.2, i.3))
              | inr new ↦ (p, x, Contains-push rules (Holds p x), subst (λ z. IsStart n.places n.items z p x) new here)
            ];
            flows = λ e c. let i = is.flows e c in (i.0, i.1, more (Holds p x) (Flows i.0 i.1) i.2, i.3);
            applications = λ a c. let i = is.applications a c in (i.0, i.1, i.2, i.3, more (Holds p x) (Applies i.0 i.1 i.2 i.3) i.4, i.5);
          }

    module _ (v : Vec Edge) (s : Edge) (p q : FlowPlace) (pushed : v.items ≡ n.problem.flows.items ++ s ∷ []) (here : IsFlow n.places s p q) where
      flow_stands : (r : FlowRule) → Stands n r → Stands (with_flows v) r
      flow_stands (Holds w y) i = i
      flow_stands (Flows w z) i = (i.0, subst (λ l. Contains l i.0) (sym pushed) (Contains-append_left n.problem.flows.items (s ∷ []) i.0 i.1), i.2)
      flow_stands (Applies w c h l) i = i

      pub flow_added : IsNumbering table (rules ++ Flows p q ∷ []) (with_flows v)
      flow_added =
          record {
            zeroth = is.zeroth;
            counted = is.counted;
            known = is.known;
            stand = λ r c. elim (Contains-push_cases rules (Flows p q) r c) [
              | inl old ↦ flow_stands r (is.stand r old)
              | inr new ↦ subst (Stands (with_flows v)) new (s, subst (λ l. Contains l s) (sym pushed) (Contains-push n.problem.flows.items s), here)
            ];
            starts = λ t c. let i = is.starts t c in (i.0, i.1, more (Flows p q) (Holds i.0 i.1) i.2, i.3);
            flows = λ e c. elim (Contains-push_cases n.problem.flows.items s e (subst (λ l. Contains l e) pushed c)) [
              | inl old ↦ (let i = is.flows e old in (i.0, i.1, more (Flows p q) (Flows i.0 i.1) i.2, i.3))
              | inr new ↦ (p, q, Contains-push rules (Flows p q), subst (λ z. IsFlow n.places z p q) new here)
            ];
            applications = λ a c. let i = is.applications a c in (i.0, i.1, i.2, i.3, more (Flows p q) (Applies i.0 i.1 i.2 i.3) i.4, i.5);
          }

    module _ (v : Vec Application) (s : Application) (p : FlowPlace) (count h l : ℕ) (pushed : v.items ≡ n.problem.applications.items ++ s ∷ []) (here : IsApplication n.places s p count h l) where
      application_stands : (r : FlowRule) → Stands n r → Stands (with_applications v) r
      application_stands (Holds w y) i = i
      application_stands (Flows w z) i = i
      application_stands (Applies w c g k) i = (i.0, subst (λ z. Contains z i.0) (sym pushed) (Contains-append_left n.problem.applications.items (s ∷ []) i.0 i.1), i.2)

      pub application_added : IsNumbering table (rules ++ Applies p count h l ∷ []) (with_applications v)
      application_added =
          record {
            zeroth = is.zeroth;
            counted = is.counted;
            known = is.known;
            stand = λ r c. elim (Contains-push_cases rules (Applies p count h l) r c) [
              | inl old ↦ application_stands r (is.stand r old)
              | inr new ↦ subst (Stands (with_applications v)) new (s, subst (λ z. Contains z s) (sym pushed) (Contains-push n.problem.applications.items s), here)
            ];
            starts = λ t c. let i = is.starts t c in (i.0, i.1, more (Applies p count h l) (Holds i.0 i.1) i.2, i.3);
            flows = λ e c. let i = is.flows e c in (i.0, i.1, more (Applies p count h l) (Flows i.0 i.1) i.2, i.3);
            applications = λ a c. elim (Contains-push_cases n.problem.applications.items s a (subst (λ z. Contains z a) pushed c)) [
              | inl old ↦ (let i = is.applications a old in (i.0, i.1, i.2, i.3, more (Applies p count h l) (Applies i.0 i.1 i.2 i.3) i.4, i.5))
              | inr new ↦ (p, count, h, l, Contains-push rules (Applies p count h l), subst (λ z. IsApplication n.places z p count h l) new here)
            ];
          }
