-- What a function has taken in it keeps: round by round, one function of a state at a time.
use Rattle.std.proofs.Common.{◌≡◌, ℕ, suc, ◌≤◌, ◌⊎◌, inl, inr, Bool, true, false, cond, List, [], ◌∷◌, ◌++◌, Option, Some, None, refl, sym, ap, ap₂, ◌∙◌, subst, le-ltb, ltb-false, arith}
use Rattle.std.specs.Prelude.{IsTrue, ◌↔◌, nat_lt}
use Rattle.std.proofs.lemmas.Option.{same_Some}
use Rattle.type_lattice.specs.Types.{Type4, Below, any, join}
use Rattle.type_lattice.specs.Inclusion.{is_same}
use Rattle.cons_tree.specs.Facts.{TypeFacts}
use Rattle.module_flow_state.specs.declared.states.FlowFun.{FlowFun}
use Rattle.module_flow_state.specs.declared.states.Contribution.{Contribution}
use Rattle.module_flow_state.specs.declared.states.Contribution.TheVariants.{Enters, Returns}
use Rattle.module_flow_state.specs.States.{anys, entered_with, joined_rounds, widened_one, widened_parameters, widened_result}
use Rattle.module_flow_calls.specs.TypeLists.{are_same, joins}
use Rattle.module_flow_state.specs.steps.Kept.{Absorbs, Has, HasAll, IsWide, Wide, next_one, taking, taking_all}
use Rattle.module_flow_state.proofs.Widening.{anys_anys, same_types}

-- what joins do
pub record JoinFacts : Type 0 where
  pub same : (s t : Type4) → IsTrue (is_same s t) ↔ (s ≡ t)
  pub itself : (t : Type4) → join t t ≡ t
  pub again : (s t : Type4) → join (join s t) t ≡ join s t
  pub still : (s t u : Type4) → join s t ≡ s → join (join s u) t ≡ join s u

pub join_facts : ((s t : Type4) → IsTrue (is_same s t) ↔ (s ≡ t)) → TypeFacts → JoinFacts
join_facts same F = record {
  same = same;
  itself = λ t. F.same (join t t) t (F.least t t t (λ v h. h) (λ v h. h)) (F.left t t);
  again = λ s t. F.same (join (join s t) t) (join s t) (F.least (join s t) t (join s t) (λ v h. h) (F.right s t)) (F.left (join s t) t);
  still = λ s t u e.
      let below : Below t s = subst (Below t) e (F.right s t) in
      F.same (join (join s u) t) (join s u) (F.least (join s u) t (join s u) (λ v h. h) (λ v h. F.left s u v (below v h))) (F.left (join s u) t);
}

module _ (F : JoinFacts) where
  joins_itself : (ts : List Type4) → joins ts ts ≡ ts
  joins_itself [] = refl
  joins_itself (t ∷ ts) = ap₂ (λ x xs. x ∷ xs) (F.itself t) (joins_itself ts)

  joins_again : (us ts : List Type4) → joins (joins us ts) ts ≡ joins us ts
  joins_again [] ts = refl
  joins_again (u ∷ us) [] = refl
  joins_again (u ∷ us) (t ∷ ts) = ap₂ (λ x xs. x ∷ xs) (F.again u t) (joins_again us ts)

  joins_still : (us ts ws : List Type4) → joins us ts ≡ us → joins (joins us ws) ts ≡ joins us ws
  joins_still [] ts ws e = refl
  joins_still (u ∷ us) [] ws e = absurd cc
  joins_still (u ∷ us) (t ∷ ts) [] e = refl
  joins_still (u ∷ us) (t ∷ ts) (w ∷ ws) e =
      let h : join u t ≡ u = cc in
      let r : joins us ts ≡ us = cc in
      ap₂ (λ x xs. x ∷ xs) (F.still u t w h) (joins_still us ts ws r)

  -- ---- contributions one after another

  entered_again : (p : Option (List Type4)) (ts : List Type4) → entered_with (entered_with p ts) ts ≡ entered_with p ts
  entered_again None ts = ap Some (joins_itself ts)
  entered_again (Some us) ts = ap Some (joins_again us ts)

  entered_still : (p : Option (List Type4)) (ts ws : List Type4) → entered_with p ts ≡ p → entered_with (entered_with p ws) ts ≡ entered_with p ws
  entered_still None ts ws e = absurd cc
  entered_still (Some us) ts ws e = ap Some (joins_still us ts ws (same_Some _ _ e))

  absorbs_at_once : (f : FlowFun) (g : Contribution) → Absorbs (taking f g) g
  absorbs_at_once f (Enters l ts) = entered_again f.params ts
  absorbs_at_once f (Returns l t) = F.again f.result t

  absorbs_still : (f : FlowFun) (h g : Contribution) → Absorbs f g → Absorbs (taking f h) g
  absorbs_still f (Enters k ws) (Enters l ts) a = entered_still f.params ts ws a
  absorbs_still f (Returns k w) (Enters l ts) a = a
  absorbs_still f (Enters k ws) (Returns l t) a = a
  absorbs_still f (Returns k w) (Returns l t) a = F.still f.result t w a

  absorbs_later : (f : FlowFun) (hs : List Contribution) (g : Contribution) → Absorbs f g → Absorbs (taking_all f hs) g
  absorbs_later f [] g a = a
  absorbs_later f (h ∷ hs) g a = absorbs_later (taking f h) hs g (absorbs_still f h g a)

  absorbed : (f : FlowFun) (g : Contribution) → Absorbs f g → taking f g ≡ f
  absorbed f (Enters l ts) a = λ i. record { label = f.label; name = f.name; params = a i; result = f.result }
  absorbed f (Returns l t) a = λ i. record { label = f.label; name = f.name; params = f.params; result = a i }

  pub taking_both : (f : FlowFun) (gs hs : List Contribution) → taking_all f (gs ++ hs) ≡ taking_all (taking_all f gs) hs
  taking_both f [] hs = refl
  taking_both f (g ∷ gs) hs = taking_both (taking f g) gs hs

  -- ---- what a round leaves of it

  wide_parameters : (p : Option (List Type4)) (n : Option (List Type4)) → IsWide p → IsWide (widened_parameters p n)
  wide_parameters None n w = absurd w
  wide_parameters (Some us) None w = w
  wide_parameters (Some us) (Some ws) w = by (are_same us ws)
    where
      by : (b : Bool) → IsWide (Some (cond b us (anys us)))
      by true = w
      by false = anys_anys us

  wide_result : (r n : Type4) → r ≡ any → widened_result r n ≡ any
  wide_result r n e = by (is_same r n)
    where
      by : (b : Bool) → cond b r any ≡ any
      by true = e
      by false = refl

  wide_still : (f n : FlowFun) (g : Contribution) → Wide f g → Wide (widened_one f n) g
  wide_still f n (Enters l ts) w = wide_parameters f.params n.params w
  wide_still f n (Returns l t) w = wide_result f.result n.result w

  -- parameters that had taken in what a late round gives to them
  late_parameters : (p n : Option (List Type4)) (ts : List Type4) → entered_with n ts ≡ n → (entered_with (widened_parameters p n) ts ≡ widened_parameters p n) ⊎ IsWide (widened_parameters p n)
  late_parameters p None ts a = absurd cc
  late_parameters None (Some ws) ts a = inr (anys_anys ws)
  late_parameters (Some us) (Some ws) ts a = by (are_same us ws) refl
    where
      by : (b : Bool) → are_same us ws ≡ b → (entered_with (Some (cond b us (anys us))) ts ≡ Some (cond b us (anys us))) ⊎ IsWide (Some (cond b us (anys us)))
      by true e = inl (subst (λ xs. entered_with (Some xs) ts ≡ Some xs) (sym (same_types F.same us ws e)) a)
      by false e = inr (anys_anys us)

  late_result : (r n t : Type4) → join n t ≡ n → (join (widened_result r n) t ≡ widened_result r n) ⊎ (widened_result r n ≡ any)
  late_result r n t a = by (is_same r n) refl
    where
      by : (b : Bool) → is_same r n ≡ b → (join (cond b r any) t ≡ cond b r any) ⊎ (cond b r any ≡ any)
      by true e = inl (subst (λ x. join x t ≡ x) (sym ((F.same r n).0 e)) a)
      by false e = inr refl

  late_has : (f n : FlowFun) (g : Contribution) → Absorbs n g → Absorbs (widened_one f n) g ⊎ Wide (widened_one f n) g
  late_has f n (Enters l ts) a = late_parameters f.params n.params ts a
  late_has f n (Returns l t) a = late_result f.result n.result t a

  is_late : (k : ℕ) → nat_lt k joined_rounds ≡ false → joined_rounds ≤ k
  is_late k e = ltb-false k joined_rounds e

  -- after the round of this number
  has_next : (k : ℕ) (f n : FlowFun) (g : Contribution) → Absorbs n g → Has (suc k) (next_one k f n) g
  has_next k f n g a = by (nat_lt k joined_rounds) refl
    where
      late : joined_rounds ≤ k → Absorbs (widened_one f n) g ⊎ Wide (widened_one f n) g → Has (suc k) (widened_one f n) g
      late h (inl b) = inl b
      late h (inr w) = inr (omega arith, w)

      by : (b : Bool) → nat_lt k joined_rounds ≡ b → Has (suc k) (cond b n (widened_one f n)) g
      by true e = inl a
      by false e = late (is_late k e) (late_has f n g a)

  absorbs_all : (k : ℕ) (f m : FlowFun) (gs : List Contribution) (cs : List Contribution) → HasAll (suc k) (next_one k f (taking_all (taking_all m gs) cs)) gs
  absorbs_all k f m [] cs = tt
  absorbs_all k f m (g ∷ gs) cs = (
    has_next k f (taking_all (taking_all (taking m g) gs) cs) g (absorbs_later (taking_all (taking m g) gs) cs g (absorbs_later (taking m g) gs g (absorbs_at_once m g))),
    absorbs_all k f (taking m g) gs cs,
  )

  -- what it was given
  pub has_given : (k : ℕ) (f : FlowFun) (hs gs cs : List Contribution) → HasAll (suc k) (next_one k f (taking_all f (hs ++ (gs ++ cs)))) gs
  has_given k f hs gs cs =
      subst (λ n. HasAll (suc k) (next_one k f n) gs) (sym (taking_both f hs (gs ++ cs) ∙ taking_both (taking_all f hs) gs cs))
      (absorbs_all k f (taking_all f hs) gs cs)

  late_next : (k : ℕ) (f n : FlowFun) → joined_rounds ≤ k → next_one k f n ≡ widened_one f n
  late_next k f n h = ap (λ b. cond b n (widened_one f n)) (le-ltb k joined_rounds h)

  -- what it had
  has_still : (k : ℕ) (f : FlowFun) (hs : List Contribution) (g : Contribution) → Has k f g → Has (suc k) (next_one k f (taking_all f hs)) g
  has_still k f hs g (inl a) = has_next k f (taking_all f hs) g (absorbs_later f hs g a)
  has_still k f hs g (inr w) = inr (omega arith, subst (λ n. Wide n g) (sym (late_next k f (taking_all f hs) w.0)) (wide_still f (taking_all f hs) g w.1))

  pub has_all_still : (k : ℕ) (f : FlowFun) (hs gs : List Contribution) → HasAll k f gs → HasAll (suc k) (next_one k f (taking_all f hs)) gs
  has_all_still k f hs [] h = tt
  has_all_still k f hs (g ∷ gs) h = (has_still k f hs g h.0, has_all_still k f hs gs h.1)

  -- ---- a round without it

  same_result : (m n : FlowFun) (cs : List Contribution) → m.result ≡ n.result → (taking_all m cs).result ≡ (taking_all n cs).result
  same_result m n [] e = e
  same_result m n (Enters l ts ∷ cs) e = same_result (taking m (Enters l ts)) (taking n (Enters l ts)) cs e
  same_result m n (Returns l t ∷ cs) e = same_result (taking m (Returns l t)) (taking n (Returns l t)) cs (ap (λ r. join r t) e)

  same_params : (m n : FlowFun) (cs : List Contribution) → m.params ≡ n.params → (taking_all m cs).params ≡ (taking_all n cs).params
  same_params m n [] e = e
  same_params m n (Enters l ts ∷ cs) e = same_params (taking m (Enters l ts)) (taking n (Enters l ts)) cs (ap (λ p. entered_with p ts) e)
  same_params m n (Returns l t ∷ cs) e = same_params (taking m (Returns l t)) (taking n (Returns l t)) cs e

  wide_itself : (p n : Option (List Type4)) → IsWide p → widened_parameters p n ≡ p
  wide_itself None n w = absurd w
  wide_itself (Some us) None w = refl
  wide_itself (Some us) (Some ws) w = by (are_same us ws)
    where
      by : (b : Bool) → Some (cond b us (anys us)) ≡ Some us
      by true = refl
      by false = ap Some w

  widened_same : (f m n : FlowFun) → widened_parameters f.params m.params ≡ widened_parameters f.params n.params → widened_result f.result m.result ≡ widened_result f.result n.result → widened_one f m ≡ widened_one f n
  widened_same f m n p r = λ i. record { label = f.label; name = f.name; params = p i; result = r i }

  wide_skips : (f m : FlowFun) (g : Contribution) (cs : List Contribution) → Wide f g → widened_one f (taking_all (taking m g) cs) ≡ widened_one f (taking_all m cs)
  wide_skips f m (Enters l ts) cs w =
      let one = taking_all (taking m (Enters l ts)) cs in
      let other = taking_all m cs in
      widened_same f one other (wide_itself f.params one.params w ∙ sym (wide_itself f.params other.params w))
      (ap (widened_result f.result) (same_result (taking m (Enters l ts)) m cs refl))
  wide_skips f m (Returns l t) cs w =
      let one = taking_all (taking m (Returns l t)) cs in
      let other = taking_all m cs in
      widened_same f one other (ap (widened_parameters f.params) (same_params (taking m (Returns l t)) m cs refl))
      (wide_result f.result one.result w ∙ sym (wide_result f.result other.result w))

  skips_one : (k : ℕ) (f : FlowFun) (hs : List Contribution) (g : Contribution) (cs : List Contribution) → Has k f g → next_one k f (taking_all f (hs ++ g ∷ cs)) ≡ next_one k f (taking_all f (hs ++ cs))
  skips_one k f hs g cs h =
      ap (next_one k f) (taking_both f hs (g ∷ cs)) ∙ by h ∙ sym (ap (next_one k f) (taking_both f hs cs))
    where
      by : Has k f g → next_one k f (taking_all (taking (taking_all f hs) g) cs) ≡ next_one k f (taking_all (taking_all f hs) cs)
      by (inl a) = ap (λ n. next_one k f (taking_all n cs)) (absorbed (taking_all f hs) g (absorbs_later f hs g a))
      by (inr w) =
          late_next k f (taking_all (taking (taking_all f hs) g) cs) w.0
          ∙ wide_skips f (taking_all f hs) g cs w.1
          ∙ sym (late_next k f (taking_all (taking_all f hs) cs) w.0)

  pub skips : (k : ℕ) (f : FlowFun) (hs bs cs : List Contribution) → HasAll k f bs → next_one k f (taking_all f (hs ++ (bs ++ cs))) ≡ next_one k f (taking_all f (hs ++ cs))
  skips k f hs [] cs h = refl
  skips k f hs (b ∷ bs) cs h = skips_one k f hs b (bs ++ cs) h.0 ∙ skips k f hs bs cs h.1
