-- For each label, the round before which it last changed: what is noted, and what a state that took contributions has of the
-- others.
use Rattle.std.proofs.Common.{◌≡◌, ℕ, zero, suc, ◌+◌, ◌-◌, ◌<◌, ◌≤◌, ◌⊎◌, inl, inr, Bool, true, false, cond, nat_eq, List, [], ◌∷◌, ◌++◌, length, get_or}
use Rattle.std.proofs.Common.{set, drop, replicate, refl, sym, ap, ap₂, ◌∙◌, subst, eqb-true, eq-eqb, true≢false, length-append, le-ltb, lt-ltb, arith}
use Rattle.std.specs.Prelude.{IsTrue, ◌↔◌, Some, if◌then◌else◌, slice_get}
use Rattle.std.proofs.lemmas.List.{get_or-set_other, get_or-set_same}
use Rattle.std.proofs.lemmas.Option.{slice_get_read}
use Rattle.type_lattice.specs.Types.{Type4, any}
use Rattle.type_lattice.specs.Inclusion.{is_same}
use Rattle.module_flow_state.specs.declared.states.FlowFun.{FlowFun}
use Rattle.module_flow_state.specs.declared.states.Contribution.{Contribution}
use Rattle.module_flow_state.specs.declared.states.Contribution.TheVariants.{Enters, Returns}
use Rattle.module_flow_state.specs.States.{FlowState, changed, entered, joined_rounds, next_state, parameters_of, result_of, returning, takes, takes_one, widened, widened_parameters, widened_result}
use Rattle.module_flow_state.specs.steps.Kept.{functions_given, widens}
use Rattle.module_flow_state.specs.steps.Changes.{Noted, NotedOf, Rounds, in_round}
use Rattle.module_flow_state.proofs.Labels.{takes_labels}
use Rattle.module_flow_state.proofs.Taking.{widened_parameters_of, widened_result_of}
use Rattle.module_flow_state.proofs.Widening.{parameters_itself, widened_itself}
use Rattle.module_flow_state.proofs.Widenings.{widens_given}

-- ---- the list of rounds

none_noted : (n l z : ℕ) → get_or (replicate n z) l z ≡ z
none_noted zero l z = refl
none_noted (suc n) zero z = refl
none_noted (suc n) (suc l) z = none_noted n l z

longer : (xs : List ℕ) (n l : ℕ) → get_or (xs ++ replicate n 0) l 0 ≡ get_or xs l 0
longer [] n zero = none_noted n 0 0
longer [] n (suc l) = none_noted n (suc l) 0
longer (x ∷ xs) n zero = refl
longer (x ∷ xs) n (suc l) = longer xs n l

put : (xs : List ℕ) (i l k : ℕ) → i < length xs → get_or (set xs i k) l 0 ≡ cond (nat_eq i l) k (get_or xs l 0)
put xs i l k h = by (nat_eq i l) refl
  where
    by : (b : Bool) → nat_eq i l ≡ b → get_or (set xs i k) l 0 ≡ cond b k (get_or xs l 0)
    by true e = ap (λ j. get_or (set xs i k) j 0) (sym (eqb-true i l e)) ∙ get_or-set_same xs i k 0 h
    by false e = get_or-set_other xs i l k 0 (λ q. true≢false (sym (eq-eqb i l (sym q)) ∙ e))

zeros : (n : ℕ) → length {A = ℕ} (replicate n 0) ≡ n
zeros zero = refl
zeros (suc n) = ap suc (zeros n)

pub reached_within : (old reached : List ℕ) (i : ℕ) → reached ≡ old ++ replicate (i + 1 - length old) 0 → i < length reached
reached_within old reached i e =
    let a : length reached ≡ length (old ++ replicate (i + 1 - length old) 0) = ap length e in
    let b = length-append old (replicate (i + 1 - length old) 0) in
    let d = zeros (i + 1 - length old) in
    omega (arith, a, b, d)

one_way : (b : Bool) (k x r : ℕ) → nat_eq (cond b k x) r ≡ cond b (nat_eq k r) (nat_eq x r)
one_way true k x r = refl
one_way false k x r = refl

pub noted_at : (old reached new : List ℕ) (i n k r l : ℕ) → reached ≡ old ++ replicate n 0 → i < length reached → new ≡ set reached i k → in_round new r l ≡ cond (nat_eq i l) (nat_eq k r) (in_round old r l)
noted_at old reached new i n k r l more h is =
    ap (λ xs. in_round xs r l) is
    ∙ ap (λ x. nat_eq x r) (put reached i l k h ∙ ap (cond (nat_eq i l) k) (ap (λ xs. get_or xs l 0) more ∙ longer old n l))
    ∙ one_way (nat_eq i l) k (get_or old l 0) r

-- ---- what is noted

none_of : {X : Type 0} (kind : FlowState → ℕ → X) (st : FlowState) (rounds : List ℕ) (k : ℕ) → NotedOf kind st st rounds rounds k
none_of kind st rounds k = record { keeps = λ l h. h; alike = λ l h. refl }

pub noted_none : (st new : FlowState) (rounds : Rounds) (k : ℕ) → new ≡ st → Noted st new rounds rounds k false
noted_none st new rounds k e =
    subst (λ n. Noted st n rounds rounds k false) (sym e) (record { entered = none_of parameters_of st rounds.0 k; given = none_of result_of st rounds.1 k; still = λ h. refl })

-- where nothing more changed, and where something did
more_of : {X : Type 0} (kind : FlowState → ℕ → X) (a b d : FlowState) (x y z : List ℕ) (k : ℕ) → NotedOf kind a b x y k → NotedOf kind b d y z k → NotedOf kind a d x z k
more_of kind a b d x y z k one two = record { keeps = λ l h. one.keeps l (two.keeps l h); alike = λ l h. two.alike l h ∙ one.alike l (two.keeps l h) }

pub noted_more : (a b d : FlowState) (x y z : Rounds) (k : ℕ) (c e f : Bool) → Noted a b x y k c → Noted b d y z k e → (f ≡ false → (c ≡ false) × (e ≡ false)) → Noted a d x z k f
noted_more a b d x y z k c e f one two both = record {
  entered = more_of parameters_of a b d x.0 y.0 z.0 k one.entered two.entered;
  given = more_of result_of a b d x.1 y.1 z.1 k one.given two.given;
  still = λ h. two.still (both h).1 ∙ one.still (both h).0;
}

-- ---- one contribution

module _ (change : FlowFun → FlowFun) (keeps : (f : FlowFun) → (change f).label ≡ f.label) where
  -- what is asked of another function, or what the change leaves
  same_parameters : (fs : FlowState) (l k : ℕ) → (nat_eq l k ≡ false) ⊎ ((f : FlowFun) → (change f).params ≡ f.params) → parameters_of (changed fs l change) k ≡ parameters_of fs k
  same_parameters [] l k e = refl
  same_parameters (f ∷ fs) l k e = by (nat_eq f.label l) refl (same_parameters fs l k e)
    where
      here : nat_eq f.label l ≡ true → (nat_eq l k ≡ false) ⊎ ((f : FlowFun) → (change f).params ≡ f.params)
          → (if nat_eq f.label k then (change f).params else parameters_of fs k) ≡ (if nat_eq f.label k then f.params else parameters_of fs k)
      here q (inl other) =
          let no : nat_eq f.label k ≡ false = ap (λ j. nat_eq j k) (eqb-true f.label l q) ∙ other in
          ap (λ b. if b then (change f).params else parameters_of fs k) no ∙ sym (ap (λ b. if b then f.params else parameters_of fs k) no)
      here q (inr left) = ap (λ p. if nat_eq f.label k then p else parameters_of fs k) (left f)

      by : (b : Bool) → nat_eq f.label l ≡ b → parameters_of (changed fs l change) k ≡ parameters_of fs k → parameters_of (if b then change f ∷ fs else f ∷ changed fs l change) k ≡ parameters_of (f ∷ fs) k
      by true q more = ap (λ j. if nat_eq j k then (change f).params else parameters_of fs k) (keeps f) ∙ here q e
      by false q more = ap (λ p. if nat_eq f.label k then f.params else p) more

  same_result : (fs : FlowState) (l k : ℕ) → (nat_eq l k ≡ false) ⊎ ((f : FlowFun) → (change f).result ≡ f.result) → result_of (changed fs l change) k ≡ result_of fs k
  same_result [] l k e = refl
  same_result (f ∷ fs) l k e = by (nat_eq f.label l) refl (same_result fs l k e)
    where
      here : nat_eq f.label l ≡ true → (nat_eq l k ≡ false) ⊎ ((f : FlowFun) → (change f).result ≡ f.result)
          → (if nat_eq f.label k then (change f).result else result_of fs k) ≡ (if nat_eq f.label k then f.result else result_of fs k)
      here q (inl other) =
          let no : nat_eq f.label k ≡ false = ap (λ j. nat_eq j k) (eqb-true f.label l q) ∙ other in
          ap (λ b. if b then (change f).result else result_of fs k) no ∙ sym (ap (λ b. if b then f.result else result_of fs k) no)
      here q (inr left) = ap (λ r. if nat_eq f.label k then r else result_of fs k) (left f)

      by : (b : Bool) → nat_eq f.label l ≡ b → result_of (changed fs l change) k ≡ result_of fs k → result_of (if b then change f ∷ fs else f ∷ changed fs l change) k ≡ result_of (f ∷ fs) k
      by true q more = ap (λ j. if nat_eq j k then (change f).result else result_of fs k) (keeps f) ∙ here q e
      by false q more = ap (λ r. if nat_eq f.label k then f.result else r) more

-- what is noted of a kind that changed at one label, and what where that kind changed nowhere
one_of : {X : Type 0} (kind : FlowState → ℕ → X) (st new : FlowState) (i : ℕ) (before after : List ℕ) (k : ℕ) → ((l : ℕ) → nat_eq i l ≡ false → kind new l ≡ kind st l)
    → ((r l : ℕ) → in_round after r l ≡ cond (nat_eq i l) (nat_eq k r) (in_round before r l)) → NotedOf kind st new before after k
one_of kind st new i before after k others noted = record {
  keeps = λ l h. first l (nat_eq i l) (sym (noted k l) ∙ h);
  alike = λ l h. others l (second l (nat_eq i l) (sym (noted k l) ∙ h));
}
  where
    first : (l : ℕ) (b : Bool) → cond b (nat_eq k k) (in_round before k l) ≡ false → in_round before k l ≡ false
    first l true h = absurd (let e : nat_eq k k ≡ true = eq-eqb k k refl in cc)
    first l false h = h

    second : (l : ℕ) (b : Bool) → cond b (nat_eq k k) (in_round before k l) ≡ false → b ≡ false
    second l true h = absurd (let e : nat_eq k k ≡ true = eq-eqb k k refl in cc)
    second l false h = refl

-- a contribution that changed the state
pub noted_entered : (st new : FlowState) (g : Contribution) (i : ℕ) (ts : List Type4) (before after : Rounds) (k : ℕ) → g ≡ Enters i ts → new ≡ takes_one st g → after.1 ≡ before.1
    → ((r l : ℕ) → in_round after.0 r l ≡ cond (nat_eq i l) (nat_eq k r) (in_round before.0 r l)) → Noted st new before after k true
noted_entered st new g i ts before after k e is same noted =
    let made : new ≡ changed st i (λ f. entered f ts) = is ∙ ap (takes_one st) e in
    record {
      entered = one_of parameters_of st new i before.0 after.0 k (λ l h. ap (λ n. parameters_of n l) made ∙ same_parameters (λ f. entered f ts) (λ f. refl) st i l (inl h)) noted;
      given = record {
        keeps = λ l h. ap (λ r. in_round r k l) (sym same) ∙ h;
        alike = λ l h. ap (λ n. result_of n l) made ∙ same_result (λ f. entered f ts) (λ f. refl) st i l (inr (λ f. refl));
      };
      still = λ h. absurd cc;
    }

pub noted_returned : (st new : FlowState) (g : Contribution) (i : ℕ) (t : Type4) (before after : Rounds) (k : ℕ) → g ≡ Returns i t → new ≡ takes_one st g → after.0 ≡ before.0
    → ((r l : ℕ) → in_round after.1 r l ≡ cond (nat_eq i l) (nat_eq k r) (in_round before.1 r l)) → Noted st new before after k true
noted_returned st new g i t before after k e is same noted =
    let made : new ≡ changed st i (λ f. returning f t) = is ∙ ap (takes_one st) e in
    record {
      entered = record {
        keeps = λ l h. ap (λ r. in_round r k l) (sym same) ∙ h;
        alike = λ l h. ap (λ n. parameters_of n l) made ∙ same_parameters (λ f. returning f t) (λ f. refl) st i l (inr (λ f. refl));
      };
      given = one_of result_of st new i before.1 after.1 k (λ l h. ap (λ n. result_of n l) made ∙ same_result (λ f. returning f t) (λ f. refl) st i l (inl h)) noted;
      still = λ h. absurd cc;
    }

-- ---- late rounds

module _ (same : (s t : Type4) → IsTrue (is_same s t) ↔ (s ≡ t)) where
  pub noted_wide : (st made new : FlowState) (gs : List Contribution) (before after : Rounds) (k : ℕ) (c : Bool) → made ≡ takes st gs → new ≡ widened st (takes st gs) → Noted st made before after k c
      → Noted st new before after k c
  noted_wide st made new gs before after k c is wide noted =
      subst (λ n. Noted st n before after k c) (sym wide)
      (record {
        entered = record {
          keeps = noted.entered.keeps;
          alike = λ l h.
              widened_parameters_of st (takes st gs) l (takes_labels st gs)
              ∙ ap (widened_parameters (parameters_of st l)) (sym (ap (λ m. parameters_of m l) is) ∙ noted.entered.alike l h)
              ∙ parameters_itself same (parameters_of st l);
        };
        given = record {
          keeps = noted.given.keeps;
          alike = λ l h.
              widened_result_of same st (takes st gs) l (takes_labels st gs)
              ∙ ap (widened_result (result_of st l)) (sym (ap (λ m. result_of m l) is) ∙ noted.given.alike l h)
              ∙ ap (λ b. cond b (result_of st l) any) ((same (result_of st l) (result_of st l)).1 refl);
        };
        still = λ h. ap (widened st) (sym is ∙ noted.still h) ∙ widened_itself same st;
      })

  -- the state after a late round
  pub widens_late : (st made new : FlowState) (before : List FlowFun) (gs : List Contribution) → made ≡ takes st gs → before ≡ functions_given st gs → new ≡ widens made before → new ≡ widened st (takes st gs)
  widens_late st made new before gs is from wide = wide ∙ ap₂ widens is from ∙ widens_given same st gs

pub late_after : (k : ℕ) (st next : FlowState) (gs : List Contribution) → joined_rounds ≤ k → next ≡ widened st (takes st gs) → next ≡ next_state k st (takes st gs)
late_after k st next gs h e = e ∙ sym (ap (λ b. cond b (takes st gs) (widened st (takes st gs))) (le-ltb k joined_rounds h))

-- and after an early one
pub early_after : (k : ℕ) (st next : FlowState) (gs : List Contribution) → k < joined_rounds → next ≡ takes st gs → next ≡ next_state k st (takes st gs)
early_after k st next gs h e = e ∙ sym (ap (λ b. cond b (takes st gs) (widened st (takes st gs))) (lt-ltb k joined_rounds h))

-- ---- loops over contributions

next_contribution : (gs : List Contribution) (i : ℕ) (g : Contribution) → slice_get gs i ≡ Some g → drop i gs ≡ g ∷ drop (suc i) gs
next_contribution [] zero g e = absurd cc
next_contribution [] (suc i) g e = absurd cc
next_contribution (h ∷ gs) zero g e = let q : h ≡ g = cc in ap (λ x. x ∷ gs) q
next_contribution (h ∷ gs) (suc i) g e = next_contribution gs i g e

pub taken_round : (st new goal : FlowState) (gs : List Contribution) (i : ℕ) (g : Contribution) → i < length gs → g ≡ get_or gs i g → new ≡ takes_one st g → takes st (drop i gs) ≡ goal
    → takes new (drop (i + 1) gs) ≡ goal
taken_round st new goal gs i g h is one before =
    ap₂ takes one (ap (λ n. drop n gs) (let e : i + 1 ≡ suc i = omega arith in e))
    ∙ sym (ap (takes st) (next_contribution gs i g (slice_get_read gs (length gs) i g refl h is)))
    ∙ before
