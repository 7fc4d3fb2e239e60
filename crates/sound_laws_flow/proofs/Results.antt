-- The outcome of an expression against the types that its walk gives.
use Rattle.std.proofs.Common.{◌≡◌, ℕ, zero, suc, Bool, true, false, cond, List, [], ◌∷◌, ◌++◌, length, Some, None, refl, sym, ap, ◌∙◌, subst, arith}
use Rattle.type_kinds.specs.declared.atom.Atom.{Atom}
use Rattle.core_ast.specs.Model as m
use Rattle.core_ast.specs.declared.syntax.FunName.{FunName}
use Rattle.core_scope.specs.declared.ask.Ask.{Ask}
use Rattle.core_scope.specs.declared.ask.Ask.TheVariants.{AnyNumber, Exactly}
use Rattle.type_lattice_model.specs.Values.{Value, Values, no_value, and_value}
use Rattle.type_lattice.specs.Types.{Type4, HasType, HasTypes, any, is_none, meet}
use Rattle.cons_tree.specs.Environments.{Types, State}
use Rattle.cons_tree.specs.Facts.{TypeFacts}
use Rattle.cons_tree.specs.declared.parts.Callee.{Callee}
use Rattle.core_meaning.specs.Programs.{Program}
use Rattle.core_meaning.specs.Meaning.{Outcome, gives, fails, list_value}
use Rattle.cons_gen_rows.specs.Counts.{passed_on}
use Rattle.module_flow_calls.specs.TypeLists.{Given, one, as_many, joins, either, first, list_type}
use Rattle.module_flow_walk.specs.Clauses.{head_solved, inside}
use Rattle.module_flow_state.specs.Scopes.{WalkScope}
use Rattle.module_flow_state.specs.States.{FlowState}
use Rattle.module_flow_walk.specs.Walk.{then, then_inside, passed, walk, walk_clauses}
use Rattle.module_flow_state.specs.Applications.{where_meets}
use Rattle.module_flow_state.specs.World.{World}
use Rattle.sound_laws.specs.Satisfied.{AreAsked}
use Rattle.sound_laws_flow.proofs.Coverage.{Cov, Covs}
use Rattle.sound_laws_flow.proofs.WalkScopes.{as_many_have, as_many_length}

-- ---- types

abbrev pub HoldTypes : Ask → Values → List Type4 → Type 0
HoldTypes AnyNumber vs ts = Unit {0}
HoldTypes (Exactly n) vs ts = HasTypes vs ts

pub first_has : (v : Value) (ts : List Type4) → HasTypes (and_value v no_value) ts → HasType v (first ts)
first_has v [] h = absurd h
first_has v (t ∷ ts) h = h.0

module _ (T : TypeFacts) where
  pub not_none : (v : Value) (t : Type4) → HasType v t → is_none t ≡ false
  not_none v t h = by (is_none t) refl
    where
      by : (b : Bool) → is_none t ≡ b → b ≡ false
      by true e = absurd (T.empty v (subst (HasType v) ((T.tells_none t).0 e) h))
      by false e = refl

  pub both_have : (v : Value) (t u : Type4) → HasType v t → HasType v u → is_none (meet t u) ≡ false
  both_have v t u h k = not_none v (meet t u) ((T.both t u v).1 (h, k))

  pub one_is : (v : Value) (t : Type4) → HasType v t → one t ≡ Some (t ∷ [])
  one_is v t h = ap (λ b. cond b None (Some (t ∷ []))) (not_none v t h)

  pub meets_is : (v : Value) (t u : Type4) (g : Given) → HasType v t → HasType v u → where_meets t u g ≡ g
  meets_is v t u g h k = ap (λ b. cond b None g) (both_have v t u h k)

  none_left : (hs : List Type4) (u : Type4) → HasTypes no_value (hs ++ u ∷ []) → ⊥
  none_left [] u h = h
  none_left (h ∷ hs) u k = k

  -- a list of values of these types
  pub list_has : (hs : List Type4) (u : Type4) (vs : Values) → HasTypes vs (hs ++ u ∷ []) → HasType (list_value vs) (list_type hs u)
  list_has [] u no_value k = absurd k
  list_has [] u (and_value v no_value) k = k.0
  list_has [] u (and_value v (and_value w vs)) k = absurd k.1
  list_has (h ∷ hs) u no_value k = absurd k
  list_has (h ∷ hs) u (and_value v no_value) k = absurd (none_left hs u k.1)
  list_has (h ∷ hs) u (and_value v (and_value w vs)) k = T.cons_has h (list_type hs u) true v (list_value (and_value w vs)) k.0 (list_has hs u (and_value w vs) k.1)

  joins_left : (vs : Values) (ts us : List Type4) → length us ≡ length ts → HasTypes vs ts → HasTypes vs (joins ts us)
  joins_left no_value [] us l h = tt
  joins_left no_value (t ∷ ts) us l h = absurd h
  joins_left (and_value v vs) [] us l h = absurd h
  joins_left (and_value v vs) (t ∷ ts) [] l h = absurd (omega (arith, l))
  joins_left (and_value v vs) (t ∷ ts) (u ∷ us) l h = (T.left t u v h.0, joins_left vs ts us (omega (arith, l)) h.1)

  joins_right : (vs : Values) (ts us : List Type4) → length us ≡ length ts → HasTypes vs us → HasTypes vs (joins ts us)
  joins_right no_value [] us l h = tt
  joins_right no_value (t ∷ ts) [] l h = absurd (omega (arith, l))
  joins_right no_value (t ∷ ts) (u ∷ us) l h = absurd h
  joins_right (and_value v vs) [] [] l h = absurd h
  joins_right (and_value v vs) [] (u ∷ us) l h = absurd (omega (arith, l))
  joins_right (and_value v vs) (t ∷ ts) [] l h = absurd h
  joins_right (and_value v vs) (t ∷ ts) (u ∷ us) l h = (T.right t u v h.0, joins_right vs ts us (omega (arith, l)) h.1)

-- ---- how many types a form that passes on what is asked gives

abbrev pub Sized : Ask → Given → Type 0
Sized k None = Unit {0}
Sized k (Some ts) = length ts ≡ passed_on k

pub passed_sized : (k : Ask) (g : Given) → Sized k (passed k g)
passed_sized k None = tt
passed_sized k (Some ts) = as_many_length (passed_on k) ts

pub then_sized : (k : Ask) (g : Given) (f : List Type4 → Given) → ((ts : List Type4) → Sized k (f ts)) → Sized k (then g f)
then_sized k None f h = tt
then_sized k (Some ts) f h = h ts

inside_sized : (k : Ask) (r : State) (f : Types → Given) → ((ts : Types) → Sized k (f ts)) → Sized k (then_inside r f)
inside_sized k None f h = tt
inside_sized k (Some ts) f h = h ts

pub meets_sized : (k : Ask) (t u : Type4) (g : Given) → Sized k g → Sized k (where_meets t u g)
meets_sized k t u g h = by (is_none (meet t u))
  where
    by : (b : Bool) → Sized k (cond b None g)
    by true = tt
    by false = h

joins_length : (n : ℕ) (ts us : List Type4) → length ts ≡ n → length us ≡ n → length (joins ts us) ≡ n
joins_length n [] us h k = h
joins_length n (t ∷ ts) [] h k = k
joins_length zero (t ∷ ts) (u ∷ us) h k = absurd (omega (arith, h))
joins_length (suc n) (t ∷ ts) (u ∷ us) h k = ap suc (joins_length n ts us (omega (arith, h)) (omega (arith, k)))

pub either_sized : (k : Ask) (g h : Given) → Sized k g → Sized k h → Sized k (either g h)
either_sized k None h p q = q
either_sized k (Some ts) None p q = p
either_sized k (Some ts) (Some us) p q = joins_length (passed_on k) ts us p q

pub clauses_sized : (V : World) (sc : WalkScope) (k : Ask) (qs : List ℕ) (cs : m.Clauses) → Sized k (walk_clauses V sc k qs cs)
clauses_sized V sc k qs m.no_clause = tt
clauses_sized V sc k qs (m.and_clause i ps g t cs) =
    either_sized k (then_inside (head_solved V sc qs ps g) (λ solved. passed k (walk V (inside sc ps solved) k t))) (walk_clauses V sc k qs cs)
    (inside_sized k (head_solved V sc qs ps g) (λ solved. passed k (walk V (inside sc ps solved) k t)) (λ solved. passed_sized k (walk V (inside sc ps solved) k t)))
    (clauses_sized V sc k qs cs)

-- ---- what is given

pub then_is : (g : Given) (ts : List Type4) (f : List Type4 → Given) (r : Given) → g ≡ Some ts → f ts ≡ r → then g f ≡ r
then_is g ts f r e h = ap (λ z. then z f) e ∙ h

pub then_parts : (g : Given) (f : List Type4 → Given) (r : List Type4) → then g f ≡ Some r → (ts : List Type4) × ((g ≡ Some ts) × (f ts ≡ Some r))
then_parts None f r h = absurd cc
then_parts (Some ts) f r h = (ts, (refl, h))

module _ (T : TypeFacts) (U : Program) (callee : Atom → FunName → Callee) (states : Atom → FlowState) (DeadClause DeadCall : Atom → ℕ → Type 0) where
  -- An outcome against what a walk gives: values are covered, and where there are as many as are asked, they are of the types.
  abbrev pub Res : Ask → Given → Outcome → Type 0
  Res k g (gives vs) = Covs U callee states DeadClause DeadCall vs × (AreAsked k vs → (ts : List Type4) × ((g ≡ Some ts) × HoldTypes k vs ts))
  Res k g (fails f) = Unit {0}

  no_some : {A : Type 0} {x : A} → None ≡ Some x → ⊥
  no_some e = cc

  the_same : {A : Type 0} {x y : A} → Some x ≡ Some y → x ≡ y
  the_same e = cc

  pub res_one : (k : Ask) (t : Type4) (g : Given) (v : Value) → Cov U callee states DeadClause DeadCall v → HasType v t → g ≡ Some (t ∷ []) → Res k g (gives (and_value v no_value))
  res_one AnyNumber t g v c h e = ((c, tt), λ z. (t ∷ [], (e, tt)))
  res_one (Exactly n) t g v c h e = ((c, tt), λ z. (t ∷ [], (e, (h, tt))))

  pub res_any : (k : Ask) (g : Given) (v : Value) → Cov U callee states DeadClause DeadCall v → g ≡ Some (any ∷ []) → Res k g (gives (and_value v no_value))
  res_any k g v c e = res_one k any g v c (T.every v) e

  pub res_passed : (k : Ask) (g : Given) (o : Outcome) → Res k g o → Res k (passed k g) o
  res_passed k g (fails f) h = tt
  res_passed AnyNumber g (gives vs) h = (h.0, λ z. let i = h.1 tt in ([], (ap (λ r. passed AnyNumber r) i.1.0, tt)))
  res_passed (Exactly n) g (gives vs) h = (h.0, λ z. let i = h.1 z in (as_many n i.0, (ap (λ r. passed (Exactly n) r) i.1.0, subst (λ j. HasTypes vs (as_many j i.0)) z (as_many_have vs i.0 i.1.1))))

  pub res_then : (k : Ask) (g : Given) (ts : List Type4) (f : List Type4 → Given) (o : Outcome) → g ≡ Some ts → Res k (f ts) o → Res k (then g f) o
  res_then k g ts f o e h = subst (λ z. Res k (then z f) o) (sym e) h

  pub res_left : (k : Ask) (g h : Given) (o : Outcome) → Sized k g → Sized k h → Res k g o → Res k (either g h) o
  res_left k g h (fails f) p q r = tt
  res_left k None h (gives vs) p q r = (r.0, λ z. absurd (no_some (r.1 z).1.0))
  res_left k (Some ts) None (gives vs) p q r = r
  res_left AnyNumber (Some ts) (Some us) (gives vs) p q r = (r.0, λ z. (joins ts us, (refl, tt)))
  res_left (Exactly n) (Some ts) (Some us) (gives vs) p q r =
      (r.0, λ z. let i = r.1 z in (joins ts us, (refl, joins_left T vs ts us (q ∙ sym p) (subst (HasTypes vs) (sym (the_same i.1.0)) i.1.1))))

  pub res_right : (k : Ask) (g h : Given) (o : Outcome) → Sized k g → Sized k h → Res k h o → Res k (either g h) o
  res_right k g h (fails f) p q r = tt
  res_right k None h (gives vs) p q r = r
  res_right k (Some ts) None (gives vs) p q r = (r.0, λ z. absurd (no_some (r.1 z).1.0))
  res_right AnyNumber (Some ts) (Some us) (gives vs) p q r = (r.0, λ z. (joins ts us, (refl, tt)))
  res_right (Exactly n) (Some ts) (Some us) (gives vs) p q r =
      (r.0, λ z. let i = r.1 z in (joins ts us, (refl, joins_right T vs ts us (q ∙ sym p) (subst (HasTypes vs) (sym (the_same i.1.0)) i.1.1))))
