-- What solves a constraint, over any order of environments, and the greatest solution as a function. None stands for Bottom.
use Rattle.std.specs.Prelude.{◌≡◌, ℕ, zero, suc, ◌<◌, ◌⊎◌, Option, Some, None}
use Rattle.cons_tree.specs.Constraints.{Cons, ConsList, only, all_of, any_of, no_cons, and_cons}

-- environments other than Bottom with their order, and the parts that narrow them
pub record Space : Type 1 where
  pub Env : Type 0
  pub Part : Type 0
  pub Leq : Env → Env → Type 0
  pub join : Env → Env → Env
  pub rank : Env → ℕ
  pub narrow : Part → Env → Option Env

-- the next step from a state, of which Bottom has none
abbrev pub on_some : {A B : Type 0} → Option A → (A → Option B) → Option B
on_some None f = None
on_some (Some x) f = f x

-- n times the same step
abbrev pub turns : {A : Type 0} → ℕ → (A → Option A) → A → Option A
turns zero f e = Some e
turns (suc n) f e = on_some (f e) (turns n f)

module _ (S : Space) where
  open S use {Env, Part, Leq, join, rank, narrow}

  abbrev pub State : Type 0
  State = Option Env

  -- Bottom is below all
  abbrev pub Under : State → State → Type 0
  Under None s = Unit {0}
  Under (Some e) None = ⊥
  Under (Some e) (Some f) = Leq e f

  -- the join of two states: Bottom adds nothing
  abbrev pub joined : State → State → State
  joined None s = s
  joined (Some e) None = Some e
  joined (Some e) (Some f) = Some (join e f)

  -- ---- what solves a constraint

  -- Bottom has each property
  abbrev pub Holds : (Env → Type 0) → State → Type 0
  Holds Q None = Unit {0}
  Holds Q (Some e) = Q e

  -- the state has the property and is below the environment, and every environment that is both is below the state
  pub record IsGreatest (Q : Env → Type 0) (begin : Env) (s : State) : Type 0 where
    pub below : Under s (Some begin)
    pub holds : Holds Q s
    pub above : (e : Env) → Leq e begin → Q e → Under (Some e) s

  -- a part is solved where narrowing changes nothing, All where each member is, and Any where the environment is the join of
  -- the greatest solutions below it of the alternatives
  abbrev mutual
    pub Solves : Cons Part → Env → Type 0
    Solves (only p) e = narrow p e ≡ Some e
    Solves (all_of cs) e = SolvesEach cs e
    Solves (any_of cs) e = IsJoin cs e (Some e)

    pub SolvesEach : ConsList Part → Env → Type 0
    SolvesEach no_cons e = Unit {0}
    SolvesEach (and_cons c cs) e = Solves c e × SolvesEach cs e

    -- the state is the join of the greatest solutions of these constraints below the environment
    pub IsJoin : ConsList Part → Env → State → Type 0
    IsJoin no_cons e j = j ≡ None
    IsJoin (and_cons c cs) e j = (s : State) × (r : State) × IsGreatest (Solves c) e s × IsJoin cs e r × (j ≡ joined s r)

  -- ---- the greatest solution

  -- what is reached by narrowing again and again, with a limit for the turns of each part and each list
  module _ (limit : ℕ) where
    abbrev mutual
      pub reached : Cons Part → Env → State
      reached (only p) e = turns limit (narrow p) e
      reached (all_of cs) e = turns limit (sweep cs) e
      reached (any_of cs) e = alternatives cs e

      -- one member after the other
      pub sweep : ConsList Part → Env → State
      sweep no_cons e = Some e
      sweep (and_cons c cs) e = on_some (reached c e) (sweep cs)

      -- the join of what each of them reaches
      pub alternatives : ConsList Part → Env → State
      alternatives no_cons e = None
      alternatives (and_cons c cs) e = joined (reached c e) (alternatives cs e)

  -- no environment can be lowered more often than its rank says, so this many turns are enough
  unfoldable pub greatest : Cons Part → Env → State
  greatest c e = reached (suc (rank e)) c e

  -- ---- what is asked of an order of environments and its parts

  pub record Laws : Type 0 where
    pub self : (x : Env) → Leq x x
    pub through : (x y z : Env) → Leq x y → Leq y z → Leq x z
    pub same : (x y : Env) → Leq x y → Leq y x → x ≡ y
    pub left : (x y e : Env) → Leq x e → Leq y e → Leq x (join x y)
    pub right : (x y e : Env) → Leq x e → Leq y e → Leq y (join x y)
    pub least : (x y e : Env) → Leq x e → Leq y e → Leq (join x y) e
    pub falls : (x y : Env) → Leq y x → (y ≡ x) ⊎ (rank y < rank x)
    pub narrow_below : (p : Part) (x : Env) → Under (narrow p x) (Some x)
    pub narrow_grows : (p : Part) (x y : Env) → Leq x y → Under (narrow p x) (narrow p y)
