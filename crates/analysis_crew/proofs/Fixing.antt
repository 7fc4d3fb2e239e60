-- What is fixed for functions is what is known at first, at each name that they call.
use Rattle.std.proofs.Common.{◌≡◌, ℕ, Bool, true, false, cond, ◌&&◌, ◌⊎◌, inl, inr, List, [], ◌∷◌, Option, Some, None, Contains, refl, sym, ap, ap₂, ◌∙◌, subst, true≢false}
use Rattle.std.specs.Prelude.{slice_get, if◌then◌else◌}
use Rattle.std.proofs.lemmas.Bool.{and_parts}
use Rattle.comp_rounds.proofs.SameCallees.{pointwise}
use Rattle.type_kinds.proofs.Lists.{contains_none, contains_cases}
use Rattle.type_kinds.specs.declared.atom.Atom.{Atom}
use Rattle.core_ast.specs.declared.syntax.FunName.{FunName}
use Rattle.cons_tree.specs.Callees.{same_home, same_name}
use Rattle.cons_tree.specs.declared.parts.Callee.{Callee}
use Rattle.cons_tree.specs.declared.parts.Callee.TheVariants.{Known, Local, Undefined, Unknown}
use Rattle.cons_tree.proofs.NameLaws.{home_is, home_itself, name_is, name_itself}
use Rattle.comp_rounds.specs.Rounds.{Callees, Function, with_callee}
use Rattle.analysis_summaries.specs.Known.{all_unknown}
use Rattle.analysis_crew.specs.steps.Fixing.{Call, tells, closing, fixing, fixing_all, with_own, with_called, fixed_by}

-- ---- one step of the code

pub home_closed : (old new : Callees) (home : Atom) → ((f : FunName) → new home f ≡ Undefined) → ((h : Atom) (f : FunName) → (h ≡ home → ⊥) → new h f ≡ old h f) → new ≡ closing old home
home_closed old new home closed others = pointwise new (closing old home) (λ h f. by h f (same_home h home) refl)
  where
    by : (h : Atom) (f : FunName) (b : Bool) → same_home h home ≡ b → new h f ≡ closing old home h f
    by h f true e = ap (λ k. new k f) (home_is h home e) ∙ closed f ∙ sym (ap (λ b. if b then Undefined else old h f) e)
    by h f false e =
        others h f (λ same. true≢false (sym (ap (λ k. same_home k home) same ∙ home_itself home) ∙ e)) ∙ sym (ap (λ b. if b then Undefined else old h f) e)

both_false : (b c : Bool) → (b ≡ true → c ≡ true → ⊥) → (b && c) ≡ false
both_false true true n = absurd (n refl refl)
both_false true false n = refl
both_false false c n = refl

pub name_fixed : (first old new : Callees) (home : Atom) (name : FunName) (callee : Callee) → callee ≡ first home name → tells callee ≡ true
    → new home name ≡ callee → ((h : Atom) (f : FunName) → ((h ≡ home) × (f ≡ name) → ⊥) → new h f ≡ old h f) → new ≡ fixing first old (home, name)
name_fixed first old new home name callee is told set others = pointwise new (fixing first old (home, name)) (λ h f. by h f (same_home h home && same_name f name) refl)
  where
    whole : (h : Atom) (f : FunName) (b : Bool) → (same_home h home && same_name f name) ≡ b → fixing first old (home, name) h f ≡ cond b (first home name) (old h f)
    whole h f b e = ap (λ t. if t then with_callee old home name (first home name) h f else old h f) (sym (ap tells is) ∙ told) ∙ ap (λ b. cond b (first home name) (old h f)) e

    by : (h : Atom) (f : FunName) (b : Bool) → (same_home h home && same_name f name) ≡ b → new h f ≡ fixing first old (home, name) h f
    by h f true e =
        let both = and_parts (same_home h home) (same_name f name) e in
        ap₂ new (home_is h home both.0) (name_is f name both.1) ∙ set ∙ is ∙ sym (whole h f true e)
    by h f false e =
        others h f (λ same. true≢false
        (sym (ap₂ (λ a b. a && b) (ap (λ k. same_home k home) same.0 ∙ home_itself home) (ap (λ k. same_name k name) same.1 ∙ name_itself name)) ∙ e))
        ∙ sym (whole h f false e)

pub name_left : (first old : Callees) (home : Atom) (name : FunName) (callee : Callee) → callee ≡ first home name → tells callee ≡ false → old ≡ fixing first old (home, name)
name_left first old home name callee is told =
    pointwise old (fixing first old (home, name)) (λ h f. sym (ap (λ t. if t then with_callee old home name (first home name) h f else old h f) (sym (ap tells is) ∙ told)))

-- ---- what is fixed is known as at first

module _ (first : Callees) where
  -- each name is known as before, or as at first
  abbrev Follows : (old new : Callees) → Type 0
  Follows old new = (h : Atom) (f : FunName) → (new h f ≡ first h f) ⊎ (new h f ≡ old h f)

  then_follows : (a b c : Callees) → Follows a b → Follows b c → Follows a c
  then_follows a b c p q h f = elim (q h f) [
    | inl e ↦ inl e
    | inr same ↦ elim (p h f) [
      | inl e ↦ inl (same ∙ e)
      | inr more ↦ inr (same ∙ more)
    ]
  ]

  -- what is known as at first stays so
  still : (old new : Callees) → Follows old new → (h : Atom) (f : FunName) → old h f ≡ first h f → new h f ≡ first h f
  still old new follows h f e = elim (follows h f) [
    | inl is ↦ is
    | inr same ↦ same ∙ e
  ]

  -- each name is known as at first, or not at all
  abbrev IsSound : Callees → Type 0
  IsSound fixed = (h : Atom) (f : FunName) → (fixed h f ≡ first h f) ⊎ (fixed h f ≡ Unknown)

  still_sound : (old new : Callees) → Follows old new → IsSound old → IsSound new
  still_sound old new follows sound h f = elim (follows h f) [
    | inl is ↦ inl is
    | inr same ↦ elim (sound h f) [
      | inl is ↦ inl (same ∙ is)
      | inr none ↦ inr (same ∙ none)
    ]
  ]

  -- ---- one module, one name

  abbrev IsClosed : Atom → Type 0
  IsClosed home = (f : FunName) → first home f ≡ Undefined

  closing_follows : (fixed : Callees) (home : Atom) → IsClosed home → Follows fixed (closing fixed home)
  closing_follows fixed home closed h f = by (same_home h home) refl
    where
      by : (b : Bool) → same_home h home ≡ b → ((if b then Undefined else fixed h f) ≡ first h f) ⊎ ((if b then Undefined else fixed h f) ≡ fixed h f)
      by true e = inl (sym (ap (λ k. first k f) (home_is h home e) ∙ closed f))
      by false e = inr refl

  closing_here : (fixed : Callees) (home : Atom) (f : FunName) → IsClosed home → closing fixed home home f ≡ first home f
  closing_here fixed home f closed = ap (λ b. if b then Undefined else fixed home f) (home_itself home) ∙ sym (closed f)

  fixing_follows : (fixed : Callees) (x : Call) → Follows fixed (fixing first fixed x)
  fixing_follows fixed x h f = by (tells (first x.0 x.1)) (same_home h x.0 && same_name f x.1) refl
    where
      by : (t b : Bool) → (same_home h x.0 && same_name f x.1) ≡ b
          → ((if t then cond b (first x.0 x.1) (fixed h f) else fixed h f) ≡ first h f) ⊎ ((if t then cond b (first x.0 x.1) (fixed h f) else fixed h f) ≡ fixed h f)
      by true true e = let both = and_parts (same_home h x.0) (same_name f x.1) e in inl (sym (ap₂ first (home_is h x.0 both.0) (name_is f x.1 both.1)))
      by true false e = inr refl
      by false b e = inr refl

  told_nothing : (x : Callee) → tells x ≡ false → x ≡ Unknown
  told_nothing (Known s) e = absurd (true≢false e)
  told_nothing (Local s) e = absurd (true≢false e)
  told_nothing Undefined e = absurd (true≢false e)
  told_nothing Unknown e = refl

  fixing_here : (fixed : Callees) (x : Call) → IsSound fixed → fixing first fixed x x.0 x.1 ≡ first x.0 x.1
  fixing_here fixed x sound = by (tells (first x.0 x.1)) refl
    where
      here : (same_home x.0 x.0 && same_name x.1 x.1) ≡ true
      here = ap₂ (λ a b. a && b) (home_itself x.0) (name_itself x.1)

      by : (t : Bool) → tells (first x.0 x.1) ≡ t → (if t then with_callee fixed x.0 x.1 (first x.0 x.1) x.0 x.1 else fixed x.0 x.1) ≡ first x.0 x.1
      by true e = ap (λ b. cond b (first x.0 x.1) (fixed x.0 x.1)) here
      by false e = elim (sound x.0 x.1) [
        | inl is ↦ is
        | inr none ↦ none ∙ sym (told_nothing (first x.0 x.1) e)
      ]

  -- ---- the calls of one function

  all_follow : (calls : List Call) (fixed : Callees) → Follows fixed (fixing_all first fixed calls)
  all_follow [] fixed = λ h f. inr refl
  all_follow (x ∷ calls) fixed = then_follows fixed (fixing first fixed x) (fixing_all first (fixing first fixed x) calls) (fixing_follows fixed x) (all_follow calls (fixing first fixed x))

  all_fixed : (calls : List Call) (fixed : Callees) (x : Call) → IsSound fixed → Contains calls x → fixing_all first fixed calls x.0 x.1 ≡ first x.0 x.1
  all_fixed [] fixed x sound has = absurd (contains_none x has)
  all_fixed (y ∷ calls) fixed x sound has = elim (contains_cases y x calls has) [
    | inl same ↦
        still (fixing first fixed y) (fixing_all first (fixing first fixed y) calls) (all_follow calls (fixing first fixed y)) x.0 x.1
        (subst (λ z. fixing first fixed y z.0 z.1 ≡ first z.0 z.1) same (fixing_here fixed y sound))
    | inr more ↦ all_fixed calls (fixing first fixed y) x (still_sound fixed (fixing first fixed y) (fixing_follows fixed y) sound) more
  ]

  -- ---- functions by their numbers

  module _ (fs : List Function) (outside : List (List Call)) (closed : (i : ℕ) (g : Function) → slice_get fs i ≡ Some g → IsClosed g.home) where
    own_follows : (fixed : Callees) (i : ℕ) → Follows fixed (with_own fixed (slice_get fs i))
    own_follows fixed i = by (slice_get fs i) refl
      where
        by : (o : Option Function) → slice_get fs i ≡ o → Follows fixed (with_own fixed o)
        by None e = λ h f. inr refl
        by (Some g) e = closing_follows fixed g.home (closed i g e)

    called_follows : (fixed : Callees) (o : Option (List Call)) → Follows fixed (with_called first fixed o)
    called_follows fixed None = λ h f. inr refl
    called_follows fixed (Some calls) = all_follow calls fixed

    abbrev one : Callees → ℕ → Callees
    one fixed i = with_called first (with_own fixed (slice_get fs i)) (slice_get outside i)

    one_follows : (fixed : Callees) (i : ℕ) → Follows fixed (one fixed i)
    one_follows fixed i =
        then_follows fixed (with_own fixed (slice_get fs i)) (one fixed i) (own_follows fixed i) (called_follows (with_own fixed (slice_get fs i)) (slice_get outside i))

    numbers_follow : (is : List ℕ) (fixed : Callees) → Follows fixed (fixed_by first fs outside fixed is)
    numbers_follow [] fixed = λ h f. inr refl
    numbers_follow (i ∷ is) fixed = then_follows fixed (one fixed i) (fixed_by first fs outside (one fixed i) is) (one_follows fixed i) (numbers_follow is (one fixed i))

    -- the module of each function is known as at first
    own_at : (is : List ℕ) (fixed : Callees) (i : ℕ) (g : Function) (f : FunName) → Contains is i → slice_get fs i ≡ Some g → fixed_by first fs outside fixed is g.home f ≡ first g.home f
    own_at [] fixed i g f has there = absurd (contains_none i has)
    own_at (j ∷ is) fixed i g f has there = elim (contains_cases j i is has) [
      | inl same ↦
          still (one fixed j) (fixed_by first fs outside (one fixed j) is) (numbers_follow is (one fixed j)) g.home f
          (still (with_own fixed (slice_get fs j)) (one fixed j) (called_follows (with_own fixed (slice_get fs j)) (slice_get outside j)) g.home f
          (ap (λ o. with_own fixed o g.home f) (ap (slice_get fs) same ∙ there) ∙ closing_here fixed g.home f (closed i g there)))
      | inr more ↦ own_at is (one fixed j) i g f more there
    ]

    -- so is each name that one of them calls outside
    call_at : (is : List ℕ) (fixed : Callees) (i : ℕ) (calls : List Call) (x : Call) → IsSound fixed → Contains is i → slice_get outside i ≡ Some calls → Contains calls x
        → fixed_by first fs outside fixed is x.0 x.1 ≡ first x.0 x.1
    call_at [] fixed i calls x sound has there stands = absurd (contains_none i has)
    call_at (j ∷ is) fixed i calls x sound has there stands = elim (contains_cases j i is has) [
      | inl same ↦
          let own = with_own fixed (slice_get fs j) in
          still (one fixed j) (fixed_by first fs outside (one fixed j) is) (numbers_follow is (one fixed j)) x.0 x.1
          (ap (λ o. with_called first own o x.0 x.1) (ap (slice_get outside) same ∙ there)
          ∙ all_fixed calls own x (still_sound fixed own (own_follows fixed j) sound) stands)
      | inr more ↦ call_at is (one fixed j) i calls x (still_sound fixed (one fixed j) (one_follows fixed j) sound) more there stands
    ]

    pub own_fixed : (is : List ℕ) (i : ℕ) (g : Function) (f : FunName) → Contains is i → slice_get fs i ≡ Some g → fixed_by first fs outside all_unknown is g.home f ≡ first g.home f
    own_fixed is i g f has there = own_at is all_unknown i g f has there

    pub call_fixed : (is : List ℕ) (i : ℕ) (calls : List Call) (x : Call) → Contains is i → slice_get outside i ≡ Some calls → Contains calls x
        → fixed_by first fs outside all_unknown is x.0 x.1 ≡ first x.0 x.1
    call_fixed is i calls x has there stands = call_at is all_unknown i calls x (λ h f. inr refl) has there stands
