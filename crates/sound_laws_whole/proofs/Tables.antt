-- What is known after each component, name by name.
use Rattle.std.proofs.Common.{◌≡◌, ◌↔◌, ℕ, zero, suc, ◌<◌, ◌≤◌, Bool, true, false, cond, ◌||◌, List, [], ◌∷◌, ◌++◌, length}
use Rattle.std.proofs.Common.{◌⊎◌, inl, inr, Option, Some, None, Contains, refl, sym, ap, ap₂, ◌∙◌, subst, true≢false, arith}
use Rattle.std.specs.Prelude.{slice_get}
use Rattle.std.proofs.lemmas.Bool.{cases_lt}
use Rattle.std.proofs.Math.Bool.{or-true}
use Rattle.std.proofs.Math.Nat.{suc_inj}
use Rattle.components.proofs.AscendingLists.{rest_ascending, above_first}
use Rattle.std.proofs.lemmas.List.Elements.{Contains-append_left, Contains-append_right, Contains-append_cases}
use Rattle.type_kinds.proofs.Truths.{not_first, not_second}
use Rattle.type_kinds.proofs.Lists.{contains_none, contains_first, contains_later, contains_cases}
use Rattle.type_kinds.specs.declared.atom.Atom.{Atom}
use Rattle.core_ast.specs.declared.syntax.FunName.{FunName}
use Rattle.cons_tree.specs.declared.parts.Summary.{Summary}
use Rattle.components.specs.Lists.{Ascending}
use Rattle.components.specs.Numbering.{Numbering, component_of_node, members_of}
use Rattle.comp_rounds.specs.Rounds.{Callees, Function, is_named, is_member, callee_of, with_function, with_summaries, summaries}
use Rattle.sound_laws_rounds.specs.Whole.{AreKnown}
use Rattle.analysis_summaries.specs.Functions.{perhaps, picked}
use Rattle.analysis_summaries.specs.Known.{after_components}
use Rattle.sound_laws_whole.specs.Once.{NamedOnce}
use Rattle.sound_laws_whole.proofs.Named.{Each, named_is, named_itself, member_at, member_append, one_position}

-- ---- the functions of some numbers

-- where a name is one of the functions of numbers
pub record Picked (fs : List Function) (is : List ℕ) (h : Atom) (f : FunName) : Type 0 where
  pub position : ℕ
  pub function : Function
  pub number : Contains is position
  pub there : slice_get fs position ≡ Some function
  pub home_is : h ≡ function.home
  pub name_is : f ≡ function.name

more_picked : (fs : List Function) (i : ℕ) (is : List ℕ) (h : Atom) (f : FunName) → Picked fs is h f → Picked fs (i ∷ is) h f
more_picked fs i is h f r =
    record { position = r.position; function = r.function; number = contains_later i r.position is r.number; there = r.there; home_is = r.home_is; name_is = r.name_is }

pub picked_only : (fs : List Function) (is : List ℕ) (h : Atom) (f : FunName) → is_member (picked fs is) h f ≡ true → Picked fs is h f
picked_only fs [] h f e = absurd (true≢false (sym e))
picked_only fs (i ∷ is) h f e = by (slice_get fs i) refl e (picked_only fs is h f)
  where
    by : (o : Option Function) → slice_get fs i ≡ o → is_member (perhaps o ++ picked fs is) h f ≡ true → (is_member (picked fs is) h f ≡ true → Picked fs is h f) → Picked fs (i ∷ is) h f
    by None there e rest = more_picked fs i is h f (rest e)
    by (Some g) there e rest = named (is_named g h f) refl e
      where
        named : (b : Bool) → is_named g h f ≡ b → (is_named g h f || is_member (picked fs is) h f) ≡ true → Picked fs (i ∷ is) h f
        named true same e =
            let names = named_is g h f same in
            record { position = i; function = g; number = contains_first i is; there = there; home_is = names.0; name_is = names.1 }
        named false same e = more_picked fs i is h f (rest (ap (λ b. b || is_member (picked fs is) h f) (sym same) ∙ e))

pub picked_member : (fs : List Function) (is : List ℕ) (i : ℕ) (g : Function) → Contains is i → slice_get fs i ≡ Some g → is_member (picked fs is) g.home g.name ≡ true
picked_member fs [] i g has e = absurd (contains_none i has)
picked_member fs (j ∷ is) i g has e =
    member_append (perhaps (slice_get fs j)) (picked fs is) g.home g.name
    ∙ elim (contains_cases j i is has) [
      | inl same ↦
          ap (λ o. is_member (perhaps o) g.home g.name || is_member (picked fs is) g.home g.name) (ap (slice_get fs) same ∙ e)
          ∙ ap (λ b. (b || false) || is_member (picked fs is) g.home g.name) (named_itself g)
      | inr more ↦
          ap (λ b. is_member (perhaps (slice_get fs j)) g.home g.name || b) (picked_member fs is i g more e)
          ∙ or-true (is_member (perhaps (slice_get fs j)) g.home g.name)
    ]

-- a function of one of these numbers is picked, and each that is picked is one
pub picked_has : (fs : List Function) (is : List ℕ) (i : ℕ) (k : Function) → Contains is i → slice_get fs i ≡ Some k → Contains (picked fs is) k
picked_has fs [] i k has e = absurd (contains_none i has)
picked_has fs (j ∷ is) i k has e =
    elim (contains_cases j i is has) [
      | inl same ↦ Contains-append_left (perhaps (slice_get fs j)) (picked fs is) k (subst (λ o. Contains (perhaps o) k) (sym (ap (slice_get fs) same ∙ e)) (contains_first k []))
      | inr more ↦ Contains-append_right (perhaps (slice_get fs j)) (picked fs is) k (picked_has fs is i k more e)
    ]

perhaps_is : (o : Option Function) (k : Function) → Contains (perhaps o) k → o ≡ Some k
perhaps_is None k has = absurd (contains_none k has)
perhaps_is (Some g) k has =
    elim (contains_cases g k [] has) [
      | inl same ↦ ap Some same
      | inr more ↦ absurd (contains_none k more)
    ]

pub picked_from : (fs : List Function) (is : List ℕ) (k : Function) → Contains (picked fs is) k → (i : ℕ) × Contains is i × (slice_get fs i ≡ Some k)
picked_from fs [] k has = absurd (contains_none k has)
picked_from fs (j ∷ is) k has =
    elim (Contains-append_cases (perhaps (slice_get fs j)) (picked fs is) k has) [
      | inl here ↦ (j, contains_first j is, perhaps_is (slice_get fs j) k here)
      | inr more ↦ (let r = picked_from fs is k more in (r.0, contains_later j r.0 is r.1, r.2))
    ]

-- what holds of each of these functions holds of each that is picked
pub each_picked : (P : Function → Type 0) (fs : List Function) (is : List ℕ) → ((i : ℕ) (g : Function) → Contains is i → slice_get fs i ≡ Some g → P g) → Each P (picked fs is)
each_picked P fs [] h = tt
each_picked P fs (i ∷ is) h = by (slice_get fs i) refl (each_picked P fs is (λ j g has there. h j g (contains_later i j is has) there))
  where
    by : (o : Option Function) → slice_get fs i ≡ o → Each P (picked fs is) → Each P (perhaps o ++ picked fs is)
    by None there rest = rest
    by (Some g) there rest = (h i g (contains_first i is) there, rest)

-- and what holds of each that is picked holds of each of these
pub each_of_picked : (P : Function → Type 0) (fs : List Function) (is : List ℕ) → Each P (picked fs is) → (i : ℕ) (g : Function) → Contains is i → slice_get fs i ≡ Some g → P g
each_of_picked P fs [] h i g has there = absurd (contains_none i has)
each_of_picked P fs (j ∷ is) h i g has there =
    elim (contains_cases j i is has) [
      | inl same ↦ here (slice_get fs j) (ap (slice_get fs) same ∙ there) h
      | inr more ↦ each_of_picked P fs is (later (slice_get fs j) h) i g more there
    ]
  where
    here : (o : Option Function) → o ≡ Some g → Each P (perhaps o ++ picked fs is) → P g
    here None e h = absurd cc
    here (Some k) e h = let one : k ≡ g = cc in subst P one h.0

    later : (o : Option Function) → Each P (perhaps o ++ picked fs is) → Each P (picked fs is)
    later None h = h
    later (Some k) h = h.1

pub picked_once : (fs : List Function) → NamedOnce fs → (is : List ℕ) → Ascending is → NamedOnce (picked fs is)
picked_once fs once [] h = tt
picked_once fs once (i ∷ is) h = by (slice_get fs i) refl (picked_once fs once is (rest_ascending i is h))
  where
    by : (o : Option Function) → slice_get fs i ≡ o → NamedOnce (picked fs is) → NamedOnce (perhaps o ++ picked fs is)
    by None there rest = rest
    by (Some g) there rest = (not_again (is_member (picked fs is) g.home g.name) refl, rest)
      where
        not_again : (b : Bool) → is_member (picked fs is) g.home g.name ≡ b → is_member (picked fs is) g.home g.name ≡ false
        not_again false e = e
        not_again true e =
            let r = picked_only fs is g.home g.name e in
            let same : i ≡ r.position = one_position fs once i r.position g r.function there r.there r.home_is r.name_is in
            absurd (omega (arith, above_first i r.position is h r.number, same))

-- ---- summaries that are laid

pub kept : (gs : List Function) (ss : List Summary) (c : Callees) (h : Atom) (f : FunName) → is_member gs h f ≡ false → with_summaries c gs ss h f ≡ c h f
kept [] ss c h f e = refl
kept (g ∷ gs) [] c h f e = refl
kept (g ∷ gs) (s ∷ ss) c h f e =
    kept gs ss (with_function c g s) h f (not_second (is_named g h f) (is_member gs h f) e)
    ∙ ap (λ b. cond b (callee_of g s) (c h f)) (not_first (is_named g h f) (is_member gs h f) e)

pub laid_known : (gs : List Function) (ss : List Summary) (c : Callees) → NamedOnce gs → length ss ≡ length gs → AreKnown (with_summaries c gs ss) gs ss
laid_known [] ss c once long = tt
laid_known (g ∷ gs) [] c once long = absurd (omega arith)
laid_known (g ∷ gs) (s ∷ ss) c once long = (
  kept gs ss (with_function c g s) g.home g.name once.0 ∙ ap (λ b. cond b (callee_of g s) (c g.home g.name)) (named_itself g),
  laid_known gs ss (with_function c g s) once.1 (suc_inj {m = length ss} {n = length gs} long),
)

pub each_known : (K : Callees) (gs : List Function) (ss : List Summary) → AreKnown K gs ss → Each (λ g. (s : Summary) × (K g.home g.name ≡ callee_of g s)) gs
each_known K [] ss h = tt
each_known K (g ∷ gs) [] h = absurd h
each_known K (g ∷ gs) (s ∷ ss) h = ((s, h.0), each_known K gs ss h.1)

pub known_later : (K L : Callees) (gs : List Function) (ss : List Summary) → Each (λ g. L g.home g.name ≡ K g.home g.name) gs → AreKnown K gs ss → AreKnown L gs ss
known_later K L [] ss same h = tt
known_later K L (g ∷ gs) [] same h = h
known_later K L (g ∷ gs) (s ∷ ss) same h = (same.0 ∙ h.0, known_later K L gs ss same.1 h.1)

-- ---- one component after another

module _ (first : Callees) (fs : List Function) (once : NamedOnce fs) (c : Numbering) (members : (n i : ℕ) → i < length fs → Contains (members_of c n) i ↔ (component_of_node c i ≡ n))
    (within : (n i : ℕ) → Contains (members_of c n) i → i < length fs) where
  abbrev K : ℕ → Callees
  K n = after_components first fs c n

  abbrev gs : ℕ → List Function
  gs n = picked fs (members_of c n)

  -- a name of none of the functions stays as it was
  pub stays_out : (h : Atom) (f : FunName) → is_member fs h f ≡ false → (n : ℕ) → K n h f ≡ first h f
  stays_out h f none zero = refl
  stays_out h f none (suc n) = kept (gs n) (summaries (K n) (gs n)) (K n) h f (out (is_member (gs n) h f) refl) ∙ stays_out h f none n
    where
      out : (b : Bool) → is_member (picked fs (members_of c n)) h f ≡ b → is_member (picked fs (members_of c n)) h f ≡ false
      out false e = e
      out true e =
          let r = picked_only fs (members_of c n) h f e in
          absurd (true≢false (sym (ap₂ (is_member fs) r.home_is r.name_is ∙ member_at fs r.position r.function r.there) ∙ none))

  module _ (i : ℕ) (g : Function) (there : slice_get fs i ≡ Some g) (low : i < length fs) where
    pub other_component : (n : ℕ) → (component_of_node c i ≡ n → ⊥) → is_member (gs n) g.home g.name ≡ false
    other_component n differs = by (is_member (gs n) g.home g.name) refl
      where
        by : (b : Bool) → is_member (picked fs (members_of c n)) g.home g.name ≡ b → is_member (picked fs (members_of c n)) g.home g.name ≡ false
        by false e = e
        by true e =
            let r = picked_only fs (members_of c n) g.home g.name e in
            let same : i ≡ r.position = one_position fs once i r.position g r.function there r.there r.home_is r.name_is in
            absurd (differs (ap (component_of_node c) same ∙ (members n r.position (within n r.position r.number)).0 r.number))

    step_over : (n : ℕ) → (component_of_node c i ≡ n → ⊥) → K (suc n) g.home g.name ≡ K n g.home g.name
    step_over n differs = kept (gs n) (summaries (K n) (gs n)) (K n) g.home g.name (other_component n differs)

    -- before its component is solved a function is known as at first
    pub stays_low : (n : ℕ) → n ≤ component_of_node c i → K n g.home g.name ≡ first g.home g.name
    stays_low zero h = refl
    stays_low (suc n) h = step_over n (λ e. absurd (omega (arith, e))) ∙ stays_low n (omega arith)

    -- after that it is known as then
    pub stays_high : (n : ℕ) → component_of_node c i < n → K n g.home g.name ≡ K (suc (component_of_node c i)) g.home g.name
    stays_high zero h = absurd (omega arith)
    stays_high (suc n) h = by (cases_lt (component_of_node c i) n) (stays_high n)
      where
        by : (component_of_node c i < n) ⊎ (n ≤ component_of_node c i) → (component_of_node c i < n → K n g.home g.name ≡ K (suc (component_of_node c i)) g.home g.name)
            → K (suc n) g.home g.name ≡ K (suc (component_of_node c i)) g.home g.name
        by (inl less) before = step_over n (λ e. absurd (omega (arith, e))) ∙ before less
        by (inr high) before = let same : n ≡ component_of_node c i = omega arith in ap (λ k. K (suc k) g.home g.name) same
