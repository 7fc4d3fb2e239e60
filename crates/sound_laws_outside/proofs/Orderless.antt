-- The order of a component's functions doesn't matter: each function's summary is the same in every order.
use Rattle.std.proofs.Common.{◌≡◌, ℕ, zero, suc, ◌+◌, ◌≤◌, true, false, cond, ◌||◌, List, [], ◌∷◌, map, ◌⊎◌, inl, inr, Contains, refl, sym, ap, ap₂, ◌∙◌, subst, true≢false, arith}
use Rattle.std.proofs.Math.Bool.{or-true}
use Rattle.comp_rounds.proofs.SameCallees.{pointwise}
use Rattle.type_kinds.proofs.Lists.{contains_none, contains_cases, contains_at}
use Rattle.type_kinds.specs.declared.atom.Atom.{Atom}
use Rattle.core_ast.specs.declared.syntax.FunName.{FunName}
use Rattle.cons_tree.specs.declared.parts.Sig.{Sig}
use Rattle.cons_tree.specs.declared.parts.Summary.{Summary}
use Rattle.comp_rounds.specs.Rounds.{Callees, Function, arity, is_named, is_member, callee_of, with_function, with_summaries, with_signatures, of_one, inferred, strict_pass}
use Rattle.comp_rounds.specs.Rounds.{lenient_pass, next_signature, all_next, given, after_rounds, last_round, strict_signatures, lenient_signatures, paired, summaries}
use Rattle.comp_rounds.specs.Signatures.{nothing}
use Rattle.sound_laws_whole.specs.Once.{NamedOnce}
use Rattle.sound_laws_whole.proofs.Named.{Positioned, search_named, named_itself, member_at}
use Rattle.sound_laws_whole.proofs.Tables.{kept}

pub same_maps : {A B : Type 0} (f g : A → B) → ((x : A) → f x ≡ g x) → (xs : List A) → map f xs ≡ map g xs
same_maps f g h [] = refl
same_maps f g h (x ∷ xs) = ap₂ (λ y ys. y ∷ ys) (h x) (same_maps f g h xs)

map_twice : {A B C : Type 0} (f : B → C) (g : A → B) (xs : List A) → map f (map g xs) ≡ map (λ x. f (g x)) xs
map_twice f g [] = refl
map_twice f g (x ∷ xs) = ap (λ ys. f (g x) ∷ ys) (map_twice f g xs)

pub member_of_there : (gs : List Function) (g : Function) → Contains gs g → is_member gs g.home g.name ≡ true
member_of_there [] g has = absurd (contains_none g has)
member_of_there (k ∷ gs) g has =
    elim (contains_cases k g gs has) [
      | inl same ↦ ap (λ b. b || is_member gs g.home g.name) (subst (λ x. is_named x g.home g.name ≡ true) (sym same) (named_itself g))
      | inr more ↦ ap (λ b. is_named k g.home g.name || b) (member_of_there gs g more) ∙ or-true (is_named k g.home g.name)
    ]

-- each function has the summary that it is given
pub laid_at : (gs : List Function) (T : Function → Summary) (c : Callees) (g : Function) → NamedOnce gs → Contains gs g → with_summaries c gs (map T gs) g.home g.name ≡ callee_of g (T g)
laid_at [] T c g once has = absurd (contains_none g has)
laid_at (k ∷ gs) T c g once has =
    elim (contains_cases k g gs has) [
      | inl same ↦
          subst (λ x. with_summaries (with_function c k (T k)) gs (map T gs) x.home x.name ≡ callee_of x (T x)) same
          (kept gs (map T gs) (with_function c k (T k)) k.home k.name once.0 ∙ ap (λ b. cond b (callee_of k (T k)) (c k.home k.name)) (named_itself k))
      | inr more ↦ laid_at gs T (with_function c k (T k)) g once.1 more
    ]

-- the same functions, in two orders
pub record SameFunctions (gs hs : List Function) : Type 0 where
  pub once : NamedOnce gs
  pub other_once : NamedOnce hs
  pub there : (g : Function) → Contains gs g → Contains hs g
  pub back : (g : Function) → Contains hs g → Contains gs g

module _ (gs hs : List Function) (same : SameFunctions gs hs) where
  none_of : (h : Atom) (f : FunName) → is_member gs h f ≡ false → is_member hs h f ≡ false
  none_of h f none = by (search_named hs h f)
    where
      by : Positioned hs h f ⊎ (is_member hs h f ≡ false) → is_member hs h f ≡ false
      by (inr e) = e
      by (inl k) =
          absurd (true≢false
          (sym (ap₂ (is_member gs) k.home_is k.name_is ∙ member_of_there gs k.function (same.back k.function (contains_at hs k.position k.function k.there))) ∙ none))

  pub same_members : (h : Atom) (f : FunName) → is_member gs h f ≡ is_member hs h f
  same_members h f = by (search_named gs h f)
    where
      by : Positioned gs h f ⊎ (is_member gs h f ≡ false) → is_member gs h f ≡ is_member hs h f
      by (inr e) = e ∙ sym (none_of h f e)
      by (inl k) =
          ap₂ (is_member gs) k.home_is k.name_is
          ∙ member_at gs k.position k.function k.there
          ∙ sym (ap₂ (is_member hs) k.home_is k.name_is ∙ member_of_there hs k.function (same.there k.function (contains_at gs k.position k.function k.there)))

  pub same_laid : (T : Function → Summary) (c : Callees) → with_summaries c gs (map T gs) ≡ with_summaries c hs (map T hs)
  same_laid T c = pointwise (with_summaries c gs (map T gs)) (with_summaries c hs (map T hs)) (λ h f. by h f (search_named gs h f))
    where
      by : (h : Atom) (f : FunName) → Positioned gs h f ⊎ (is_member gs h f ≡ false) → with_summaries c gs (map T gs) h f ≡ with_summaries c hs (map T hs) h f
      by h f (inr none) = kept gs (map T gs) c h f none ∙ sym (kept hs (map T hs) c h f (none_of h f none))
      by h f (inl k) =
          let here = contains_at gs k.position k.function k.there in
          ap₂ (with_summaries c gs (map T gs)) k.home_is k.name_is
          ∙ laid_at gs T c k.function same.once here
          ∙ sym (laid_at hs T c k.function same.other_once (same.there k.function here))
          ∙ sym (ap₂ (with_summaries c hs (map T hs)) k.home_is k.name_is)

-- ---- rounds, function by function

module _ (c : Callees) (gs : List Function) where
  known_with : (Function → Sig) → Callees
  known_with S = with_summaries c gs (map (λ g. of_one (S g)) gs)

  known_is : (S : Function → Sig) → with_signatures c gs (map S gs) ≡ known_with S
  unfolding known_with
  known_is S = ap (with_summaries c gs) (map_twice of_one S gs)

  pub sig : ℕ → Function → Sig
  sig zero g = nothing (arity g)
  sig (suc k) g = next_signature k (sig k g) (inferred (strict_pass (known_with (sig k))) g)

  all_next_maps : (k : ℕ) (S T : Function → Sig) (ks : List Function) → all_next k (map S ks) (map T ks) ≡ map (λ g. next_signature k (S g) (T g)) ks
  all_next_maps k S T [] = refl
  all_next_maps k S T (g ∷ ks) = ap (λ ss. next_signature k (S g) (T g) ∷ ss) (all_next_maps k S T ks)

  pub rounds_are : (k : ℕ) → after_rounds c gs k ≡ map (sig k) gs
  unfolding sig
  rounds_are zero = refl
  rounds_are (suc k) =
      ap (λ ss. all_next k ss (given c gs ss)) (rounds_are k)
      ∙ ap (λ d. all_next k (map (sig k) gs) (map (inferred (strict_pass d)) gs)) (known_is (sig k))
      ∙ all_next_maps k (sig k) (inferred (strict_pass (known_with (sig k)))) gs

module _ (c : Callees) (gs hs : List Function) (same : SameFunctions gs hs) where
  same_known : (S T : Function → Sig) → ((g : Function) → S g ≡ T g) → known_with c gs S ≡ known_with c hs T
  unfolding known_with
  same_known S T e =
      ap (with_summaries c gs) (same_maps (λ g. of_one (S g)) (λ g. of_one (T g)) (λ g. ap of_one (e g)) gs) ∙ same_laid gs hs same (λ g. of_one (T g)) c

  pub same_sig : (k : ℕ) (g : Function) → sig c gs k g ≡ sig c hs k g
  unfolding sig
  same_sig zero g = refl
  same_sig (suc k) g =
      ap₂ (next_signature k) (same_sig k g) (ap (λ d. inferred (strict_pass d) g) (same_known (sig c gs k) (sig c hs k) (same_sig k)))

-- the summaries of the same functions in two orders, each by one rule
pub record OneRule (c : Callees) (gs hs : List Function) : Type 0 where
  pub rule : Function → Summary
  pub here : summaries c gs ≡ map rule gs
  pub there : summaries c hs ≡ map rule hs

paired_maps : (S T : Function → Sig) (ks : List Function) → paired (map S ks) (map T ks) ≡ map (λ g. record { strict = S g; lenient = T g }) ks
paired_maps S T [] = refl
paired_maps S T (g ∷ ks) = ap (λ ss. record { strict = S g; lenient = T g } ∷ ss) (paired_maps S T ks)

module _ (ends : (outside : Callees) (gs : List Function) (k : ℕ) → last_round outside gs ≤ k → after_rounds outside gs k ≡ strict_signatures outside gs) (c : Callees) (gs hs : List Function) (same : SameFunctions gs hs) where
  abbrev far : ℕ
  far = last_round c gs + last_round c hs

  strict_here : strict_signatures c gs ≡ map (sig c gs far) gs
  strict_here = sym (ends c gs far (omega arith)) ∙ rounds_are c gs far

  strict_there : strict_signatures c hs ≡ map (sig c gs far) hs
  strict_there = sym (ends c hs far (omega arith)) ∙ rounds_are c hs far ∙ sym (same_maps (sig c gs far) (sig c hs far) (same_sig c gs hs same far) hs)

  -- what the lenient pass knows
  around : Callees
  around = known_with c gs (sig c gs far)

  lenient_rule : Function → Sig
  lenient_rule g = inferred (lenient_pass gs around) g

  lenient_here : lenient_signatures c gs ≡ map lenient_rule gs
  unfolding lenient_rule around
  lenient_here =
      ap (λ ss. map (inferred (lenient_pass gs (with_signatures c gs ss))) gs) strict_here
      ∙ ap (λ d. map (inferred (lenient_pass gs d)) gs) (known_is c gs (sig c gs far))

  own_same : is_member hs ≡ is_member gs
  own_same = λ i. λ h f. sym (same_members gs hs same h f) i

  lenient_there : lenient_signatures c hs ≡ map lenient_rule hs
  unfolding lenient_rule around known_with
  lenient_there =
      ap (λ ss. map (inferred (lenient_pass hs (with_signatures c hs ss))) hs) strict_there
      ∙ ap (λ d. map (inferred (lenient_pass hs d)) hs)
      (ap (with_summaries c hs) (map_twice of_one (sig c gs far) hs) ∙ sym (same_laid gs hs same (λ g. of_one (sig c gs far g)) c))
      ∙ ap (λ own. map (inferred (record { lenient = true; own = own; callee = known_with c gs (sig c gs far) })) hs) own_same

  pub one_rule : OneRule c gs hs
  one_rule = record {
    rule = λ g. record { strict = sig c gs far g; lenient = lenient_rule g };
    here = ap₂ paired strict_here lenient_here ∙ paired_maps (sig c gs far) lenient_rule gs;
    there = ap₂ paired strict_there lenient_there ∙ paired_maps (sig c gs far) lenient_rule hs;
  }
