-- The functions of a component while they are entered one after another, and when a function keeps to what is known of it.
use Rattle.std.proofs.Common.{◌≡◌, ◌↔◌, ℕ, ◌+◌, ◌<◌, Bool, true, false, ◌&&◌, ◌||◌, List, ◌∷◌, ◌++◌, length, drop, get_or, slice_get, Some, None, refl, sym, ap, ◌∙◌, subst, true≢false, IsTrue}
use Rattle.std.proofs.lemmas.Option.{same_Some}
use Rattle.type_kinds.proofs.Lists.{drop_next}
use Rattle.type_kinds.specs.declared.atom.Atom.{Atom}
use Rattle.core_ast.specs.declared.syntax.FunName.{FunName}
use Rattle.cons_tree.specs.Callees.{same_home, same_name}
use Rattle.cons_tree.specs.declared.parts.Summary.{Summary}
use Rattle.cons_tree.proofs.NameLaws.{home_is, home_itself, name_is, name_itself}
use Rattle.cons_gen_rows.specs.Passes.{Knowledge}
use Rattle.comp_rounds.specs.Rounds.{Callees, Function, is_member, is_named, strict_pass}
use Rattle.analysis_summaries.specs.Functions.{perhaps, picked}
use Rattle.sound_laws.specs.Knowledge.{summary_of}
use Rattle.table_verify_laws.specs.Closed.{GivesBelow}
use Rattle.table_verify_rules.specs.steps.Knowing.{KeepsBy}

-- ---- the functions of a component

added_so : (old new : Atom → FunName → Bool) (g : Function) → new g.home g.name ≡ true → ((h : Atom) (f : FunName) → ((h ≡ g.home) × (f ≡ g.name) → ⊥) → new h f ≡ old h f)
    → (h : Atom) (f : FunName) → new h f ≡ (is_named g h f || old h f)
added_so old new g here other h f = by (same_home h g.home) refl (same_name f g.name) refl
  where
    by : (b : Bool) → same_home h g.home ≡ b → (c : Bool) → same_name f g.name ≡ c → new h f ≡ ((b && c) || old h f)
    by true d true e = ap (λ k. new k f) (home_is h g.home d) ∙ ap (new g.home) (name_is f g.name e) ∙ here
    by true d false e = other h f (λ w. true≢false (sym (ap (λ q. same_name q g.name) w.1 ∙ name_itself g.name) ∙ e))
    by false d true e = other h f (λ w. true≢false (sym (ap (λ k. same_home k g.home) w.0 ∙ home_itself g.home) ∙ d))
    by false d false e = other h f (λ w. true≢false (sym (ap (λ k. same_home k g.home) w.0 ∙ home_itself g.home) ∙ d))

swapped : (a b c : Bool) → ((a || b) || c) ≡ (b || (a || c))
swapped true true c = refl
swapped true false c = refl
swapped false true c = refl
swapped false false c = refl

pub next_owned : (fs : List Function) (numbers : List ℕ) (i n : ℕ) (g : Function) (old new : Atom → FunName → Bool) → i < length numbers → n ≡ get_or numbers i n → slice_get fs n ≡ Some g
    → new g.home g.name ≡ true → ((h : Atom) (f : FunName) → ((h ≡ g.home) × (f ≡ g.name) → ⊥) → new h f ≡ old h f)
    → (whole : Atom → FunName → Bool) → ((h : Atom) (f : FunName) → (old h f || is_member (picked fs (drop i numbers)) h f) ≡ whole h f)
    → (h : Atom) (f : FunName) → (new h f || is_member (picked fs (drop (i + 1) numbers)) h f) ≡ whole h f
next_owned fs numbers i n g old new low is there here other whole before h f =
    let rest = drop (i + 1) numbers in
    let e : picked fs (drop i numbers) ≡ g ∷ picked fs rest = ap (picked fs) (drop_next numbers i n low is) ∙ ap (λ o. perhaps o ++ picked fs rest) there in
    ap (λ b. b || is_member (picked fs rest) h f) (added_so old new g here other h f)
    ∙ swapped (is_named g h f) (old h f) (is_member (picked fs rest) h f)
    ∙ ap (λ gs. old h f || is_member gs h f) (sym e)
    ∙ before h f

-- ---- one function

module _ (K : Callees) (lenient : Knowledge) (g : Function) (s : Summary) (known : summary_of (K g.home g.name) ≡ Some s) where
  is_one : (k : KeepsBy K lenient g) → k.summary ≡ s
  is_one k = same_Some _ _ (sym k.known_so ∙ known)

  pub not_strict : (b : Bool) → (IsTrue b ↔ GivesBelow (strict_pass K) g s.strict) → b ≡ false → IsTrue false ↔ KeepsBy K lenient g
  not_strict b told fails = (λ t. absurd (true≢false (sym t)), λ k. absurd (true≢false (sym (told.1 (subst (λ x. GivesBelow (strict_pass K) g x.strict) (is_one k) k.strictly)) ∙ fails)))

  pub told_by : (b c : Bool) → (IsTrue b ↔ GivesBelow (strict_pass K) g s.strict) → b ≡ true → (IsTrue c ↔ GivesBelow lenient g s.lenient) → IsTrue c ↔ KeepsBy K lenient g
  told_by b c told holds more = (
    λ t. record { summary = s; known_so = known; strictly = told.0 holds; leniently = more.0 t },
    λ k. more.1 (subst (λ x. GivesBelow lenient g x.lenient) (is_one k) k.leniently),
  )

pub none_known : (K : Callees) (lenient : Knowledge) (g : Function) → summary_of (K g.home g.name) ≡ None → IsTrue false ↔ KeepsBy K lenient g
none_known K lenient g fails = (λ t. absurd (true≢false (sym t)), λ k. absurd (some_none (sym k.known_so ∙ fails)))
  where
    some_none : {x : Summary} → Some x ≡ None → ⊥
    some_none e = absurd cc
