-- What the summaries of a component rest on: of all that is known outside, only on what its functions call outside.
use Rattle.std.proofs.Common.{◌≡◌, ℕ, zero, suc, Bool, true, false, cond, ◌||◌, List, [], ◌∷◌, length, map, ◌⊎◌, inl, inr, refl, sym, ap, ap₂, ◌∙◌, true≢false, arith}
use Rattle.std.proofs.Math.Nat.{suc_inj}
use Rattle.type_kinds.specs.declared.atom.Atom.{Atom}
use Rattle.core_ast.specs.declared.syntax.FunName.{FunName}
use Rattle.core_ast.specs.Model as m
use Rattle.core_scope.specs.Asks.{erlang}
use Rattle.core_scope.specs.Names.{same_atom}
use Rattle.call_graph.specs.Targets.CallTarget.{defined, inner, remote}
use Rattle.call_graph.specs.Targets.{CallTarget, targets}
use Rattle.cons_tree.specs.declared.parts.Callee.{Callee}
use Rattle.cons_tree.specs.declared.parts.Sig.{Sig}
use Rattle.cons_tree.specs.declared.parts.Summary.{Summary}
use Rattle.comp_rounds.specs.Rounds.{Callees, Function, is_named, is_member, callee_of, with_function, with_summaries, with_signatures, of_one, inferred}
use Rattle.comp_rounds.specs.Rounds.{lenient_pass, all_next, given, after_rounds, last_round, strict_signatures, lenient_signatures, paired, summaries}
use Rattle.cons_gen_frame.specs.Agreement.{AreAlike, Agrees, EachAgrees}
use Rattle.comp_rounds.proofs.Framed.{inferred_same}

-- ---- with the summaries of the component's functions

-- Outside of a component two things that are known agree on what a call goes to.
abbrev pub AgreesBut : List Function → (c d : Callees) → (home : Atom) → CallTarget → Type 0
AgreesBut gs c d home (defined f n) = (is_member gs home f ≡ true) ⊎ (c home f ≡ d home f)
AgreesBut gs c d home (inner f n) = Unit {0}
AgreesBut gs c d home (remote h f) = (same_atom h erlang ≡ true) ⊎ ((is_member gs h f ≡ true) ⊎ AreAlike (c h f) (d h f))

abbrev pub EachBut : List Function → (c d : Callees) → (home : Atom) → List CallTarget → Type 0
EachBut gs c d home [] = Unit {0}
EachBut gs c d home (x ∷ xs) = AgreesBut gs c d home x × EachBut gs c d home xs

-- so on what each of these functions calls
abbrev pub AllBut : List Function → (c d : Callees) → List Function → Type 0
AllBut gs c d [] = Unit {0}
AllBut gs c d (k ∷ ks) = EachBut gs c d k.home (targets [] k.body) × AllBut gs c d ks

-- what is told of two callees stays true where the same callee hides both
hidden_both : (R : Callee → Callee → Type 0) → ((x : Callee) → R x x) → (b : Bool) (x y z : Callee) → R y z → R (cond b x y) (cond b x z)
hidden_both R itself true x y z h = itself x
hidden_both R itself false x y z h = h

pub laid_alike : (R : Callee → Callee → Type 0) → ((x : Callee) → R x x) → (gs : List Function) (ss : List Summary) (c d : Callees) (h : Atom) (f : FunName)
    → R (c h f) (d h f) → R (with_summaries c gs ss h f) (with_summaries d gs ss h f)
laid_alike R itself [] ss c d h f r = r
laid_alike R itself (g ∷ gs) [] c d h f r = r
laid_alike R itself (g ∷ gs) (s ∷ ss) c d h f r =
    laid_alike R itself gs ss (with_function c g s) (with_function d g s) h f (hidden_both R itself (is_named g h f) (callee_of g s) (c h f) (d h f) r)

-- a member is known by its summary, whatever was known before
pub laid_member : (gs : List Function) (ss : List Summary) (c d : Callees) (h : Atom) (f : FunName) → length ss ≡ length gs → is_member gs h f ≡ true
    → with_summaries c gs ss h f ≡ with_summaries d gs ss h f
laid_member [] ss c d h f n e = absurd (true≢false (sym e))
laid_member (g ∷ gs) [] c d h f n e = absurd (omega arith)
laid_member (g ∷ gs) (s ∷ ss) c d h f n e = by (is_named g h f) refl (laid_member gs ss (with_function c g s) (with_function d g s) h f (suc_inj {m = length ss} {n = length gs} n))
  where
    by : (b : Bool) → is_named g h f ≡ b → (is_member gs h f ≡ true → with_summaries (with_function c g s) gs ss h f ≡ with_summaries (with_function d g s) gs ss h f)
        → with_summaries (with_function c g s) gs ss h f ≡ with_summaries (with_function d g s) gs ss h f
    by true is later =
        laid_alike (λ x y. x ≡ y) (λ x. refl) gs ss (with_function c g s) (with_function d g s) h f
        (ap (λ b. cond b (callee_of g s) (c h f)) is ∙ sym (ap (λ b. cond b (callee_of g s) (d h f)) is))
    by false is later = later (ap (λ b. b || is_member gs h f) (sym is) ∙ e)

module _ (gs : List Function) (c d : Callees) where
  module _ (ss : List Summary) (long : length ss ≡ length gs) where
    abbrev C : Callees
    C = with_summaries c gs ss

    abbrev D : Callees
    D = with_summaries d gs ss

    call_agrees : (home : Atom) (x : CallTarget) → AgreesBut gs c d home x → Agrees C D home x
    call_agrees home (defined f n) (inl is) = laid_member gs ss c d home f long is
    call_agrees home (defined f n) (inr e) = laid_alike (λ x y. x ≡ y) (λ x. refl) gs ss c d home f e
    call_agrees home (inner f n) h = tt
    call_agrees home (remote h f) (inl e) = inl e
    call_agrees home (remote h f) (inr (inl is)) = inr (inl (laid_member gs ss c d h f long is))
    call_agrees home (remote h f) (inr (inr alike)) = inr (laid_alike AreAlike (λ x. inl refl) gs ss c d h f alike)

    calls_agree : (home : Atom) (xs : List CallTarget) → EachBut gs c d home xs → EachAgrees C D home xs
    calls_agree home [] h = tt
    calls_agree home (x ∷ xs) h = (call_agrees home x h.0, calls_agree home xs h.1)

    all_inferred : (lenient : Bool) (own : Atom → FunName → Bool) (ks : List Function) → AllBut gs c d ks
        → map (inferred (record { lenient = lenient; own = own; callee = C })) ks ≡ map (inferred (record { lenient = lenient; own = own; callee = D })) ks
    all_inferred lenient own [] h = refl
    all_inferred lenient own (k ∷ ks) h =
        ap₂ (λ x xs. x ∷ xs) (inferred_same lenient own C D k (record { each = calls_agree k.home (targets [] k.body) h.0 })) (all_inferred lenient own ks h.1)

  -- ---- rounds

  map_long : {A B : Type 0} (f : A → B) (xs : List A) → length (map f xs) ≡ length xs
  map_long f [] = refl
  map_long f (x ∷ xs) = ap suc (map_long f xs)

  next_long : (k : ℕ) (ss ts : List Sig) → length ts ≡ length ss → length (all_next k ss ts) ≡ length ss
  next_long k [] ts e = refl
  next_long k (s ∷ ss) [] e = absurd (omega arith)
  next_long k (s ∷ ss) (t ∷ ts) e = ap suc (next_long k ss ts (suc_inj {m = length ts} {n = length ss} e))

  rounds_long : (k : ℕ) → length (after_rounds c gs k) ≡ length gs
  rounds_long zero = map_long _ gs
  rounds_long (suc k) =
      next_long k (after_rounds c gs k) (given c gs (after_rounds c gs k)) (map_long _ gs ∙ sym (rounds_long k)) ∙ rounds_long k

  module _ (agree : AllBut gs c d gs) where
    given_same : (ss : List Sig) → length ss ≡ length gs → given c gs ss ≡ given d gs ss
    given_same ss long = all_inferred (map of_one ss) (map_long of_one ss ∙ long) false (λ home f. false) gs agree

    rounds_same : (k : ℕ) → after_rounds c gs k ≡ after_rounds d gs k
    rounds_same zero = refl
    rounds_same (suc k) =
        ap (all_next k (after_rounds c gs k)) (given_same (after_rounds c gs k) (rounds_long k))
        ∙ ap (λ ss. all_next k ss (given d gs ss)) (rounds_same k)

    strict_same : strict_signatures c gs ≡ strict_signatures d gs
    strict_same = rounds_same (last_round c gs)

    lenient_same : lenient_signatures c gs ≡ lenient_signatures d gs
    lenient_same =
        all_inferred (map of_one (strict_signatures c gs)) (map_long of_one (strict_signatures c gs) ∙ rounds_long (last_round c gs)) true (is_member gs) gs agree
        ∙ ap (λ ss. map (inferred (lenient_pass gs (with_signatures d gs ss))) gs) strict_same

    pub summaries_frame : summaries c gs ≡ summaries d gs
    summaries_frame = ap₂ paired strict_same lenient_same

  paired_long : (ss ts : List Sig) → length ts ≡ length ss → length (paired ss ts) ≡ length ss
  paired_long [] ts e = refl
  paired_long (s ∷ ss) [] e = absurd (omega arith)
  paired_long (s ∷ ss) (t ∷ ts) e = ap suc (paired_long ss ts (suc_inj {m = length ts} {n = length ss} e))

  pub summaries_long : length (summaries c gs) ≡ length gs
  summaries_long =
      paired_long (strict_signatures c gs) (lenient_signatures c gs) (map_long _ gs ∙ sym (rounds_long (last_round c gs))) ∙ rounds_long (last_round c gs)
