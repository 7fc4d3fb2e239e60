-- What is known of the whole is closed.
use Rattle.std.proofs.Common.{◌≡◌, Bool, true, false, cond, ◌||◌, List, [], ◌∷◌, length, map, Option, Some, None, refl, sym, ap, ap₂, ◌∙◌, subst, true≢false, eqb-true}
use Rattle.std.specs.Cmp.Lexicographic.{pointwise, bytes_decides}
use Rattle.type_kinds.specs.declared.atom.Atom.{Atom}
use Rattle.core_ast.specs.declared.syntax.FunName.{FunName}
use Rattle.std.specs.Prelude.{nat_eq}
use Rattle.std.proofs.lemmas.Bool.{and_parts}
use Rattle.std.proofs.lemmas.Option.{same_Some}
use Rattle.cons_tree.specs.Callees.{same_home, same_name}
use Rattle.cons_tree.specs.Constraints.{Cons}
use Rattle.cons_tree.specs.Environments.{Types}
use Rattle.cons_tree.specs.Facts.{TypeFacts}
use Rattle.cons_tree.specs.Signatures.{has_none}
use Rattle.cons_tree.specs.declared.parts.Callee.{Callee}
use Rattle.cons_tree.specs.declared.parts.Callee.TheVariants.{Known, Local}
use Rattle.cons_tree.specs.declared.parts.Part.{Part}
use Rattle.cons_tree.specs.declared.parts.Sig.{Sig}
use Rattle.cons_tree.specs.declared.parts.Summary.{Summary}
use Rattle.cons_gen_rows.specs.Passes.{Knowledge}
use Rattle.cons_solve.specs.Environments.{solution}
use Rattle.comp_rounds.specs.Rounds.{Callees, Function, is_named, is_member, callee_of, with_function, of_one, with_signatures, strict_pass, lenient_pass, inferred, paired, given, strict_signatures, lenient_signatures, summaries}
use Rattle.comp_rounds.specs.Signatures.{is_below, all_below}
use Rattle.core_meaning.specs.Programs.{Program, Found, built_in, exported, hidden, outside, found}
use Rattle.sound_laws.specs.Knowledge.{Allows, summary_of}
use Rattle.sound_laws.specs.Summaries as laws
use Rattle.sound_laws.specs.Summaries.{Definition, definition_of, IsWithin, AreClosed, strict_of, lenient_of}
use Rattle.sound_laws_rounds.specs.Whole.{IsFunctionOf, AreFunctionsOf, AreKnown, IsWhole}
use Rattle.sound_laws_rounds.proofs.Callees.{summary_is}
use Rattle.sound_laws_rounds.proofs.Inferred.{inferred_within, same_below}

-- names that are one
named_is : (g : Function) (home : Atom) (f : FunName) → is_named g home f ≡ true → (home ≡ g.home) × (f ≡ g.name)
named_is g home f e =
    let both = and_parts (same_home home g.home) (same_name f g.name) e in
    let names = and_parts (pointwise nat_eq f.name g.name.name) (nat_eq f.arity g.name.arity) both.1 in
    let name : f.name ≡ g.name.name = (bytes_decides f.name g.name.name).0 names.0 in
    let arity : f.arity ≡ g.name.arity = eqb-true f.arity g.name.arity names.1 in
    ((bytes_decides home g.home).0 both.0, λ i. record { name = name i; arity = arity i })

-- ---- what is known where members have signatures

-- something holds of each member of this name, by its signature
abbrev EachNamed : (Callee → Type 0) → Atom → FunName → List Function → List Sig → Type 0
EachNamed Q home f [] ss = Unit {0}
EachNamed Q home f (g ∷ gs) [] = Unit {0}
EachNamed Q home f (g ∷ gs) (s ∷ ss) = (is_named g home f ≡ true → Q (callee_of g (of_one s))) × EachNamed Q home f gs ss

by_members : (Q : Callee → Type 0) (around : Callees) (gs : List Function) (ss : List Sig) (home : Atom) (f : FunName) → Q (around home f) → EachNamed Q home f gs ss → Q (with_signatures around gs ss home f)
by_members Q around [] ss home f h each = h
by_members Q around (g ∷ gs) [] home f h each = h
by_members Q around (g ∷ gs) (s ∷ ss) home f h each = by_members Q (with_function around g (of_one s)) gs ss home f (by (is_named g home f) refl) each.1
  where
    by : (b : Bool) → is_named g home f ≡ b → Q (cond b (callee_of g (of_one s)) (around home f))
    by true e = each.0 e
    by false e = h

-- whether a callee is allowed doesn't rest on its summary
allowed_alike : (x : Found) (g : Function) (s t : Summary) → Allows x (callee_of g s) → Allows x (callee_of g t)
allowed_alike x g s t h = by g.exported h
  where
    at : (x : Found) (b : Bool) → Allows x (cond b (Known s) (Local s)) → Allows x (cond b (Known t) (Local t))
    at built_in b k = tt
    at exported true k = tt
    at exported false k = k
    at hidden b k = tt
    at outside true k = k
    at outside false k = k

    by : (b : Bool) → Allows x (cond b (Known s) (Local s)) → Allows x (cond b (Known t) (Local t))
    by b k = at x b k

module _ (T : TypeFacts) (alive : (c : Cons Part) (xs ys : Types) → has_none xs ≡ false → solution c xs ≡ Some ys → has_none ys ≡ false) (settles : (around : Callees) (gs : List Function)
    → all_below (given around gs (strict_signatures around gs)) (strict_signatures around gs) ≡ true) (U : Program) (K : Callees) (whole : IsWhole U K) where
  -- ---- honest

  honest_members : (gs : List Function) (ss ls : List Sig) (home : Atom) (f : FunName) → AreKnown K gs (paired ss ls) → EachNamed (Allows (found U home f)) home f gs ss
  honest_members [] ss ls home f k = tt
  honest_members (g ∷ gs) [] ls home f k = tt
  honest_members (g ∷ gs) (s ∷ ss) [] home f k = absurd k
  honest_members (g ∷ gs) (s ∷ ss) (l ∷ ls) home f k = (
    λ e.
        let names = named_is g home f e in
        let same : K home f ≡ callee_of g (record { strict = s; lenient = l }) = ap₂ K names.0 names.1 ∙ k.0 in
        allowed_alike (found U home f) g (record { strict = s; lenient = l }) (of_one s) (subst (Allows (found U home f)) same (whole.honest home f)),
    honest_members gs ss ls home f k.1,
  )

  honest_by : (gs : List Function) (home : Atom) (f : FunName) → AreKnown K gs (summaries K gs) → Allows (found U home f) (with_signatures K gs (strict_signatures K gs) home f)
  honest_by gs home f k = by_members (Allows (found U home f)) K gs (strict_signatures K gs) home f (whole.honest home f) (honest_members gs (strict_signatures K gs) (lenient_signatures K gs) home f k)

  -- ---- signatures that are taken

  abbrev TakesStrict : Atom → FunName → Callee → Type 0
  TakesStrict home f c = (s : Summary) → summary_of c ≡ Some s → strict_of (summary_of (K home f)) ≡ Some s.strict

  abbrev TakesLenient : Atom → FunName → Callee → Type 0
  TakesLenient home f c = (s : Summary) → summary_of c ≡ Some s → lenient_of (summary_of (K home f)) ≡ Some s.lenient

  strict_members : (gs : List Function) (ss ls : List Sig) (home : Atom) (f : FunName) → AreKnown K gs (paired ss ls) → EachNamed (TakesStrict home f) home f gs ss
  strict_members [] ss ls home f k = tt
  strict_members (g ∷ gs) [] ls home f k = tt
  strict_members (g ∷ gs) (s ∷ ss) [] home f k = absurd k
  strict_members (g ∷ gs) (s ∷ ss) (l ∷ ls) home f k = (
    λ e t q.
        let names = named_is g home f e in
        let same : K home f ≡ callee_of g (record { strict = s; lenient = l }) = ap₂ K names.0 names.1 ∙ k.0 in
        let it : of_one s ≡ t = same_Some _ _ (sym (summary_is g (of_one s)) ∙ q) in
        ap (λ c. strict_of (summary_of c)) same ∙ ap strict_of (summary_is g (record { strict = s; lenient = l })) ∙ ap (λ z. Some z.strict) it,
    strict_members gs ss ls home f k.1,
  )

  -- where no member has the name nothing is asked
  no_members : (Q : Callee → Type 0) (gs : List Function) (ss : List Sig) (home : Atom) (f : FunName) → is_member gs home f ≡ false → EachNamed Q home f gs ss
  no_members Q [] ss home f e = tt
  no_members Q (g ∷ gs) [] home f e = tt
  no_members Q (g ∷ gs) (s ∷ ss) home f e = by (is_named g home f) refl e (no_members Q gs ss home f)
    where
      by : (b : Bool) → is_named g home f ≡ b → (b || is_member gs home f) ≡ false → (is_member gs home f ≡ false → EachNamed Q home f gs ss)
          → (is_named g home f ≡ true → Q (callee_of g (of_one s))) × EachNamed Q home f gs ss
      by true q k more = absurd (true≢false k)
      by false q k more = ((λ z. absurd (true≢false (sym z ∙ q))), more k)

  -- ---- the member of a name

  record IsFound (P L : Knowledge) (home : Atom) (f : FunName) : Type 0 where
    function : Function
    strict : Sig
    lenient : Sig
    homes : home ≡ function.home
    names : f ≡ function.name
    known : K function.home function.name ≡ callee_of function (record { strict = strict; lenient = lenient })
    of : IsFunctionOf U function
    below : is_below (inferred P function) strict ≡ true
    is : lenient ≡ inferred L function

  find : (P L : Knowledge) (gs : List Function) (ss : List Sig) (home : Atom) (f : FunName) → is_member gs home f ≡ true → AreKnown K gs (paired ss (map (inferred L) gs)) → AreFunctionsOf U gs
      → all_below (map (inferred P) gs) ss ≡ true → IsFound P L home f
  find P L [] ss home f e k u b = absurd (true≢false (sym e))
  find P L (g ∷ gs) [] home f e k u b = absurd k
  find P L (g ∷ gs) (s ∷ ss) home f e k u b =
      let both = and_parts (is_below (inferred P g) s) (all_below (map (inferred P) gs) ss) b in
      by (is_named g home f) refl e both.0 (λ z. find P L gs ss home f z k.1 u.1 both.1)
    where
      by : (c : Bool) → is_named g home f ≡ c → (c || is_member gs home f) ≡ true → is_below (inferred P g) s ≡ true → (is_member gs home f ≡ true → IsFound P L home f) → IsFound P L home f
      by true q z under more = let n = named_is g home f q in record { function = g; strict = s; lenient = inferred L g; homes = n.0; names = n.1; known = k.0; of = u.0; below = under; is = refl }
      by false q z under more = more z

  -- ---- closed

  some_summary : (o : Option Summary) (s : Sig) → strict_of o ≡ Some s → (t : Summary) × (o ≡ Some t)
  some_summary None s e = absurd cc
  some_summary (Some t) s e = (t, refl)

  some_lenient : (o : Option Summary) (s : Sig) → lenient_of o ≡ Some s → (t : Summary) × (o ≡ Some t)
  some_lenient None s e = absurd cc
  some_lenient (Some t) s e = (t, refl)

  abbrev Component : Atom → FunName → List Function
  Component home f = whole.component home f

  abbrev Callees_of : Atom → FunName → Callees
  Callees_of home f = with_signatures K (Component home f) (strict_signatures K (Component home f))

  abbrev Strict : Atom → FunName → Knowledge
  Strict home f = strict_pass (Callees_of home f)

  abbrev Lenient : Atom → FunName → Knowledge
  Lenient home f = lenient_pass (Component home f) (Callees_of home f)

  found_at : (home : Atom) (f : FunName) (t : Summary) → summary_of (K home f) ≡ Some t → IsFound (Strict home f) (Lenient home f) home f
  found_at home f t e = find (Strict home f) (Lenient home f) (Component home f) (strict_signatures K (Component home f)) home f (whole.member home f t e) (whole.known home f) (whole.functions home f) (settles K (Component home f))

  -- the definition of the member is that of the name, and its summary the one that is known
  at_definition : (P : Knowledge) (home : Atom) (f : FunName) (g : Function) (d : Definition) (s : Sig) → home ≡ g.home → f ≡ g.name → IsFunctionOf U g → definition_of U home f ≡ Some d
      → IsWithin (length g.parameters) (laws.solved P g.home g.parameters g.body) s → IsWithin (length d.parameters) (laws.solved P home d.parameters d.body) s
  at_definition P home f g d s homes names of e h =
      let same : record { parameters = g.parameters; body = g.body } ≡ d = same_Some _ _ (sym of.defined ∙ sym (ap₂ (definition_of U) homes names) ∙ e) in
      subst (λ z. IsWithin (length d.parameters) (laws.solved P z d.parameters d.body) s) (sym homes) (subst (λ z. IsWithin (length z.parameters) (laws.solved P g.home z.parameters z.body) s) same h)

  pub are_closed : AreClosed U K
  are_closed = record {
    strict = record {
      pass = Strict;
      honest = λ home f other g. honest_by (Component home f) other g (whole.known home f);
      takes = λ home f other g s own known. by_members (TakesStrict other g) K (Component home f) (strict_signatures K (Component home f)) other g (λ t q. ap strict_of q)
          (strict_members (Component home f) (strict_signatures K (Component home f)) (lenient_signatures K (Component home f)) other g (whole.known home f)) s known;
      above = λ home f d s e k.
          let t = some_summary (summary_of (K home f)) s k in
          let it = found_at home f t.0 t.1 in
          let same : K home f ≡ callee_of it.function (record { strict = it.strict; lenient = it.lenient }) = ap₂ K it.homes it.names ∙ it.known in
          let is : it.strict ≡ s = same_Some _ _ (sym (ap (λ c. strict_of (summary_of c)) same ∙ ap strict_of (summary_is it.function (record { strict = it.strict; lenient = it.lenient }))) ∙ k) in
          at_definition (Strict home f) home f it.function d s it.homes it.names it.of e (inferred_within T alive (Strict home f) it.function s (subst (λ z. is_below (inferred (Strict home f) it.function) z ≡ true) is it.below));
    };
    lenient = record {
      pass = Lenient;
      honest = λ home f other g. honest_by (Component home f) other g (whole.known home f);
      takes = λ home f other g s own known. by_members (TakesLenient other g) K (Component home f) (strict_signatures K (Component home f)) other g (λ t q. ap lenient_of q)
          (no_members (TakesLenient other g) (Component home f) (strict_signatures K (Component home f)) other g own) s known;
      above = λ home f d s e k.
          let t = some_lenient (summary_of (K home f)) s k in
          let it = found_at home f t.0 t.1 in
          let same : K home f ≡ callee_of it.function (record { strict = it.strict; lenient = it.lenient }) = ap₂ K it.homes it.names ∙ it.known in
          let is : it.lenient ≡ s = same_Some _ _ (sym (ap (λ c. lenient_of (summary_of c)) same ∙ ap lenient_of (summary_is it.function (record { strict = it.strict; lenient = it.lenient }))) ∙ k) in
          at_definition (Lenient home f) home f it.function d s it.homes it.names it.of e
          (inferred_within T alive (Lenient home f) it.function s (subst (λ z. is_below (inferred (Lenient home f) it.function) z ≡ true) (sym it.is ∙ is) (same_below T alive (inferred (Lenient home f) it.function))));
    };
  }
