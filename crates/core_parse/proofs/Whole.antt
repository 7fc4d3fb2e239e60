-- What is read doesn't depend on what follows, and each prefix of it is a beginning: so the tokens of a
-- module are at no fault.
use Rattle.std.proofs.Common.{◌≡◌, ◌⊎◌, ℕ, List, [], ◌∷◌, ◌++◌, inl, inr, refl, sym, ap, ◌∙◌, subst, append-nil, arith, length, length-append}
use Rattle.std.proofs.lemmas.List.{append_assoc}
use Rattle.type_kinds.specs.declared.place.Place.{Place}
use Rattle.core_scan.specs.declared.token.Token.{Token}
use Rattle.core_ast.specs.Model as m
use Rattle.core_parse_grammar.specs.declared.fault.ParseFault.{ParseFault}
use Rattle.core_parse_grammar.specs.declared.fault.ParseFault.TheVariants as f
use Rattle.core_parse_grammar.specs.Grammar.{Part, a, first, the, Nonterminal, SaidBy, Said, Action, Way, ways, annotated_module}
use Rattle.core_parse_grammar.specs.Spells.{Reads, ReadsOne, ReadsAll, SpellsTo}
use Rattle.core_parse_grammar.specs.Spells as r
use Rattle.core_parse_grammar.specs.Begins.{Prefixes, nothing, token_, node_, part_, PrefixesOne, here_, later_, PrefixesAll, none_, inside, whole, BeginsTo, depth_limit, Refused}

-- the tokens that were read, behind which anything may follow
abbrev Used : (List Token → List Token → Type 0) → List Token → List Token → Type 0
Used R ts us = (used : List Token) × (ts ≡ used ++ us) × ((other : List Token) → R (used ++ other) other)

module _ (l : ℕ) where
  after : (n : Nonterminal) (p : Part) (ps : List Part) (f : Action (p ∷ ps) (Said n)) (ts mid us : List Token) (v : Said n) (x : SaidBy p)
      → Used (λ q u. Reads l p q x u) ts mid → Used (λ q u. ReadsAll l n ps (f x) q v u) mid us → Used (λ q u. ReadsAll l n (p ∷ ps) f q v u) ts us
  after n p ps f ts mid us v x y z = (
    y.0 ++ z.0,
    y.1 ∙ ap (λ q. y.0 ++ q) z.1 ∙ sym (append_assoc y.0 z.0 us),
    λ other. subst (λ q. ReadsAll l n (p ∷ ps) f q v other) (sym (append_assoc y.0 z.0 other)) (r.one (y.2 (z.0 ++ other)) (z.2 other)),
  )

  mutual
    pub read_alone : (p : Part) (ts us : List Token) (v : SaidBy p) → Reads l p ts v us → Used (λ x y. Reads l p x v y) ts us
    read_alone (a c) ts us v (r.token {t = t} h) = (t ∷ [], refl, λ other. r.token h)
    read_alone (first d c) ts us v (r.node {t = t} h k) = (t ∷ [], refl, λ other. r.node h k)
    read_alone (the n) ts us v (r.part h) = let z = one_alone n (ways n) ts us v h in (z.0, z.1, λ other. r.part (z.2 other))

    one_alone : (n : Nonterminal) (ws : List (Way (Said n))) (ts us : List Token) (v : Said n) → ReadsOne l n ws ts v us → Used (λ x y. ReadsOne l n ws x v y) ts us
    one_alone n (w ∷ ws) ts us v (r.here h) = let z = all_alone n w.parts w.says ts us v h in (z.0, z.1, λ other. r.here (z.2 other))
    one_alone n (w ∷ ws) ts us v (r.later h) = let z = one_alone n ws ts us v h in (z.0, z.1, λ other. r.later (z.2 other))
    one_alone n [] ts us v h = elim h [ ]

    all_alone : (n : Nonterminal) (ps : List Part) (f : Action ps (Said n)) (ts us : List Token) (v : Said n) → ReadsAll l n ps f ts v us → Used (λ x y. ReadsAll l n ps f x v y) ts us
    all_alone n [] f ts us v r.none = ([], refl, λ other. r.none)
    all_alone n (p ∷ ps) f ts us v (r.one {us = mid} h k) = after n p ps f ts mid us v _ (read_alone p ts mid _ h) (all_alone n ps _ mid us v k)

none_more : (xs mid us : List Token) → us ≡ xs ++ (mid ++ us) → xs ≡ []
none_more [] mid us e = refl
none_more (x ∷ xs) mid us e = absurd (omega (arith, ap (λ y. length y) e, length-append xs (mid ++ us), length-append mid us))

-- which of two prefixes of the same tokens is a prefix of the other
pub apart : (xs ys bs cs : List Token) → xs ++ bs ≡ ys ++ cs → ((more : List Token) × (ys ≡ xs ++ more) × (bs ≡ more ++ cs)) ⊎ ((more : List Token) × (xs ≡ ys ++ more) × (cs ≡ more ++ bs))
apart [] ys bs cs e = inl (ys, refl, e)
apart (x ∷ xs) [] bs cs e = inr (x ∷ xs, refl, sym e)
apart (x ∷ xs) (y ∷ ys) bs cs e = elim (apart xs ys bs cs cc)
    [ inl z ↦ inl (z.0, cons_same y x ys (xs ++ z.0) (sym (head_of e)) z.1, z.2) | inr z ↦ inr (z.0, cons_same x y xs (ys ++ z.0) (head_of e) z.1, z.2) ]
  where
    head_of : x ∷ (xs ++ bs) ≡ y ∷ (ys ++ cs) → x ≡ y
    head_of e = cc

    cons_same : (p q : Token) (ps qs : List Token) → p ≡ q → ps ≡ qs → p ∷ ps ≡ q ∷ qs
    cons_same p q ps qs e h = cc

single : (t x : Token) (us xs mid : List Token) → t ∷ us ≡ x ∷ (xs ++ (mid ++ us)) → t ∷ [] ≡ x ∷ xs
single t x us xs mid e = let k : xs ≡ [] = none_more xs mid us cc in cc

module _ (l : ℕ) where
  begun_by_both : (p : Part) (ps : List Part) (ts left us before mid : List Token) (x : SaidBy p) → Used (λ y z. Reads l p y x z) ts left
      → ((q : List Token) → ts ≡ before ++ (q ++ left) → Prefixes l p before) → ((q : List Token) → left ≡ q ++ (mid ++ us) → PrefixesAll l ps q)
      → ts ≡ before ++ (mid ++ us) → PrefixesAll l (p ∷ ps) before
  begun_by_both p ps ts left us before mid x y h k e = elim (apart y.0 before left (mid ++ us) (sym y.1 ∙ e)) [
    | inl z ↦ whole (subst (λ q. Reads l p q x z.0) (sym z.1) (y.2 z.0)) (k z.0 z.2)
    | inr z ↦ inside (h z.0 (y.1 ∙ ap (λ q. q ++ left) z.1 ∙ append_assoc before z.0 left))
  ]

  mutual
    pub begun_by : (p : Part) (ts us : List Token) (v : SaidBy p) → Reads l p ts v us → (before mid : List Token) → ts ≡ before ++ (mid ++ us) → Prefixes l p before
    begun_by p ts us v h [] mid e = nothing
    begun_by (a c) ts us v (r.token {t = t} h) (x ∷ xs) mid e = subst (λ q. Prefixes l (a c) q) (single t x us xs mid e) (token_ h)
    begun_by (first d c) ts us v (r.node {t = t} h k) (x ∷ xs) mid e = subst (λ q. Prefixes l (first d c) q) (single t x us xs mid e) (node_ h k)
    begun_by (the n) ts us v (r.part h) (x ∷ xs) mid e = part_ (begun_by_one n (ways n) ts us v h (x ∷ xs) mid e)

    begun_by_one : (n : Nonterminal) (ws : List (Way (Said n))) (ts us : List Token) (v : Said n) → ReadsOne l n ws ts v us → (before mid : List Token) → ts ≡ before ++ (mid ++ us) → PrefixesOne l n ws before
    begun_by_one n (w ∷ ws) ts us v (r.here h) before mid e = here_ (begun_by_all n w.parts w.says ts us v h before mid e)
    begun_by_one n (w ∷ ws) ts us v (r.later h) before mid e = later_ (begun_by_one n ws ts us v h before mid e)
    begun_by_one n [] ts us v h before mid e = elim h [ ]

    begun_by_all : (n : Nonterminal) (ps : List Part) (f : Action ps (Said n)) (ts us : List Token) (v : Said n) → ReadsAll l n ps f ts v us → (before mid : List Token) → ts ≡ before ++ (mid ++ us) → PrefixesAll l ps before
    begun_by_all n [] f ts us v r.none before mid e = subst (λ q. PrefixesAll l [] q) (sym (none_more before mid us e)) none_
    begun_by_all n (p ∷ ps) f ts us v (r.one {us = left} h k) before mid e =
        begun_by_both p ps ts left us before mid _ (read_alone l p ts left _ h) (λ q b. begun_by p ts left _ h before q b) (λ q b. begun_by_all n ps _ left us v k q mid b) e

-- each prefix of a module's tokens begins a module, as deep
front_of_module : (l : ℕ) (ts : List Token) (x : m.Module) → SpellsTo l ts x → (before more : List Token) → ts ≡ before ++ more → BeginsTo l before
front_of_module l ts x h before more e = begun_by l (the annotated_module) ts [] h.says h.reads before more (e ∙ ap (λ q. before ++ q) (sym (append-nil more)))

-- a prefix up to and with a token
front_with : (l : ℕ) (ts : List Token) (x : m.Module) → SpellsTo l ts x → (before more : List Token) (t : Token) → ts ≡ before ++ t ∷ more → BeginsTo l (before ++ t ∷ [])
front_with l ts x h before more t e = front_of_module l ts x h (before ++ t ∷ []) more (e ∙ sym (append_assoc before (t ∷ []) more))

-- The tokens of a module within the limit are refused only when out of memory.
pub module_is_no_fault : (ts : List Token) (x : m.Module) → SpellsTo depth_limit ts x → (end : Place) (e : ParseFault) → Refused ts end e → e ≡ f.Memory
module_is_no_fault ts x h end f.Memory b = refl
module_is_no_fault ts x h end (f.TooDeep place) b = absurd (b.too_deep (front_with depth_limit ts x h b.before b.after b.at b.split))
module_is_no_fault ts x h end (f.Syntax place) (inl b) = absurd (b.first_bad (depth_limit, front_with depth_limit ts x h b.before b.after b.at b.split))
module_is_no_fault ts x h end (f.Syntax place) (inr b) = absurd (b.1.none x (depth_limit, h))
