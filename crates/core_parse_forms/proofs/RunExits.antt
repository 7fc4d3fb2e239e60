-- Definitions, one behind another, up to a closing token: each way out.
use Rattle.std.proofs.Common.{◌≡◌, ℕ, ◌+◌, List, [], ◌∷◌, ◌++◌, true, refl, sym, ap, ◌∙◌, subst, append-nil, append_assoc}
use Rattle.type_kinds.specs.declared.place.Place.{Place}
use Rattle.core_scan.specs.declared.token.Token.{Token}
use Rattle.core_scan.specs.declared.sort.Sort.{Sort}
use Rattle.core_scan.specs.declared.sort.Sort.TheVariants as s
use Rattle.core_scan.specs.Sorts.{sort}
use Rattle.core_scan.proofs.SortLaws.{fits_no_other}
use Rattle.core_ast.specs.declared.syntax.FunDefOf.{FunDefOf}
use Rattle.core_ast.specs.Model as m
use Rattle.core_ast.specs.Tree as lists
use Rattle.core_parse_grammar.specs.declared.fault.PartFault.{PartFault}
use Rattle.core_parse_grammar.specs.Grammar.{the, definitions, definition}
use Rattle.core_parse_grammar.specs.Labels.{labelled, number, number_defs}
use Rattle.core_parse_grammar.specs.Track.{Goes, itself, said, Passes, Guarded}
use Rattle.core_parse_grammar.specs.Faults.{Refuses, Starts, RanOut}
use Rattle.core_parse_forms.specs.steps.Items.{number_each}
use Rattle.core_parse_forms.specs.steps.Clauses.{ends_definitions}
use Rattle.core_parse_grammar.specs.Readings.{ReadsDefinition, ReadsDefinitions}
use Rattle.core_parse_grammar.proofs.Moves.{◌>>◌, stay, expand}
use Rattle.core_parse_grammar.proofs.Places.{taken, through, refused, ran_out, drop}
use Rattle.core_parse_forms.proofs.ItemNumbers.{each_more}

-- Definitions are numbered one after another.
abbrev number_definition : ℕ → FunDefOf m.Tree → FunDefOf m.Tree × ℕ
number_definition n x = let r = number (n + 1) x.fun.body in (record { name = x.name; mark = labelled n x.mark; fun = record { params = x.fun.params; body = r.0 } }, r.1)

definitions_each : (n : ℕ) (xs : List (FunDefOf m.Tree)) → number_defs n (lists.defs xs) ≡ (let r = number_each number_definition n xs in (lists.defs r.0, r.1))
definitions_each n [] = refl
definitions_each n (x ∷ xs) = let r = number_definition n x in ap (λ (s : m.Defs × ℕ). let z : m.Defs × ℕ = (m.and_def r.0.name r.0.mark r.0.fun.params r.0.fun.body s.0, s.1) in z) (definitions_each r.1 xs)

definition_one : (n p : ℕ) (x y : FunDefOf m.Tree) → number_defs n (lists.defs (x ∷ [])) ≡ (lists.defs (y ∷ []), p) → number_definition n x ≡ (y, p)
definition_one n p x y e = ap first_of e
  where
    first_of : m.Defs × ℕ → FunDefOf m.Tree × ℕ
    first_of (m.and_def f k xs t rest, q) = (record { name = f; mark = k; fun = record { params = xs; body = t } }, q)
    first_of (m.no_def, q) = (y, q)

definition_exact : (c : Sort) → ends_definitions c ≡ true → c ≡ s.Integer → ⊥
definition_exact s.In k e = absurd cc
definition_exact s.End k e = absurd cc
definition_exact _ k e = absurd cc

definition_guarded : (c : Sort) (d : ℕ) → ends_definitions c ≡ true → (b : FunDefOf m.Tree → List (FunDefOf m.Tree) → List (FunDefOf m.Tree))
    → Guarded (definition d) (definitions c d) (record { parts = the (definitions c d) ∷ []; build = b } ∷ [])
definition_guarded s.In d k b = ((λ t x. refl), (λ t x. refl), tt)
definition_guarded s.End d k b = ((λ t x. refl), (λ t x. refl), tt)
definition_guarded _ d k b = absurd cc

definition_shut : (c : Sort) (d : ℕ) → ends_definitions c ≡ true → (us vs : List Token) (t : Token) → us ≡ t ∷ vs → sort t ≡ c → (b : List (FunDefOf m.Tree) → List (FunDefOf m.Tree))
    → Goes (definitions c d) (record { parts = the (definitions c d) ∷ []; build = b } ∷ []) (said (definitions c d) (b [])) us vs
definition_shut s.In d k us vs t e h b = taken (definitions s.In d) _ us vs t s.In e h refl (tt, tt)
definition_shut s.End d k us vs t e h b = taken (definitions s.End d) _ us vs t s.End e h refl (tt, tt)
definition_shut _ d k us vs t e h b = absurd cc

-- definitions under way
pub record DefinitionsSoFar (c : Sort) (d n : ℕ) (ts left : List Token) (done : List (FunDefOf m.Tree)) (p : ℕ) : Type 0 where
  pub build : List (FunDefOf m.Tree) → List (FunDefOf m.Tree)
  pub goes : Goes (definitions c d) (itself (definitions c d)) (record { parts = the (definitions c d) ∷ []; build = build } ∷ []) ts left
  pub raw : List (FunDefOf m.Tree)
  pub builds : (xs : List (FunDefOf m.Tree)) → build xs ≡ raw ++ xs
  pub agrees : number_each number_definition n raw ≡ (done, p)

pub definitions_begin : (c : Sort) (d n : ℕ) (ts : List Token) → DefinitionsSoFar c d n ts ts [] n
definitions_begin c d n ts = record { build = λ xs. xs; goes = stay _ _ ts; raw = []; builds = λ xs. refl; agrees = refl }

module _ (c : Sort) (d n : ℕ) (k : ends_definitions c ≡ true) (ts us : List Token) (done : List (FunDefOf m.Tree)) (p : ℕ) (e : DefinitionsSoFar c d n ts us done p) where
  pub definitions_end : (f : PartFault) → RanOut us f → Refuses (definitions c d) ts f
  definitions_end f z = ran_out (definitions c d) _ ts us f e.goes tt refl z

  module _ (vs : List Token) (t : Token) (q : Sort) (place : Place) (b : Starts us t q place vs) where
    definitions_all : q ≡ c → Passes (definitions c d) ts e.raw vs
    definitions_all h = subst (λ xs. Passes (definitions c d) ts xs vs) (e.builds [] ∙ append-nil e.raw) (e.goes >> definition_shut c d k us vs t b.are (sym b.sort_is ∙ h) e.build)

    pub definitions_close : q ≡ c → (made : m.Defs) → made ≡ lists.defs done → ReadsDefinitions c d n ts made vs p
    definitions_close h made g = record {
      says = e.raw;
      passes = definitions_all h;
      agrees = definitions_each n e.raw ∙ ap (λ (r : List (FunDefOf m.Tree) × ℕ). let z : m.Defs × ℕ = (lists.defs r.0, r.1) in z) e.agrees ∙ ap (λ y. let z : m.Defs × ℕ = (y, p) in z) (sym g);
    }

    module _ (h : q ≡ c → ⊥) where
      definitions_0 : Goes (definitions c d) (itself (definitions c d)) (record { parts = the (definition d) ∷ the (definitions c d) ∷ []; build = λ x xs. e.build (x ∷ xs) } ∷ []) ts us
      definitions_0 = e.goes >> expand (definitions c d) (definitions c d) [] e.build [] us >> drop _ _ _ us vs t b.are (fits_no_other c (sort t) (definition_exact c k) (λ z. h (b.sort_is ∙ z)))

      pub definitions_bad : (f : PartFault) → Refuses (definition d) us f → Refuses (definitions c d) ts f
      definitions_bad f z = refused _ _ (the (definitions c d) ∷ []) (λ x xs. e.build (x ∷ xs)) ts us f definitions_0 (definition_guarded c d k (λ x xs. e.build (x ∷ xs))) z

      pub definitions_more : (ws : List Token) (x : FunDefOf m.Tree) (o : ℕ) → ReadsDefinition d p us x ws o → DefinitionsSoFar c d n ts ws (done ++ x ∷ []) o
      definitions_more ws x o z = record {
        build = λ xs. e.build (z.says ∷ xs);
        goes = definitions_0 >> through _ _ (the (definitions c d) ∷ []) (λ x xs. e.build (x ∷ xs)) us ws z.says z.passes (definition_guarded c d k (λ x xs. e.build (x ∷ xs)));
        raw = e.raw ++ z.says ∷ [];
        builds = λ xs. e.builds (z.says ∷ xs) ∙ sym (append_assoc e.raw (z.says ∷ []) xs);
        agrees = each_more number_definition n p o e.raw done z.says x e.agrees (definition_one p o z.says x z.agrees);
      }
