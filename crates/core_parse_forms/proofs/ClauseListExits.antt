-- Clauses up to the token that closes them: each way out.
use Rattle.std.proofs.Common.{◌≡◌, ℕ, List, [], ◌∷◌, ◌++◌, true, refl, sym, ap, ◌∙◌, subst, map, append_assoc, append-nil}
use Rattle.std.proofs.lemmas.List.{map-append}
use Rattle.type_kinds.specs.declared.place.Place.{Place}
use Rattle.core_scan.specs.declared.token.Token.{Token}
use Rattle.core_scan.specs.declared.sort.Sort.{Sort}
use Rattle.core_scan.specs.declared.sort.Sort.TheVariants as s
use Rattle.core_scan.specs.Sorts.{sort}
use Rattle.core_scan.proofs.SortLaws.{fits_no_other}
use Rattle.core_ast.specs.declared.syntax.Clause.{Clause}
use Rattle.core_ast.specs.Model as m
use Rattle.core_ast.specs.Tree as lists
use Rattle.core_ast.specs.Tree.{clause_parts, all_clauses}
use Rattle.core_parse_grammar.specs.declared.fault.PartFault.{PartFault}
use Rattle.core_parse_grammar.specs.Grammar.{the, clause, clauses_to}
use Rattle.core_parse_forms.specs.steps.Clauses.{ends_clauses, joined, ReadsMoreClauses}
use Rattle.core_parse_forms.specs.steps.Items.{number_each, number_clause}
use Rattle.core_parse_grammar.specs.Track.{Goes, itself, Passes, Guarded}
use Rattle.core_parse_grammar.specs.Faults.{Refuses, Starts, RanOut}
use Rattle.core_parse_grammar.specs.Readings.{ReadsClause}
use Rattle.core_parse_grammar.proofs.Moves.{◌>>◌, stay, expand}
use Rattle.core_parse_grammar.proofs.Places.{taken, through, refused, ran_out, drop}
use Rattle.core_parse_forms.proofs.ItemNumbers.{each_more, clauses_each, clause_one}

-- clauses of the model behind clauses
joined_behind : (xs ys : List lists.ClauseParts) → joined (lists.clauses xs) (lists.clauses ys) ≡ lists.clauses (xs ++ ys)
joined_behind [] ys = refl
joined_behind (x ∷ xs) ys = ap (m.and_clause x.mark x.patterns x.guard x.body) (joined_behind xs ys)

-- the closing token
close_by : (c : Sort) (d : ℕ) → ends_clauses c ≡ true → (f : List lists.ClauseParts → List lists.ClauseParts) (us vs : List Token) (t : Token) → us ≡ t ∷ vs → sort t ≡ c
    → Goes (clauses_to c d) (record { parts = the (clauses_to c d) ∷ []; build = f } ∷ []) (record { parts = []; build = f [] } ∷ []) us vs
close_by s.End d k f us vs t e h = taken (clauses_to s.End d) _ us vs t s.End e h refl (tt, tt)
close_by s.After d k f us vs t e h = taken (clauses_to s.After d) _ us vs t s.After e h refl (tt, tt)
close_by _ d k f us vs t e h = absurd cc

-- Clauses under way: these stood before, and those that are read came to them.
pub record MoreClauses (c : Sort) (d n : ℕ) (before : List Clause) (ts left : List Token) (items : List Clause) (p : ℕ) : Type 0 where
  pub build : List lists.ClauseParts → List lists.ClauseParts
  pub goes : Goes (clauses_to c d) (itself (clauses_to c d)) (record { parts = the (clauses_to c d) ∷ []; build = build } ∷ []) ts left
  pub raw : List lists.ClauseParts
  pub builds : (xs : List lists.ClauseParts) → build xs ≡ raw ++ xs
  pub more : List lists.ClauseParts
  pub agrees : number_each number_clause n raw ≡ (more, p)
  pub items_are : map clause_parts items ≡ map clause_parts before ++ more

module _ (c : Sort) (d n : ℕ) (k : ends_clauses c ≡ true) (before : List Clause) where
  pub clauses_start : (ts : List Token) (items : List Clause) → items ≡ before → MoreClauses c d n before ts ts items n
  clauses_start ts items e = record {
    build = λ xs. xs;
    goes = stay (clauses_to c d) (itself (clauses_to c d)) ts;
    raw = [];
    builds = λ xs. refl;
    more = [];
    agrees = refl;
    items_are = ap (map clause_parts) e ∙ sym (append-nil (map clause_parts before));
  }

  module _ (ts us : List Token) (items : List Clause) (p : ℕ) (u : MoreClauses c d n before ts us items p) where
    pub clauses_end : (f : PartFault) → RanOut us f → Refuses (clauses_to c d) ts f
    clauses_end f z = ran_out (clauses_to c d) _ ts us f u.goes tt refl z

    module _ (vs : List Token) (t : Token) (q : Sort) (place : Place) (b : Starts us t q place vs) where
      pub clauses_close : q ≡ c → ReadsMoreClauses c d n (all_clauses before) ts (all_clauses items) vs p
      clauses_close h = record {
        says = u.raw;
        passes = subst (λ xs. Passes (clauses_to c d) ts xs vs) (u.builds [] ∙ append-nil u.raw) (u.goes >> close_by c d k u.build us vs t b.are (sym b.sort_is ∙ h));
        more = lists.clauses u.more;
        made_is = ap lists.clauses u.items_are ∙ sym (joined_behind (map clause_parts before) u.more);
        agrees = clauses_each n u.raw ∙ ap (λ (r : List lists.ClauseParts × ℕ). let z : m.Clauses × ℕ = (lists.clauses r.0, r.1) in z) u.agrees;
      }

      module _ (h : q ≡ c → ⊥) where
        clauses_more : Goes (clauses_to c d) (itself (clauses_to c d)) (record { parts = the (clause d) ∷ the (clauses_to c d) ∷ []; build = λ x xs. u.build (x ∷ xs) } ∷ []) ts us
        clauses_more = u.goes >> expand (clauses_to c d) (clauses_to c d) [] u.build [] us >> drop _ _ _ us vs t b.are (fits_no_other c (sort t) (not_integer c k) (λ z. h (b.sort_is ∙ z)))
          where
            not_integer : (c : Sort) → ends_clauses c ≡ true → c ≡ s.Integer → ⊥
            not_integer c k e = let z : ends_clauses s.Integer ≡ true = ap ends_clauses (sym e) ∙ k in absurd cc

        clause_guarded : (c : Sort) → ends_clauses c ≡ true → (f : lists.ClauseParts → List lists.ClauseParts → List lists.ClauseParts)
            → Guarded (clause d) (clauses_to c d) (record { parts = the (clauses_to c d) ∷ []; build = f } ∷ [])
        clause_guarded s.End k f = ((λ t x. refl), (λ t x. refl), tt)
        clause_guarded s.After k f = ((λ t x. refl), (λ t x. refl), tt)
        clause_guarded _ k f = absurd cc

        pub clauses_bad : (f : PartFault) → Refuses (clause d) us f → Refuses (clauses_to c d) ts f
        clauses_bad f z = refused (clause d) (clauses_to c d) (the (clauses_to c d) ∷ []) (λ x xs. u.build (x ∷ xs)) ts us f clauses_more (clause_guarded c k (λ x xs. u.build (x ∷ xs))) z

        pub clauses_next : (ws : List Token) (x : Clause) (grown : List Clause) (r : ℕ) → grown ≡ items ++ x ∷ [] → ReadsClause d p us (clause_parts x) ws r → MoreClauses c d n before ts ws grown r
        clauses_next ws x grown r g z = record {
          build = λ xs. u.build (z.says ∷ xs);
          goes = clauses_more >> through (clause d) (clauses_to c d) (the (clauses_to c d) ∷ []) (λ x xs. u.build (x ∷ xs)) us ws z.says z.passes (clause_guarded c k (λ x xs. u.build (x ∷ xs)));
          raw = u.raw ++ z.says ∷ [];
          builds = λ xs. u.builds (z.says ∷ xs) ∙ sym (append_assoc u.raw (z.says ∷ []) xs);
          more = u.more ++ clause_parts x ∷ [];
          agrees = each_more number_clause n p r u.raw u.more z.says (clause_parts x) u.agrees (clause_one p r z.says (clause_parts x) z.agrees);
          items_are = ap (map clause_parts) g ∙ map-append clause_parts items (x ∷ []) ∙ ap (λ ys. ys ++ clause_parts x ∷ []) u.items_are ∙ append_assoc (map clause_parts before) u.more (clause_parts x ∷ []);
        }

-- A clause that is read, as the clause that is kept.
pub clause_kept : {d n : ℕ} {ts left : List Token} {made kept : lists.ClauseParts} {p : ℕ} → kept ≡ made → ReadsClause d n ts made left p → ReadsClause d n ts kept left p
clause_kept {d = d} {n = n} {ts = ts} {left = left} {p = p} e z = subst (λ k. ReadsClause d n ts k left p) (sym e) z
