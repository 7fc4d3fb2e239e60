-- Two readings of the same tokens say the same, where no barred token follows. So tokens spell at most one module.
use Rattle.std.proofs.Common.{◌≡◌, ℕ, ◌+◌, true, ◌&&◌, List, [], ◌∷◌, refl, sym, ap, ◌∙◌, subst, arith}
use Rattle.std.proofs.lemmas.Bool.{and_parts}
use Rattle.core_ast.specs.Model as m
use Rattle.core_scan.specs.declared.token.Token.{Token}
use Rattle.core_parse_grammar.specs.Grammar.{Part, a, first, the, Nonterminal, SaidBy, Said, Action, Way, ways, annotated_module}
use Rattle.core_parse_grammar.specs.Labels.{numbered}
use Rattle.core_parse_grammar.specs.Spells.{Reads, token, node, part, ReadsOne, here, later, ReadsAll, none, one, SpellsModule}
use Rattle.core_reading_laws.proofs.Symbols.{Symbol, rows_are, symbol, head, symbols, way_symbols}
use Rattle.core_reading_laws.proofs.Apart.{Bar, bar, bar_of, all_rows, may_follow, is_known, apart, row_fine, rows_fine}
use Rattle.core_reading_laws.proofs.Fine.{known_fine}
use Rattle.core_reading_laws.proofs.Derived.{derives_within, runs_within, one_within, Derived, Ran, RanOne, derived, ran, ran_one}
use Rattle.core_reading_laws.proofs.OneRest.{IsFree, follow_free, one_rest, apart_all, fine_row}

pub same_rest : (p : Symbol) → is_known p ≡ true → (ts us vs : List Token) → Derived p ts us → Derived p ts vs → IsFree (bar p) us → IsFree (bar p) vs → us ≡ vs
same_rest p known ts us vs d e f g =
    let m = d.0 + e.0 in
    one_rest m p known ts us vs (derives_within d.0 m (omega arith) p ts us d.1) (derives_within e.0 m (omega arith) p ts vs e.1) f g

off_others : (b : Bar) (r : List Symbol) (rs : List (List Symbol)) → all_rows (λ q. apart b 60 r q) rs ≡ true → (ts us vs : List Token) → Ran r ts us → RanOne rs ts vs → IsFree b us → IsFree b vs → ⊥
off_others b r rs e ts us vs x y f g =
    let m = x.0 + y.0 in
    apart_all m (one_rest m) b r rs e ts us vs (runs_within x.0 m (omega arith) r ts us x.1) (one_within y.0 m (omega arith) rs ts vs y.1) f g

module _ (i j : ℕ) where
  mutual
    pub one_value : (p : Part) (ts us vs : List Token) (x y : SaidBy p) → is_known (symbol p) ≡ true → Reads i p ts x us → Reads j p ts y vs → IsFree (bar (symbol p)) us → IsFree (bar (symbol p)) vs → x ≡ y
    one_value (a c) [] us vs x y known h k f g = elim h [ ]
    one_value (first d c) [] us vs x y known h k f g = elim h [ ]
    one_value (a c) (t ∷ ts) us vs x y known (token e) (token o) f g = refl
    one_value (first d c) (t ∷ ts) us vs x y known (node e low) (node o less) f g = refl
    one_value (the n) ts us vs x y known (part h) (part k) f g =
        one_way n (ways n) (subst (λ rs. rows_fine (bar_of (head n)) rs ≡ true) (rows_are n) (known_fine (head n) known)) ts us vs x y h k f g

    one_way : (n : Nonterminal) (ws : List (Way (Said n))) → rows_fine (bar_of (head n)) (way_symbols n ws) ≡ true → (ts us vs : List Token) (x y : Said n)
        → ReadsOne i n ws ts x us → ReadsOne j n ws ts y vs → IsFree (bar_of (head n)) us → IsFree (bar_of (head n)) vs → x ≡ y
    one_way n [] e ts us vs x y h k f g = elim h [ ]
    one_way n (w ∷ ws) e ts us vs x y (here h) (here k) f g = one_row n w.parts w.says (fine_row (bar_of (head n)) (symbols w.parts) (way_symbols n ws) e).0 ts us vs x y h k f g
    one_way n (w ∷ ws) e ts us vs x y (here h) (later k) f g =
        absurd (off_others (bar_of (head n)) (symbols w.parts) (way_symbols n ws) (fine_row (bar_of (head n)) (symbols w.parts) (way_symbols n ws) e).1 ts us vs (ran i n w.parts w.says ts us x h) (ran_one j n ws ts vs y k) f g)
    one_way n (w ∷ ws) e ts us vs x y (later h) (here k) f g =
        absurd (off_others (bar_of (head n)) (symbols w.parts) (way_symbols n ws) (fine_row (bar_of (head n)) (symbols w.parts) (way_symbols n ws) e).1 ts vs us (ran j n w.parts w.says ts vs y k) (ran_one i n ws ts us x h) g f)
    one_way n (w ∷ ws) e ts us vs x y (later h) (later k) f g = one_way n ws (fine_row (bar_of (head n)) (symbols w.parts) (way_symbols n ws) e).2 ts us vs x y h k f g

    one_row : (n : Nonterminal) (ps : List Part) (says : Action ps (Said n)) → row_fine (bar_of (head n)) (symbols ps) ≡ true → (ts us vs : List Token) (x y : Said n)
        → ReadsAll i n ps says ts x us → ReadsAll j n ps says ts y vs → IsFree (bar_of (head n)) us → IsFree (bar_of (head n)) vs → x ≡ y
    one_row n [] says e ts us vs x y none none f g = refl
    one_row n (p ∷ ps) says e ts us vs x y (one {x = v} {us = mid} h hs) (one {x = w} {us = other} k ks) f g =
        let known = and_parts (is_known (symbol p)) (may_follow (bar_of (head n)) (bar (symbol p)) (symbols ps) && row_fine (bar_of (head n)) (symbols ps)) e in
        let follows = and_parts (may_follow (bar_of (head n)) (bar (symbol p)) (symbols ps)) (row_fine (bar_of (head n)) (symbols ps)) known.1 in
        let run = ran i n ps (says v) mid us x hs in
        let run_too = ran j n ps (says w) other vs y ks in
        let free = follow_free (bar_of (head n)) (bar (symbol p)) (symbols ps) follows.0 run.0 mid us run.1 f in
        let free_too = follow_free (bar_of (head n)) (bar (symbol p)) (symbols ps) follows.0 run_too.0 other vs run_too.1 g in
        let rests = same_rest (symbol p) known.0 ts mid other (derived i p ts mid v h) (derived j p ts other w k) free free_too in
        let values = one_value p ts mid other v w known.0 h k free free_too in
        one_row n ps (says v) follows.1 mid us vs x y hs (subst (λ l. ReadsAll j n ps (says v) l y vs) (sym rests) (subst (λ z. ReadsAll j n ps (says z) other y vs) (sym values) ks)) f g

pub one_module : (ts : List Token) (x y : m.Module) → SpellsModule ts x → SpellsModule ts y → x ≡ y
one_module ts x y h k = sym h.1.labels ∙ ap numbered (one_value h.0 k.0 (the annotated_module) ts [] [] h.1.says k.1.says refl h.1.reads k.1.reads tt tt) ∙ k.1.labels
