-- The head of a clause where the last call of a function answers it.
use Rattle.std.proofs.Common.{◌≡◌, ℕ, ◌+◌, ◌<◌, ◌≤◌, List, [], ◌∷◌, length, Bool, Result, Ok, Err, IfOk, IfErr, sym, ap, ◌∙◌, subst, arith}
use Rattle.type_kinds.specs.declared.place.Place.{Place}
use Rattle.core_scan.specs.declared.token.Token.{Token}
use Rattle.core_scan.specs.declared.sort.Sort.TheVariants as s
use Rattle.core_ast.specs.declared.syntax.Note.{Note}
use Rattle.core_ast.specs.declared.syntax.Mark.{Mark}
use Rattle.core_ast.specs.declared.syntax.VarName.{VarName}
use Rattle.core_ast.specs.Model as m
use Rattle.core_ast.specs.Tree.{ClauseParts, patterns, all_patterns}
use Rattle.core_parse_forms.specs.declared.clauses.ReadHead.{ReadHead}
use Rattle.core_parse_grammar.specs.declared.fault.PartFault.{PartFault}
use Rattle.core_parse_grammar.specs.declared.fault.PartFault.TheVariants.{Syntax, End, TooDeep, Memory}
use Rattle.core_parse_forms.specs.steps.Clauses.{ReadsHead, ReadsEither, RefusesEither, no_when_behind}
use Rattle.core_parse_grammar.specs.Faults.{Takes, Misses, MissesOrMemory}
use Rattle.core_parse_grammar.specs.Readings.{ReadsAnnotation}
use Rattle.core_parse_grammar.specs.Weights.{weight}

pub single_head : (d n : ℕ) (ts us : List Token) (x : m.Pattern) (place : Place) (noted : Bool) (p : ℕ)
    → ((left : List Token) (made : m.Patterns) → made ≡ patterns (x ∷ []) → Takes s.When us left → ReadsHead d n ts made place noted left p)
    → (r : Result ReadHead PartFault) → IfOk r (λ h. Takes s.When us h.rest.now) → IfOk r (λ h. all_patterns h.patterns ≡ patterns (x ∷ [])) → IfOk r (λ h. h.place ≡ place) → IfOk r (λ h. h.noted ≡ noted)
    → IfOk r (λ h. h.label ≡ p)
    → IfOk r (λ h. ReadsHead d n ts (all_patterns h.patterns) h.place h.noted h.rest.now h.label)
single_head d n ts us x place noted p f (Ok h) a b c e g =
    subst (λ (q : ℕ). ReadsHead d n ts (all_patterns h.patterns) h.place h.noted h.rest.now q) (sym g)
    (subst (λ (q : Bool). ReadsHead d n ts (all_patterns h.patterns) h.place q h.rest.now p) (sym e)
    (subst (λ (q : Place). ReadsHead d n ts (all_patterns h.patterns) q noted h.rest.now p) (sym c) (f h.rest.now (all_patterns h.patterns) b a)))
single_head d n ts us x place noted p f (Err e) a b c g h = tt

pub either_head : (d n : ℕ) (ts us : List Token) (x : m.Pattern) (outer inner : Place) (p : ℕ)
    → ((made : m.Patterns) (place : Place) (noted : Bool) (left : List Token) → ReadsEither us x outer inner made place noted left → ReadsHead d n ts made place noted left p)
    → (r : Result ReadHead PartFault) → IfOk r (λ h. ReadsEither us x outer inner (all_patterns h.patterns) h.place h.noted h.rest.now) → IfOk r (λ h. h.label ≡ p)
    → IfOk r (λ h. ReadsHead d n ts (all_patterns h.patterns) h.place h.noted h.rest.now h.label)
either_head d n ts us x outer inner p f (Ok h) a b = subst (λ (q : ℕ). ReadsHead d n ts (all_patterns h.patterns) h.place h.noted h.rest.now q) (sym b) (f (all_patterns h.patterns) h.place h.noted h.rest.now a)
either_head d n ts us x outer inner p f (Err e) a b = tt

pub head_labels : (r : Result ReadHead PartFault) (p k m : ℕ) → IfOk r (λ h. h.label ≡ p) → IfOk r (λ h. weight h.rest.now + 2 ≤ k) → p + k ≤ m → IfOk r (λ h. h.label + 2 + weight h.rest.now ≤ m)
head_labels (Ok h) p k m a b e = omega (arith, a, b, e)
head_labels (Err f) p k m a b e = tt

pub single_shorter : (r : Result ReadHead PartFault) (k m : ℕ) → IfOk r (λ h. length h.rest.now + 1 ≡ k) → k ≤ m → IfOk r (λ h. length h.rest.now < m)
single_shorter (Ok h) k m a e = omega (arith, a, e)
single_shorter (Err f) k m a e = tt

pub either_shorter : (r : Result ReadHead PartFault) (k m : ℕ) → IfOk r (λ h. length h.rest.now < k) → k ≤ m → IfOk r (λ h. length h.rest.now < m)
either_shorter (Ok h) k m a e = omega (arith, a, e)
either_shorter (Err f) k m a e = tt

pub no_when_after_note : (ts us : List Token) (n : Note) → ReadsAnnotation ts n us → (r : Result ReadHead PartFault) → IfErr r (λ e. MissesOrMemory s.When us e) → IfErr r (λ e. RefusesEither ts e)
no_when_after_note ts us n y (Ok h) z = tt
no_when_after_note ts us n y (Err f) z = no_when_behind n us y z

pub or_memory : (ts : List Token) (f : PartFault) → Misses s.When ts f → MissesOrMemory s.When ts f
or_memory ts (Syntax p) h = h
or_memory ts End h = h
or_memory ts (TooDeep p) h = h
or_memory ts Memory h = tt

-- the name and the mark of a variable, and the mark of a clause
pub variable_is : (a b : List ℕ) (place : Place) (k l : Note) → a ≡ b → k ≡ l → ◌≡◌ {A = VarName} (record { name = a; place = place; note = k }) (record { name = b; place = place; note = l })
variable_is a b place k l e h = ap (λ (x : List ℕ). let r : VarName = record { name = x; place = place; note = k } in r) e ∙ ap (λ (x : Note). let r : VarName = record { name = b; place = place; note = x } in r) h

pub binds_is : (x : m.Pattern) (k l : Mark) (a b : List ℕ) → x ≡ m.binds k a → k ≡ l → a ≡ b → x ≡ m.binds l b
binds_is x k l a b e h i = e ∙ ap (λ (y : Mark). m.binds y a) h ∙ ap (λ (y : List ℕ). m.binds l y) i

pub clause_marked : (c : ClauseParts) (k l : Mark) (ps : m.Patterns) (g b : m.Tree) → c ≡ record { mark = k; patterns = ps; guard = g; body = b } → k ≡ l → c ≡ record { mark = l; patterns = ps; guard = g; body = b }
clause_marked c k l ps g b e h = e ∙ ap (λ (x : Mark). let r : ClauseParts = record { mark = x; patterns = ps; guard = g; body = b } in r) h
