-- What holds of the text of an accepted module, and of the state in which its flow begins: a function that is defined stands there
-- under its label, with as many parameters as its name says, and names are defined once.
use Rattle.std.proofs.Common.{◌≡◌, ℕ, zero, suc, Bool, true, false, ◌||◌, nat_eq, cond, if◌then◌else◌, List, [], ◌∷◌, ◌++◌, length}
use Rattle.std.proofs.Common.{replicate, Contains, Option, Some, None, IsTrue, eqb-true, eq-eqb, refl, sym, ap, ◌∙◌, subst, arith}
use Rattle.std.proofs.lemmas.List.{length-replicate}
use Rattle.std.proofs.lemmas.Bool.{or_right, or_left}
use Rattle.std.proofs.lemmas.Option.{same_Some, none-some}
use Rattle.core_meaning.proofs.LabelLaws.{found_at_label}
use Rattle.core_ast.specs.declared.syntax.Mark.{Mark}
use Rattle.core_ast.specs.declared.syntax.FunName.{FunName}
use Rattle.core_ast.specs.Model as m
use Rattle.core_scope.specs.declared.ask.Ask.{Ask}
use Rattle.core_scope.specs.Functions.{LabelledFunction, labelled_function, functions_of, function_labels}
use Rattle.core_scope.specs.Labels.{labels_of}
use Rattle.core_scope.specs.Names.{Distinct, Scope, same_function, has_function, defined_names}
use Rattle.core_scope.specs.Places.{StandsInModule}
use Rattle.core_scope.specs.Places.Piece.{expression}
use Rattle.core_scope.specs.steps.SameNames.{functions_same}
use Rattle.type_lattice_model.specs.Values.{Local}
use Rattle.type_lattice.specs.Types.{Type4, any}
use Rattle.core_meaning.specs.Programs.{with_label, locals_of, function_named}
use Rattle.cons_gen_rows.specs.Scopes.{or_outer}
use Rattle.module_flow_calls.specs.Escapes.{escaping}
use Rattle.module_flow.specs.Flow.{has_label, exported_labels, open_labels, begins_one, begins, first_state}
use Rattle.module_flow_calls.specs.Functions.{defined_labels, label_named}
use Rattle.module_flow_state.specs.Settled.{stands, AreCounted}
use Rattle.module_flow_state.specs.States.{parameters_of}
use Rattle.sound_laws_flow.specs.steps.Seen.{label_found, NamesOnce}
use Rattle.sound_laws_flow.proofs.Escaping.{AllOpen}
use Rattle.sound_laws_flow.proofs.Fitting.{NamesFit}

-- ---- words

-- each definition is the function that stands at its label, and has as many parameters as its name says
abbrev pub DefsAt : m.Module → m.Defs → Type 0
DefsAt x m.no_def = Unit {0}
DefsAt x (m.and_def f k xs t ds) = (with_label (functions_of x) k.label ≡ Some (labelled_function k (Some f) xs t)) × ((length xs ≡ f.arity) × DefsAt x ds)

-- what holds of an accepted module
pub record IsText (x : m.Module) : Type 0 where
  pub tops_at : DefsAt x x.defs
  pub tops_once : Distinct (defined_names x.defs)
  pub letrecs_at : (s : Scope) (k : Ask) (i : Mark) (ds : m.Defs) (t : m.Tree) → StandsInModule x (expression s k (m.letrec i ds t)) → DefsAt x ds
  pub letrecs_once : (s : Scope) (k : Ask) (i : Mark) (ds : m.Defs) (t : m.Tree) → StandsInModule x (expression s k (m.letrec i ds t)) → Distinct (defined_names ds)
  pub labels_once : Distinct (labels_of x)
  pub functions_once : Distinct (function_labels (functions_of x))

-- at the label stands a function with a name and n parameters
pub record IsDefined (x : m.Module) (l n : ℕ) : Type 0 where
  pub function : LabelledFunction
  pub name : FunName
  pub found : with_label (functions_of x) l ≡ Some function
  pub named : function.name ≡ Some name
  pub many : length function.parameters ≡ n

abbrev pub count_of : Option LabelledFunction → ℕ
count_of None = 0
count_of (Some f) = length f.parameters

-- how many parameters the function of a label has
abbrev pub counts : m.Module → ℕ → ℕ
counts x l = count_of (with_label (functions_of x) l)

-- ---- names

later : {A : Type 0} (x y : A) (xs : List A) → Contains xs x → Contains (y ∷ xs) x
later x y xs (k, within, is) = (suc k, omega (arith, within), is)

absent : (ds : m.Defs) (f : FunName) → (Contains (defined_names ds) f → ⊥) → label_named (defined_names ds) (defined_labels ds) f ≡ None
absent m.no_def f h = refl
absent (m.and_def g k xs t ds) f h = by (absent ds f (λ c. h (later f g (defined_names ds) c))) (same_function g f) refl
  where
    by : label_named (defined_names ds) (defined_labels ds) f ≡ None → (b : Bool) → same_function g f ≡ b → or_outer (label_named (defined_names ds) (defined_labels ds) f) (if b then Some k.label else None) ≡ None
    by rest true e = absurd (h (zero, omega arith, functions_same g f e))
    by rest false e = ap (λ o. or_outer o None) rest

-- where names are defined once, the innermost of a name is the first
pub names_once : (ds : m.Defs) → Distinct (defined_names ds) → NamesOnce ds
names_once m.no_def d f = refl
names_once (m.and_def g k xs t ds) d f = by (names_once ds d.1 f) (same_function g f) refl
  where
    at_end : (o : Option ℕ) → or_outer o None ≡ o
    at_end None = refl
    at_end (Some l) = refl

    by : label_named (defined_names ds) (defined_labels ds) f ≡ label_found (function_named (locals_of ds) f) → (b : Bool) → same_function g f ≡ b
        → or_outer (label_named (defined_names ds) (defined_labels ds) f) (if b then Some k.label else None)
        ≡ label_found (if b then Some (record { name = g.name; arity = g.arity; label = k.label }) else function_named (locals_of ds) f)
    by rest true e = ap (λ o. or_outer o (Some k.label)) (absent ds f (λ c. d.0 (subst (λ z. Contains (defined_names ds) z) (sym (functions_same g f e)) c)))
    by rest false e = at_end (label_named (defined_names ds) (defined_labels ds) f) ∙ rest

pub names_fit : (x : m.Module) (ds : m.Defs) → DefsAt x ds → NamesFit (IsDefined x) (defined_names ds) (defined_labels ds)
names_fit x m.no_def h = tt
names_fit x (m.and_def f k xs t ds) h = (record { function = labelled_function k (Some f) xs t; name = f; found = h.0; named = refl; many = h.1.0 }, names_fit x ds h.1.1)

-- what is found under a name
pub found_named : (x : m.Module) (ds : m.Defs) (f : FunName) (d : Local) → DefsAt x ds → function_named (locals_of ds) f ≡ Some d → IsDefined x d.label d.arity
found_named x m.no_def f d h e = absurd (none-some _ e)
found_named x (m.and_def g k xs t ds) f d h e = by (found_named x ds f d h.1.1) (same_function g f) e
  where
    by : (function_named (locals_of ds) f ≡ Some d → IsDefined x d.label d.arity) → (b : Bool) → (if b then Some (record { name = g.name; arity = g.arity; label = k.label }) else function_named (locals_of ds) f) ≡ Some d
        → IsDefined x d.label d.arity
    by more true q =
        let is = same_Some _ _ q in
        record { function = labelled_function k (Some g) xs t; name = g; found = ap (with_label (functions_of x)) (sym (ap (λ z. z.label) is)) ∙ h.0; named = refl; many = h.1.0 ∙ ap (λ z. z.arity) is }
    by more false q = more q

-- ---- the state in which the flow begins

-- a function that is found and has a name stands in it
stands_begun : (opens : List ℕ) (fs : List LabelledFunction) (l : ℕ) (g : LabelledFunction) (f : FunName) → with_label fs l ≡ Some g → g.name ≡ Some f → stands (begins opens fs) l ≡ true
stands_begun opens [] l g f e named = absurd (none-some _ e)
stands_begun opens (h ∷ fs) l g f e named = by (λ q. stands_begun opens fs l g f q named) (nat_eq h.label l) refl h.name refl e
  where
    by : (with_label fs l ≡ Some g → stands (begins opens fs) l ≡ true) → (b : Bool) → nat_eq h.label l ≡ b → (o : Option FunName) → h.name ≡ o → (if b then Some h else with_label fs l) ≡ Some g
        → stands (begins_one opens h o ++ begins opens fs) l ≡ true
    by more true q None r w = absurd (none-some _ (sym r ∙ ap (λ z. z.name) (same_Some _ _ w) ∙ named))
    by more true q (Some name) r w = ap (λ b. b || stands (begins opens fs) l) q
    by more false q None r w = more w
    by more false q (Some name) r w = ap (λ b. b || stands (begins opens fs) l) q ∙ more w

-- and if it is open, it may be entered with anything
open_begun : (opens : List ℕ) (fs : List LabelledFunction) (l : ℕ) (g : LabelledFunction) (f : FunName) → with_label fs l ≡ Some g → g.name ≡ Some f → has_label opens l ≡ true
    → parameters_of (begins opens fs) l ≡ Some (replicate (length g.parameters) any)
open_begun opens [] l g f e named open_label = absurd (none-some _ e)
open_begun opens (h ∷ fs) l g f e named open_label = by (λ q. open_begun opens fs l g f q named open_label) (nat_eq h.label l) refl h.name refl e
  where
    by : (with_label fs l ≡ Some g → parameters_of (begins opens fs) l ≡ Some (replicate (length g.parameters) any)) → (b : Bool) → nat_eq h.label l ≡ b → (o : Option FunName) → h.name ≡ o
        → (if b then Some h else with_label fs l) ≡ Some g → parameters_of (begins_one opens h o ++ begins opens fs) l ≡ Some (replicate (length g.parameters) any)
    by more true q None r w = absurd (none-some _ (sym r ∙ ap (λ z. z.name) (same_Some _ _ w) ∙ named))
    by more true q (Some name) r w =
        let here : has_label opens h.label ≡ true = ap (has_label opens) (eqb-true h.label l q) ∙ open_label in
        ap (λ b. if b then cond (has_label opens h.label) (Some (replicate (length h.parameters) any)) None else parameters_of (begins opens fs) l) q
        ∙ ap (λ b. cond b (Some (replicate (length h.parameters) any)) None) here
        ∙ ap (λ z. Some (replicate (length z.parameters) any)) (same_Some _ _ w)
    by more false q None r w = more w
    by more false q (Some name) r w =
        ap (λ b. if b then cond (has_label opens h.label) (Some (replicate (length h.parameters) any)) None else parameters_of (begins opens fs) l) q
        ∙ more w

counted_begun : (number : ℕ → ℕ) (opens : List ℕ) (fs : List LabelledFunction) → ((f : LabelledFunction) → Contains fs f → number f.label ≡ length f.parameters) → AreCounted number (begins opens fs)
counted_begun number opens [] h = tt
counted_begun number opens (f ∷ fs) h = by (counted_begun number opens fs (λ g c. h g (later g f fs c))) f.name
  where
    many : (b : Bool) (us : List Type4) → cond b (Some (replicate (length f.parameters) any)) None ≡ Some us → length us ≡ number f.label
    many true us e = sym (ap length (same_Some _ _ e)) ∙ length-replicate (length f.parameters) any ∙ sym (h f (zero, omega arith, refl))
    many false us e = absurd (none-some _ e)

    by : AreCounted number (begins opens fs) → (o : Option FunName) → AreCounted number (begins_one opens f o ++ begins opens fs)
    by rest None = rest
    by rest (Some name) = (many (has_label opens f.label), rest)

module _ (x : m.Module) (X : IsText x) where
  pub first_counted : AreCounted (counts x) (first_state x)
  first_counted = counted_begun (counts x) (open_labels x) (functions_of x) (λ f c. ap count_of (found_at_label (functions_of x) X.functions_once f c))

  pub defined_count : (l n : ℕ) → IsDefined x l n → n ≡ counts x l
  defined_count l n h = sym (ap count_of h.found ∙ h.many)

  pub defined_stands : (l n : ℕ) → IsDefined x l n → IsTrue (stands (first_state x) l)
  defined_stands l n h = stands_begun (open_labels x) (functions_of x) l h.function h.name h.found h.named

  pub defined_open : (l n : ℕ) → IsDefined x l n → has_label (open_labels x) l ≡ true → parameters_of (first_state x) l ≡ Some (replicate (counts x l) any)
  defined_open l n h o = open_begun (open_labels x) (functions_of x) l h.function h.name h.found h.named o ∙ ap (λ z. Some (replicate z any)) (h.many ∙ defined_count l n h)

-- ---- what is open

in_right : (a b : List ℕ) (l : ℕ) → has_label b l ≡ true → has_label (a ++ b) l ≡ true
in_right [] b l h = h
in_right (k ∷ a) b l h = or_right (nat_eq l k) (has_label (a ++ b) l) (in_right a b l h)

either_way : (b c d : Bool) → (b || c) ≡ true → (c ≡ true → d ≡ true) → (b || d) ≡ true
either_way true c d e h = refl
either_way false c d e h = h e

in_left : (a b : List ℕ) (l : ℕ) → has_label a l ≡ true → has_label (a ++ b) l ≡ true
in_left [] b l h = absurd cc
in_left (k ∷ a) b l h = either_way (nat_eq l k) (has_label a l) (has_label (a ++ b) l) h (in_left a b l)

-- each of some labels is among them
all_among : (opens ls : List ℕ) → ((l : ℕ) → has_label ls l ≡ true → has_label opens l ≡ true) → AllOpen opens ls
all_among opens [] h = tt
all_among opens (l ∷ ls) h = (h l (or_left (nat_eq l l) (has_label ls l) (eq-eqb l l refl)), all_among opens ls (λ k e. h k (or_right (nat_eq k l) (has_label ls k) e)))

-- those that escape
pub escaping_open : (x : m.Module) → AllOpen (open_labels x) (escaping x.defs)
escaping_open x = all_among (open_labels x) (escaping x.defs) (λ l e. in_right (exported_labels x.exports x.defs) (escaping x.defs) l e)

exported_among : (exports : List FunName) (ds : m.Defs) (f : FunName) (d : Local) → has_function exports f ≡ true → function_named (locals_of ds) f ≡ Some d → has_label (exported_labels exports ds) d.label ≡ true
exported_among exports m.no_def f d h e = absurd (none-some _ e)
exported_among exports (m.and_def g k xs t ds) f d h e = by (exported_among exports ds f d h) (same_function g f) refl e
  where
    keeps : (b : Bool) → has_label (exported_labels exports ds) d.label ≡ true → has_label (cond b (k.label ∷ exported_labels exports ds) (exported_labels exports ds)) d.label ≡ true
    keeps true q = or_right (nat_eq d.label k.label) (has_label (exported_labels exports ds) d.label) q
    keeps false q = q

    by : (function_named (locals_of ds) f ≡ Some d → has_label (exported_labels exports ds) d.label ≡ true) → (b : Bool) → same_function g f ≡ b
        → (if b then Some (record { name = g.name; arity = g.arity; label = k.label }) else function_named (locals_of ds) f) ≡ Some d
        → has_label (cond (has_function exports g) (k.label ∷ exported_labels exports ds) (exported_labels exports ds)) d.label ≡ true
    by more true q w =
        let label : k.label ≡ d.label = ap (λ z. z.label) (same_Some _ _ w) in
        let named : has_function exports g ≡ true = ap (has_function exports) (functions_same g f q) ∙ h in
        ap (λ b. has_label (cond b (k.label ∷ exported_labels exports ds) (exported_labels exports ds)) d.label) named
        ∙ or_left (nat_eq d.label k.label) (has_label (exported_labels exports ds) d.label) (eq-eqb d.label k.label (sym label))
    by more false q w = keeps (has_function exports g) (more w)

-- and those that are exported
pub exported_open : (x : m.Module) (f : FunName) (d : Local) → has_function x.exports f ≡ true → function_named (locals_of x.defs) f ≡ Some d → has_label (open_labels x) d.label ≡ true
exported_open x f d h e = in_left (exported_labels x.exports x.defs) (escaping x.defs) d.label (exported_among x.exports x.defs f d h e)
