-- What the grammar says of every module that is spelled: functions have at most 255 arguments, and there are at least as many tokens as
-- functions.
use Rattle.std.proofs.Common.{◌≡◌, ℕ, suc, ◌+◌, ◌≤◌, ◌<◌, List, [], ◌∷◌, Contains, Some, None, Option, length, refl, ap, ◌∙◌, subst, arith}
use Rattle.std.proofs.Math.Logic.{∥∥₁_elim}
use Rattle.std.proofs.Props.{props}
use Rattle.std.proofs.lemmas.List.{append-nil}
use Rattle.std.proofs.lemmas.List.Elements.{All-contains, All-from_recursion}
use Rattle.std.specs.List.{AllByRecursion as Each}
use Rattle.type_kinds.specs.declared.atom.Atom.{Atom}
use Rattle.call_graph.specs.Calls.{functions_in, functions_of, module_functions}
use Rattle.core_ast.specs.Model as m
use Rattle.core_ast.specs.Tree.{defs}
use Rattle.core_ast.specs.declared.syntax.FunName.{FunName}
use Rattle.core_ast.specs.declared.syntax.Note.{Note}
use Rattle.core_ast.specs.declared.syntax.FunDefOf.{FunDefOf}
use Rattle.core_scan.specs.declared.token.Token.{Token}
use Rattle.core_parse_grammar.specs.Build.{Noted, NameAt, value, with_note, note_option, note_module, export_names}
use Rattle.core_parse_grammar.specs.Grammar.{Part, a, first, the, Nonterminal, noted_, many, more, annotated_module, «module», function_name, definition, definitions, SaidBy, Said, ways}
use Rattle.core_parse_grammar.specs.Labels.{numbered, number, number_defs}
use Rattle.core_parse_grammar.specs.Spells.{Reads, SpellsModule}
use Rattle.core_parse_grammar.proofs.Arities.{magnitude_small}
use Rattle.core_parse_grammar.proofs.Walks.{AllKeepCounted, all_free_counted, walk_counted}
use Rattle.core_scope.specs.Accepted.{IsSpelled}

-- ---- what is said of a value, and how many tokens it takes at least

abbrev IsSmall : FunName → Type 0
IsSmall f = f.arity < 256

abbrev count : m.Defs → ℕ
count m.no_def = 0
count (m.and_def f i xs t ds) = suc (count ds)

abbrev mutual
  Good : (p : Part) → SaidBy p → Type 0
  Good (a c) v = Unit {0}
  Good (first d c) v = Unit {0}
  Good (the n) v = GoodSaid n v

  GoodSaid : (n : Nonterminal) → Said n → Type 0
  GoodSaid (noted_ p) v = Good p v.value
  GoodSaid (many c p) vs = Each (λ v. Good p v) vs
  GoodSaid (more c p) vs = Each (λ v. Good p v) vs
  GoodSaid annotated_module x = Each IsSmall x.exports
  GoodSaid «module» x = Each IsSmall x.exports
  GoodSaid function_name v = IsSmall v.name
  GoodSaid n v = Unit {0}

abbrev mutual
  size : (p : Part) → SaidBy p → ℕ
  size (a c) v = 1
  size (first d c) v = 1
  size (the n) v = size_said n v

  size_said : (n : Nonterminal) → Said n → ℕ
  size_said (noted_ p) v = size p v.value
  size_said annotated_module x = count x.defs
  size_said «module» x = count x.defs
  size_said (definition d) v = 1
  size_said (definitions c d) vs = length vs
  size_said n v = 0

-- ---- each way of the grammar keeps both

abbrev Both : (p : Part) → SaidBy p → ℕ → Type 0
Both p v taken = Good p v × (size p v ≤ taken)

count_defs : (ds : List (FunDefOf m.Tree)) → count (defs ds) ≡ length ds
count_defs [] = refl
count_defs (d ∷ ds) = ap suc (count_defs ds)

each_export : (es : List (Noted NameAt)) → Each (λ v. IsSmall v.value.name) es → Each IsSmall (export_names es)
each_export [] h = tt
each_export (e ∷ es) h = (h.0, each_export es h.1)

noted_exports : (x : Noted m.Module) → Each IsSmall x.value.exports → Each IsSmall (with_note note_module x).exports × (count (with_note note_module x).defs ≡ count x.value.defs)
noted_exports x h = by x.note
  where
    by : (n : Option Note) → Each IsSmall (note_option note_module x.value n).exports × (count (note_option note_module x.value n).defs ≡ count x.value.defs)
    by None = (h, refl)
    by (Some n) = (h, refl)

all_keep : (n : Nonterminal) → AllKeepCounted Both n (ways n)
all_keep (noted_ p) = (λ x k g. (g.0, omega (arith, g.1)), ((λ t i tg x j g n k ng. (g.0, omega (arith, g.1))), tt))
all_keep (many c p) = (λ t k g. (tt, omega arith), ((λ x j g xs k gs. ((g.0, gs.0), omega arith)), tt))
all_keep (more c p) = (λ t k g. (tt, omega arith), ((λ t i tg x j g xs k gs. ((g.0, gs.0), omega arith)), tt))
all_keep annotated_module = (λ x k g. (let e = noted_exports x g.0 in (e.0, omega (arith, e.1, g.1))), tt)
all_keep «module» = (
  (λ t1 k1 g1 x k2 g2 t3 k3 g3 es k4 ges t5 k5 g5 t6 k6 g6 us k7 gus ds k8 gds. (each_export es ges.0, omega (arith, count_defs ds, gds.1))),
  tt,
)
all_keep function_name = ((λ x i g s j gs n k gn. (omega (arith, magnitude_small (value n)), omega arith)), tt)
all_keep (definition d) = ((λ x i g e j ge f k gf. (tt, omega (arith, ge.1))), tt)
all_keep (definitions c d) = (λ t k g. (tt, omega arith), ((λ x j g xs k gs. (tt, omega (arith, g.1, gs.1))), tt))
all_keep n = all_free_counted Both n (λ v taken. (tt, omega arith)) (ways n)

-- so they hold of all that is read
both : (l : ℕ) (p : Part) (ts us : List Token) (v : SaidBy p) → Reads l p ts v us → Good p v × (size p v + length us ≤ length ts)
both l p ts us v h =
    let w = walk_counted Both l (λ left. Unit {0}) (λ c t left known fit. ((tt, omega arith), tt)) (λ d c t left known fit deep. ((tt, omega arith), tt)) all_keep p ts us v tt h in
    (w.holds.0, omega (arith, w.holds.1, w.counted))

-- ---- modules

count_numbered : (n : ℕ) (ds : m.Defs) → count (number_defs n ds).0 ≡ count ds
count_numbered n m.no_def = refl
count_numbered n (m.and_def f i xs t ds) = ap suc (count_numbered (number (n + 1) t).1 ds)

count_functions : (home : Atom) (es : List FunName) (ds : m.Defs) → length (functions_in home es ds) ≡ count ds
count_functions home es m.no_def = refl
count_functions home es (m.and_def f i xs t ds) = ap suc (count_functions home es ds)

-- what tokens spell has no more functions than they are
pub few_functions : (ts : List Token) (x : m.Module) → SpellsModule ts x → length (functions_of (x ∷ [])) ≤ length ts
few_functions ts x h =
    let s = h.1 in
    let e : count (numbered s.says).defs ≡ count x.defs = ap (λ y. count y.defs) s.labels in
    let f = count_numbered 0 s.says.defs in
    let g = ap length (append-nil (module_functions x)) ∙ count_functions x.name x.exports x.defs in
    omega (arith, e, f, g, (both h.0 (the annotated_module) ts [] s.says s.reads).1)

exports_by_tokens : (ts : List Token) (x : m.Module) → SpellsModule ts x → Each IsSmall x.exports
exports_by_tokens ts x h =
    let s = h.1 in
    subst (λ y. Each IsSmall y.exports) s.labels (both h.0 (the annotated_module) ts [] s.says s.reads).0

-- a function that a spelled module exports has at most 255 arguments
pub small_exports : (x : m.Module) (f : FunName) → IsSpelled x → Contains x.exports f → f.arity < 256
small_exports x f h c = ∥∥₁_elim {P = f.arity < 256} h (hlevel props) (λ t. All-contains IsSmall x.exports f (All-from_recursion IsSmall x.exports (exports_by_tokens t.tokens x t.spells)) c)
