-- A module that fits is read from its words.
use Rattle.std.proofs.Common.{◌≡◌, ℕ, ◌≤◌, List, [], ◌∷◌, Bool, true, false, codes, refl, sym, ap, ◌∙◌, subst}
use Rattle.std.specs.Prelude.{if◌then◌else◌}
use Rattle.type_kinds.specs.declared.atom.Atom.{Atom}
use Rattle.core_ast.specs.declared.syntax.Note.{Note}
use Rattle.core_ast.specs.declared.syntax.FunName.{FunName}
use Rattle.core_ast.specs.Model as m
use Rattle.core_ast.specs.Tree.{defs}
use Rattle.core_ast.specs.Same.{Same, bare_defs}
use Rattle.core_scan.specs.Bytes.{start, past}
use Rattle.core_scan.specs.declared.token.Token.{Token}
use Rattle.core_scan.specs.declared.sort.Sort.TheVariants as s
use Rattle.core_parse_grammar.specs.Build.{no_note, kind_text, export_names, note_module, module_of}
use Rattle.core_parse_grammar.specs.Grammar.{a, the, many, more, noted_, function_name, attribute, definitions, annotated_module, «module»}
use Rattle.core_parse_grammar.specs.Labels.{numbered, number_defs}
use Rattle.core_parse_grammar.specs.Spells.{Reads, SpellsTo}
use Rattle.core_parse_grammar.specs.Spells as r
use Rattle.core_print.specs.Words.{reserved, symbol, atom, spelled}
use Rattle.core_print.specs.Canonical as c
use Rattle.core_print.specs.Tokens.{kind_of, tokens_of}
use Rattle.core_print.specs.steps.Blank.{blank_defs}
use Rattle.core_print.specs.Fits.{NameFits, NamesFit, ModuleFits}
use Rattle.core_print.proofs.Readings.{Reading, ReadingAll, word, done, go, alone, this_way, next_way, by_ways}
use Rattle.core_print.proofs.ReadForms.{annotation_read, name_read, quiet}
use Rattle.core_print.proofs.ReadTrees.{defs_read}
use Rattle.core_print.proofs.Numbers.{number_defs_blank}
use Rattle.core_print.proofs.NumberedWords.{definitions_same}

-- the module is this one, but for places, labels and its note
pub record ModuleIs (note : Note) (x v : m.Module) : Type 0 where
  pub name : v.name ≡ x.name
  pub exports : v.exports ≡ x.exports
  pub defs : blank_defs v.defs ≡ blank_defs x.defs
  pub note_is : v.note ≡ note

module _ (l : ℕ) (one : 1 ≤ l) where
  bare_name_read : (f : FunName) → NameFits f → Reading l (the (noted_ (the function_name))) (λ y. y.value.name ≡ f) (λ rest. c.function_name f rest)
  bare_name_read f h = by_ways l (alone l (name_read l one f h) (λ y e. e))

  bare_atom_read : (x : Atom) → Reading l (the (noted_ (a s.Atom))) (λ y. y.value.kind ≡ kind_of (atom x)) (λ rest. atom x ∷ rest)
  bare_atom_read x = by_ways l (alone l (word l s.Atom (atom x) refl) (λ y e. e))

  no_attribute : Reading l (the (many s.CloseSquare (the attribute))) (λ ys. Unit {0}) (λ rest. symbol (codes "]") ∷ rest)
  no_attribute = by_ways l (alone l (word l s.CloseSquare (symbol (codes "]")) refl) (λ t e. tt))

  more_exports_read : (fs : List FunName) → NamesFit fs → Reading l (the (more s.CloseSquare (the (noted_ (the function_name))))) (λ es. export_names es ≡ fs) (λ rest. c.exports false fs (symbol (codes "]") ∷ rest))
  more_exports_read [] h = by_ways l (alone l (word l s.CloseSquare (symbol (codes "]")) refl) (λ t e. refl))
  more_exports_read (f ∷ fs) h = by_ways l (next_way l (this_way l (go l (word l s.Comma (symbol (codes ",")) refl) (λ u q. go l (bare_name_read f h.0) (λ x e. go l (more_exports_read fs h.1) (λ es g. done l (λ i. e i ∷ g i)))))))

  exports_read : (fs : List FunName) → NamesFit fs → Reading l (the (many s.CloseSquare (the (noted_ (the function_name))))) (λ es. export_names es ≡ fs) (λ rest. c.exports true fs (symbol (codes "]") ∷ rest))
  exports_read [] h = by_ways l (alone l (word l s.CloseSquare (symbol (codes "]")) refl) (λ t e. refl))
  exports_read (f ∷ fs) h = by_ways l (next_way l (this_way l (go l (bare_name_read f h.0) (λ x e. go l (more_exports_read fs h.1) (λ es g. done l (λ i. e i ∷ g i))))))

  -- the module's parts behind its first word, whatever token that is
  module_parts : (x : m.Module) → ModuleFits l x → (t : Token) → ReadingAll l «module»
      (the (noted_ (a s.Atom)) ∷ a s.OpenSquare ∷ the (many s.CloseSquare (the (noted_ (the function_name)))) ∷ a s.Attributes ∷ a s.OpenSquare ∷ the (many s.CloseSquare (the attribute)) ∷ the (definitions s.End 1) ∷ [])
      (λ y _ es _ _ _ ds. module_of y.value es (defs ds)) (ModuleIs no_note x) (λ rest.
      atom x.name ∷ symbol (codes "[") ∷ c.exports true x.exports (symbol (codes "]") ∷ reserved (codes "attributes") ∷ symbol (codes "[") ∷ symbol (codes "]") ∷ c.definitions x.defs (reserved (codes "end") ∷ rest)))
  module_parts x h t = go l (bare_atom_read x.name) (λ n e. go l (word l s.OpenSquare (symbol (codes "[")) refl)
      (λ u1 q1. go l (exports_read x.exports h.exports) (λ es g. go l (word l s.Attributes (reserved (codes "attributes")) refl)
      (λ u2 q2. go l (word l s.OpenSquare (symbol (codes "[")) refl) (λ u3 q3. go l no_attribute
      (λ as_ q4. go l (defs_read l one s.End (reserved (codes "end")) refl x.defs 1 h.defs) (λ ds k. done l (record { name = ap kind_text e; exports = g; defs = k; note_is = refl }))))))))

  module_read : (x : m.Module) → ModuleFits l x → Reading l (the «module») (ModuleIs no_note x) (λ rest. c.plain_module x rest)
  module_read x h = by_ways l (this_way l (go l (word l s.Module (reserved (codes "module")) refl) (λ t e. module_parts x h t)))

  -- the whole module, from the start of a text
  whole_read : (x : m.Module) → ModuleFits l x → (v : m.Module) × Reads l (the annotated_module) (tokens_of start (c.module_words x)) v [] × ModuleIs x.note x v
  whole_read x h = by (c.is_written x.note.line x.note.generated) refl
    where
      by : (b : Bool) → c.is_written x.note.line x.note.generated ≡ b → (v : m.Module)
          × Reads l (the annotated_module) (tokens_of start (if b then symbol (codes "(") ∷ c.plain_module x (if b then c.annotation x.note [] else []) else c.plain_module x (if b then c.annotation x.note [] else []))) v []
          × ModuleIs x.note x v
      by true e =
          let y = module_read x h (past start (spelled (symbol (codes "(")))) (c.annotation x.note []) in
          let n = annotation_read l one x.note h.note y.after [] in (
            note_module n.value y.value,
            r.part (r.here (r.one (r.part (r.later (r.here (r.one (r.token refl) (r.one y.reads (r.one n.reads r.none)))))) r.none)),
            record { name = y.is.name; exports = y.is.exports; defs = y.is.defs; note_is = n.is },
          )
      by false e =
          let y = module_parts x h (record { kind = kind_of (reserved (codes "module")); place = start }) (past start (spelled (reserved (codes "module")))) [] in (
            y.value,
            r.part (r.here (r.one (r.part (r.here (r.one (r.part (r.here (r.one (r.token refl) y.reads))) r.none))) r.none)),
            record { name = y.is.name; exports = y.is.exports; defs = y.is.defs; note_is = y.is.note_is ∙ quiet x.note.line x.note.generated e },
          )

  -- the words of a module are those of the module with its labels
  pub words_numbered : (x : m.Module) → c.module_words (numbered x) ≡ c.module_words x
  words_numbered x i = c.noted x.note (λ rest. reserved (codes "module") ∷ atom x.name ∷ symbol (codes "[")
      ∷ c.exports true x.exports (symbol (codes "]") ∷ reserved (codes "attributes") ∷ symbol (codes "[") ∷ symbol (codes "]") ∷ definitions_same 0 x.defs i (reserved (codes "end") ∷ rest))) []

  pub read_back : (x : m.Module) → ModuleFits l x → (y : m.Module) × SpellsTo l (tokens_of start (c.module_words (numbered x))) y × Same y (numbered x)
  read_back x h =
      let w = whole_read x h in
      let v = w.0 in
      let same : bare_defs (number_defs 0 v.defs).0 ≡ bare_defs (number_defs 0 x.defs).0 = ap (λ z. z.0) (sym (number_defs_blank 0 v.defs) ∙ ap (number_defs 0) w.2.defs ∙ number_defs_blank 0 x.defs) in (
        numbered v,
        record { says = v; reads = subst (λ ws. Reads l (the annotated_module) (tokens_of start ws) v []) (sym (words_numbered x)) w.1; labels = refl },
        λ i. record { name = w.2.name i; exports = w.2.exports i; export_places = []; defs = same i; note = w.2.note_is i },
      )
