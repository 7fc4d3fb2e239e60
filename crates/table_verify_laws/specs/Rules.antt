-- The four rules by which a table is checked against sources and a certificate, which is a table that lists all functions of each
-- module. Each asks something of one module, by its name. They go in this order, and in a rule by the names of modules, the
-- least first.
use Rattle.std.specs.Prelude.{◌≡◌, ℕ, ◌<◌, false, List, Contains, Some}
use Rattle.type_kinds.specs.declared.atom.Atom.{Atom}
use Rattle.core_ast.specs.declared.syntax.FunName.{FunName}
use Rattle.cons_tree.specs.declared.parts.Summary.{Summary}
use Rattle.comp_rounds.specs.Rounds.{Function}
use Rattle.analysis_summaries.specs.Functions.{all_functions}
use Rattle.table_file.specs.Order.{is_name_before}
use Rattle.table_keep.specs.Made.{exported}
use Rattle.table_keep.specs.Model.{Source, Entry, trees, source_of, entry_of}
use Rattle.table_verify_laws.specs.Closed.{IsClosedAt}
use Rattle.table_verify_laws.specs.Listed.{listed, summary_among, defined, known_by}

-- A rule.
pub data TableRule : Type 0 where
  -- table, certificate and sources have the same modules
  same_modules : TableRule
  -- the entries of a module have the digest of its source
  same_source : TableRule
  -- the certificate's entry of a module lists the functions that it defines, and the table's those that it exports, as the
  -- certificate has them
  same_functions : TableRule
  -- what is known by the certificate is closed at the functions of a module
  closed : TableRule

-- the number by which an answer names a rule
abbrev pub rule_number : TableRule → ℕ
rule_number same_modules = 29
rule_number same_source = 30
rule_number same_functions = 31
rule_number closed = 32

-- The certificate's entry lists the functions that the module defines, the table's those that it exports, and each with the summary
-- that the certificate has of it.
pub record ListsFunctions (entry certified : Entry) (source : Source) : Type 0 where
  pub all : listed certified ≡ defined source.tree
  pub exported_alone : listed entry ≡ exported source.tree
  pub as_certified : (f : FunName) (s : Summary) → Contains entry.result.exports (f, s) → summary_among certified.result.exports f ≡ Some s

-- T: the table's entries; C: the certificate's; M: the sources
module _ (T C : List Entry) (M : List Source) where
  -- one of the three has a module of this name
  pub data IsSomewhere (h : Atom) : Type 0 where
    in_table : (e : Entry) → entry_of T h ≡ Some e → IsSomewhere h
    in_certificate : (e : Entry) → entry_of C h ≡ Some e → IsSomewhere h
    in_sources : (s : Source) → source_of M h ≡ Some s → IsSomewhere h

  -- table, certificate and sources have a module of this name
  pub record IsEverywhere (h : Atom) : Type 0 where
    pub entry : Entry
    pub certified : Entry
    pub source : Source
    pub entry_there : entry_of T h ≡ Some entry
    pub certified_there : entry_of C h ≡ Some certified
    pub source_there : source_of M h ≡ Some source

  -- What a rule asks of the module of a name. The second and the third speak of modules that are everywhere, the last of sources.
  abbrev pub Keeps : TableRule → Atom → Type 0
  Keeps same_modules h = IsSomewhere h → IsEverywhere h
  Keeps same_source h = (x : IsEverywhere h) → (x.entry.digest ≡ x.source.digest) × (x.certified.digest ≡ x.source.digest)
  Keeps same_functions h = (x : IsEverywhere h) → ListsFunctions x.entry x.certified x.source
  Keeps closed h = (g : Function) → Contains (all_functions (trees M)) g → g.home ≡ h → IsClosedAt (all_functions (trees M)) (known_by C M) g

  abbrev pub Breaks : TableRule → Atom → Type 0
  Breaks r h = Keeps r h → ⊥

  -- The module breaks the rule, no module with a lesser name breaks it, and none breaks an earlier rule.
  pub record IsFirstBroken (r : TableRule) (h : Atom) : Type 0 where
    pub broken : Breaks r h
    pub least : (k : Atom) → Breaks r k → is_name_before k h ≡ false
    pub earliest : (q : TableRule) (k : Atom) → rule_number q < rule_number r → Breaks q k → ⊥

  -- Each rule is kept by each module.
  abbrev pub KeepsRules : Type 0
  KeepsRules = (r : TableRule) (h : Atom) → Keeps r h
