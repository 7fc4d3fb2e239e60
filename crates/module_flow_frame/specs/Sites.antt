-- What a line of a report is tied to: a place of the module's text, of the kind that the line speaks of and with its names, whose
-- line of text is the one that it tells.
use Rattle.std.specs.Prelude.{◌≡◌, ℕ, Bool, false, ◌||◌, List, [], ◌∷◌, ◌++◌, Contains, Option, Some, None, unwrap_or}
use Rattle.type_kinds.specs.declared.atom.Atom.{Atom}
use Rattle.core_ast.specs.declared.syntax.Mark.{Mark}
use Rattle.core_ast.specs.declared.syntax.Note.{Note}
use Rattle.core_ast.specs.declared.syntax.FunName.{FunName}
use Rattle.core_ast.specs.Model as m
use Rattle.core_ast.specs.Lengths.{how_many}
use Rattle.core_ast.specs.Named.{local_name}
use Rattle.core_scope.specs.Asks.{function_name}
use Rattle.cons_gen_rows.specs.Counts.{call_names}
use Rattle.module_flow_calls.specs.NodeContext.{nearer}
use Rattle.warn_list.specs.declared.finding.Finding.{Finding}
use Rattle.warn_list.specs.declared.finding.FindingKind.{FindingKind}
use Rattle.warn_list.specs.declared.finding.FindingKind.TheVariants as k
use Rattle.warn_list.specs.declared.finding.CallText.{CallText}
use Rattle.warn_list.specs.declared.finding.CallText.TheVariants.{Local, Remote, Value}
use Rattle.warn_list.specs.Lines.{lines_of, AreLines}
use Rattle.module_flow.specs.Flow.{Callees, findings}

-- ---- the places of which a report may speak

pub data Speaks : Type 0 where
  -- a definition of the module, by its name
  definition : FunName → Speaks
  -- an application of a local name, or of a value to so many arguments
  application : Option FunName → ℕ → Speaks
  -- a call by a literal module and name, with so many arguments
  call : Atom → FunName → Speaks
  -- a clause of a `case` or a `receive`
  clause : Speaks

-- a place, with the notes of its node and of all around it, its own first
pub record Site : Type 0 where
  pub mark : Mark
  pub speaks : Speaks
  pub notes : List Note

-- the line of the innermost note that has one
abbrev pub noted_line : List Note → Option ℕ
noted_line [] = None
noted_line (n ∷ ns) = nearer n.line (noted_line ns)

-- the line of a place: that one, or else the line of its first token
abbrev pub line_at : Site → ℕ
line_at s = unwrap_or (noted_line s.notes) s.mark.place.line

-- one of the notes says that the compiler made it
abbrev pub is_generated : List Note → Bool
is_generated [] = false
is_generated (n ∷ ns) = is_generated ns || n.generated

-- ---- the places of a text, where these notes stand around it

abbrev pub call_site : List Note → Mark → Option (Atom × Atom) → ℕ → List Site
call_site ns i None n = []
call_site ns i (Some names) n = record { mark = i; speaks = call names.0 (function_name names.1 n); notes = ns } ∷ []

-- the note of a step stands around all that follows it
abbrev pub through : List Note → m.Steps → List Note
through ns m.no_step = ns
through ns (m.and_let i xs t ss) = through (i.note ∷ ns) ss
through ns (m.and_do i t ss) = through (i.note ∷ ns) ss

abbrev mutual
  pub sites : List Note → m.Tree → List Site
  sites ns (m.variable i x) = []
  sites ns (m.local i f) = []
  sites ns (m.external i x f) = []
  sites ns (m.literal i l) = []
  sites ns (m.function i xs t) = sites (i.note ∷ ns) t
  sites ns (m.listed i ts t) = sites_of_all (i.note ∷ ns) ts ++ sites (i.note ∷ ns) t
  sites ns (m.tuple i ts) = sites_of_all (i.note ∷ ns) ts
  sites ns (m.new_map i ps) = sites_of_pairs (i.note ∷ ns) ps
  sites ns (m.updated_map i ps t) = sites_of_pairs (i.note ∷ ns) ps ++ sites (i.note ∷ ns) t
  sites ns (m.binary i ss) = sites_of_segments (i.note ∷ ns) ss
  sites ns (m.values i ts) = sites_of_all (i.note ∷ ns) ts
  sites ns (m.chain i ss t) = sites_of_steps (i.note ∷ ns) ss ++ sites (through (i.note ∷ ns) ss) t
  sites ns (m.case i t cs) = sites (i.note ∷ ns) t ++ sites_of_clauses (i.note ∷ ns) cs
  sites ns (m.letrec i ds t) = sites_of_defs (i.note ∷ ns) ds ++ sites (i.note ∷ ns) t
  sites ns (m.apply i t ts) =
      record { mark = i; speaks = application (local_name t) (how_many ts); notes = i.note ∷ ns } ∷ (sites (i.note ∷ ns) t ++ sites_of_all (i.note ∷ ns) ts)
  sites ns (m.call i t u ts) =
      call_site (i.note ∷ ns) i (call_names t u) (how_many ts)
      ++ sites (i.note ∷ ns) t ++ sites (i.note ∷ ns) u ++ sites_of_all (i.note ∷ ns) ts
  sites ns (m.primop i x ts) = sites_of_all (i.note ∷ ns) ts
  sites ns (m.try i t xs u ys w) = sites (i.note ∷ ns) t ++ sites (i.note ∷ ns) u ++ sites (i.note ∷ ns) w
  sites ns (m.receive i cs t u) = sites_of_clauses (i.note ∷ ns) cs ++ sites (i.note ∷ ns) t ++ sites (i.note ∷ ns) u
  sites ns (m.catch i t) = sites (i.note ∷ ns) t

  pub sites_of_all : List Note → m.Trees → List Site
  sites_of_all ns m.no_tree = []
  sites_of_all ns (m.and_tree t ts) = sites ns t ++ sites_of_all ns ts

  pub sites_of_pairs : List Note → m.Pairs → List Site
  sites_of_pairs ns m.no_pair = []
  sites_of_pairs ns (m.and_pair exact t u ps) = sites ns t ++ sites ns u ++ sites_of_pairs ns ps

  pub sites_of_segments : List Note → m.Segments → List Site
  sites_of_segments ns m.no_segment = []
  sites_of_segments ns (m.and_segment t ts ss) = sites ns t ++ sites_of_all ns ts ++ sites_of_segments ns ss

  pub sites_of_steps : List Note → m.Steps → List Site
  sites_of_steps ns m.no_step = []
  sites_of_steps ns (m.and_let i xs u ss) = sites (i.note ∷ ns) u ++ sites_of_steps (i.note ∷ ns) ss
  sites_of_steps ns (m.and_do i u ss) = sites (i.note ∷ ns) u ++ sites_of_steps (i.note ∷ ns) ss

  pub sites_of_clauses : List Note → m.Clauses → List Site
  sites_of_clauses ns m.no_clause = []
  sites_of_clauses ns (m.and_clause i ps g t cs) =
      record { mark = i; speaks = clause; notes = i.note ∷ ns } ∷ (sites_of_patterns (i.note ∷ ns) ps ++ sites (i.note ∷ ns) g ++ sites (i.note ∷ ns) t ++ sites_of_clauses ns cs)

  pub sites_of_defs : List Note → m.Defs → List Site
  sites_of_defs ns m.no_def = []
  sites_of_defs ns (m.and_def f i xs t ds) = sites (i.note ∷ ns) t ++ sites_of_defs ns ds

  -- the arguments of segments and the keys of maps in patterns
  pub sites_of_pattern : List Note → m.Pattern → List Site
  sites_of_pattern ns (m.binds i x) = []
  sites_of_pattern ns (m.equals i l) = []
  sites_of_pattern ns (m.list_of i ps p) = sites_of_patterns (i.note ∷ ns) ps ++ sites_of_pattern (i.note ∷ ns) p
  sites_of_pattern ns (m.tuple_of i ps) = sites_of_patterns (i.note ∷ ns) ps
  sites_of_pattern ns (m.map_of i ps) = sites_of_pat_pairs (i.note ∷ ns) ps
  sites_of_pattern ns (m.binary_of i ss) = sites_of_pat_segments (i.note ∷ ns) ss
  sites_of_pattern ns (m.alias i x p) = sites_of_pattern (i.note ∷ ns) p

  pub sites_of_patterns : List Note → m.Patterns → List Site
  sites_of_patterns ns m.no_pattern = []
  sites_of_patterns ns (m.and_pattern p ps) = sites_of_pattern ns p ++ sites_of_patterns ns ps

  pub sites_of_pat_pairs : List Note → m.PatPairs → List Site
  sites_of_pat_pairs ns m.no_pat_pair = []
  sites_of_pat_pairs ns (m.and_pat_pair t p ps) = sites ns t ++ sites_of_pattern ns p ++ sites_of_pat_pairs ns ps

  pub sites_of_pat_segments : List Note → m.PatSegments → List Site
  sites_of_pat_segments ns m.no_pat_segment = []
  sites_of_pat_segments ns (m.and_pat_segment p ts ss) = sites_of_pattern ns p ++ sites_of_all ns ts ++ sites_of_pat_segments ns ss

-- the module's own definitions
abbrev pub definition_sites : List Note → m.Defs → List Site
definition_sites ns m.no_def = []
definition_sites ns (m.and_def f i xs t ds) = record { mark = i; speaks = definition f; notes = i.note ∷ ns } ∷ definition_sites ns ds

-- those of a module, around all of which stands its note
abbrev pub sites_of_module : m.Module → List Site
sites_of_module x = definition_sites (x.note ∷ []) x.defs ++ sites_of_defs (x.note ∷ []) x.defs

-- ---- findings

-- the text of an application
abbrev pub application_text : Option FunName → ℕ → CallText
application_text (Some f) n = Local f
application_text None n = Value n

-- what a finding says is of what stands there, with its names: without a local return and never called are definitions, what never
-- returns is an application or a call, what never matches a clause, and an unknown function the one that a call names
abbrev pub Fits : FindingKind → Speaks → Type 0
Fits (k.NoReturn f) s = s ≡ definition f
Fits (k.DeadCall text) (application o n) = text ≡ application_text o n
Fits (k.DeadCall text) (call home f) = text ≡ Remote home f
Fits (k.DeadCall text) (definition f) = ⊥
Fits (k.DeadCall text) clause = ⊥
Fits k.DeadClause s = s ≡ clause
Fits (k.NeverCalled f) s = s ≡ definition f
Fits (k.UnknownFunction home f) s = s ≡ call home f

-- A finding is tied to a place of the text: it has its label and its line, says what fits it, and the compiler didn't make it.
pub record IsTied (text : List Site) (f : Finding) : Type 0 where
  pub site : Site
  pub stands : Contains text site
  pub label : f.label ≡ site.mark.label
  pub line : f.line ≡ line_at site
  pub fits : Fits f.kind site.speaks
  pub written : is_generated site.notes ≡ false

-- Each finding is tied to the text.
pub record AreTied (text : List Site) (fs : List Finding) : Type 0 where
  pub each : (f : Finding) → Contains fs f → IsTied text f

-- The bytes are lines, of findings each of which is tied to the module.
pub record AreTiedLines (x : m.Module) (bytes : List ℕ) : Type 0 where
  pub told : List Finding
  pub written : bytes ≡ lines_of x.name told
  pub tied : AreTied (sites_of_module x) told

-- So is what is found in a module, by whatever is known of functions; and so are the lines of its report.
abbrev pub TiedFindings : Type 0
TiedFindings = (callees : Callees) (x : m.Module) → AreTied (sites_of_module x) (findings callees x)

abbrev pub TiedLines : Type 0
TiedLines = (callees : Callees) (x : m.Module) (bytes : List ℕ) → AreLines x.name (findings callees x) bytes → AreTiedLines x bytes
