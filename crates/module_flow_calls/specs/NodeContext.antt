-- What stands around a node: whether something that the compiler made, of which nothing is reported, and the line of the
-- innermost note that has one.
use Rattle.std.specs.Prelude.{ℕ, ◌||◌, List, [], ◌∷◌, cond, Option, Some, None, unwrap_or}
use Rattle.core_ast.specs.declared.syntax.Mark.{Mark}
use Rattle.core_ast.specs.declared.syntax.Note.{Note}
use Rattle.core_ast.specs.Model as m
use Rattle.warn_list.specs.declared.finding.Finding.{Finding}
use Rattle.warn_list.specs.declared.finding.FindingKind.{FindingKind}
use Rattle.module_flow_calls.specs.declared.node_context.NodeContext.{NodeContext}

abbrev pub nearer : (own around : Option ℕ) → Option ℕ
nearer None around = around
nearer (Some n) around = Some n

-- inside a node with this note
abbrev pub under : NodeContext → Note → NodeContext
under a note = record { quiet = a.quiet || note.generated; line = nearer note.line a.line }

-- What is found at a node with this mark, whose own note is among those around it. The line is that of the node's first token
-- where no note has one.
abbrev pub at_node : NodeContext → Mark → FindingKind → List Finding
at_node a k kind = cond a.quiet [] (record { label = k.label; kind = kind; line = unwrap_or a.line k.place.line } ∷ [])

-- inside all of these steps: the note of a step stands around all that follows it
abbrev pub under_steps : NodeContext → m.Steps → NodeContext
under_steps a m.no_step = a
under_steps a (m.and_let i xs t ss) = under_steps (under a i.note) ss
under_steps a (m.and_do i t ss) = under_steps (under a i.note) ss
