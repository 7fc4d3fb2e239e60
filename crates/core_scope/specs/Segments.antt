-- What a segment of a binary holds, which its third argument says.
use Rattle.std.specs.Prelude.{Bool, ◌||◌, Option, Some, None, codes, if◌then◌else◌}
use Rattle.type_kinds.specs.declared.atom.Atom.{Atom}
use Rattle.core_ast.specs.Model as m
use Rattle.core_ast.specs.Named.{literal_atom}
use Rattle.core_scope.specs.Names.{same_atom}

abbrev pub third : m.Trees → Option Atom
third (m.and_tree t (m.and_tree u (m.and_tree w ts))) = literal_atom w
third ts = None

abbrev pub is_integer_segment : Atom → Bool
is_integer_segment x = same_atom x (codes "integer") || same_atom x (codes "utf8") || same_atom x (codes "utf16") || same_atom x (codes "utf32")

pub data SegmentKind : Type 0 where
  integers floats bit_strings anything : SegmentKind

abbrev pub kind_named : Option Atom → SegmentKind
kind_named None = anything
kind_named (Some x) =
    if is_integer_segment x then integers
    else if same_atom x (codes "float") then floats
    else if same_atom x (codes "binary") then bit_strings
    else anything

-- the kind of a segment with these arguments
abbrev pub segment_kind : m.Trees → SegmentKind
segment_kind args = kind_named (third args)
