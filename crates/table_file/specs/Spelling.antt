-- How a table is written in bytes. A value has one spelling, and no spelling begins another, so what is written one
-- after the
-- other is read again from left to right. Types are written as `type_bytes` says.
use Rattle.std.specs.Prelude.{ℕ, ◌/◌, ◌%◌, ◌^◌, List, [], ◌∷◌, ◌++◌, length, codes}
use Rattle.std.specs.List.{flat_map}
use Rattle.sha2.specs.Sha256.{sha256}
use Rattle.type_bytes.specs.Spelling.{bytes_of}
use Rattle.core_ast.specs.declared.syntax.FunName.{FunName}
use Rattle.cons_tree.specs.declared.parts.Sig.{Sig}
use Rattle.cons_tree.specs.declared.parts.Summary.{Summary}
use Rattle.cons_tree.specs.declared.parts.Callee.{Callee}
use Rattle.cons_tree.specs.declared.parts.Callee.TheVariants.{Known, Local, Undefined, Unknown}
use Rattle.table_file.specs.declared.used.Used.{Used}
use Rattle.table_file.specs.declared.entries.Entry.{Entry}
use Rattle.table_file.specs.declared.tables.Table.{Table}

-- a number in four bytes, the highest first. From 2 ^ 32 on the first item is no byte
unfoldable pub four_bytes : ℕ → List ℕ
four_bytes n = n / 2 ^ 24 ∷ n / 2 ^ 16 % 256 ∷ n / 2 ^ 8 % 256 ∷ n % 256 ∷ []

-- how many items there are, and these
unfoldable pub counted : {X : Type 0} → (X → List ℕ) → List X → List ℕ
counted bytes xs = four_bytes (length xs) ++ flat_map bytes xs

-- a name, or lines: how many bytes there are, and these
unfoldable pub text_bytes : List ℕ → List ℕ
text_bytes text = four_bytes (length text) ++ text

-- the argument types in order, and the result
unfoldable pub sig_bytes : Sig → List ℕ
sig_bytes s = flat_map bytes_of s.args ++ bytes_of s.result

unfoldable pub summary_bytes : Summary → List ℕ
summary_bytes s = sig_bytes s.strict ++ sig_bytes s.lenient

-- what stands of a function. A `Local` one stands in no table
unfoldable pub callee_bytes : Callee → List ℕ
callee_bytes Undefined = 0 ∷ []
callee_bytes Unknown = 1 ∷ []
callee_bytes (Known s) = 2 ∷ summary_bytes s
callee_bytes (Local s) = []

-- a used function: its module, its name, how many arguments, and what stands of it
unfoldable pub used_bytes : Used → List ℕ
used_bytes u = text_bytes u.home ++ text_bytes u.name.name ++ four_bytes u.name.arity ++ callee_bytes u.callee

-- an export: its name, how many arguments, in one byte, and its summary
unfoldable pub export_bytes : FunName × Summary → List ℕ
export_bytes x = text_bytes x.0.name ++ (x.0.arity ∷ summary_bytes x.1)

-- an entry: the name, the digest, the group, the called modules, the used functions, the exports and the lines
unfoldable pub entry_bytes : Entry → List ℕ
entry_bytes e =
    text_bytes e.name ++ e.digest.0 ++ counted text_bytes e.group ++ counted text_bytes e.calls
    ++ counted used_bytes e.used ++ counted export_bytes e.exports ++ text_bytes e.lines

-- what a table begins with: the word DATABLE, LF, and the version in two bytes
abbrev pub magic : List ℕ
magic = codes "DATABLE" ++ 10 ∷ []

abbrev pub version : List ℕ
version = 0 ∷ 3 ∷ []

-- bytes with their digest behind them
unfoldable pub sealed : List ℕ → List ℕ
sealed front = front ++ sha256 front

-- a table: its head, how many entries there are, these, and the digest of all that
unfoldable pub table_bytes : Table → List ℕ
table_bytes t = sealed (magic ++ version ++ counted entry_bytes t.entries)
