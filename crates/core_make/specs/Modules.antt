-- The texts of generated modules. The module of number i among n has the name g and its number behind it.
use Rattle.std.specs.Prelude.{ℕ, ◌+◌, ◌%◌, ◌==◌, List, [], ◌++◌, map, codes, if◌then◌else◌}
use Rattle.std.specs.List.{range_with_len}
use Rattle.std.specs.Fmt.{decimal}

-- what the module of this number has where three divides the number, and else lacks
abbrev pub where_three_divides : (i : ℕ) → List ℕ → List ℕ
where_three_divides i text = if i % 3 == 0 then text else []

-- the name of the module of this number
abbrev pub name_text : (i : ℕ) → List ℕ
name_text i = codes "'g" ++ decimal i ++ codes "'"

-- the module's name and its exports
abbrev pub header : (i : ℕ) → List ℕ
header i = codes "module " ++ name_text i ++ codes " ['f'/1,'w'/1" ++ where_three_divides i (codes ",'b'/0") ++ codes "] attributes []\n"

-- 0 gives an atom of the module's own
abbrev pub zero_clause : (i : ℕ) → List ℕ
zero_clause i = codes "<0> when 'true' -> 'z" ++ decimal i ++ codes "'\n"

-- what stands in a pair behind 'ok' is passed to f of the module of this number
abbrev pub pair_clause : (next : ℕ) → List ℕ
pair_clause next = codes "<{'ok',Y}> when 'true' -> call " ++ name_text next ++ codes ":'f'(Y) end\n"

-- f calls f of the next module, and in the last module f of the first
abbrev pub f_text : (n i : ℕ) → List ℕ
f_text n i = codes "'f'/1 = fun (X) -> case X of\n" ++ zero_clause i ++ pair_clause ((i + 1) % n)

-- h adds 1
abbrev pub h_text : List ℕ
h_text = codes "'h'/1 = fun (X) -> call 'erlang':'+'(X,1)\n"

-- w calls h
abbrev pub w_text : List ℕ
w_text = codes "'w'/1 = fun (X) -> apply 'h'/1(X)\n"

-- b adds 1 to an atom, by h, so it never gives a value
abbrev pub b_text : List ℕ
b_text = codes "'b'/0 = fun () -> apply 'h'/1('no')\n"

-- the whole text of the module of number i among n
abbrev pub module_text : (n i : ℕ) → List ℕ
module_text n i = header i ++ f_text n i ++ h_text ++ w_text ++ where_three_divides i b_text ++ codes "end\n"

-- the texts of n modules, in the order of their numbers from 0 on
abbrev pub generated : (n : ℕ) → List (List ℕ)
generated n = map (module_text n) (range_with_len 0 n)
