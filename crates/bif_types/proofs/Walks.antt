-- A walk through rows, one after another.
use Rattle.std.proofs.Common.{◌≡◌, ℕ, suc, ◌+◌, ◌<◌, List, [], ◌∷◌, ◌++◌, inl, inr, Some, None, true, false, cond, length, map, drop, slice_index_or, refl, sym, ap, ◌∙◌, arith}
use Rattle.std.specs.Str.{bytes_eq}
use Rattle.std.proofs.lemmas.Bool.{cases_Bool}
use Rattle.std.proofs.Math.Seq.{drop-cons}
use Rattle.bif_types.specs.declared.rows.Row.{Row}
use Rattle.bif_types.specs.declared.bif.Bif.{Bif}
use Rattle.bif_types.specs.Table.{Named, row_of}

-- what contracts see of a row
abbrev pub seen : Row → Named
seen r = record { name = r.name.now; bif = r.bif }

pub row_found : (rows : List Named) (row : Named) (x : List ℕ) → bytes_eq row.name x ≡ true → row_of (row ∷ rows) x ≡ Some row.bif
row_found rows row x h = ap (λ b. cond b (Some row.bif) (row_of rows x)) h

pub row_passed : (rows : List Named) (row : Named) (x : List ℕ) → bytes_eq row.name x ≡ false → row_of (row ∷ rows) x ≡ row_of rows x
row_passed rows row x h = ap (λ b. cond b (Some row.bif) (row_of rows x)) h

module _ (rows : List Row) (x : List ℕ) (i : ℕ) (d : Row) (so_far : row_of (map seen (drop i rows)) x ≡ row_of (map seen rows) x) (within : i < length rows) where
  opened : row_of (seen (slice_index_or rows i d) ∷ map seen (drop (suc i) rows)) x ≡ row_of (map seen rows) x
  opened = ap (λ rs. row_of (map seen rs) x) (sym (drop-cons rows i d within)) ∙ so_far

  -- the walk has come to the row of the name
  pub found_at : bytes_eq (slice_index_or rows i d).name.now x ≡ true → Some (slice_index_or rows i d).bif ≡ row_of (map seen rows) x
  found_at h = sym (row_found (map seen (drop (suc i) rows)) (seen (slice_index_or rows i d)) x h) ∙ opened

  -- it goes on behind another row
  pub passed_at : bytes_eq (slice_index_or rows i d).name.now x ≡ false → row_of (map seen (drop (i + 1) rows)) x ≡ row_of (map seen rows) x
  passed_at h = ap (λ n. row_of (map seen (drop n rows)) x) {x = i + 1} {y = suc i} (omega arith) ∙ sym (row_passed (map seen (drop (suc i) rows)) (seen (slice_index_or rows i d)) x h) ∙ opened

-- a name among two tables is sought in the first, and then in the second
pub found_first : (rows more : List Named) (x : List ℕ) (b : Bif) → row_of rows x ≡ Some b → row_of (rows ++ more) x ≡ Some b
found_first [] more x b h = grind (arith, h)
found_first (row ∷ rows) more x b h = elim (cases_Bool (bytes_eq row.name x)) as (λ c. row_of ((row ∷ rows) ++ more) x ≡ Some b) [
  | inl so ↦ row_found (rows ++ more) row x so ∙ sym (row_found rows row x so) ∙ h
  | inr not_so ↦ row_passed (rows ++ more) row x not_so ∙ found_first rows more x b (sym (row_passed rows row x not_so) ∙ h)
]

pub found_second : (rows more : List Named) (x : List ℕ) → row_of rows x ≡ None → row_of (rows ++ more) x ≡ row_of more x
found_second [] more x h = refl
found_second (row ∷ rows) more x h = elim (cases_Bool (bytes_eq row.name x)) as (λ c. row_of ((row ∷ rows) ++ more) x ≡ row_of more x) [
  | inl so ↦ grind (arith, row_found rows row x so, h)
  | inr not_so ↦ row_passed (rows ++ more) row x not_so ∙ found_second rows more x (sym (row_passed rows row x not_so) ∙ h)
]

-- a list of rows is a table, row by row
pub next_row : {x y : List ℕ} {b d : Bif} {rows table : List Named} → x ≡ y → b ≡ d → rows ≡ table → record { name = x; bif = b } ∷ rows ≡ record { name = y; bif = d } ∷ table
next_row {x} {y} {b} {d} {rows} {table} e f g = ap (λ z. record { name = z; bif = b } ∷ rows) e ∙ ap (λ z. record { name = y; bif = z } ∷ rows) f ∙ ap (λ z. record { name = y; bif = d } ∷ z) g
