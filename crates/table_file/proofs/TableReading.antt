-- Tables, as they are read.
use Rattle.std.proofs.Common.{◌≡◌, ℕ, suc, ◌+◌, ◌-◌, ◌≤◌, true, false, List, [], ◌++◌, length, take, drop, sym, ap, ◌∙◌, append_assoc, arith, true≢false}
use Rattle.std.specs.Prelude.{◌==◌}
use Rattle.std.specs.List.{flat_map}
use Rattle.std.proofs.lemmas.List.{take-append-drop, append-nil, nil_from_length, take-take}
use Rattle.std.proofs.lemmas.Bool.{eqb-true}
use Rattle.sha2.specs.Sha256.{sha256}
use Rattle.table_file.specs.Faults.{names_of, Stands, IsFirst}
use Rattle.table_file.specs.Lengths.{has_short_types}
use Rattle.table_file.specs.Order.{rises, is_name_before}
use Rattle.table_file.specs.Spelling.{four_bytes, counted, entry_bytes, magic, version, sealed, table_bytes}
use Rattle.table_file.specs.declared.entries.Entry.{Entry}
use Rattle.table_file.specs.declared.faults.TableFault.{TableFault}
use Rattle.table_file.specs.declared.faults.TableFault.TheVariants as faults
use Rattle.table_file.specs.declared.tables.Table.{Table}
use Rattle.table_file.specs.steps.Entries.{FaultIn}
use Rattle.table_file.specs.steps.Reads.{anything, Found, SoFar}

-- ---- what stands between the version and the digest

pub content_found : (bytes after front trailer content : List ℕ) → bytes ≡ magic ++ after
    → (2 ≤ length after → take 2 after ≡ version) → 46 ≤ length bytes
    → front ≡ take (length bytes - 32) bytes → trailer ≡ drop (length bytes - 32) bytes → trailer ≡ sha256 front
    → content ≡ drop 10 front → bytes ≡ sealed (magic ++ version ++ content)
unfolding sealed
content_found bytes after front trailer content begins same long f t digest c =
    let more : 2 ≤ length after = omega (arith, ap length begins) in
    let head : take 10 front ≡ magic ++ version = ap (take 10) f
    ∙ take-take 10 (length bytes - 32) bytes (omega arith) ∙ ap (take 10) begins
    ∙ ap (λ w. magic ++ w) (same more) in
    let whole : front ≡ magic ++ version ++ content = sym (take-append-drop 10 front)
    ∙ ap (λ w. w ++ drop 10 front) head ∙ ap (λ w. magic ++ version ++ w) (sym c) in
    sym (take-append-drop (length bytes - 32) bytes) ∙ ap (λ w. w ++ drop (length bytes - 32) bytes) (sym f)
    ∙ ap (λ w. front ++ w) (sym t ∙ digest) ∙ ap (λ w. w ++ sha256 w) whole

pub is_nil : (xs : List ℕ) → (length xs == 0) ≡ true → xs ≡ []
is_nil xs e = nil_from_length xs (eqb-true (length xs) 0 e)

pub not_nil : (xs : List ℕ) → (length xs == 0) ≡ false → xs ≡ [] → ⊥
not_nil xs e is = true≢false (sym (ap (λ ys. length ys == 0) is) ∙ e)

-- ---- entries

pub stands : {bytes content after rest : List ℕ} {count n : ℕ} {entries : List Entry} (left : ℕ)
    → bytes ≡ sealed (magic ++ version ++ content) → Found anything four_bytes content count after
    → SoFar has_short_types entry_bytes after entries rest n → rises is_name_before (names_of entries) ≡ true
    → n + left ≡ count → Stands bytes entries left rest
stands {content = content} {after = after} {rest = rest} {entries = entries} left whole found read up is = record {
  whole =
      whole ∙ ap (λ w. sealed (magic ++ version ++ w))
      (found.spelled ∙ ap (λ k. four_bytes k ++ after) (sym is ∙ ap (λ k. k + left) (sym read.count))
      ∙ ap (λ w. four_bytes (length entries + left) ++ w) read.spelled
      ∙ sym (append_assoc (four_bytes (length entries + left)) (flat_map entry_bytes entries) rest));
  rise = up;
  short = read.kept;
}

pub fault_first : (e : TableFault) {bytes rest : List ℕ} {entries : List Entry} (left : ℕ)
    → Stands bytes entries (suc left) rest → FaultIn e entries rest → IsFirst e bytes
fault_first faults.NotATable left s f = absurd f
fault_first faults.Version left s f = absurd f
fault_first faults.Torn left s f = absurd f
fault_first faults.Order {rest = rest} {entries = entries} left s f = (entries, left, rest, s, f)
fault_first faults.BadEntry {rest = rest} {entries = entries} left s f = (entries, left, rest, s, f.0, f.1)
fault_first faults.Rest left s f = absurd f
fault_first faults.Memory left s f = tt

pub table_found : {bytes content after rest : List ℕ} {count n : ℕ} (t : Table)
    → bytes ≡ sealed (magic ++ version ++ content) → Found anything four_bytes content count after
    → SoFar has_short_types entry_bytes after t.entries rest n → n ≡ count → rest ≡ [] → bytes ≡ table_bytes t
unfolding table_bytes counted
table_found {after = after} {rest = rest} t whole found read is empty =
    whole ∙ ap (λ w. sealed (magic ++ version ++ w))
    (found.spelled ∙ ap (λ k. four_bytes k ++ after) (sym is ∙ sym read.count)
    ∙ ap (λ w. four_bytes (length t.entries) ++ w)
    (read.spelled ∙ ap (λ w. flat_map entry_bytes t.entries ++ w) empty ∙ append-nil (flat_map entry_bytes t.entries)))
