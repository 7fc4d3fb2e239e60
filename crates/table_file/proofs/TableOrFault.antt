-- Bytes are those of a table, or have a first fault.
use Rattle.std.proofs.Common.{◌≡◌, ℕ, zero, suc, ◌+◌, ◌-◌, ◌<◌, ◌≤◌, ◌⊎◌, inl, inr, Bool, true, false, List, [], ◌∷◌}
use Rattle.std.proofs.Common.{◌++◌, length, take, drop, refl, sym, ap, ◌∙◌, subst, length-drop, true≢false, arith}
use Rattle.std.specs.Prelude.{nat_eq}
use Rattle.std.specs.Cmp.Lexicographic.{pointwise, bytes_decides}
use Rattle.std.specs.List.{All, list_all}
use Rattle.std.proofs.lemmas.Bool.{cases_lt}
use Rattle.std.proofs.lemmas.List.{take-append-drop, map-append, length-take, get_or_past}
use Rattle.sha2.specs.Sha256.{sha256}
use Rattle.type_kinds_sets.specs.Names.{Name}
use Rattle.type_bytes.proofs.FormatLaws.{AreBytes, are_bytes, bytes_front, bytes_back}
use Rattle.type_bytes.specs.ShortNames.{has_short_names}
use Rattle.type_bytes.specs.Spelling.{bytes_of}
use Rattle.core_ast.specs.declared.syntax.FunName.{FunName}
use Rattle.cons_tree.specs.declared.parts.Summary.{Summary}
use Rattle.table_file.specs.Faults.{names_of, rises_on, IsTorn, IsFirst}
use Rattle.table_file.specs.Lengths.{has_short_types}
use Rattle.table_file.specs.Order.{rises, is_name_before}
use Rattle.table_file.specs.Spelling.{four_bytes, counted, text_bytes, sig_bytes, used_bytes, export_bytes, entry_bytes, magic, version, sealed, table_bytes}
use Rattle.table_file.specs.declared.entries.Entry.{Entry}
use Rattle.table_file.specs.declared.faults.TableFault.{TableFault}
use Rattle.table_file.specs.declared.faults.TableFault.TheVariants as faults
use Rattle.table_file.specs.declared.reading.entries.Parts.{Parts}
use Rattle.table_file.specs.declared.tables.Table.{Table}
use Rattle.table_file.specs.declared.used.Used.{Used}
use Rattle.table_file.specs.steps.Entries.{parts_spelled, parts_fit, keeps, FaultIn}
use Rattle.table_file.specs.steps.Reads.{anything, Found, Once, SoFar}
use Rattle.table_file.specs.steps.Tests.{is_sig, has_short_callee, is_short_export}
use Rattle.table_file.proofs.EntryLaws.{digest_fits}
use Rattle.table_file.proofs.EntryReading.{no_digest, behind_digest, no_group, behind_group, no_calls, behind_calls, no_used, behind_used, no_exports, behind_exports, no_lines, parts_found}
use Rattle.table_file.proofs.EntryRules.{kept_each, no_entry, exports_kept, no_name, no_name_in_order, in_order, no_parts, no_rules, entry_found}
use Rattle.table_file.proofs.FieldLaws.{so_far_none, so_far_more}
use Rattle.table_file.proofs.FoundOrNone.{Read, Reader, left, whole_number, text, counted_list, one_used, one_export}
use Rattle.table_file.proofs.OnceLaws.{text_once}
use Rattle.table_file.proofs.TableReading.{content_found, stands, fault_first, table_found}

same_or_not : (xs ys : List ℕ) → (xs ≡ ys) ⊎ (xs ≡ ys → ⊥)
same_or_not xs ys = by (pointwise nat_eq xs ys) refl
  where
    by : (b : Bool) → pointwise nat_eq xs ys ≡ b → (xs ≡ ys) ⊎ (xs ≡ ys → ⊥)
    by true e = inl ((bytes_decides xs ys).0 e)
    by false e = inr (λ h. true≢false (sym ((bytes_decides xs ys).1 h) ∙ e))

module _ (once : Once has_short_names bytes_of) (once_sig : (n : ℕ) → Once (is_sig n) sig_bytes) (once_used : Once has_short_callee used_bytes) (once_export : Once is_short_export export_bytes)
    (once_parts : Once parts_fit parts_spelled) where
  -- ---- what stands behind an entry's name

  module _ {bytes b : List ℕ} (digest : List ℕ) (found : bytes ≡ digest ++ b) (whole : length digest ≡ 32) where
    lined : {group calls : List Name} {used : List Used} {exports : List (FunName × Summary)} {c d e f : List ℕ} → Found (list_all anything) (counted text_bytes) b group c
        → Found (list_all anything) (counted text_bytes) c calls d → Found (list_all has_short_callee) (counted used_bytes) d used e → Found (list_all is_short_export) (counted export_bytes) e exports f
        → Read anything text_bytes f → Read parts_fit parts_spelled bytes
    lined g k u x (inr none) = inr (behind_digest digest found whole (behind_group g (behind_calls k (behind_used once_used u (behind_exports once_export x (no_lines none))))))
    lined {group} {calls} {used} {exports} g k u x (inl (lines, rest, l)) =
        let p : Parts = record { digest = record { 0 = digest }; group = group; calls = calls; used = used; exports = exports; lines = lines } in
        inl (p, rest, parts_found p refl refl refl refl refl found whole g k u x l)

    exporting : {group calls : List Name} {used : List Used} {c d e : List ℕ} → Found (list_all anything) (counted text_bytes) b group c → Found (list_all anything) (counted text_bytes) c calls d
        → Found (list_all has_short_callee) (counted used_bytes) d used e → AreBytes e → Read (list_all is_short_export) (counted export_bytes) e → Read parts_fit parts_spelled bytes
    exporting g k u ke (inr none) = inr (behind_digest digest found whole (behind_group g (behind_calls k (behind_used once_used u (no_exports none)))))
    exporting g k u ke (inl (exports, f, x)) = lined g k u x (text f (left x ke))

    using : {group calls : List Name} {c d : List ℕ} → Found (list_all anything) (counted text_bytes) b group c → Found (list_all anything) (counted text_bytes) c calls d → AreBytes d
        → Read (list_all has_short_callee) (counted used_bytes) d → Read parts_fit parts_spelled bytes
    using g k kd (inr none) = inr (behind_digest digest found whole (behind_group g (behind_calls k (no_used none))))
    using g k kd (inl (used, e, u)) = exporting g k u (left u kd) (counted_list (one_export once once_sig) once_export e (left u kd))

    calling : {group : List Name} {c : List ℕ} → Found (list_all anything) (counted text_bytes) b group c → AreBytes c → Read (list_all anything) (counted text_bytes) c → Read parts_fit parts_spelled bytes
    calling g kc (inr none) = inr (behind_digest digest found whole (behind_group g (no_calls none)))
    calling g kc (inl (calls, d, k)) = using g k (left k kc) (counted_list (one_used once once_sig) once_used d (left k kc))

    grouped : AreBytes b → Read (list_all anything) (counted text_bytes) b → Read parts_fit parts_spelled bytes
    grouped kb (inr none) = inr (behind_digest digest found whole (no_group none))
    grouped kb (inl (group, c, g)) = calling g (left g kb) (counted_list text text_once c (left g kb))

  parts : Reader parts_fit parts_spelled
  parts bytes k =
      elim (cases_lt (length bytes) 32) [
        | inl short ↦ inr (no_digest bytes short)
        | inr long ↦
            let halves : bytes ≡ take 32 bytes ++ drop 32 bytes = sym (take-append-drop 32 bytes) in
            let rest : AreBytes (drop 32 bytes) = bytes_back (take 32 bytes) (drop 32 bytes) (subst AreBytes halves k) in
            grouped (take 32 bytes) halves (omega (arith, length-take 32 bytes)) rest (counted_list text text_once (drop 32 bytes) rest)
      ]

  -- ---- the next entry

  -- an entry stands first, whose name is greater than those before it, or there is a fault
  abbrev Next : (entries : List Entry) (bytes : List ℕ) → Type 0
  Next entries bytes =
      ((e : Entry) × (rest : List ℕ) × Found has_short_types entry_bytes bytes e rest × (rises_on entries e.name ≡ true))
      ⊎ ((fault : TableFault) × (fault ≡ faults.Memory → ⊥) × FaultIn fault entries bytes)

  module _ (entries : List Entry) (bytes : List ℕ) where
    ruled : {name : Name} {after rest : List ℕ} (p : Parts) → Found anything text_bytes bytes name after → rises_on entries name ≡ true → Found parts_fit parts_spelled after p rest
        → (b : Bool) → keeps name p ≡ b → Next entries bytes
    ruled p n up found false e = inr (faults.BadEntry, (λ m. absurd cc), (in_order entries n up, no_rules once_parts n found (no_entry _ p e)))
    ruled {name} {rest = rest} p n up found true e =
        let k = kept_each name p e in
        let entry : Entry = record {
          name = name;
          digest = p.digest;
          group = p.group;
          calls = p.calls;
          used = p.used;
          exports = p.exports;
          lines = p.lines;
          digest_whole = digest_fits p found.kept;
          group_rises = k.group;
          group_has_own = k.own;
          calls_rise = k.calls;
          used_rise = k.used;
          used_outside = k.outside;
          exports_rise = k.exports;
          exports_fit = exports_kept p found.kept;
        } in
        inl (entry, rest, entry_found entry n found refl refl, up)

    parted : {name : Name} {after : List ℕ} → Found anything text_bytes bytes name after → rises_on entries name ≡ true → Read parts_fit parts_spelled after → Next entries bytes
    parted n up (inr none) = inr (faults.BadEntry, (λ m. absurd cc), (in_order entries n up, no_parts n none))
    parted {name} n up (inl (p, rest, found)) = ruled p n up found (keeps name p) refl

    named : {name : Name} {after : List ℕ} → AreBytes after → Found anything text_bytes bytes name after → (b : Bool) → rises_on entries name ≡ b → Next entries bytes
    named {name} {after} ka n false e = inr (faults.Order, (λ m. absurd cc), (name, after, n.spelled, e))
    named {name} {after} ka n true e = parted n e (parts after ka)

    next_by : AreBytes bytes → Read anything text_bytes bytes → Next entries bytes
    next_by k (inr none) = inr (faults.BadEntry, (λ m. absurd cc), (no_name_in_order entries none, no_name none))
    next_by k (inl (name, after, n)) = named (left n k) n (rises_on entries name) refl

    next : AreBytes bytes → Next entries bytes
    next k = next_by k (text bytes k)

  -- ---- a table

  -- the bytes are those of a table, or have a first fault
  abbrev Decided : List ℕ → Type 0
  Decided bytes = ((t : Table) × (bytes ≡ table_bytes t) × (list_all has_short_types t.entries ≡ true)) ⊎ ((fault : TableFault) × (fault ≡ faults.Memory → ⊥) × IsFirst fault bytes)

  names_more : (entries : List Entry) (e : Entry) → names_of (entries ++ e ∷ []) ≡ names_of entries ++ e.name ∷ []
  names_more entries e = map-append (λ d. d.name) entries (e ∷ [])

  module _ {bytes content after : List ℕ} {count : ℕ} (whole : bytes ≡ sealed (magic ++ version ++ content)) (counting : Found anything four_bytes content count after) where
    ended : (n : ℕ) (entries : List Entry) (rest : List ℕ) → SoFar has_short_types entry_bytes after entries rest n → rises is_name_before (names_of entries) ≡ true → n ≡ count → Decided bytes
    ended n entries [] s up is =
        let t : Table = record { entries = entries; entries_rise = up } in
        inl (t, table_found t whole counting s is refl, s.kept)
    ended n entries (b ∷ more) s up is = inr (faults.Rest, (λ m. absurd cc), (entries, b ∷ more, stands 0 whole counting s up (omega arith), λ e. absurd cc))

    entries_from : (more n : ℕ) (entries : List Entry) (rest : List ℕ) → AreBytes rest → SoFar has_short_types entry_bytes after entries rest n → rises is_name_before (names_of entries) ≡ true → n + more ≡ count
        → Decided bytes
    entries_from zero n entries rest k s up is = ended n entries rest s up (omega arith)
    entries_from (suc more) n entries rest k s up is =
        elim (next entries rest k) [
          | inl found ↦
              entries_from more (n + 1) (entries ++ found.0 ∷ []) found.1 (left found.2 k) (so_far_more (entries ++ found.0 ∷ []) refl s found.2)
              (ap (rises is_name_before) (names_more entries found.0) ∙ found.3) (omega arith)
          | inr fault ↦ inr (fault.0, fault.1, fault_first fault.0 more (stands (suc more) whole counting s up is) fault.2)
        ]

    all_entries : AreBytes after → Decided bytes
    all_entries k = entries_from count 0 [] after k (so_far_none after [] refl) refl (omega arith)

  -- behind the magic and the version, before the digest
  contained : (bytes : List ℕ) → AreBytes bytes → take 8 bytes ≡ magic → (10 ≤ length bytes → take 2 (drop 8 bytes) ≡ version) → 46 ≤ length bytes
      → drop (length bytes - 32) bytes ≡ sha256 (take (length bytes - 32) bytes) → Decided bytes
  contained bytes k begins same long digest =
      let front : List ℕ = take (length bytes - 32) bytes in
      let content : List ℕ = drop 10 front in
      let whole = content_found bytes (drop 8 bytes) front (drop (length bytes - 32) bytes) content
      (sym (take-append-drop 8 bytes) ∙ ap (λ w. w ++ drop 8 bytes) begins) (λ m. same (omega arith)) long refl refl digest refl in
      let kf : AreBytes front = bytes_front front (drop (length bytes - 32) bytes) (subst AreBytes (sym (take-append-drop (length bytes - 32) bytes)) k) in
      let kc : AreBytes content = bytes_back (take 10 front) content (subst AreBytes (sym (take-append-drop 10 front)) kf) in
      let counting = whole_number content kc (omega (arith, length-drop 10 front, length-take (length bytes - 32) bytes)) in
      all_entries whole counting (left counting kc)

  decided : (bytes : List ℕ) → AreBytes bytes → Decided bytes
  decided bytes k = by_magic (same_or_not (take 8 bytes) magic)
    where
      torn : take 8 bytes ≡ magic → (10 ≤ length bytes → take 2 (drop 8 bytes) ≡ version) → IsTorn bytes → Decided bytes
      torn begins same bad = inr (faults.Torn, (λ m. absurd cc), (begins, same, bad))

      by_digest : take 8 bytes ≡ magic → (10 ≤ length bytes → take 2 (drop 8 bytes) ≡ version) → 46 ≤ length bytes
          → (drop (length bytes - 32) bytes ≡ sha256 (take (length bytes - 32) bytes)) ⊎ (drop (length bytes - 32) bytes ≡ sha256 (take (length bytes - 32) bytes) → ⊥) → Decided bytes
      by_digest begins same long (inl digest) = contained bytes k begins same long digest
      by_digest begins same long (inr other) = torn begins same (inr other)

      by_length : take 8 bytes ≡ magic → (10 ≤ length bytes → take 2 (drop 8 bytes) ≡ version) → (length bytes < 46) ⊎ (46 ≤ length bytes) → Decided bytes
      by_length begins same (inl short) = torn begins same (inl short)
      by_length begins same (inr long) = by_digest begins same long (same_or_not (drop (length bytes - 32) bytes) (sha256 (take (length bytes - 32) bytes)))

      by_version : take 8 bytes ≡ magic → (length bytes < 10) ⊎ (10 ≤ length bytes) → (take 2 (drop 8 bytes) ≡ version) ⊎ (take 2 (drop 8 bytes) ≡ version → ⊥) → Decided bytes
      by_version begins size (inl same) = by_length begins (λ m. same) (cases_lt (length bytes) 46)
      by_version begins (inl short) (inr other) = by_length begins (λ m. absurd (omega arith)) (cases_lt (length bytes) 46)
      by_version begins (inr long) (inr other) = inr (faults.Version, (λ m. absurd cc), (begins, long, other))

      by_magic : (take 8 bytes ≡ magic) ⊎ (take 8 bytes ≡ magic → ⊥) → Decided bytes
      by_magic (inl begins) = by_version begins (cases_lt (length bytes) 10) (same_or_not (take 2 (drop 8 bytes)) version)
      by_magic (inr other) = inr (faults.NotATable, (λ m. absurd cc), other)

  pub table_or_fault : (bytes : List ℕ) → All (λ b. b < 256) bytes → Decided bytes
  table_or_fault bytes all =
      decided bytes (are_bytes bytes (λ i. elim (cases_lt i (length bytes)) [
        | inl low ↦ all i 0 low
        | inr high ↦ omega (arith, get_or_past bytes i 0 high)
      ]))
