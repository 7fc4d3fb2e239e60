-- Bytes spell one table, or have one first fault.
use Rattle.std.proofs.Common.{◌≡◌, ℕ, suc, ◌+◌, ◌-◌, ◌<◌, ◌≤◌, true, ◌&&◌, inl, inr, List, [], ◌∷◌, ◌++◌, length}
use Rattle.std.proofs.Common.{take, drop, refl, sym, ap, subst, ◌∙◌, append_assoc, length-append, arith, true≢false}
use Rattle.std.specs.List.{flat_map, list_all}
use Rattle.std.proofs.lemmas.Bool.{cases_lt, and_from}
use Rattle.std.proofs.lemmas.List.{take_at, drop_at, append-nil}
use Rattle.type_kinds.proofs.Truths.{first, second}
use Rattle.sha2.specs.Sha256.{sha256}
use Rattle.sha2.proofs.Facts256.{length-sha256}
use Rattle.type_kinds_sets.specs.Names.{Name}
use Rattle.core_ast.specs.declared.syntax.FunName.{FunName}
use Rattle.cons_tree.specs.declared.parts.Summary.{Summary}
use Rattle.table_file.specs.Faults.{names_of, rises_on, Stands, IsTorn, IsOutOfOrder, IsNoEntry, IsFirst}
use Rattle.table_file.specs.Lengths.{is_short, are_short, is_short_summary, is_short_callee, is_short_used, is_short_export, has_short_types, is_short_entry, is_short_table}
use Rattle.table_file.specs.Order.{rises, rises_from, is_name_before}
use Rattle.table_file.specs.Spelling.{four_bytes, counted, text_bytes, entry_bytes, magic, version, sealed, table_bytes}
use Rattle.table_file.specs.declared.entries.Entry.{Entry}
use Rattle.table_file.specs.declared.faults.TableFault.{TableFault}
use Rattle.table_file.specs.declared.faults.TableFault.TheVariants as faults
use Rattle.table_file.specs.declared.tables.Table.{Table}
use Rattle.table_file.specs.declared.used.Used.{Used}
use Rattle.table_file.specs.steps.Entries.{parts_of, parts_spelled}
use Rattle.table_file.specs.steps.Reads.{Once}
use Rattle.table_file.proofs.EntryLaws.{entry_parts}
use Rattle.table_file.proofs.LeafLaws.{four_bytes-length}
use Rattle.table_file.proofs.OnceLaws.{apart, fields, four_once, text_once, flat_once, counted_once}
use Rattle.table_file.proofs.SameLaws.{same_table}

-- ---- what is in front of the digest

pub front_once : (f g : List ℕ) → sealed f ≡ sealed g → f ≡ g
unfolding sealed
front_once f g e =
    let long : length f + 32 ≡ length g + 32 = ap (λ k. length f + k) (sym (length-sha256 f))
    ∙ sym (length-append f (sha256 f)) ∙ ap length e ∙ length-append g (sha256 g)
    ∙ ap (λ k. length g + k) (length-sha256 g) in
    (apart f g (sha256 f) (sha256 g) (omega arith) e).0

-- the head of a table stands first, and its digest last
pub sealed_begins : (content : List ℕ) → take 8 (sealed (magic ++ version ++ content)) ≡ magic
unfolding sealed
sealed_begins content = refl

pub sealed_version : (content : List ℕ) → take 2 (drop 8 (sealed (magic ++ version ++ content))) ≡ version
unfolding sealed
sealed_version content = refl

pub not_torn : (front : List ℕ) → 14 ≤ length front → IsTorn (sealed front) → ⊥
unfolding sealed
not_torn front long torn =
    let whole : length (front ++ sha256 front) ≡ length front + 32 = length-append front (sha256 front)
    ∙ ap (λ k. length front + k) (length-sha256 front) in
    let cut : length (front ++ sha256 front) - 32 ≡ length front = omega (arith, whole) in
    elim torn [
      | inl short ↦ omega (arith, whole)
      | inr other ↦ other (drop_at front (sha256 front) (length (front ++ sha256 front) - 32) (sym cut)
          ∙ sym (ap sha256 (take_at front (sha256 front) (length (front ++ sha256 front) - 32) (sym cut))))
    ]

-- ---- one table

pub table_once : Once has_short_types entry_bytes → (s t : Table) → list_all has_short_types s.entries ≡ true
    → list_all has_short_types t.entries ≡ true → table_bytes s ≡ table_bytes t → s ≡ t
unfolding table_bytes
table_once once s t p q e =
    let fronts = front_once (magic ++ version ++ counted entry_bytes s.entries)
    (magic ++ version ++ counted entry_bytes t.entries) e in
    let tails = (apart (magic ++ version) (magic ++ version) (counted entry_bytes s.entries)
    (counted entry_bytes t.entries) refl fronts).1 in
    same_table s t ((counted_once once).only s.entries t.entries [] [] p q (ap (λ w. w ++ []) tails)).0

-- ---- what fits into four bytes has short types

all_callees : (us : List Used) → list_all is_short_used us ≡ true → list_all (λ u. is_short_callee u.callee) us ≡ true
unfolding is_short_used
all_callees [] p = refl
all_callees (u ∷ us) p =
    and_from (is_short_callee u.callee) (list_all (λ v. is_short_callee v.callee) us)
    (second (is_short u.home && is_short u.name.name) (is_short_callee u.callee)
    (first (is_short_used u) (list_all is_short_used us) p))
    (all_callees us (second (is_short_used u) (list_all is_short_used us) p))

all_summaries : (xs : List (FunName × Summary)) → list_all is_short_export xs ≡ true
    → list_all (λ x. is_short_summary x.1) xs ≡ true
unfolding is_short_export
all_summaries [] p = refl
all_summaries (x ∷ xs) p =
    and_from (is_short_summary x.1) (list_all (λ y. is_short_summary y.1) xs)
    (second (is_short x.0.name) (is_short_summary x.1) (first (is_short_export x) (list_all is_short_export xs) p))
    (all_summaries xs (second (is_short_export x) (list_all is_short_export xs) p))

short_entry : (e : Entry) → is_short_entry e ≡ true → has_short_types e ≡ true
unfolding is_short_entry has_short_types
short_entry e p =
    let p5 = first (is_short e.name && are_short is_short e.group && are_short is_short e.calls && are_short is_short_used e.used && are_short is_short_export e.exports) (is_short e.lines) p in
    let p4 = first (is_short e.name && are_short is_short e.group && are_short is_short e.calls && are_short is_short_used e.used) (are_short is_short_export e.exports) p5 in
    let used = second (is_short e.name && are_short is_short e.group && are_short is_short e.calls)
    (are_short is_short_used e.used) p4 in
    let exports = second
    (is_short e.name && are_short is_short e.group && are_short is_short e.calls && are_short is_short_used e.used) (are_short is_short_export e.exports) p5 in
    and_from (list_all (λ u. is_short_callee u.callee) e.used) (list_all (λ x. is_short_summary x.1) e.exports)
    (all_callees e.used (second (is_short e.used) (list_all is_short_used e.used) used))
    (all_summaries e.exports (second (is_short e.exports) (list_all is_short_export e.exports) exports))

all_short : (es : List Entry) → list_all is_short_entry es ≡ true → list_all has_short_types es ≡ true
all_short [] p = refl
all_short (e ∷ es) p =
    and_from (has_short_types e) (list_all has_short_types es)
    (short_entry e (first (is_short_entry e) (list_all is_short_entry es) p))
    (all_short es (second (is_short_entry e) (list_all is_short_entry es) p))

pub short_table : (t : Table) → is_short_table t ≡ true → list_all has_short_types t.entries ≡ true
unfolding is_short_table
short_table t p = all_short t.entries (second (is_short t.entries) (list_all is_short_entry t.entries) p)

-- ---- one first fault

-- a table's bytes have no first fault, and stand whole
pub table_stands : (t : Table) → list_all has_short_types t.entries ≡ true → Stands (table_bytes t) t.entries 0 []
unfolding table_bytes counted
table_stands t p = record {
  whole = ap (λ w. sealed (magic ++ version ++ w))
      (sym (append-nil (four_bytes (length t.entries) ++ flat_map entry_bytes t.entries))
      ∙ ap (λ k. four_bytes k ++ flat_map entry_bytes t.entries ++ []) (omega arith));
  rise = t.entries_rise;
  short = p;
}

-- two readings of the same bytes: the entries of one begin those of the other, or one fails where the other goes on
goes_on : Once has_short_types entry_bytes → (ds es : List Entry) (a b : List ℕ) → list_all has_short_types ds ≡ true
    → list_all has_short_types es ≡ true → flat_map entry_bytes ds ++ a ≡ flat_map entry_bytes es ++ b
    → length ds < length es → (e : Entry) × (more : List ℕ) × (back : List Entry) × (es ≡ ds ++ e ∷ back)
    × (a ≡ entry_bytes e ++ more) × (has_short_types e ≡ true)
goes_on once [] [] a b p q is lt = absurd (omega arith)
goes_on once [] (e ∷ es) a b p q is lt = (
  e,
  flat_map entry_bytes es ++ b,
  es,
  refl,
  is
      ∙ append_assoc (entry_bytes e) (flat_map entry_bytes es) b,
  first (has_short_types e)
      (list_all has_short_types es) q,
)
goes_on once (d ∷ ds) [] a b p q is lt = absurd (omega arith)
goes_on once (d ∷ ds) (e ∷ es) a b p q is lt =
    let head = once.only d e (flat_map entry_bytes ds ++ a) (flat_map entry_bytes es ++ b)
    (first (has_short_types d) (list_all has_short_types ds) p)
    (first (has_short_types e) (list_all has_short_types es) q)
    (sym (append_assoc (entry_bytes d) (flat_map entry_bytes ds) a) ∙ is
    ∙ append_assoc (entry_bytes e) (flat_map entry_bytes es) b) in
    let same : d ≡ e = head.0 in
    let on = goes_on once ds es a b (second (has_short_types d) (list_all has_short_types ds) p)
    (second (has_short_types e) (list_all has_short_types es) q) head.1 (omega arith) in
    let rest : es ≡ ds ++ on.0 ∷ on.2 = on.3 in
    (on.0, on.1, on.2, (cc), on.4, on.5)

-- two readings of the same bytes have the same count, and the same bytes behind it
pub same_content : {bytes : List ℕ} {ds es : List Entry} {k l : ℕ} {a b : List ℕ} → Stands bytes ds k a
    → Stands bytes es l b
    → (length ds + k ≡ length es + l) × (flat_map entry_bytes ds ++ a ≡ flat_map entry_bytes es ++ b)
same_content {ds = ds} {es = es} {k = k} {l = l} {a = a} {b = b} s t =
    let fronts = front_once (magic ++ version ++ four_bytes (length ds + k) ++ flat_map entry_bytes ds ++ a)
    (magic ++ version ++ four_bytes (length es + l) ++ flat_map entry_bytes es ++ b) (sym s.whole ∙ t.whole) in
    let tails = (apart (magic ++ version) (magic ++ version)
    (four_bytes (length ds + k) ++ flat_map entry_bytes ds ++ a)
    (four_bytes (length es + l) ++ flat_map entry_bytes es ++ b) refl fronts).1 in
    four_once.only (length ds + k) (length es + l) (flat_map entry_bytes ds ++ a)
    (flat_map entry_bytes es ++ b) refl refl
    (sym (append_assoc (four_bytes (length ds + k)) (flat_map entry_bytes ds) a) ∙ tails
    ∙ append_assoc (four_bytes (length es + l)) (flat_map entry_bytes es) b)

-- ---- where reading stops

data Stop : Type 0 where
  out : Stop
  bad : Stop
  more : Stop
  end : Stop

abbrev At : Stop → List Entry → ℕ → List ℕ → Type 0
At out es l r = (0 < l) × IsOutOfOrder es r
At bad es l r = (0 < l) × (IsOutOfOrder es r → ⊥) × IsNoEntry r
At more es l r = (l ≡ 0) × (r ≡ [] → ⊥)
At end es l r = (l ≡ 0) × (r ≡ [])

record Stopped (bytes : List ℕ) (k : Stop) : Type 0 where
  es : List Entry
  left : ℕ
  rest : List ℕ
  stands : Stands bytes es left rest
  at : At k es left rest

-- entries that rise rise up to each one
rises_front : (x : Name) (xs : List Name) (y : Name) (ys : List Name)
    → rises_from is_name_before x (xs ++ y ∷ ys) ≡ true → rises_from is_name_before x (xs ++ y ∷ []) ≡ true
rises_front x [] y ys p =
    and_from (is_name_before x y) true (first (is_name_before x y) (rises_from is_name_before y ys) p) refl
rises_front x (z ∷ zs) y ys p =
    and_from (is_name_before x z) (rises_from is_name_before z (zs ++ y ∷ []))
    (first (is_name_before x z) (rises_from is_name_before z (zs ++ y ∷ ys)) p)
    (rises_front z zs y ys (second (is_name_before x z) (rises_from is_name_before z (zs ++ y ∷ ys)) p))

rises_up_to : (xs : List Name) (y : Name) (ys : List Name) → rises is_name_before (xs ++ y ∷ ys) ≡ true
    → rises is_name_before (xs ++ y ∷ []) ≡ true
rises_up_to [] y ys p = refl
rises_up_to (x ∷ xs) y ys p = rises_front x xs y ys p

names_append : (es : List Entry) (e : Entry) (back : List Entry)
    → names_of (es ++ e ∷ back) ≡ names_of es ++ e.name ∷ names_of back
names_append [] e back = refl
names_append (d ∷ es) e back = ap (λ ns. d.name ∷ ns) (names_append es e back)

-- reading doesn't stop before an entry that goes on
goes_by : (k : Stop) (es : List Entry) (l : ℕ) (r : List ℕ) (e : Entry) (tail : List ℕ) → 0 < l
    → has_short_types e ≡ true → r ≡ entry_bytes e ++ tail → rises_on es e.name ≡ true → At k es l r → ⊥
goes_by out es l r e tail some short is up at =
    let name = text_once.only e.name at.1.0 (parts_spelled (parts_of e) ++ tail) at.1.1 refl refl
    (sym (fields (entry_bytes e) (text_bytes e.name) (parts_spelled (parts_of e)) tail (entry_parts e)) ∙ sym is
    ∙ at.1.2) in
    true≢false (sym up ∙ ap (rises_on es) name.0 ∙ at.1.3)
goes_by bad es l r e tail some short is up at = at.2 e tail short is
goes_by more es l r e tail some short is up at = omega (arith, at.0)
goes_by end es l r e tail some short is up at = omega (arith, at.0)

not_before : Once has_short_types entry_bytes
    → {bytes : List ℕ} {j k : Stop} (s : Stopped bytes j) (t : Stopped bytes k) → length s.es < length t.es → ⊥
not_before once {j = j} s t lt =
    let same = same_content s.stands t.stands in
    let on = goes_on once s.es t.es s.rest t.rest s.stands.short t.stands.short same.1 lt in
    goes_by j s.es s.left s.rest on.0 on.1 (omega (arith, same.0)) on.5 on.4
    (rises_up_to (names_of s.es) on.0.name (names_of on.2)
    (ap (rises is_name_before) (sym (ap names_of on.3 ∙ names_append s.es on.0 on.2)) ∙ t.stands.rise)) s.at

same_stop : (j k : Stop) (es : List Entry) (l : ℕ) (r : List ℕ) → At j es l r → At k es l r → j ≡ k
same_stop out out es l r a b = refl
same_stop out bad es l r a b = absurd (b.1 a.1)
same_stop out more es l r a b = absurd (omega (arith, a.0, b.0))
same_stop out end es l r a b = absurd (omega (arith, a.0, b.0))
same_stop bad out es l r a b = absurd (a.1 b.1)
same_stop bad bad es l r a b = refl
same_stop bad more es l r a b = absurd (omega (arith, a.0, b.0))
same_stop bad end es l r a b = absurd (omega (arith, a.0, b.0))
same_stop more out es l r a b = absurd (omega (arith, a.0, b.0))
same_stop more bad es l r a b = absurd (omega (arith, a.0, b.0))
same_stop more more es l r a b = refl
same_stop more end es l r a b = absurd (a.1 b.1)
same_stop end out es l r a b = absurd (omega (arith, a.0, b.0))
same_stop end bad es l r a b = absurd (omega (arith, a.0, b.0))
same_stop end more es l r a b = absurd (b.1 a.1)
same_stop end end es l r a b = refl

level : Once has_short_types entry_bytes → {bytes : List ℕ} {j k : Stop} (s : Stopped bytes j) (t : Stopped bytes k)
    → length s.es ≡ length t.es → j ≡ k
level once {j = j} {k = k} s t n =
    let same = same_content s.stands t.stands in
    let and_from = flat_once once s.es t.es s.rest t.rest n s.stands.short t.stands.short same.1 in
    let left : s.left ≡ t.left = omega (arith, same.0) in
    same_stop j k t.es t.left t.rest
    (subst (λ es. At j es t.left t.rest) and_from.0
    (subst (λ l. At j s.es l t.rest) left (subst (At j s.es s.left) and_from.1 s.at))) t.at

stop_once : Once has_short_types entry_bytes → {bytes : List ℕ} {j k : Stop} → Stopped bytes j → Stopped bytes k → j ≡ k
stop_once once s t =
    elim (cases_lt (length s.es) (length t.es)) [
      | inl lt ↦ absurd (not_before once s t lt)
      | inr le ↦ elim (cases_lt (length t.es) (length s.es)) [
        | inl lt ↦ absurd (not_before once t s lt)
        | inr ge ↦ level once s t (omega arith)
      ]
    ]

-- ---- the first fault

-- the bytes have a table's head and its digest
record HasSeal (bytes : List ℕ) : Type 0 where
  begins : take 8 bytes ≡ magic
  same : take 2 (drop 8 bytes) ≡ version
  whole : IsTorn bytes → ⊥

content_long : (n : ℕ) (a b : List ℕ) → 4 ≤ length (four_bytes n ++ a ++ b)
content_long n a b =
    omega (arith, length-append (four_bytes n ++ a) b, length-append (four_bytes n) a, four_bytes-length n)

seal_of : {bytes : List ℕ} {k : Stop} → Stopped bytes k → HasSeal bytes
seal_of s =
    let content : List ℕ = four_bytes (length s.es + s.left) ++ flat_map entry_bytes s.es ++ s.rest in
    record {
      begins = ap (take 8) s.stands.whole ∙ sealed_begins content;
      same = ap (λ w. take 2 (drop 8 w)) s.stands.whole ∙ sealed_version content;
      whole = λ torn. not_torn (magic ++ version ++ content)
          (omega (arith, content_long (length s.es + s.left) (flat_map entry_bytes s.es) s.rest))
          (subst IsTorn s.stands.whole torn);
    }

-- faults of the entries, as stops
stop_order : {bytes : List ℕ} → IsFirst faults.Order bytes → Stopped bytes out
stop_order f = record { es = f.0; left = suc f.1; rest = f.2; stands = f.3; at = (omega arith, f.4) }

stop_bad : {bytes : List ℕ} → IsFirst faults.BadEntry bytes → Stopped bytes bad
stop_bad f = record { es = f.0; left = suc f.1; rest = f.2; stands = f.3; at = (omega arith, f.4, f.5) }

stop_rest : {bytes : List ℕ} → IsFirst faults.Rest bytes → Stopped bytes more
stop_rest f = record { es = f.0; left = 0; rest = f.1; stands = f.2; at = (refl, f.3) }

stop_table : (t : Table) → list_all has_short_types t.entries ≡ true → Stopped (table_bytes t) end
stop_table t p = record { es = t.entries; left = 0; rest = []; stands = table_stands t p; at = (refl, refl) }

pub spelled_without_fault : Once has_short_types entry_bytes → (f : TableFault) (t : Table)
    → list_all has_short_types t.entries ≡ true → IsFirst f (table_bytes t) → f ≡ faults.Memory
spelled_without_fault once faults.NotATable t p f = absurd (f (seal_of (stop_table t p)).begins)
spelled_without_fault once faults.Version t p f = absurd (f.2 (seal_of (stop_table t p)).same)
spelled_without_fault once faults.Torn t p f = absurd ((seal_of (stop_table t p)).whole f.2)
spelled_without_fault once faults.Order t p f =
    absurd (let e : out ≡ end = stop_once once (stop_order f) (stop_table t p) in cc)
spelled_without_fault once faults.BadEntry t p f =
    absurd (let e : bad ≡ end = stop_once once (stop_bad f) (stop_table t p) in cc)
spelled_without_fault once faults.Rest t p f =
    absurd (let e : more ≡ end = stop_once once (stop_rest f) (stop_table t p) in cc)
spelled_without_fault once faults.Memory t p f = refl

-- the faults apart from `Memory`, by number
abbrev number : TableFault → ℕ
number faults.NotATable = 18
number faults.Version = 19
number faults.Torn = 20
number faults.Order = 21
number faults.BadEntry = 22
number faults.Rest = 23
number faults.Memory = 0

highest : (g : TableFault) → number g ≤ 23
highest faults.NotATable = omega arith
highest faults.Version = omega arith
highest faults.Torn = omega arith
highest faults.Order = omega arith
highest faults.BadEntry = omega arith
highest faults.Rest = omega arith
highest faults.Memory = omega arith

-- a fault and one of a higher number don't stand together
apart_faults : Once has_short_types entry_bytes → (f g : TableFault) (bytes : List ℕ) → 0 < number f
    → number f < number g → IsFirst f bytes → IsFirst g bytes → ⊥
apart_faults once faults.NotATable faults.Version bytes some lt f g = f g.0
apart_faults once faults.NotATable faults.Torn bytes some lt f g = f g.0
apart_faults once faults.NotATable faults.Order bytes some lt f g = f (seal_of (stop_order g)).begins
apart_faults once faults.NotATable faults.BadEntry bytes some lt f g = f (seal_of (stop_bad g)).begins
apart_faults once faults.NotATable faults.Rest bytes some lt f g = f (seal_of (stop_rest g)).begins
apart_faults once faults.Version faults.Torn bytes some lt f g = f.2 (g.1 f.1)
apart_faults once faults.Version faults.Order bytes some lt f g = f.2 (seal_of (stop_order g)).same
apart_faults once faults.Version faults.BadEntry bytes some lt f g = f.2 (seal_of (stop_bad g)).same
apart_faults once faults.Version faults.Rest bytes some lt f g = f.2 (seal_of (stop_rest g)).same
apart_faults once faults.Torn faults.Order bytes some lt f g = (seal_of (stop_order g)).whole f.2
apart_faults once faults.Torn faults.BadEntry bytes some lt f g = (seal_of (stop_bad g)).whole f.2
apart_faults once faults.Torn faults.Rest bytes some lt f g = (seal_of (stop_rest g)).whole f.2
apart_faults once faults.Order faults.BadEntry bytes some lt f g = let e : out ≡ bad =
    stop_once once (stop_order f) (stop_bad g) in absurd cc
apart_faults once faults.Order faults.Rest bytes some lt f g = let e : out ≡ more =
    stop_once once (stop_order f) (stop_rest g) in absurd cc
apart_faults once faults.BadEntry faults.Rest bytes some lt f g = let e : bad ≡ more =
    stop_once once (stop_bad f) (stop_rest g) in absurd cc
apart_faults once f g bytes some lt a b = omega (arith, highest g)

same_number : (f g : TableFault) → number f ≡ number g → f ≡ g
same_number faults.NotATable faults.NotATable e = refl
same_number faults.Version faults.Version e = refl
same_number faults.Torn faults.Torn e = refl
same_number faults.Order faults.Order e = refl
same_number faults.BadEntry faults.BadEntry e = refl
same_number faults.Rest faults.Rest e = refl
same_number faults.Memory faults.Memory e = refl
same_number f g e = absurd (omega arith)

numbered : (f : TableFault) → (f ≡ faults.Memory → ⊥) → 0 < number f
numbered faults.Memory not = absurd (not refl)
numbered f not = omega arith

pub first_once : Once has_short_types entry_bytes → (f g : TableFault) (bytes : List ℕ) → (f ≡ faults.Memory → ⊥)
    → (g ≡ faults.Memory → ⊥) → IsFirst f bytes → IsFirst g bytes → f ≡ g
first_once once f g bytes p q a b =
    elim (cases_lt (number f) (number g)) [
      | inl lt ↦ absurd (apart_faults once f g bytes (numbered f p) lt a b)
      | inr le ↦ elim (cases_lt (number g) (number f)) [
        | inl lt ↦ absurd (apart_faults once g f bytes (numbered g q) lt b a)
        | inr ge ↦ same_number f g (omega arith)
      ]
    ]
