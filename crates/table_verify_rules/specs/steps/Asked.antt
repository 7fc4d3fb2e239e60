-- What the rules on entries ask of those of a module that is everywhere.
use Rattle.std.specs.Prelude.{◌≡◌, List}
use Rattle.type_kinds.specs.declared.atom.Atom.{Atom}
use Rattle.table_keep.specs.Model.{Source, Entry}
use Rattle.table_verify_laws.specs.Rules.{IsEverywhere, ListsFunctions}
use Rattle.table_verify_rules.specs.declared.entries.EntryRule.{EntryRule}
use Rattle.table_verify_rules.specs.declared.entries.EntryRule.TheVariants.{SameSource, SameFunctions}

-- both entries have the digest of the source
abbrev pub HaveDigest : (entry certified : Entry) → Source → Type 0
HaveDigest entry certified source = (entry.digest ≡ source.digest) × (certified.digest ≡ source.digest)

abbrev pub Asked : EntryRule → (entry certified : Entry) → Source → Type 0
Asked SameSource entry certified source = HaveDigest entry certified source
Asked SameFunctions entry certified source = ListsFunctions entry certified source

-- The module of this name keeps the rule.
abbrev pub KeepsAsked : EntryRule → (T C : List Entry) → List Source → Atom → Type 0
KeepsAsked rule T C M h = (x : IsEverywhere T C M h) → Asked rule x.entry x.certified x.source
