-- What follows from the rules, and when they are kept.
use Rattle.std.specs.Prelude.{◌≡◌, ℕ, List, [], Contains, Some}
use Rattle.type_kinds.specs.declared.atom.Atom.{Atom}
use Rattle.core_ast.specs.declared.syntax.FunName.{FunName}
use Rattle.type_lattice_model.specs.Values.{Value, Values}
use Rattle.cons_tree.specs.declared.parts.Sig.{Sig}
use Rattle.cons_tree.specs.declared.parts.Summary.{Summary}
use Rattle.core_meaning.specs.Meaning.{gave, Trace, Among}
use Rattle.core_meaning.specs.Programs.{Program, top_function}
use Rattle.core_meaning.specs.Runs.{Run}
use Rattle.sound_laws.specs.Knowledge.{Within}
use Rattle.sound_laws.specs.Summaries.{AreClosed}
use Rattle.sound_laws_kept.specs.Solving.{AreSources, IsWritten}
use Rattle.table_keep.specs.Model.{Source, Entry, trees, entry_of}
use Rattle.table_verify_laws.specs.Certificates.{IsCertificate}
use Rattle.table_verify_laws.specs.Listed.{known_by}
use Rattle.table_verify_laws.specs.Rules.{IsFirstBroken, KeepsRules, TableRule}

-- The arguments and the value of each call of the function are of the signature, in every run of every stage with any fuel. Here `c` is
-- the closure of the function, `vs` is what it was entered with, and `v` what it gave.
abbrev pub HoldsInRuns : Program → Atom → FunName → Sig → Type 0
HoldsInRuns U home f sig =
    (stage : ℕ) (tr : Trace) → Run U stage tr → (c : Value) (vs : Values) (v : Value) → top_function U home f ≡ Some c → Among (gave c vs v) tr → Within sig vs v

-- A summary that is a success typing: both of its signatures hold in runs.
pub record IsSuccessTyping (U : Program) (home : Atom) (f : FunName) (s : Summary) : Type 0 where
  pub strict : HoldsInRuns U home f s.strict
  pub lenient : HoldsInRuns U home f s.lenient

-- each summary that entries list is a success typing in the runs of the sources
abbrev pub AreSuccessTypings : List Source → List Entry → Type 0
AreSuccessTypings M T =
    (h : Atom) (e : Entry) (f : FunName) (s : Summary) → entry_of T h ≡ Some e → Contains e.result.exports (f, s) → IsSuccessTyping (trees M) h f s

-- What is known by a certificate is closed where no rule is broken.
abbrev pub ClosedLaw : Type 0
ClosedLaw = (T C : List Entry) (M : List Source) → AreSources M → KeepsRules T C M → AreClosed (trees M) (known_by C M)

-- So each summary of the table is a success typing, and each of the certificate, whoever made them.
abbrev pub SoundLaw : Type 0
SoundLaw = (T C : List Entry) (M : List Source) → AreSources M → KeepsRules T C M → AreSuccessTypings M T × AreSuccessTypings M C

-- The table of sources and their certificate keep the rules.
abbrev pub CompleteLaw : Type 0
CompleteLaw = (T C : List Entry) (M : List Source) (reports : List (List ℕ)) → AreSources M → IsWritten [] M reports T → IsCertificate M C → KeepsRules T C M

-- Sources have one certificate.
abbrev pub OneCertificateLaw : Type 0
OneCertificateLaw = (M : List Source) (C D : List Entry) → AreSources M → IsCertificate M C → IsCertificate M D → C ≡ D

-- Of a table, a certificate and sources one rule at most is the first that is broken, at one module.
abbrev pub OneFirstLaw : Type 0
OneFirstLaw = (T C : List Entry) (M : List Source) (r q : TableRule) (h k : Atom) → IsFirstBroken T C M r h → IsFirstBroken T C M q k → (r ≡ q) × (h ≡ k)
