use Rattle.std.proofs.Common.{◌≡◌, codes, refl, rules}
use Rattle.std.proofs.lemmas.Slice.Eq.{text_from_reads}
use Rattle.core_scan.proofs.vocabulary.word_sort.Goals as goal

pub returns-in-after : goal.returns-in-after
returns-in-after c =
    let is : c.args.word.now ≡ codes "after" = search (rules, text_from_reads) in rw is refl

pub returns-in-apply : goal.returns-in-apply
returns-in-apply c =
    let is : c.args.word.now ≡ codes "apply" = search (rules, text_from_reads) in rw is refl

pub returns-in-attributes : goal.returns-in-attributes
returns-in-attributes c =
    let is : c.args.word.now ≡ codes "attributes" = search (rules, text_from_reads) in rw is refl

pub returns-in-call : goal.returns-in-call
returns-in-call c =
    let is : c.args.word.now ≡ codes "call" = search (rules, text_from_reads) in rw is refl

pub returns-in-case : goal.returns-in-case
returns-in-case c =
    let is : c.args.word.now ≡ codes "case" = search (rules, text_from_reads) in rw is refl

pub returns-in-catch : goal.returns-in-catch
returns-in-catch c =
    let is : c.args.word.now ≡ codes "catch" = search (rules, text_from_reads) in rw is refl

pub returns-in-do : goal.returns-in-do
returns-in-do c =
    let is : c.args.word.now ≡ codes "do" = search (rules, text_from_reads) in rw is refl

pub returns-in-end : goal.returns-in-end
returns-in-end c =
    let is : c.args.word.now ≡ codes "end" = search (rules, text_from_reads) in rw is refl

pub returns-in-fun : goal.returns-in-fun
returns-in-fun c =
    let is : c.args.word.now ≡ codes "fun" = search (rules, text_from_reads) in rw is refl

pub returns-in-in : goal.returns-in-in
returns-in-in c =
    let is : c.args.word.now ≡ codes "in" = search (rules, text_from_reads) in rw is refl

pub returns-in-let : goal.returns-in-let
returns-in-let c =
    let is : c.args.word.now ≡ codes "let" = search (rules, text_from_reads) in rw is refl

pub returns-in-letrec : goal.returns-in-letrec
returns-in-letrec c =
    let is : c.args.word.now ≡ codes "letrec" = search (rules, text_from_reads) in rw is refl

pub returns-in-module : goal.returns-in-module
returns-in-module c =
    let is : c.args.word.now ≡ codes "module" = search (rules, text_from_reads) in rw is refl

pub returns-in-of : goal.returns-in-of
returns-in-of c =
    let is : c.args.word.now ≡ codes "of" = search (rules, text_from_reads) in rw is refl

pub returns-in-primop : goal.returns-in-primop
returns-in-primop c =
    let is : c.args.word.now ≡ codes "primop" = search (rules, text_from_reads) in rw is refl

pub returns-in-receive : goal.returns-in-receive
returns-in-receive c =
    let is : c.args.word.now ≡ codes "receive" = search (rules, text_from_reads) in rw is refl

pub returns-in-try : goal.returns-in-try
returns-in-try c =
    let is : c.args.word.now ≡ codes "try" = search (rules, text_from_reads) in rw is refl

pub returns-in-when : goal.returns-in-when
returns-in-when c =
    let is : c.args.word.now ≡ codes "when" = search (rules, text_from_reads) in rw is refl
