-- An object whose two members are passed one after the other.
use Rattle.std.specs.Prelude.{IfSome}
use Rattle.std.proofs.Common.{◌≡◌, ℕ, ◌-◌, ◌<◌, List, [], length, Option, Some, None, Ok, codes, refl, ◌∙◌, arith}
use Rattle.json.specs.Token.{Token}
use Rattle.json.specs.Json.{read_key, value}
use Rattle.serde_json.specs.Data.{Data, object, no_members, put}
use Rattle.json_form.specs.meaning.Objects.{required}
use Rattle.json_form.specs.Streams.{value_ahead, members_ahead}
use Rattle.json_form.proofs.Offered.{member_turn, members_over, read_key-shorter}
use Rattle.outage_schedule.specs.declared.document.Document.{Document}
use Rattle.outage_schedule.specs.declared.report.Report.{Report}
use Rattle.doc_reader.specs.meaning.Documents.{document_of}
use Rattle.report_reader.specs.meaning.Reports.{report_of}
use Rattle.report_check.specs.meaning.Pairs.{pair_of}

-- what holds of a thing that may be there holds so of the one that is
pub if_there : {A : Type 0} (P Q : A → Type 0) (o : Option A) → ((x : A) → P x → Q x) → IfSome o P → IfSome o Q
if_there P Q None more h = tt
if_there P Q (Some x) more h = more x h

-- two members, and then the brace behind which nothing is
pub two_passed : (depth : ℕ) (first second : List ℕ) (d e : Data) (one two three four five : List Token) → read_key one ≡ Some (Some first, two) → value_ahead depth two ≡ Some (d, three) → length three < length two
    → read_key three ≡ Some (Some second, four) → value_ahead depth four ≡ Some (e, five) → length five < length four → read_key five ≡ Some (None, [])
    → members_ahead depth one ≡ Some (put second e (put first d no_members), [])
two_passed depth first second d e one two three four five key begins less next goes lesser ends =
    let p = value depth in
    let n = length one in
    let a = read_key-shorter one (Some first) two key in
    let b = read_key-shorter three (Some second) four next in
    member_turn p no_members n first one two three d (omega (arith, a)) key begins
    ∙ member_turn p (put first d no_members) (n - 1) second three four five e (omega (arith, a, b, less)) next goes
    ∙ members_over p (put second e (put first d no_members)) (n - 1 - 1) five [] (omega (arith, a, b, less, lesser)) ends

-- the document and its report of these members
pub pair_passed : (d e : Data) (document : Document) (report : Report) → document_of d ≡ Ok document → report_of document e ≡ Ok report
    → pair_of (object (put (codes "report") e (put (codes "document") d no_members))) ≡ Ok (document, report)
unfolding pair_of required
pair_passed d e document report read told = rw (read, told) refl
