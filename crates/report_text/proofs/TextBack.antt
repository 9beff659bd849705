-- The compact text of a value whose numbers are of 64 bits is read back, so it is that of one
-- value.
use Rattle.std.proofs.Common.{◌≡◌, ◌+◌, pos, negsuc, [], List, ◌++◌, Option, Some, None, refl, sym, ap, ap₂, ◌∙◌, arith}
use Rattle.json.specs.Token.{Token}
use Rattle.json.specs.Lex.{tokens}
use Rattle.json.specs.Json as json
use Rattle.json.specs.Print.{IsNumber}
use Rattle.json.specs.Tree.{json_tokens, depth, HasNumbers, ItemsHaveNumbers, MembersHaveNumbers}
use Rattle.json.proofs.Printed.Decimals.{IsNumber-decimal, IsNumber-signed_decimal}
use Rattle.json.proofs.Printed.Tokens.{tokens-print}
use Rattle.json.proofs.Printed.Trees.{value-json_tokens, ArePrintable-json_tokens}
use Rattle.serde_json.specs.Data.{Num, unsigned, negative, float, Data, null, boolean, number, string, array, object, Items, no_items, item, Members, no_members, member}
use Rattle.serde_json.specs.Read.{number_of}
use Rattle.serde_json.specs.Written.{number_text, outline, items_outline, members_outline, compact_text}
use Rattle.serde_json.proofs.Texts.{print-outline}
use Rattle.json_form.specs.Numbers.{IsOf64Bits}
use Rattle.json_form.proofs.Offered.{number_back}
use Rattle.report_text.specs.Numbers.{HasShortNumbers, ItemsHaveShortNumbers, MembersHaveShortNumbers}
use Rattle.report_text.specs.Laws.{IsTextOfOneReport}
use Rattle.report_text.specs.meaning.Report.{report_value}
use Rattle.report_text.proofs.ReportBack.{one_report}

number_is : (n : Num) → IsOf64Bits n → IsNumber (number_text n)
number_is (unsigned n) short = IsNumber-decimal n short
number_is (negative (pos n)) short = elim short [ ]
number_is (negative (negsuc n)) short = IsNumber-signed_decimal (negsuc n) (omega arith)
number_is (float x) short = elim short [ ]

mutual
  has_numbers : (d : Data) → HasShortNumbers d → HasNumbers (outline d)
  has_numbers null short = tt
  has_numbers (boolean b) short = tt
  has_numbers (number n) short = number_is n short
  has_numbers (string s) short = tt
  has_numbers (array ds) short = items_have_numbers ds short
  has_numbers (object ms) short = members_have_numbers ms short

  items_have_numbers : (ds : Items) → ItemsHaveShortNumbers ds → ItemsHaveNumbers (items_outline ds)
  items_have_numbers no_items short = tt
  items_have_numbers (item d ds) short = (has_numbers d short.0, items_have_numbers ds short.1)

  members_have_numbers : (ms : Members) → MembersHaveShortNumbers ms → MembersHaveNumbers (members_outline ms)
  members_have_numbers no_members short = tt
  members_have_numbers (member k d ms) short = (has_numbers d short.0, members_have_numbers ms short.1)

abbrev number_or_zero : Option Num → Num
number_or_zero None = unsigned 0
number_or_zero (Some n) = n

abbrev mutual
  data_in : json.Json → Data
  data_in json.null = null
  data_in (json.boolean b) = boolean b
  data_in (json.number s) = number (number_or_zero (number_of s))
  data_in (json.string s) = string s
  data_in (json.array js) = array (items_in js)
  data_in (json.object ms) = object (members_in ms)

  items_in : json.Items → Items
  items_in json.no_items = no_items
  items_in (json.item j js) = item (data_in j) (items_in js)

  members_in : json.Members → Members
  members_in json.no_members = no_members
  members_in (json.member k j ms) = member k (data_in j) (members_in ms)

mutual
  data_back : (d : Data) → HasShortNumbers d → data_in (outline d) ≡ d
  data_back null short = refl
  data_back (boolean b) short = refl
  data_back (number n) short = ap (λ read. number (number_or_zero read)) (number_back n short)
  data_back (string s) short = refl
  data_back (array ds) short = ap array (items_back ds short)
  data_back (object ms) short = ap object (members_back ms short)

  items_back : (ds : Items) → ItemsHaveShortNumbers ds → items_in (items_outline ds) ≡ ds
  items_back no_items short = refl
  items_back (item d ds) short = ap₂ item (data_back d short.0) (items_back ds short.1)

  members_back : (ms : Members) → MembersHaveShortNumbers ms → members_in (members_outline ms) ≡ ms
  members_back no_members short = refl
  members_back (member k d ms) short = ap₂ (member k) (data_back d short.0) (members_back ms short.1)

abbrev value_or_null : Option (json.Json × List Token) → json.Json
value_or_null None = json.null
value_or_null (Some read) = read.0

-- the tokens of a value are those of one value
one_json : (j k : json.Json) → json_tokens j ≡ json_tokens k → j ≡ k
one_json j k same =
    let deep = depth j + depth k in
    let first : json.value deep (json_tokens j ++ []) ≡ Some (j, []) = value-json_tokens j deep [] (omega arith) in
    let second : json.value deep (json_tokens k ++ []) ≡ Some (k, []) = value-json_tokens k deep [] (omega arith) in
    ap value_or_null (sym first ∙ (ap (λ ts. json.value deep (ts ++ [])) same ∙ second))

tokens_back : (d : Data) → HasShortNumbers d → tokens (compact_text d) ≡ json_tokens (outline d)
tokens_back d short = ap tokens (sym (print-outline d)) ∙ tokens-print (json_tokens (outline d)) (ArePrintable-json_tokens (outline d) (has_numbers d short))

one_value : (d e : Data) → HasShortNumbers d → HasShortNumbers e → compact_text d ≡ compact_text e → d ≡ e
one_value d e first second same =
    let alike = one_json (outline d) (outline e) (sym (tokens_back d first) ∙ (ap tokens same ∙ tokens_back e second)) in
    sym (data_back d first) ∙ (ap data_in alike ∙ data_back e second)

pub one_text : IsTextOfOneReport
one_text a b first second short_first short_second same =
    one_report a b first second (one_value (report_value a) (report_value b) short_first short_second same)
