-- The numbers of the codes.
use Rattle.std.specs.Prelude.{ℕ}
use Rattle.json_form.specs.declared.fault.DocCode.{DocCode}
use Rattle.json_form.specs.declared.fault.DocCode.TheVariants.{TooLong, NotJson, WrongKind, Missing, Unknown, Limit, Duplicate, Rule, BadImage, BadReport}

-- the number of a code
abbrev pub number_of : DocCode → ℕ
number_of TooLong = 1
number_of NotJson = 2
number_of WrongKind = 3
number_of Missing = 4
number_of Unknown = 5
number_of Limit = 6
number_of Duplicate = 7
number_of Rule = 8
number_of BadImage = 9
number_of BadReport = 11
