-- The limits of a document.
use Rattle.std.specs.Prelude.{ℕ}
use Rattle.document_limits.specs.declared.count.Count.{Count}
use Rattle.document_limits.specs.declared.count.Count.TheVariants as count
use Rattle.document_limits.specs.declared.count.CountLimit.{CountLimit}
use Rattle.document_limits.specs.declared.number.Number.{Number}
use Rattle.document_limits.specs.declared.number.Number.TheVariants as number
use Rattle.document_limits.specs.declared.number.NumberLimit.{NumberLimit}

-- so many at least, and so many at most
abbrev pub many : ℕ → ℕ → CountLimit
many least most = record { least = least; most = most }

-- how many of each thing a document may have
abbrev pub count_limit : Count → CountLimit
count_limit count.Bytes = many 0 8388608
count_limit count.Clients = many 0 64
count_limit count.Tables = many 0 32
count_limit count.Sequences = many 0 32
count_limit count.Events = many 0 100000
count_limit count.Columns = many 1 8
count_limit count.Rows = many 0 10000
count_limit count.RequestCalls = many 1 1024
count_limit count.OutsideCalls = many 1 1024
count_limit count.AllCalls = many 0 2048
count_limit count.Items = many 1 8
count_limit count.Operands = many 1 8
count_limit count.SettingNames = many 0 16

abbrev pub from : ℕ → ℕ → NumberLimit
from least most = record { least = least; most = most }

-- between which numbers each number of a document lies
abbrev pub number_limit : Number → NumberLimit
number_limit number.Tries = from 1 1000
number_limit number.Delay = from 0 1000
number_limit number.Timeout = from 0 1000000
number_limit number.Replays = from 0 4
number_limit number.Recorded = from 1 256
number_limit number.Slots = from 1 64
number_limit number.Wait = from 1 1000000
number_limit number.Retention = from 0 1000000
number_limit number.Start = from 0 1000000000
number_limit number.Again = from 0 4
number_limit number.Place = from 0 4611686018427387904
number_limit number.Pick = from 0 3
number_limit number.Reserved = from 0 4611686018427387904
