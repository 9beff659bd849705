use Rattle.std.proofs.Common.{rules}
use Rattle.document_limits.proofs.count.Count.limit.Goals as goal

pub returns-in-Bytes : goal.returns-in-Bytes
returns-in-Bytes c = search rules

pub returns-in-Clients : goal.returns-in-Clients
returns-in-Clients c = search rules

pub returns-in-Tables : goal.returns-in-Tables
returns-in-Tables c = search rules

pub returns-in-Sequences : goal.returns-in-Sequences
returns-in-Sequences c = search rules

pub returns-in-Events : goal.returns-in-Events
returns-in-Events c = search rules

pub returns-in-Columns : goal.returns-in-Columns
returns-in-Columns c = search rules

pub returns-in-Rows : goal.returns-in-Rows
returns-in-Rows c = search rules

pub returns-in-RequestCalls : goal.returns-in-RequestCalls
returns-in-RequestCalls c = search rules

pub returns-in-OutsideCalls : goal.returns-in-OutsideCalls
returns-in-OutsideCalls c = search rules

pub returns-in-AllCalls : goal.returns-in-AllCalls
returns-in-AllCalls c = search rules

pub returns-in-Items : goal.returns-in-Items
returns-in-Items c = search rules

pub returns-in-Operands : goal.returns-in-Operands
returns-in-Operands c = search rules

pub returns-in-SettingNames : goal.returns-in-SettingNames
returns-in-SettingNames c = search rules
