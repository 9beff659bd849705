use Rattle.std.proofs.Common.{rules}
use Rattle.document_limits.proofs.number.Number.limit.Goals as goal

pub returns-in-Tries : goal.returns-in-Tries
returns-in-Tries c = search rules

pub returns-in-Delay : goal.returns-in-Delay
returns-in-Delay c = search rules

pub returns-in-Timeout : goal.returns-in-Timeout
returns-in-Timeout c = search rules

pub returns-in-Replays : goal.returns-in-Replays
returns-in-Replays c = search rules

pub returns-in-Recorded : goal.returns-in-Recorded
returns-in-Recorded c = search rules

pub returns-in-Slots : goal.returns-in-Slots
returns-in-Slots c = search rules

pub returns-in-Wait : goal.returns-in-Wait
returns-in-Wait c = search rules

pub returns-in-Retention : goal.returns-in-Retention
returns-in-Retention c = search rules

pub returns-in-Start : goal.returns-in-Start
returns-in-Start c = search rules

pub returns-in-Again : goal.returns-in-Again
returns-in-Again c = search rules

pub returns-in-Place : goal.returns-in-Place
returns-in-Place c = search rules

pub returns-in-Pick : goal.returns-in-Pick
returns-in-Pick c = search rules

pub returns-in-Reserved : goal.returns-in-Reserved
returns-in-Reserved c = search rules
