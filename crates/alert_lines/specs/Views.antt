-- A line, as code keeps it.
use Rattle.server_model.specs.meaning.Legal.{Line}
use Rattle.alert_lines.specs.declared.standing.Line.{Line as Handed}

abbrev pub line_as : Handed → Line
line_as line = record { text = line.text.now; is_answered = line.is_answered }
