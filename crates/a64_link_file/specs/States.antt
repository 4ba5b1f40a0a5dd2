-- What was read so far.
use Rattle.std.specs.Prelude.{map, option_map}
use Rattle.a64_link_file.specs.declared.reading.LinkLines.{LinkLines}
use Rattle.a64_link_file.specs.Entries.{State, unit_contents}

-- what the lines so far say
abbrev pub state_of : LinkLines → State
state_of lines = record {
  base = lines.base;
  given = lines.given;
  done = map unit_contents lines.done.items;
  current = option_map unit_contents lines.current;
  total = lines.total;
}
