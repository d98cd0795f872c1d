-- What a table of the code means.
use Rattle.std.specs.Prelude.{List, map}
use Rattle.ordered.specs.declared.table.OrderedTable.{OrderedTable}
use Rattle.ordered.specs.Tables.{items, room}
use Rattle.rack.specs.declared.entry.Entry as code
use Rattle.rack.specs.Entries.{Entry, entry_of}
use Rattle.rack.specs.Worlds.{Table}

abbrev pub entries_in : {k : _} → OrderedTable code.Entry k → List Entry
entries_in t = map entry_of (items t)

abbrev pub table_of : {k : _} → OrderedTable code.Entry k → Table
table_of t = record { room = room t; entries = entries_in t }
