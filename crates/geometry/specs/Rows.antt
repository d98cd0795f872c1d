-- The length of a row: 3 to 8 servers.
use Rattle.std.specs.Prelude.{ℕ, Bool, ◌&&◌, Some, None, Option, nat_le}
use Rattle.geometry.specs.declared.row.RowLength.{RowLength}

abbrev pub is_row : ℕ → Bool
is_row n = nat_le 3 n && nat_le n 8

abbrev pub servers_in : Option RowLength → Option ℕ
servers_in (Some row) = Some row.servers
servers_in None = None
