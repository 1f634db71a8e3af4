-- Which rows of a partition table may have a key store.
use Rattle.std.specs.Prelude.{◌/◌, ◌%◌, ◌==◌, Bool, not, ◌&&◌, nat_le}
use Rattle.partition_table.specs.declared.row.Row.{Row}
use Rattle.nvs_keys.specs.declared.place.Place.{Place}

-- the place of a row: two banks of half its size
abbrev pub place_of : Row → Place
place_of row = record { at = row.offset; half = row.size / 2 }

-- whether a row may have a store: it is of type data, but not the OTA data; flag bits 0 and 1 are clear;
-- its size is a multiple of 0x2000 from 0x2000 to 0x10000
unfoldable pub is_store_row : Row → Bool
is_store_row row =
    (row.kind == 1) && not (row.subtype == 0) && (row.flags % 4 == 0) && (row.size % 0x2000 == 0)
    && nat_le 0x2000 row.size && nat_le row.size 0x10000
