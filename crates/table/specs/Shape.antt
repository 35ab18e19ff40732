-- The shape of a table.
use Rattle.std.specs.Prelude.{ℕ}
use Rattle.table.specs.declared.walks.RootIndex.{RootIndex}
use Rattle.table.specs.declared.walks.RootIndex.TheVariants.{Nine, Eleven}

-- the number of bits of the index in the first table
abbrev pub bits_of : RootIndex → ℕ
bits_of Nine = 9
bits_of Eleven = 11
