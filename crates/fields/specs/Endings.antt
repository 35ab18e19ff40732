-- What ends a value.
use Rattle.std.specs.Prelude.{ℕ}
use Rattle.fields.specs.declared.endings.Ending.{Ending}
use Rattle.fields.specs.declared.endings.Ending.TheVariants.{Space, LineFeed}

-- its byte
abbrev pub byte_of : Ending → ℕ
byte_of Space = 32
byte_of LineFeed = 10
