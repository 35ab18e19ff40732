-- What the functions hand back to C, by what was refused.
use Rattle.std.specs.Prelude.{ℕ, Ok, Err, Result}
use Rattle.refusal.specs.declared.Refusal.{Refusal}
use Rattle.refusal.specs.Numbers.{number_of}
use Rattle.exports.specs.declared.results.Played.{Played}
use Rattle.exports.specs.declared.results.Loaded.{Loaded}

-- a play: done, with the length of the report, or refused
abbrev pub played_of : Result ℕ Refusal → Played
played_of (Ok length) = record { status = 0; length = length }
played_of (Err refusal) = record { status = number_of refusal; length = 0 }

-- loads: done, with their sum, or refused
abbrev pub loaded_of : Result ℕ Refusal → Loaded
loaded_of (Ok sum) = record { status = 0; sum = sum }
loaded_of (Err refusal) = record { status = number_of refusal; sum = 0 }

-- a play for which no memory could be had
abbrev pub unplayed : Played
unplayed = record { status = 255; length = 0 }

-- loads for which no memory could be had
abbrev pub unloaded : Loaded
unloaded = record { status = 255; sum = 0 }
