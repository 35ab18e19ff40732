-- Which pools are accepted.
use Rattle.std.specs.Prelude.{ℕ, ◌/◌, ◌%◌, cond, ◌&&◌, Ok, Err, Result, ◌==◌, nat_le}
use Rattle.refusal.specs.declared.Refusal.{Refusal}
use Rattle.refusal.specs.declared.Refusal.TheVariants.{Pool}

-- a pool of so many words is accepted if they are whole frames of 512 words, at least four
abbrev pub check_of : ℕ → Result (Unit {0}) Refusal
check_of words = cond (words % 512 == 0 && nat_le 4 (words / 512)) (Ok tt) (Err Pool)
