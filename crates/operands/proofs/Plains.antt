-- No value of a call's fields has a space or LF.
use Rattle.std.proofs.Common.{ℕ, zero, suc, ◌/◌, ◌%◌, Bool, true, false, List, [], ◌∷◌, Some, None, Option, arith, rules}
use Rattle.std.proofs.ByRecursion.{All-push}
use Rattle.std.proofs.lemmas.Bool.Decides.{nat_tests}
use Rattle.digits.specs.Hexadecimal.{digit_char, hex_of}
use Rattle.trace.specs.declared.marks.Mark.TheVariants.{Stop}
use Rattle.fields.specs.declared.tags.Tag.TheVariants.{Op, Data}
use Rattle.trace.specs.Marks.{Is, Lacks}
use Rattle.fields.specs.Items.{Item, Plain}
use Rattle.access.specs.declared.accesses.Mode.{Mode}
use Rattle.access.specs.declared.accesses.Mode.TheVariants.{Supervisor, User}
use Rattle.calls.specs.declared.Target.{Target}
use Rattle.calls.specs.declared.HostCall.{HostCall}
use Rattle.calls.specs.declared.HostCall.TheVariants as host
use Rattle.calls.specs.declared.GuestCall.{GuestCall}
use Rattle.calls.specs.declared.GuestCall.TheVariants as guest
use Rattle.values.specs.Texts.{mode_text, bit_text, all_or}
use Rattle.operands.specs.Texts.{target_items, host_letter, host_rest, guest_letter, guest_rest}

-- no digit is a space or LF
digit_plain : (d : ℕ) → Is Stop (digit_char d) → ⊥
digit_plain d s = grind (arith, nat_tests)

hex_plain : (k n : ℕ) → Lacks Stop (hex_of k n)
unfolding hex_of
hex_plain zero n = tt
hex_plain (suc k) n = All-push (λ b. Is Stop b → ⊥) (hex_of k (n / 16)) (digit_char (n % 16)) (hex_plain k (n / 16)) (digit_plain (n % 16))

mode_plain : (m : Mode) → Lacks Stop (mode_text m)
mode_plain Supervisor = search rules
mode_plain User = search rules

bit_plain : (b : Bool) → Lacks Stop (bit_text b)
bit_plain true = search rules
bit_plain false = search rules

all_plain : (k : ℕ) (o : Option ℕ) → Lacks Stop (all_or (hex_of k) o)
all_plain k (Some n) = hex_plain k n
all_plain k None = search rules

target_plain : (t : Target) (fs : List Item) → Plain fs → Plain (target_items t fs)
target_plain t fs p = (mode_plain t.mode, (bit_plain t.sum, (bit_plain t.mxr, (hex_plain 16 t.address, p))))

pub host_plain : (c : HostCall) → Plain ((Op, host_letter c) ∷ host_rest c)
host_plain (host.Load a) = (search rules, (hex_plain 16 a, tt))
host_plain (host.Store a d) = (search rules, (hex_plain 16 a, (hex_plain 16 d, tt)))
host_plain (host.Root r) = (search rules, (hex_plain 16 r, tt))
host_plain host.Fence = (search rules, tt)
host_plain host.Enter = (search rules, tt)

pub guest_plain : (c : GuestCall) → Plain ((Op, guest_letter c) ∷ guest_rest c)
guest_plain (guest.Load t) = (search rules, target_plain t [] tt)
guest_plain (guest.Store t d) = (search rules, target_plain t ((Data, hex_of 16 d) ∷ []) (hex_plain 16 d, tt))
guest_plain (guest.Fetch t) = (search rules, target_plain t [] tt)
guest_plain (guest.Fence f) = (search rules, (all_plain 16 f.address, (all_plain 4 f.asid, tt)))
guest_plain (guest.Root r) = (search rules, (hex_plain 16 r, tt))
guest_plain guest.Leave = (search rules, tt)
