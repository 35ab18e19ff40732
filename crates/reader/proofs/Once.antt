-- No two calls share a text.
use Rattle.std.proofs.Common.{◌≡◌, ℕ, ◌^◌, ◌<◌, Bool, true, false, cond, eqb, List, [], ◌∷◌, length, get_or, Some, None, Option, sym, refl, ap, ◌∙◌, subst, arith}
use Rattle.digits.specs.Hexadecimal.{hex_of}
use Rattle.digits.proofs.Hexes.{hex_of_once, length_hex_of}
use Rattle.fields.specs.declared.tags.Tag.TheVariants.{Op, Data}
use Rattle.fields.specs.Items.{Item}
use Rattle.access.specs.declared.accesses.Mode.{Mode}
use Rattle.access.specs.declared.accesses.Mode.TheVariants.{Supervisor, User}
use Rattle.calls.specs.declared.Target.{Target}
use Rattle.calls.specs.declared.HostCall.{HostCall}
use Rattle.calls.specs.declared.HostCall.TheVariants as host
use Rattle.calls.specs.declared.GuestCall.{GuestCall}
use Rattle.calls.specs.declared.GuestCall.TheVariants as guest
use Rattle.values.specs.Texts.{mode_text, bit_text, all_or}
use Rattle.operands.specs.Texts.{target_items, host_letter, host_rest, guest_letter, guest_rest}
use Rattle.values.specs.Reads.{Fits}
use Rattle.reader.specs.Laws.{HostFits, GuestFits, OneText}
use Rattle.operands.proofs.Shapes.{host_at_lem, guest_at_lem}
use Rattle.fields.proofs.Items.{line_once}
use Rattle.operands.proofs.Plains.{host_plain, guest_plain}

-- the mode and the bit that a text writes
abbrev mode_by : List ℕ → Mode
mode_by v = cond (eqb (get_or v 0 0) 115) Supervisor User

mode_back : (m : Mode) → mode_by (mode_text m) ≡ m
mode_back Supervisor = refl
mode_back User = refl

abbrev bit_by : List ℕ → Bool
bit_by v = eqb (get_or v 0 0) 49

bit_back : (b : Bool) → bit_by (bit_text b) ≡ b
bit_back true = refl
bit_back false = refl

-- the value of the first of two equal lists of fields, and what follows it
first : {f g : Item} {fs gs : List Item} → (f ∷ fs) ≡ (g ∷ gs) → f.1 ≡ g.1
first {f} {g} e = let q : f ≡ g = cc in ap (λ (i : Item). i.1) q

rest : {f g : Item} {fs gs : List Item} → (f ∷ fs) ≡ (g ∷ gs) → fs ≡ gs
rest e = cc

all_once : (k : ℕ) (o p : Option ℕ) → (k ≡ 3 → ⊥) → Fits k o → Fits k p → all_or (hex_of k) o ≡ all_or (hex_of k) p → o ≡ p
all_once k (Some m) (Some n) h a b e = ap Some (hex_of_once k m n a b e)
all_once k (Some m) None h a b e = absurd (h (sym (length_hex_of k m) ∙ ap length e))
all_once k None (Some n) h a b e = absurd (h (sym (length_hex_of k n) ∙ ap length (sym e)))
all_once k None None h a b e = refl

target_once : (a b : Target) (fs gs : List Item) → a.address < 16 ^ 16 → b.address < 16 ^ 16 → target_items a fs ≡ target_items b gs → a ≡ b
target_once a b fs gs h l e =
    let m = sym (mode_back a.mode) ∙ ap mode_by (first e) ∙ mode_back b.mode in
    let s = sym (bit_back a.sum) ∙ ap bit_by (first (rest e)) ∙ bit_back b.sum in
    let x = sym (bit_back a.mxr) ∙ ap bit_by (first (rest (rest e))) ∙ bit_back b.mxr in
    let v = hex_of_once 16 a.address b.address h l (first (rest (rest (rest e)))) in
    ap (λ y. record { mode = y; sum = a.sum; mxr = a.mxr; address = a.address }) m
    ∙ ap (λ y. record { mode = b.mode; sum = y; mxr = a.mxr; address = a.address }) s
    ∙ ap (λ y. record { mode = b.mode; sum = b.sum; mxr = y; address = a.address }) x
    ∙ ap (λ y. record { mode = b.mode; sum = b.sum; mxr = b.mxr; address = y }) v

-- calls of the host side with one letter and the same fields after it
hosts_by_rest : (c d : HostCall) → host_letter d ≡ host_letter c → host_rest c ≡ host_rest d → HostFits c → HostFits d → c ≡ d
hosts_by_rest (host.Load a) d l e x y =
    let s = host_at_lem d _ _ l refl in let w = s.1 in
    ap host.Load (hex_of_once 16 a s.0 x (subst HostFits w y) (first (e ∙ ap host_rest w))) ∙ sym w
hosts_by_rest (host.Store a n) d l e x y =
    let s = host_at_lem d _ _ l refl in let w = s.2 in
    let y' = subst HostFits w y in let e' = e ∙ ap host_rest w in
    let p = hex_of_once 16 a s.0 x.0 y'.0 (first e') in
    let q = hex_of_once 16 n s.1 x.1 y'.1 (first (rest e')) in
    ap (λ b. host.Store b n) p ∙ ap (host.Store s.0) q ∙ sym w
hosts_by_rest (host.Root r) d l e x y =
    let s = host_at_lem d _ _ l refl in let w = s.1 in
    ap host.Root (hex_of_once 16 r s.0 x (subst HostFits w y) (first (e ∙ ap host_rest w))) ∙ sym w
hosts_by_rest host.Fence d l e x y = sym (host_at_lem d _ _ l refl)
hosts_by_rest host.Enter d l e x y = sym (host_at_lem d _ _ l refl)

-- calls of the guest side with one letter and the same fields after it
guests_by_rest : (c d : GuestCall) → guest_letter d ≡ guest_letter c → guest_rest c ≡ guest_rest d → GuestFits c → GuestFits d → c ≡ d
guests_by_rest (guest.Load t) d l e x y =
    let s = guest_at_lem d _ _ l refl in let w = s.1 in
    ap guest.Load (target_once t s.0 [] [] x (subst GuestFits w y) (e ∙ ap guest_rest w)) ∙ sym w
guests_by_rest (guest.Store t n) d l e x y =
    let s = guest_at_lem d _ _ l refl in let w = s.2 in
    let y' = subst GuestFits w y in let e' = e ∙ ap guest_rest w in
    let p = target_once t s.0 ((Data, hex_of 16 n) ∷ []) ((Data, hex_of 16 s.1) ∷ []) x.0 y'.0 e' in
    let q = hex_of_once 16 n s.1 x.1 y'.1 (first (rest (rest (rest (rest e'))))) in
    ap (λ b. guest.Store b n) p ∙ ap (guest.Store s.0) q ∙ sym w
guests_by_rest (guest.Fetch t) d l e x y =
    let s = guest_at_lem d _ _ l refl in let w = s.1 in
    ap guest.Fetch (target_once t s.0 [] [] x (subst GuestFits w y) (e ∙ ap guest_rest w)) ∙ sym w
guests_by_rest (guest.Fence f) d l e x y =
    let s = guest_at_lem d _ _ l refl in let w = s.1 in
    let y' = subst GuestFits w y in let e' = e ∙ ap guest_rest w in
    let p = all_once 16 f.address s.0.address (λ z. omega arith) x.0 y'.0 (first e') in
    let q = all_once 4 f.asid s.0.asid (λ z. omega arith) x.1 y'.1 (first (rest e')) in
    ap (λ b. guest.Fence (record { address = b; asid = f.asid })) p ∙ ap (λ b. guest.Fence (record { address = s.0.address; asid = b })) q ∙ sym w
guests_by_rest (guest.Root r) d l e x y =
    let s = guest_at_lem d _ _ l refl in let w = s.1 in
    ap guest.Root (hex_of_once 16 r s.0 x (subst GuestFits w y) (first (e ∙ ap guest_rest w))) ∙ sym w
guests_by_rest guest.Leave d l e x y = sym (guest_at_lem d _ _ l refl)

-- no letter is of both sides
letters_apart : (c : HostCall) (d : GuestCall) → host_letter c ≡ guest_letter d → ⊥
letters_apart c (guest.Load t) e = host_at_lem c _ _ e refl
letters_apart c (guest.Store t d) e = host_at_lem c _ _ e refl
letters_apart c (guest.Fetch t) e = host_at_lem c _ _ e refl
letters_apart c (guest.Fence f) e = host_at_lem c _ _ e refl
letters_apart c (guest.Root r) e = host_at_lem c _ _ e refl
letters_apart c guest.Leave e = host_at_lem c _ _ e refl

pub text_once : OneText
text_once = record {
  hosts = λ c d x y e.
      let i = line_once (Op, host_letter c) (Op, host_letter d) (host_rest c) (host_rest d) (host_plain c) (host_plain d) e in
      hosts_by_rest c d (sym (first i)) (rest i) x y;
  guests = λ c d x y e.
      let i = line_once (Op, guest_letter c) (Op, guest_letter d) (guest_rest c) (guest_rest d) (guest_plain c) (guest_plain d) e in
      guests_by_rest c d (sym (first i)) (rest i) x y;
  apart = λ c d e.
      let i = line_once (Op, host_letter c) (Op, guest_letter d) (host_rest c) (guest_rest d) (host_plain c) (guest_plain d) e in
      letters_apart c d (first i);
}
